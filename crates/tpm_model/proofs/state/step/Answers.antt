use Rattle.tpm_model.specs.Held.{parts_of}
use Rattle.tpm_model.proofs.AnswersFit.{answers_fit}
use Rattle.tpm_model.proofs.state.step.Goals as goal

pub returns-clause-fitting : goal.returns-clause-fitting
returns-clause-fitting c =
    answers_fit c.step_held.result (parts_of c.step_held.new.held) c.args.command.now (parts_of c.state.inside.held) c.step_held.ensures.ok
