use Rattle.std.proofs.Common.{◌≡◌, sym, subst}
use Rattle.std.specs.Prelude.{Option, IfOk, IfErr}
use Rattle.pl_base.specs.Faults.{Rose}
use Rattle.pcrlock_words.specs.declared.request.Request.{Request}
use Rattle.pcrlock_line.specs.declared.stop.Stop.{Stop}
use Rattle.pcrlock_line.specs.Stopped.{StandsAt, StandsAmong}
use Rattle.pcrlock_run.specs.declared.status.Status.{Status}
use Rattle.pcrlock_run.specs.Status.{number_of, stop_number}
use Rattle.pcrlock_run.specs.Script.{Whole}
use Rattle.pcrlock_run.specs.Setting.{outside}
use Rattle.pcrlock_run.specs.Whole.{run_spelled}
use Rattle.pcrlock_run.specs.Leaves.{Safe, Leaves, IsNoScript}
use Rattle.pcrlock_run.proofs.Firsts.{spelled_first}
use Rattle.pcrlock_run.proofs.Texts.{by_equal, spelled_as}
use Rattle.std.specs.Prelude.{None}
use Rattle.pcrlock_words.specs.Requests.{request_of}
use Rattle.pcrlock_run.proofs.Fronts.{err_as}
use Rattle.pcrlock_run.proofs.Halts.{spelled_halts, unspelled_halts}
use Rattle.pcrlock_run.proofs.Said.{says_nothing}
use Rattle.pcrlock_run.proofs.top.run_spelled.Goals as goal

pub returns-in-Ok-clause-done : goal.returns-in-Ok-clause-done
returns-in-Ok-clause-done g c = λ m tells. subst
    (λ (o : Option Request). Safe (run_spelled (outside c.args.state.now) o m).hashed → IsNoScript o → IfErr c.run_request.result (λ (stop : Stop). stop_number stop ≡ 5 → ¬ Rose (g.F.Files.faults c.args.files.now) (g.F.Files.faults c.run_request.new.files) → ¬ Rose (g.E.Entropy.faults c.args.entropy.now) (g.E.Entropy.faults c.run_request.new.entropy) → ¬ Rose (g.T.Tpm.faults c.args.tpm.now) (g.T.Tpm.faults c.run_request.new.tpm)
    → StandsAt (g.F.Files.held c.run_request.new.files) (g.T.Tpm.stored c.run_request.new.tpm) (run_spelled (outside c.args.state.now) o m).after))
    (sym c.in-Ok.ensures.spelled) (λ safe none. c.run_request.ensures.done m tells safe none)

pub returns-in-Err-Memory-clause-stops : goal.returns-in-Err-Memory-clause-stops
returns-in-Err-Memory-clause-stops g c = λ m tells safe. spelled_first _ _ _ (outside c.args.state.now) c.args.words.now m tells

pub returns-in-Ok-clause-told : goal.returns-in-Ok-clause-told
returns-in-Ok-clause-told g c = λ m tells.
    by_equal _ _
    (λ (w : Whole). IfOk c.run_request.result (λ (s : Status). Leaves (g.F.Files.held c.run_request.new.files) (g.T.Tpm.stored c.run_request.new.tpm) (g.E.Entropy.draws c.run_request.new.entropy) (g.O.Sink.written c.args.out.now) (g.O.Sink.written c.run_request.new.out) (g.R.Sink.faults c.args.err.now) (g.R.Sink.written c.args.err.now) (g.R.Sink.faults c.run_request.new.err) (g.R.Sink.written c.run_request.new.err) (number_of s) w))
    (spelled_as (outside c.args.state.now) c.args.words.now c.in-Ok.request m c.in-Ok.ensures.spelled)
    (λ free. c.run_request.ensures.told m tells free)

pub returns-in-Ok-clause-stops : goal.returns-in-Ok-clause-stops
returns-in-Ok-clause-stops g c = λ m tells.
    by_equal _ _
    (λ (w : Whole). IfErr c.run_request.result (λ _. StandsAmong (g.F.Files.held c.run_request.new.files) (g.T.Tpm.stored c.run_request.new.tpm) w.stops))
    (spelled_as (outside c.args.state.now) c.args.words.now c.in-Ok.request m c.in-Ok.ensures.spelled)
    (λ free. c.run_request.ensures.stops m tells free)

pub returns-in-Ok-clause-halts : goal.returns-in-Ok-clause-halts
returns-in-Ok-clause-halts g c = λ m tells safe.
    err_as _ _ c.run_request.result
    (spelled_halts _ _ _ _ _ _ _ _ _ _ (outside c.args.state.now) c.in-Ok.request (request_of c.args.words.now None) m c.in-Ok.ensures.spelled)
    (c.run_request.ensures.halts m tells
    (subst (λ (w : Whole). Safe w.hashed) (spelled_as (outside c.args.state.now) c.args.words.now c.in-Ok.request m c.in-Ok.ensures.spelled) safe))

pub returns-in-Err-BadWords-clause-halts : goal.returns-in-Err-BadWords-clause-halts
returns-in-Err-BadWords-clause-halts g c = λ m tells safe.
    err_as _ _ c.refuse.result (unspelled_halts _ _ _ _ _ _ _ _ _ (outside c.args.state.now) c.args.words.now m tells) c.refuse.ensures.unsaid

pub returns-in-Err-Memory-clause-halts : goal.returns-in-Err-Memory-clause-halts
returns-in-Err-Memory-clause-halts g c = λ m tells safe. unspelled_halts _ _ _ _ _ _ _ _ _ (outside c.args.state.now) c.args.words.now m tells (says_nothing _ _)
