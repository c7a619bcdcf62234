use Rattle.std.proofs.Common.{◌≡◌, sym}
use Rattle.std.specs.Prelude.{IfErr}
use Rattle.pl_base.specs.Faults.{Rose}
use Rattle.pcrlock_line.specs.declared.stop.Stop.{Stop}
use Rattle.pcrlock_line.specs.Stopped.{StandsAt}
use Rattle.pcrlock_run.specs.Status.{stop_number}
use Rattle.pcrlock_run.specs.Script.{Whole}
use Rattle.pcrlock_run.proofs.Texts.{by_equal, spelled_words}
use Rattle.std.proofs.Common.{subst}
use Rattle.pcrlock_run.specs.Leaves.{Safe}
use Rattle.pcrlock_run.proofs.Fronts.{err_as}
use Rattle.pcrlock_run.proofs.Halts.{wordless_halts, words_halt}
use Rattle.pcrlock_run.proofs.top.run_words.Goals as goal

pub returns-in-Some-clause-done : goal.returns-in-Some-clause-done
returns-in-Some-clause-done g c = λ m tells safe none.
    by_equal _ _
    (λ (w : Whole). IfErr c.run_spelled.result (λ (stop : Stop). stop_number stop ≡ 5 → ¬ Rose (g.F.Files.faults c.args.files.now) (g.F.Files.faults c.run_spelled.new.files) → ¬ Rose (g.E.Entropy.faults c.args.entropy.now) (g.E.Entropy.faults c.run_spelled.new.entropy) → ¬ Rose (g.T.Tpm.faults c.args.tpm.now) (g.T.Tpm.faults c.run_spelled.new.tpm)
    → StandsAt (g.F.Files.held c.run_spelled.new.files) (g.T.Tpm.stored c.run_spelled.new.tpm) w.after))
    (spelled_words c.args.words.now c.in-Some.state.now m (sym c.in-Some.ensures.value)) (λ free. c.run_spelled.ensures.done m tells free none) safe

pub returns-in-Some-clause-halts : goal.returns-in-Some-clause-halts
returns-in-Some-clause-halts g c = λ m tells safe.
    err_as _ _ c.run_spelled.result
    (words_halt _ _ _ _ _ _ _ _ _ _ c.args.words.now c.in-Some.state.now m (sym c.in-Some.ensures.value))
    (c.run_spelled.ensures.halts m tells (subst (λ (w : Whole). Safe w.hashed) (spelled_words c.args.words.now c.in-Some.state.now m (sym c.in-Some.ensures.value)) safe))

pub returns-in-None-clause-halts : goal.returns-in-None-clause-halts
returns-in-None-clause-halts g c = λ m tells safe.
    err_as _ _ c.refuse.result (wordless_halts _ _ _ _ _ _ _ _ _ c.args.words.now m (sym c.in-None.ensures.value) tells) c.refuse.ensures.unsaid
