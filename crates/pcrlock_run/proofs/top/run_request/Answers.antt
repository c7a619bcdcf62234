use Rattle.std.proofs.Common.{◌≡◌, sym}
use Rattle.std.specs.Prelude.{IfOk, IfErr}
use Rattle.pl_base.specs.Faults.{Rose}
use Rattle.pcrlock_line.specs.declared.stop.Stop.{Stop}
use Rattle.pcrlock_line.specs.Stopped.{StandsAt, StandsAmong}
use Rattle.pcrlock_run.specs.declared.status.Status.{Status}
use Rattle.pcrlock_run.specs.Status.{number_of, stop_number}
use Rattle.pcrlock_run.specs.Setting.{setting_of}
use Rattle.pcrlock_run.specs.Script.{Whole}
use Rattle.pcrlock_run.specs.Leaves.{Leaves}
use Rattle.pcrlock_run.proofs.Texts.{by_equal, alone_request, scripted_request}
use Rattle.std.proofs.Common.{subst}
use Rattle.pcrlock_run.specs.Leaves.{Safe}
use Rattle.pcrlock_run.specs.Whole.{script_in}
use Rattle.pcrlock_run.proofs.Fronts.{err_as}
use Rattle.pcrlock_run.proofs.Halts.{alone_halts, scripted_halts}
use Rattle.pcrlock_run.proofs.top.run_request.Goals as goal

pub returns-in-Some-clause-told : goal.returns-in-Some-clause-told
returns-in-Some-clause-told g c = λ m tells.
    by_equal _ _
    (λ (w : Whole). IfOk c.run_script.result (λ (s : Status). Leaves (g.F.Files.held c.run_script.new.files) (g.T.Tpm.stored c.run_script.new.tpm) (g.E.Entropy.draws c.run_script.new.entropy) (g.O.Sink.written c.args.out.now) (g.O.Sink.written c.run_script.new.out) (g.R.Sink.faults c.args.err.now) (g.R.Sink.written c.args.err.now) (g.R.Sink.faults c.run_script.new.err) (g.R.Sink.written c.run_script.new.err) (number_of s) w))
    (scripted_request (setting_of c.args.setting.now) c.args.request.now _ m c.in-Some.ensures.told)
    (λ free. c.run_script.ensures.told m tells free)

pub returns-in-Some-clause-stops : goal.returns-in-Some-clause-stops
returns-in-Some-clause-stops g c = λ m tells.
    by_equal _ _
    (λ (w : Whole). IfErr c.run_script.result (λ _. StandsAmong (g.F.Files.held c.run_script.new.files) (g.T.Tpm.stored c.run_script.new.tpm) w.stops))
    (scripted_request (setting_of c.args.setting.now) c.args.request.now _ m c.in-Some.ensures.told)
    (λ free. c.run_script.ensures.stops m tells free)

pub returns-in-None-clause-told : goal.returns-in-None-clause-told
returns-in-None-clause-told g c = λ m tells.
    by_equal _ _
    (λ (w : Whole). IfOk c.run_alone.result (λ (s : Status). Leaves (g.F.Files.held c.run_alone.new.files) (g.T.Tpm.stored c.run_alone.new.tpm) (g.E.Entropy.draws c.run_alone.new.entropy) (g.O.Sink.written c.args.out.now) (g.O.Sink.written c.run_alone.new.out) (g.R.Sink.faults c.args.err.now) (g.R.Sink.written c.args.err.now) (g.R.Sink.faults c.run_alone.new.err) (g.R.Sink.written c.run_alone.new.err) (number_of s) w))
    (alone_request (setting_of c.args.setting.now) c.args.request.now m (sym c.in-None.ensures.told))
    (λ free. c.run_alone.ensures.told m tells free)

pub returns-in-None-clause-stops : goal.returns-in-None-clause-stops
returns-in-None-clause-stops g c = λ m tells.
    by_equal _ _
    (λ (w : Whole). IfErr c.run_alone.result (λ _. StandsAmong (g.F.Files.held c.run_alone.new.files) (g.T.Tpm.stored c.run_alone.new.tpm) w.stops))
    (alone_request (setting_of c.args.setting.now) c.args.request.now m (sym c.in-None.ensures.told))
    (λ free. c.run_alone.ensures.stops m tells free)

pub returns-in-None-clause-done : goal.returns-in-None-clause-done
returns-in-None-clause-done g c = λ m tells safe none.
    by_equal _ _
    (λ (w : Whole). IfErr c.run_alone.result (λ (stop : Stop). stop_number stop ≡ 5 → ¬ Rose (g.F.Files.faults c.args.files.now) (g.F.Files.faults c.run_alone.new.files) → ¬ Rose (g.E.Entropy.faults c.args.entropy.now) (g.E.Entropy.faults c.run_alone.new.entropy) → ¬ Rose (g.T.Tpm.faults c.args.tpm.now) (g.T.Tpm.faults c.run_alone.new.tpm)
    → StandsAt (g.F.Files.held c.run_alone.new.files) (g.T.Tpm.stored c.run_alone.new.tpm) w.after))
    (alone_request (setting_of c.args.setting.now) c.args.request.now m none) (c.run_alone.ensures.done m tells) safe

pub returns-in-Some-clause-halts : goal.returns-in-Some-clause-halts
returns-in-Some-clause-halts g c = λ m tells safe.
    err_as _ _ c.run_script.result
    (scripted_halts _ _ _ _ _ _ _ _ _ _ (setting_of c.args.setting.now) c.args.request.now _ (script_in c.args.request.now) m c.in-Some.ensures.told)
    (c.run_script.ensures.halts m tells
    (subst (λ (w : Whole). Safe w.hashed) (scripted_request (setting_of c.args.setting.now) c.args.request.now _ m c.in-Some.ensures.told) safe))

pub returns-in-None-clause-halts : goal.returns-in-None-clause-halts
returns-in-None-clause-halts g c = λ m tells safe.
    err_as _ _ c.run_alone.result
    (alone_halts _ _ _ _ _ _ _ _ _ _ (setting_of c.args.setting.now) c.args.request.now (script_in c.args.request.now) m c.in-None.ensures.told)
    (c.run_alone.ensures.halts m tells
    (subst (λ (w : Whole). Safe w.hashed) (alone_request (setting_of c.args.setting.now) c.args.request.now m (sym c.in-None.ensures.told)) safe))
