use Rattle.std.proofs.Common.{◌≡◌, ◌≤◌, true, length, take}
use Rattle.tpm_model.specs.declared.parts.Parts.{Parts}
use Rattle.tpm_broker.specs.Lists.{clients_left, state_left}
use Rattle.pcrlock_line.specs.Running.{Runs}
use Rattle.pcrlock_broker.specs.Broker.{answers_text}
use Rattle.pcrlock_broker.proofs.serving.answer_all.Given as goal

-- the device is ready, and where it tells its state, that is the one behind the commands so far, with the clients that
-- they leave, and the text has their answers
abbrev pub invariant-loop-one : goal.invariant-loop-one
invariant-loop-one g l = record {
  readiness : g.T.Tpm.ready l.tpm ≡ true;
  later : g.T.Tpm.faults l.fn.tpm ≤ g.T.Tpm.faults l.tpm;
  count : length l.broker ≡ length l.fn.broker;
  runs : (s : Parts) → Runs (g.T.Tpm.live l.fn.tpm) (g.T.Tpm.stored l.fn.tpm) s
      → Runs (g.T.Tpm.live l.tpm) (g.T.Tpm.stored l.tpm) (state_left (take l.one-index l.asked) l.fn.broker s);
  left : (s : Parts) → Runs (g.T.Tpm.live l.fn.tpm) (g.T.Tpm.stored l.fn.tpm) s → l.broker ≡ clients_left (take l.one-index l.asked) l.fn.broker s;
  text : (s : Parts) → Runs (g.T.Tpm.live l.fn.tpm) (g.T.Tpm.stored l.fn.tpm) s → l.text.items ≡ answers_text (take l.one-index l.asked) l.fn.broker s;
}
