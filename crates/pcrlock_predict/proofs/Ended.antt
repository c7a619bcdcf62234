-- The ends of commands that look and print.
use Rattle.std.proofs.Common.{◌≡◌, ℕ, List, sym, ap, ◌∙◌, arith}
use Rattle.std.specs.Prelude.{Option, Result, Ok, Err, IfOk}
use Rattle.pl_base.specs.FileMap.{FileMap}
use Rattle.pl_base.specs.Faults.{HasCause}
use Rattle.tpm_device.specs.Stored.{Stored}
use Rattle.pcrlock_answer.specs.declared.answer.Answer.{Answer}
use Rattle.pcrlock_line.specs.declared.reply.Reply.{Reply}
use Rattle.pcrlock_line.specs.declared.stop.Stop.{Stop}
use Rattle.pcrlock_line.specs.Causes.{HasCauses}
use Rattle.pcrlock_line.specs.Machine.{Machine, Tells}
use Rattle.pcrlock_line.specs.Outcome.{Refused, Gives, ending_of}
use Rattle.pcrlock_line.proofs.Composed.{then, on_tpm}
use Rattle.pcrlock_input.specs.Answering.{◌>>=◌}
use Rattle.pcrlock_line.specs.Printing.{printed, printed_line}

-- what was read before may have raised the count of the files
pub files_read : {A : Type 0} (f h t u : ℕ) (failed : Type 0) (result : Result A Stop) → HasCause f h failed → HasCauses (0, 0, t, 0) (0, 0, u, 0) result
    → HasCauses (f, 0, t, 0) (h, 0, u, 0) result
files_read f h t u failed result read later = then (f, 0, t, 0) (h, 0, t, 0) (h, 0, u, 0) fine result (record {
  files = read.later;
  entropy = omega arith;
  tpm = omega arith;
  out = omega arith;
  cause = λ s e. absurd (cc e);
}) (on_tpm h 0 0 t u result later)
  where
    fine : Result Unit Stop
    fine = Ok tt

-- the reply is the work's on what was read, and the machine is as it was
pub gives_found : {X : Type 0} (held : Option FileMap) (stored : Option Stored) (words : Option (List (List ℕ))) (m : Machine)
    (found : Result X Answer) (x : X) (work : X → Result (List ℕ) Answer) (result : Result Reply Stop) → found ≡ Ok x
    → Tells held stored words m → IfOk result (λ reply. ending_of reply ≡ printed (work x))
    → IfOk result (λ reply. Gives held stored words reply (printed_line (found >>= work) m))
gives_found {X = X} held stored words m found x work (Ok reply) is tells h = record {
  ending = h ∙ ap (λ (f : Result X Answer). printed (f >>= work)) (sym is);
  tells = tells;
}
gives_found held stored words m found x work (Err stopped) is tells h = tt

-- the reply is the work's on what was read
pub reply_found : {X : Type 0} (found : Result X Answer) (x : X) (work : X → Result (List ℕ) Answer) (result : Result Reply Stop) → Ok x ≡ found
    → IfOk result (λ reply. ending_of reply ≡ printed (work x)) → IfOk result (λ reply. ending_of reply ≡ printed (found >>= work))
reply_found found x work (Ok reply) is h = h ∙ ap (λ f. printed (f >>= work)) is
reply_found found x work (Err stopped) is h = tt

-- nothing was read
pub reply_refused : {X : Type 0} (found : Result X Answer) (answer : Answer) (work : X → Result (List ℕ) Answer) → Err answer ≡ found
    → Refused answer ≡ printed (found >>= work)
reply_refused found answer work is = ap (λ f. printed (f >>= work)) is
