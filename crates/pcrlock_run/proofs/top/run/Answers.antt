use Rattle.std.proofs.Common.{◌≡◌, ◌⊎◌, ℕ, subst, ◌∙◌}
use Rattle.pcrlock_run.proofs.Widened.{fault_cause}
use Rattle.pcrlock_deeds.specs.Kept.{IsOwnKept, IsKept}
use Rattle.pcrlock_deeds.proofs.Tying.{own_tie, kept_tie, fresh_kept}
use Rattle.pcrlock_run.proofs.Kept.{run_kept}
use Rattle.pcrlock_run.proofs.Stopped.{run_resumes}
use Rattle.pcrlock_run.proofs.Folds.{never_stops}
use Rattle.pcrlock_run.proofs.Exact.{run_exact}
use Rattle.pcrlock_run.proofs.Foretold.{run_call_foretold, run_foretold, run_makes}
use Rattle.pcrlock_run.proofs.Opened.{run_opens}
use Rattle.pcrlock_run.proofs.Premise.{run_hashed, run_safe}
use Rattle.pcrlock_run.proofs.Printed.{run_bound, run_call}
use Rattle.pcrlock_run.proofs.Fronts.{tells_behind}
use Rattle.pcrlock_run.proofs.Halts.{run_front}
use Rattle.pcrlock_run.proofs.top.run.Goals as goal

pub returns-in-Ok-clause-told : goal.returns-in-Ok-clause-told
returns-in-Ok-clause-told g c = λ m t safe no_fault no_want.
    let l = c.in-Ok.ensures.told m t safe in
    record { status = c.number.ensures ∙ l.status; out = l.out; err = l.err; tells = l.tells }

pub returns-in-Ok-clause-kept : goal.returns-in-Ok-clause-kept
returns-in-Ok-clause-kept g c = λ m w path under kept clean safe. run_kept path (IsOwnKept path) (own_tie path) (λ n v k. k) c.args.words.now m w under clean safe kept

pub returns-in-Ok-clause-headline : goal.returns-in-Ok-clause-headline
returns-in-Ok-clause-headline g c = λ m w path under kept clean safe. run_exact path c.args.words.now m w under clean safe kept

pub returns-in-Ok-clause-premise : goal.returns-in-Ok-clause-premise
returns-in-Ok-clause-premise g c = λ m w. run_hashed c.args.words.now m w

pub returns-in-Ok-clause-opens : goal.returns-in-Ok-clause-opens
returns-in-Ok-clause-opens g c = λ m w t tied safe no_fault no_want.
    let l = c.in-Ok.ensures.told m t (run_safe c.args.words.now m w safe) in
    run_call c.args.words.now m w _ _ _ tied safe (c.number.ensures ∙ l.status) l.out

pub returns-in-Ok-clause-unlocks : goal.returns-in-Ok-clause-unlocks
returns-in-Ok-clause-unlocks g c = λ m w path t under kept safe no_fault no_want.
    let l = c.in-Ok.ensures.told m t (run_safe c.args.words.now m w safe) in
    run_bound path c.args.words.now m w _ _ _ under kept safe (c.number.ensures ∙ l.status) l.out

pub returns-in-Err-clause-premise : goal.returns-in-Err-clause-premise
returns-in-Err-clause-premise g c = λ m w. run_hashed c.args.words.now m w

pub returns-in-Err-clause-kept : goal.returns-in-Err-clause-kept
returns-in-Err-clause-kept g c = λ m w path under kept clean safe. run_kept path (IsOwnKept path) (own_tie path) (λ n v k. k) c.args.words.now m w under clean safe kept

pub returns-in-Err-clause-headline : goal.returns-in-Err-clause-headline
returns-in-Err-clause-headline g c = λ m w path under kept clean safe. run_exact path c.args.words.now m w under clean safe kept

pub returns-in-Err-clause-faults : goal.returns-in-Err-clause-faults
returns-in-Err-clause-faults g c = λ five. fault_cause _ _ c.run_words.result c.in-Err.stop c.stopped.result c.run_words.ensures.causes c.in-Err.is c.stopped.ensures.status five

pub returns-in-Ok-clause-trails : goal.returns-in-Ok-clause-trails
returns-in-Ok-clause-trails g c = λ m w path under kept clean safe. run_kept path (IsKept path) (kept_tie path) (λ n v k. k.own) c.args.words.now m w under clean safe kept

pub returns-in-Ok-clause-fresh : goal.returns-in-Ok-clause-fresh
returns-in-Ok-clause-fresh g c = λ path banks held draws some none. fresh_kept path banks held draws some none

pub returns-in-Err-clause-trails : goal.returns-in-Err-clause-trails
returns-in-Err-clause-trails g c = λ m w path under kept clean safe. run_kept path (IsKept path) (kept_tie path) (λ n v k. k.own) c.args.words.now m w under clean safe kept

pub returns-in-Err-clause-fresh : goal.returns-in-Err-clause-fresh
returns-in-Err-clause-fresh g c = λ path banks held draws some none. fresh_kept path banks held draws some none

pub returns-in-Ok-clause-unseals : goal.returns-in-Ok-clause-unseals
returns-in-Ok-clause-unseals g c = λ m w path under kept clean safe. run_opens path c.args.words.now m w under clean safe kept

pub returns-in-Err-clause-unseals : goal.returns-in-Err-clause-unseals
returns-in-Err-clause-unseals g c = λ m w path under kept clean safe. run_opens path c.args.words.now m w under clean safe kept

pub returns-in-Ok-clause-stopped : goal.returns-in-Ok-clause-stopped
returns-in-Ok-clause-stopped g c = λ m w path t under kept clean safe stops.
    absurd (never_stops c.in-Ok.status (subst (λ (n : ℕ). (n ≡ 5) ⊎ (n ≡ 6)) c.number.ensures stops))

pub returns-in-Err-clause-stopped : goal.returns-in-Err-clause-stopped
returns-in-Err-clause-stopped g c = λ m w path t under kept clean safe stops.
    run_resumes path _ _ c.args.words.now m w under clean safe kept (c.in-Err.ensures.stops m t (run_safe c.args.words.now m w safe))

pub returns-in-Ok-clause-makes : goal.returns-in-Ok-clause-makes
returns-in-Ok-clause-makes g c = λ m w path under kept clean safe. run_makes path c.args.words.now m w under clean safe kept

pub returns-in-Ok-clause-foretold : goal.returns-in-Ok-clause-foretold
returns-in-Ok-clause-foretold g c = λ m w path under kept clean safe. run_foretold path c.args.words.now m w under clean safe kept

pub returns-in-Err-clause-makes : goal.returns-in-Err-clause-makes
returns-in-Err-clause-makes g c = λ m w path under kept clean safe. run_makes path c.args.words.now m w under clean safe kept

pub returns-in-Err-clause-foretold : goal.returns-in-Err-clause-foretold
returns-in-Err-clause-foretold g c = λ m w path under kept clean safe. run_foretold path c.args.words.now m w under clean safe kept

pub returns-in-Ok-clause-comes : goal.returns-in-Ok-clause-comes
returns-in-Ok-clause-comes g c = λ m w path t under kept safe no_fault no_want.
    let l = c.in-Ok.ensures.told m t (run_safe c.args.words.now m w safe) in
    run_call_foretold path c.args.words.now m w _ _ _ under kept safe (c.number.ensures ∙ l.status) l.out

pub returns-in-Ok-clause-printed : goal.returns-in-Ok-clause-printed
returns-in-Ok-clause-printed g c = λ m t safe stops.
    absurd (never_stops c.in-Ok.status (subst (λ (n : ℕ). (n ≡ 5) ⊎ (n ≡ 6)) c.number.ensures stops))

pub returns-in-Err-clause-printed : goal.returns-in-Err-clause-printed
returns-in-Err-clause-printed g c = λ m t safe stops.
    let h = c.in-Err.ensures.halts m t safe in
    record {
      stop = c.in-Err.stop;
      cause = c.run_words.ensures.causes.cause c.in-Err.stop c.in-Err.is;
      printed = h.printed;
      spoken = h.spoken;
      halts = h.so;
      front = run_front _ _ _ _ c.args.words.now m h.printed h.spoken h.so;
      out = h.out;
      told = tells_behind c.in-Err.stop c.stopped.result h.spoken _ _ _ _ _ _ h.err c.stopped.ensures.told;
    }
