-- What a command left, as a line of a script and alone.
use Rattle.std.proofs.Common.{◌≡◌, ℕ, Bool, true, false, cond, List, [], ◌∷◌, ◌++◌, inl, inr, refl, sym, ap, ◌∙◌, subst, append_assoc}
use Rattle.std.specs.Prelude.{Option, Some, Result, Ok, Err, IfOk, IfErr}
use Rattle.std.proofs.lemmas.List.{append-nil}
use Rattle.pl_base.specs.FileMap.{FileMap}
use Rattle.tpm_device.specs.Stored.{Stored}
use Rattle.pcrlock_answer.specs.Texts.{status_text}
use Rattle.pcrlock_line.specs.declared.reply.Reply.{Reply}
use Rattle.pcrlock_line.specs.declared.reply.Reply.TheVariants as replies
use Rattle.pcrlock_line.specs.declared.stop.Stop.{Stop}
use Rattle.pcrlock_line.specs.Machine.{Machine}
use Rattle.pcrlock_line.specs.Outcome.{Ending, Outcome, Gives, ending_of, is_stop}
use Rattle.pcrlock_line.specs.Stopped.{StandsAt, StandsAmong}
use Rattle.pcrlock_line.proofs.Devices.{stands}
use Rattle.pcrlock_run.specs.declared.status.Status.{Status}
use Rattle.pcrlock_run.specs.Status.{status_of, out_of, err_of, number_of}
use Rattle.pcrlock_run.specs.Says.{Says}
use Rattle.pcrlock_run.specs.Script.{Whole, marked_before, stopped_at, line_before, at_rest, marked}
use Rattle.pcrlock_run.specs.Whole.{alone}
use Rattle.pcrlock_run.specs.Leaves.{Leaves}
use Rattle.pcrlock_run.proofs.Said.{says_same}

-- a line with a reply doesn't stop
pub reply_goes : (given : Reply) → is_stop (ending_of given) ≡ false
reply_goes (replies.Fine text) = refl
reply_goes (replies.Refused answer) = refl

pub line_goes : (m : Machine) (o : Outcome) (given : Reply) (rest : Whole) → ending_of given ≡ o.ending → line_before m o rest ≡ marked_before m o rest
line_goes m o given rest e = ap (λ (v : Bool). cond v (stopped_at m o) (marked_before m o rest)) (ap is_stop (sym e) ∙ reply_goes given)

pub marked_leaves : (held : Option FileMap) (stored : Option Stored) (draws : Option (List (List ℕ))) (u v : Option (List ℕ)) (f : ℕ) (x : Option (List ℕ)) (g : ℕ) (y : Option (List ℕ)) (m : Machine) (o : Outcome) (reply : Reply) (result : Result Status Stop)
    → Gives held stored draws reply o
    → IfOk result (λ status. number_of status ≡ status_of (ending_of reply))
    → ((before : List ℕ) → u ≡ Some before → IfOk result (λ status. v ≡ Some ((before ++ out_of (ending_of reply)) ++ status_text (number_of status))))
    → IfOk result (λ _. Says f x g y (err_of (ending_of reply)))
    → IfOk result (λ status. Leaves held stored draws u v f x g y (number_of status) (marked m o))
marked_leaves held stored draws u v f x g y m o reply (Err stop) gives same out said = tt
marked_leaves held stored draws u v f x g y m o reply (Ok given) gives same out said =
    let number : ℕ = number_of given in
    let status : number ≡ status_of o.ending = same ∙ ap status_of gives.ending in
    let text : out_of (ending_of reply) ++ status_text number ≡ (out_of o.ending ++ status_text (status_of o.ending)) ++ [] =
    ap (λ (t : List ℕ). t ++ status_text number) (ap out_of gives.ending)
    ∙ ap (λ (n : ℕ). out_of o.ending ++ status_text n) status
    ∙ sym (append-nil (out_of o.ending ++ status_text (status_of o.ending))) in
    subst (λ (w : Whole). Leaves held stored draws u v f x g y number w) (sym (line_goes m o reply (at_rest (status_of o.ending) o.after) gives.ending)) (record {
      status = status;
      out = λ before e. out before e ∙ ap Some (append_assoc before (out_of (ending_of reply)) (status_text number) ∙ ap (λ (t : List ℕ). before ++ t) text);
      err = says_same f x g y _ _ (ap err_of gives.ending ∙ sym (append-nil (err_of o.ending))) said;
      tells = gives.tells;
    })

pub alone_leaves : (held : Option FileMap) (stored : Option Stored) (draws : Option (List (List ℕ))) (u v : Option (List ℕ)) (f : ℕ) (x : Option (List ℕ)) (g : ℕ) (y : Option (List ℕ)) (o : Outcome) (reply : Reply) (result : Result Status Stop)
    → Gives held stored draws reply o
    → IfOk result (λ status. number_of status ≡ status_of (ending_of reply))
    → ((before : List ℕ) → u ≡ Some before → IfOk result (λ _. v ≡ Some (before ++ out_of (ending_of reply))))
    → IfOk result (λ _. Says f x g y (err_of (ending_of reply)))
    → IfOk result (λ status. Leaves held stored draws u v f x g y (number_of status) (alone o))
alone_leaves held stored draws u v f x g y o reply (Err stop) gives same out said = tt
alone_leaves held stored draws u v f x g y o reply (Ok given) gives same out said = record {
  status = same ∙ ap status_of gives.ending;
  out = λ before e. out before e ∙ ap (λ (d : Ending). Some (before ++ out_of d)) gives.ending;
  err = says_same f x g y _ _ (ap err_of gives.ending) said;
  tells = gives.tells;
}

-- one of some machines is one of more
pub among_left : (held : Option FileMap) (stored : Option Stored) (xs ys : List Machine) → StandsAmong held stored xs → StandsAmong held stored (xs ++ ys)
among_left held stored [] ys h = absurd h
among_left held stored (m ∷ xs) ys (inl at) = inl at
among_left held stored (m ∷ xs) ys (inr more) = inr (among_left held stored xs ys more)

pub among_right : (held : Option FileMap) (stored : Option Stored) (xs ys : List Machine) → StandsAmong held stored ys → StandsAmong held stored (xs ++ ys)
among_right held stored [] ys h = h
among_right held stored (m ∷ xs) ys h = inr (among_right held stored xs ys h)

-- a stop once a line is done, and one before
pub marked_stops : (held : Option FileMap) (stored : Option Stored) (draws : Option (List (List ℕ))) (m : Machine) (o : Outcome) (reply : Reply) (result : Result Status Stop) → Gives held stored draws reply o
    → IfErr result (λ _. StandsAmong held stored (marked m o).stops)
marked_stops held stored draws m o reply (Ok given) gives = tt
marked_stops held stored draws m o reply (Err stop) gives =
    subst (λ (w : Whole). StandsAmong held stored w.stops) (sym (line_goes m o reply (at_rest (status_of o.ending) o.after) gives.ending))
    (inr (among_right held stored o.stops (o.after ∷ []) (inl (stands held stored draws o.after gives.tells))))

pub line_stops : (held : Option FileMap) (stored : Option Stored) (m : Machine) (o : Outcome) → StandsAmong held stored o.stops → StandsAmong held stored (marked m o).stops
line_stops held stored m o h = by (is_stop o.ending)
  where
    by : (test : Bool) → StandsAmong held stored (cond test (stopped_at m o) (marked_before m o (at_rest (status_of o.ending) o.after))).stops
    by true = inr h
    by false = inr (among_left held stored o.stops (o.after ∷ []) h)

pub alone_done : (held : Option FileMap) (stored : Option Stored) (draws : Option (List (List ℕ))) (o : Outcome) (reply : Reply) → Gives held stored draws reply o → StandsAt held stored o.after
alone_done held stored draws o reply gives = stands held stored draws o.after gives.tells

-- a stop as a command's text is written: all its changes are done
pub alone_stops : (held : Option FileMap) (stored : Option Stored) (o : Outcome) (result : Result Status Stop) → StandsAmong held stored o.stops → IfErr result (λ _. StandsAmong held stored (alone o).stops)
alone_stops held stored o (Ok given) h = tt
alone_stops held stored o (Err stop) h = h

pub done_stops : (held : Option FileMap) (stored : Option Stored) (draws : Option (List (List ℕ))) (o : Outcome) (reply : Reply) (result : Result Status Stop) (P Q R : Type 0) (five : Stop → Type 0) → Gives held stored draws reply o
    → IfErr result (λ stop. five stop → P → Q → R → StandsAt held stored (alone o).after)
done_stops held stored draws o reply (Ok given) P Q R five gives = tt
done_stops held stored draws o reply (Err stop) P Q R five gives = λ e p q r. alone_done held stored draws o reply gives
