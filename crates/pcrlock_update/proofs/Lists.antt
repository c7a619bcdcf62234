-- Changes in a list, told by the first of them.
use Rattle.std.proofs.Common.{◌≡◌, ◌⊎◌, ℕ, List, [], ◌∷◌, ◌++◌, inl, inr, refl, sym, subst, ◌∙◌}
use Rattle.std.specs.Prelude.{Option, None, Some, Result, Ok, Err}
use Rattle.pl_base.specs.FileMap.{FileMap}
use Rattle.tpm_model.specs.declared.parts.Parts.{Parts}
use Rattle.tpm_device.specs.Stored.{Stored, Holds}
use Rattle.pcrlock_answer.specs.declared.answer.Answer.{Answer}
use Rattle.pcrlock_line.specs.Machine.{Machine, Live, machine}
use Rattle.pcrlock_line.specs.Running.{Keeps}
use Rattle.pcrlock_line.specs.Stopped.{StandsAt, StandsAmong}
use Rattle.pcrlock_line.proofs.Standing.{holds_same}
use Rattle.pcrlock_line.specs.declared.stop.Stop.{Stop}
use Rattle.pcrlock_update.specs.Changes.{Made, command_of, made_next, made_after, made_then, change_made, changes_made, Works, CameTo}
use Rattle.pcrlock_update.specs.Sealed.{sealed_in, pin_sealed, object_made, pin_made}
use Rattle.pcrlock_update.specs.Sending.{Sent}
use Rattle.pcrlock_update.specs.declared.change.Change.{Change}
use Rattle.pcrlock_update.specs.declared.change.Change.TheVariants as change
use Rattle.pcrlock_update.specs.declared.change.TpmChange.{TpmChange}
use Rattle.tpm_model.specs.Respond.{respond}

-- a machine that is told stands
pub works_at : (held : Option FileMap) (now : Option Parts) (kept : Option Stored) (m : Live) → Works held now kept m → StandsAt held kept (machine m)
works_at held now kept m w = record { files = w.files; device = Holds m.state; tells = w.stored; same = holds_same m.state }

-- the machine before the changes is the first
next_first : (held : Option FileMap) (kept : Option Stored) (o : Option Answer) (m n : Live) (rest : Live → Made) → StandsAt held kept (machine m) → StandsAmong held kept (made_next o m n rest).stops
next_first held kept None m n rest at = inl at
next_first held kept (Some why) m n rest at = inl at

pub made_first : (held : Option FileMap) (kept : Option Stored) (path : List ℕ) (changes : List Change) (m : Live) → StandsAt held kept (machine m) → StandsAmong held kept (changes_made path changes m).stops
made_first held kept path [] m at = inl at
made_first held kept path (c ∷ changes) m at = next_first held kept (change_made path c m).0 m (change_made path c m).1 (changes_made path changes) at

-- the first change was refused
refused_next : (held : Option FileMap) (now : Option Parts) (kept : Option Stored) (path : List ℕ) (o : Option Answer) (m n : Live) (rest : Live → Made) (answer : Answer)
    → (Some answer ≡ (made_next o m n (changes_made path [])).refusal) × Works held now kept (made_next o m n (changes_made path [])).after
    → (Some answer ≡ (made_next o m n rest).refusal) × Works held now kept (made_next o m n rest).after
refused_next held now kept path None m n rest answer h = absurd (cc h.0)
refused_next held now kept path (Some why) m n rest answer h = h

pub refused_first : (held : Option FileMap) (now : Option Parts) (kept : Option Stored) (path : List ℕ) (c : Change) (others changes : List Change) (m : Live) (answer : Answer) → changes ≡ c ∷ others
    → (Some answer ≡ (changes_made path (c ∷ []) m).refusal) × Works held now kept (changes_made path (c ∷ []) m).after
    → (Some answer ≡ (changes_made path changes m).refusal) × Works held now kept (changes_made path changes m).after
refused_first held now kept path c others changes m answer e h =
    subst (λ (x : List Change). (Some answer ≡ (changes_made path x m).refusal) × Works held now kept (changes_made path x m).after) (sym e)
    (refused_next held now kept path (change_made path c m).0 m (change_made path c m).1 (changes_made path others) answer h)

-- a stop at the first change
stopped_next : (held : Option FileMap) (kept : Option Stored) (path : List ℕ) (o : Option Answer) (m n : Live) (rest : Live → Made) → (StandsAt held kept (machine n) → StandsAmong held kept (rest n).stops)
    → StandsAmong held kept (made_next o m n (changes_made path [])).stops → StandsAmong held kept (made_next o m n rest).stops
stopped_next held kept path None m n rest h (inl at) = inl at
stopped_next held kept path None m n rest h (inr (inl at)) = inr (h at)
stopped_next held kept path None m n rest h (inr (inr none)) = absurd none
stopped_next held kept path (Some why) m n rest h among = among

pub stopped_first : (held : Option FileMap) (kept : Option Stored) (path : List ℕ) (c : Change) (others changes : List Change) (m : Live) → changes ≡ c ∷ others
    → StandsAmong held kept (changes_made path (c ∷ []) m).stops → StandsAmong held kept (changes_made path changes m).stops
stopped_first held kept path c others changes m e h =
    subst (λ (x : List Change). StandsAmong held kept (changes_made path x m).stops) (sym e)
    (stopped_next held kept path (change_made path c m).0 m (change_made path c m).1 (changes_made path others)
    (made_first held kept path others (change_made path c m).1) h)

-- one change of the TPM
one_came : (why o : Option Answer) (held : Option FileMap) (now : Option Parts) (kept : Option Stored) (path : List ℕ) (m n : Live) → why ≡ o → Works held now kept n
    → (why ≡ (made_next o m n (changes_made path [])).refusal) × Works held now kept (made_next o m n (changes_made path [])).after
one_came why None held now kept path m n e w = (e, w)
one_came why (Some answer) held now kept path m n e w = (e, w)

one_stopped : (o : Option Answer) (held : Option FileMap) (kept : Option Stored) (path : List ℕ) (m n : Live) → StandsAt held kept (machine m) ⊎ StandsAt held kept (machine n)
    → StandsAmong held kept (made_next o m n (changes_made path [])).stops
one_stopped None held kept path m n (inl at) = inl at
one_stopped None held kept path m n (inr at) = inr (inl at)
one_stopped (Some why) held kept path m n (inl at) = inl at
one_stopped (Some why) held kept path m n (inr at) = inr (inl at)

pub sent_came : (result : Result (Option Answer) Stop) (held : Option FileMap) (now : Option Parts) (kept : Option Stored) (path : List ℕ) (c : TpmChange) (m : Live) → held ≡ Some m.files
    → Sent result now kept c m.state → CameTo result held now kept (changes_made path (change.Tpm c ∷ []) m)
sent_came (Ok why) held now kept path c m files h =
    one_came why (change_made path (change.Tpm c) m).0 held now kept path m (change_made path (change.Tpm c) m).1 h.0 (record { files = files; live = h.1.live; stored = h.1.stored })
sent_came (Err stop) held now kept path c m files (inl k) =
    one_stopped (change_made path (change.Tpm c) m).0 held kept path m (change_made path (change.Tpm c) m).1
    (inl (record { files = files; device = Holds m.state; tells = k.stored; same = holds_same m.state }))
sent_came (Err stop) held now kept path c m files (inr k) =
    let next : Parts = (respond (command_of c) m.state).1 in
    one_stopped (change_made path (change.Tpm c) m).0 held kept path m (change_made path (change.Tpm c) m).1
    (inr (record { files = files; device = Holds next; tells = k.stored; same = holds_same next }))

-- ---- some changes, and then more

among_left : (held : Option FileMap) (kept : Option Stored) (xs ys : List Machine) → StandsAmong held kept xs → StandsAmong held kept (xs ++ ys)
among_left held kept [] ys h = absurd h
among_left held kept (x ∷ xs) ys (inl at) = inl at
among_left held kept (x ∷ xs) ys (inr h) = inr (among_left held kept xs ys h)

among_right : (held : Option FileMap) (kept : Option Stored) (xs ys : List Machine) → StandsAmong held kept ys → StandsAmong held kept (xs ++ ys)
among_right held kept [] ys h = h
among_right held kept (x ∷ xs) ys h = inr (among_right held kept xs ys h)

-- none of the first was refused
more_came : (result : Result (Option Answer) Stop) (held : Option FileMap) (now : Option Parts) (kept : Option Stored) (made : Made) (rest : Live → Made) (o : Option Answer) → None ≡ o
    → CameTo result held now kept (rest made.after) → CameTo result held now kept (made_after o made rest)
more_came (Ok why) held now kept made rest None e h = h
more_came (Err stop) held now kept made rest None e h = among_right held kept made.stops (rest made.after).stops h
more_came result held now kept made rest (Some why) e h = absurd (cc e)

pub then_came : (result : Result (Option Answer) Stop) (held : Option FileMap) (now : Option Parts) (kept : Option Stored) (made : Made) (rest : Live → Made) → None ≡ made.refusal
    → CameTo result held now kept (rest made.after) → CameTo result held now kept (made_then made rest)
then_came result held now kept made rest e h = more_came result held now kept made rest made.refusal e h

-- one of them was
one_refused : (held : Option FileMap) (now : Option Parts) (kept : Option Stored) (made : Made) (rest : Live → Made) (answer : Answer) (o : Option Answer) → Some answer ≡ o
    → Works held now kept made.after → made.refusal ≡ o → (Some answer ≡ (made_after o made rest).refusal) × Works held now kept (made_after o made rest).after
one_refused held now kept made rest answer None e works is = absurd (cc e)
one_refused held now kept made rest answer (Some why) e works is = (e ∙ sym is, works)

pub then_refused : (held : Option FileMap) (now : Option Parts) (kept : Option Stored) (made : Made) (rest : Live → Made) (answer : Answer) → Some answer ≡ made.refusal
    → Works held now kept made.after → (Some answer ≡ (made_then made rest).refusal) × Works held now kept (made_then made rest).after
then_refused held now kept made rest answer e works = one_refused held now kept made rest answer made.refusal e works refl

-- a stop among the first
stopped_by : (held : Option FileMap) (kept : Option Stored) (made : Made) (rest : Live → Made) (o : Option Answer) → StandsAmong held kept made.stops → StandsAmong held kept (made_after o made rest).stops
stopped_by held kept made rest None h = among_left held kept made.stops (rest made.after).stops h
stopped_by held kept made rest (Some why) h = h

pub then_stopped : (held : Option FileMap) (kept : Option Stored) (made : Made) (rest : Live → Made) → StandsAmong held kept made.stops → StandsAmong held kept (made_then made rest).stops
then_stopped held kept made rest h = stopped_by held kept made rest made.refusal h

-- ---- behind a sealed pin

next_came : (result : Result (Option Answer) Stop) (held : Option FileMap) (now : Option Parts) (kept : Option Stored) (m n : Live) (rest : Live → Made)
    → CameTo result held now kept (rest n) → CameTo result held now kept (made_next None m n rest)
next_came (Ok why) held now kept m n rest h = h
next_came (Err stop) held now kept m n rest h = inr h

pub sealed_came : (result : Result (Option Answer) Stop) (held : Option FileMap) (now : Option Parts) (kept : Option Stored) (index : ℕ) (pin : List ℕ) (object : ℕ) (m : Live) (rest : ℕ → Live → Made)
    → sealed_in (pin_sealed index pin m.state).0 ≡ Ok object → CameTo result held now kept (rest object (record m { state = (pin_sealed index pin m.state).1 }))
    → CameTo result held now kept (pin_made index pin rest m)
sealed_came result held now kept index pin object m rest e h =
    let n : Live = record m { state = (pin_sealed index pin m.state).1 } in
    subst (λ (x : Result ℕ Answer). CameTo result held now kept (object_made x m n rest)) (sym e) (next_came result held now kept m n (rest object) h)

-- a stop as the pin is sealed: the machine before stands, or the next one
object_stopped : (held : Option FileMap) (kept : Option Stored) (path : List ℕ) (sealed : Result ℕ Answer) (m n : Live) (changes : ℕ → List Change) → StandsAt held kept (machine m) ⊎ StandsAt held kept (machine n)
    → StandsAmong held kept (object_made sealed m n (λ object. changes_made path (changes object))).stops
object_stopped held kept path (Ok object) m n changes (inl at) = inl at
object_stopped held kept path (Ok object) m n changes (inr at) = inr (made_first held kept path (changes object) n at)
object_stopped held kept path (Err why) m n changes (inl at) = inl at
object_stopped held kept path (Err why) m n changes (inr at) = inr (inl at)

pub pin_stopped : (held : Option FileMap) (kept : Option Stored) (path : List ℕ) (index : ℕ) (pin : List ℕ) (changes : ℕ → List Change) (m : Live) → held ≡ Some m.files
    → Keeps kept m.state ⊎ Keeps kept (pin_sealed index pin m.state).1
    → StandsAmong held kept (pin_made index pin (λ object. changes_made path (changes object)) m).stops
pin_stopped held kept path index pin changes m files (inl k) =
    object_stopped held kept path (sealed_in (pin_sealed index pin m.state).0) m (record m { state = (pin_sealed index pin m.state).1 }) changes
    (inl (record { files = files; device = Holds m.state; tells = k.stored; same = holds_same m.state }))
pin_stopped held kept path index pin changes m files (inr k) =
    let next : Parts = (pin_sealed index pin m.state).1 in
    object_stopped held kept path (sealed_in (pin_sealed index pin m.state).0) m (record m { state = next }) changes
    (inr (record { files = files; device = Holds next; tells = k.stored; same = holds_same next }))
