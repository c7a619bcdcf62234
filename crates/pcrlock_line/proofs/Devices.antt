-- A command by what its device stores.
use Rattle.std.proofs.Common.{◌≡◌, ℕ, List, [], ◌∷◌, inl, refl, sym, ap, ◌∙◌, subst}
use Rattle.std.specs.Prelude.{Option, None, Some, IfErr, Result, Ok, Err}
use Rattle.pl_base.specs.FileMap.{FileMap}
use Rattle.tpm_model.specs.declared.parts.Parts.{Parts}
use Rattle.tpm_device.specs.Stored.{Stored, Holds, TooLarge, Malformed, BadRule}
use Rattle.pcrlock_answer.specs.declared.answer.Answer.{Answer}
use Rattle.pcrlock_line.specs.declared.reply.Reply.TheVariants as reply
use Rattle.pcrlock_line.specs.declared.stop.Stop.{Stop}
use Rattle.pcrlock_line.specs.Machine.{Machine, Live, Tells, machine}
use Rattle.pcrlock_line.specs.Outcome.{Outcome, Gives, refused_line}
use Rattle.pcrlock_line.specs.Stopped.{StandsAt, StandsAmong}
use Rattle.pcrlock_line.proofs.Standing.{same_stored}
use Rattle.pcrlock_line.specs.Begun.{state_refusal, by_device, by_stored}

-- no state is stored: it comes to what comes of the refusal
pub stored_none : {A : Type 0} (kept : Stored) (path : List ℕ) (some : Parts → A) (none : Answer → A) (answer : Answer) → Some answer ≡ state_refusal path kept
    → none answer ≡ by_stored kept path some none
stored_none (Holds s) path some none answer e = absurd (cc e)
stored_none (TooLarge size) path some none answer e = let same : answer ≡ _ = cc in ap none same
stored_none (Malformed at) path some none answer e = let same : answer ≡ _ = cc in ap none same
stored_none (BadRule broken) path some none answer e = let same : answer ≡ _ = cc in ap none same

-- a state is stored: it comes to what comes of that
pub stored_some : {A : Type 0} (kept : Stored) (path : List ℕ) (some : Parts → A) (none : Answer → A) (P : A → Type 0) → None ≡ state_refusal path kept
    → ((s : Parts) → kept ≡ Holds s → P (some s)) → P (by_stored kept path some none)
stored_some (Holds s) path some none P e h = h s refl
stored_some (TooLarge size) path some none P e h = absurd (cc e)
stored_some (Malformed at) path some none P e h = absurd (cc e)
stored_some (BadRule broken) path some none P e h = absurd (cc e)

-- no state is stored: the refusal is the outcome
pub refused_by : (kept : Stored) (path : List ℕ) (m : Machine) (work : Live → Outcome) (answer : Answer) → Some answer ≡ state_refusal path kept
    → by_device kept path m work ≡ refused_line answer m
refused_by kept path m work answer e =
    sym (stored_none kept path (λ s. work (record { files = m.files; state = s; draws = m.draws })) (λ why. refused_line why m) answer e)

-- a state is stored: what its work comes to is the outcome
pub begun_by : (kept : Stored) (path : List ℕ) (m : Machine) (work : Live → Outcome) (P : Outcome → Type 0) → None ≡ state_refusal path kept
    → ((s : Parts) → kept ≡ Holds s → P (work (record { files = m.files; state = s; draws = m.draws })))
    → P (by_device kept path m work)
begun_by kept path m work P e h =
    stored_some kept path (λ s. work (record { files = m.files; state = s; draws = m.draws })) (λ why. refused_line why m) P e h

-- the objects that tell a machine tell it with the state that it stores
pub told_live : (held : Option FileMap) (stored : Option Stored) (words : Option (List (List ℕ))) (m : Machine) (s : Parts) → m.device ≡ Holds s
    → Tells held stored words m → Tells held stored words (machine (record { files = m.files; state = s; draws = m.draws }))
told_live held stored words m s e t =
    let M : Stored → Machine = λ d. record { files = m.files; device = d; draws = m.draws } in
    subst (λ d. Tells held stored words (M d)) e t

-- a machine that is told stands
pub stands : (held : Option FileMap) (stored : Option Stored) (words : Option (List (List ℕ))) (m : Machine) → Tells held stored words m → StandsAt held stored m
stands held stored words m t = record { files = t.files; device = m.device; tells = t.state; same = same_stored m.device }

-- a device that was refused, and keeps what it stored
pub gives_refused : (held : Option FileMap) (stored : Option Stored) (words : Option (List (List ℕ))) (path : List ℕ) (m : Machine) (work : Live → Outcome) (answer : Answer)
    → Some answer ≡ state_refusal path m.device → Tells held stored words m
    → Gives held stored words (reply.Refused answer) (by_device m.device path m work)
gives_refused held stored words path m work answer e t =
    subst (λ (o : Outcome). Gives held stored words (reply.Refused answer) o) (sym (refused_by m.device path m work answer e)) (record { ending = refl; tells = t })

-- a stop before any change
pub stops_first : (held : Option FileMap) (stored : Option Stored) (path : List ℕ) (m : Machine) (work : Live → Outcome)
    → StandsAt held stored m
    → ((s : Parts) → m.device ≡ Holds s → StandsAmong held stored (work (record { files = m.files; state = s; draws = m.draws })).stops)
    → StandsAmong held stored (by_device m.device path m work).stops
stops_first held stored path m work at h = by m.device refl
  where
    by : (kept : Stored) → m.device ≡ kept → StandsAmong held stored (by_device kept path m work).stops
    by (Holds s) e = h s e
    by (TooLarge size) e = inl at
    by (Malformed place) e = inl at
    by (BadRule broken) e = inl at

-- what is stored stays, and so does what is told
pub kept_tells : (held : Option FileMap) (stored now : Option Stored) (words : Option (List (List ℕ))) (m : Machine) → now ≡ stored → Tells held stored words m → Tells held now words m
kept_tells held stored now words m same t = record { files = t.files; state = same ∙ t.state; draws = t.draws }

-- a device that is ready with the state that it stores tells that state
pub tells_begun : (held : Option FileMap) (stored now : Option Stored) (words : Option (List (List ℕ))) (m : Machine) (s : Parts) → now ≡ stored → m.device ≡ Holds s
    → Tells held stored words m → Tells held now words (machine (record { files = m.files; state = s; draws = m.draws }))
tells_begun held stored now words m s same e t = told_live held now words m s e (kept_tells held stored now words m same t)

-- what a machine stands at, its last stop among them
pub stops_last : (held : Option FileMap) (stored : Option Stored) (path : List ℕ) (m : Machine) (work : Live → Outcome)
    → ((s : Parts) → m.device ≡ Holds s → StandsAt held stored (work (record { files = m.files; state = s; draws = m.draws })).after → StandsAmong held stored (work (record { files = m.files; state = s; draws = m.draws })).stops)
    → StandsAt held stored (by_device m.device path m work).after → StandsAmong held stored (by_device m.device path m work).stops
stops_last held stored path m work h = by m.device refl
  where
    by : (kept : Stored) → m.device ≡ kept → StandsAt held stored (by_device kept path m work).after → StandsAmong held stored (by_device kept path m work).stops
    by (Holds s) e at = h s e at
    by (TooLarge size) e at = inl at
    by (Malformed place) e at = inl at
    by (BadRule broken) e at = inl at

-- a machine that stores this state
pub stands_live : (held : Option FileMap) (stored : Option Stored) (m : Machine) (s : Parts) → m.device ≡ Holds s → StandsAt held stored m
    → StandsAt held stored (machine (record { files = m.files; state = s; draws = m.draws }))
stands_live held stored m s e at =
    let M : Stored → Machine = λ d. record { files = m.files; device = d; draws = m.draws } in
    subst (λ d. StandsAt held stored (M d)) e at

-- a stop of a command that changes nothing
pub stands_unchanged : {A : Type 0} (held : Option FileMap) (stored : Option Stored) (words : Option (List (List ℕ))) (m : Machine) (result : Result A Stop) → IfErr result (λ _. Tells held stored words m) → IfErr result (λ _. StandsAmong held stored (m ∷ []))
stands_unchanged held stored words m (Ok x) h = tt
stands_unchanged held stored words m (Err stop) h = inl (stands held stored words m h)
