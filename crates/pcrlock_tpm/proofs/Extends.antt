-- The TPM's extend by the hashes of some bytes is that of the definition.
use Rattle.std.proofs.Common.{◌≡◌, ◌⊎◌, ℕ, ◌+◌, ◌≤◌, Bool, true, false, cond, List, [], ◌∷◌, inl, inr, refl, ap, subst}
use Rattle.std.specs.Prelude.{Option, Some, ◌==◌}
use Rattle.std.proofs.lemmas.Bool.{le-ltb}
use Rattle.pl_base.specs.FileMap.{FileMap}
use Rattle.hash_bank.specs.declared.bank.Bank.{Bank}
use Rattle.hash_bank.specs.declared.bank.Bank.TheVariants.{Sha1, Sha256, Sha384, Sha512}
use Rattle.hash_bank.specs.declared.digests.Digests.{Digests}
use Rattle.hash_bank.specs.Digests.{digest_at}
use Rattle.hash_bank.specs.Hash.{digest_in}
use Rattle.tpm_model.specs.declared.parts.Parts.{Parts}
use Rattle.tpm_model.specs.Pcrs.{after_extend, after_digests}
use Rattle.tpm_model.specs.PcrCommands.{pcr_extend}
use Rattle.tpm_device.specs.Stored.{Stored, Holds}
use Rattle.tpm_model.specs.declared.response.Response.{Response}
use Rattle.tpm_model.specs.declared.response.Response.TheVariants as answer
use Rattle.tpm_model.specs.declared.response.Refusal.TheVariants as refusal
use Rattle.tpm_model.specs.declared.response.Counter.TheVariants as counter
use Rattle.pcrlock_answer.specs.declared.answer.Answer.TheVariants as said
use Rattle.pcrlock_line.specs.Outcome.{Outcome, Fine, refused_line}
use Rattle.pcrlock_line.specs.Machine.{Machine, Live, Tells, machine}
use Rattle.pcrlock_line.specs.Stopped.{StandsAt, StandsAmong}
use Rattle.pcrlock_line.proofs.Standing.{holds_same}
use Rattle.tpm_model.specs.World.{World}
use Rattle.tpm_model.specs.Tied.{Tied}
use Rattle.tpm_model.proofs.Ties.{follows}
use Rattle.tpm_model.specs.ObjectRules.{keeps_object_order}
use Rattle.pcrlock_tpm.specs.Extend.{state_after, extend_world, extended_line, extended_parts, extended_machine}

-- the digests are the hashes of the bytes
abbrev pub AreHashes : Digests → List ℕ → Type 0
AreHashes digests bytes = (b : Bank) → digest_at digests b ≡ Some (digest_in b bytes)

same_values : (s : Parts) (pcr : ℕ) (digests : Digests) (bytes : List ℕ) → AreHashes digests bytes
    → after_extend s.banks pcr digests s.pcrs ≡ (extended_parts pcr bytes s).pcrs
same_values s pcr digests bytes h i = after_digests s.banks pcr (h Sha1 i) (h Sha256 i) (h Sha384 i) (h Sha512 i) s.pcrs

-- the next state of the TPM, whether or not the counter is at its end
next_by : (s : Parts) (pcr : ℕ) (digests : Digests) (bytes : List ℕ) (last : Bool) → AreHashes digests bytes
    → (cond {A = Response × Parts} last (answer.Refused (refusal.CounterEnd counter.Update), s)
    (answer.Done, record s { pcrs = after_extend s.banks pcr digests s.pcrs; update_counter = s.update_counter + 1 })).1
    ≡ cond last s (extended_parts pcr bytes s)
next_by s pcr digests bytes true h = refl
next_by s pcr digests bytes false h = ap (λ values. record s { pcrs = values; update_counter = s.update_counter + 1 }) (same_values s pcr digests bytes h)

pub next_state : (s : Parts) (pcr : ℕ) (digests : Digests) (bytes : List ℕ) → pcr ≤ 23 → AreHashes digests bytes
    → (pcr_extend pcr digests s).1 ≡ state_after pcr bytes s
next_state s pcr digests bytes small h = rw (le-ltb 23 pcr small) (next_by s pcr digests bytes (s.update_counter == 4294967295) h)

-- what is stored after a stop at the extend is the state before, or the one afterwards
stops_by : (held : Option FileMap) (now : Option Stored) (words : Option (List (List ℕ))) (m : Live) (pcr : ℕ) (bytes : List ℕ) (last : Bool)
    → held ≡ Some m.files
    → (now ≡ Some (Holds m.state)) ⊎ (now ≡ Some (Holds (cond last m.state (extended_parts pcr bytes m.state))))
    → StandsAmong held now (cond {A = Outcome} last (refused_line (said.CounterEnd false) (machine m))
    (record { ending = Fine []; after = extended_machine pcr bytes m; hashed = []; stops = machine m ∷ extended_machine pcr bytes m ∷ [] })).stops
stops_by held now words m pcr bytes true files (inl same) = inl (record { files = files; device = Holds m.state; tells = same; same = holds_same m.state })
stops_by held now words m pcr bytes true files (inr same) = inl (record { files = files; device = Holds m.state; tells = same; same = holds_same m.state })
stops_by held now words m pcr bytes false files (inl same) = inl (record { files = files; device = Holds m.state; tells = same; same = holds_same m.state })
stops_by held now words m pcr bytes false files (inr same) =
    inr (inl (record { files = files; device = Holds (extended_parts pcr bytes m.state); tells = same; same = holds_same (extended_parts pcr bytes m.state) }))

pub extend_stops : (held : Option FileMap) (stored now : Option Stored) (words : Option (List (List ℕ))) (m : Live) (pcr : ℕ) (digests : Digests) (bytes : List ℕ)
    → pcr ≤ 23 → AreHashes digests bytes → Tells held stored words (machine m)
    → (now ≡ Some (Holds m.state)) ⊎ (now ≡ Some (Holds (pcr_extend pcr digests m.state).1))
    → StandsAmong held now (extended_line pcr bytes m).stops
extend_stops held stored now words m pcr digests bytes small h tells stopped =
    let there : (pcr_extend pcr digests m.state).1 ≡ state_after pcr bytes m.state = next_state m.state pcr digests bytes small h in
    stops_by held now words m pcr bytes (m.state.update_counter == 4294967295) tells.files
    (subst (λ (s : Parts). (now ≡ Some (Holds m.state)) ⊎ (now ≡ Some (Holds s))) there stopped)

-- an extend leaves the objects
same_objects : (s : Parts) (pcr : ℕ) (bytes : List ℕ) (last : Bool) → (cond last s (extended_parts pcr bytes s)).objects ≡ s.objects
same_objects s pcr bytes true = refl
same_objects s pcr bytes false = refl

-- the world after `tpm-extend` is tied to the state that it leaves
pub extend_tied : (s : Parts) (w : World) (pcr : ℕ) (bytes : List ℕ) → Tied s w → Tied (state_after pcr bytes s) (extend_world pcr bytes s w)
extend_tied s w pcr bytes tie = follows s (state_after pcr bytes s) w (same_objects s pcr bytes (s.update_counter == 4294967295)) tie

-- the machine itself stands first
pub first_stop : (held : Option FileMap) (stored : Option Stored) (m : Machine) (s : Parts) (pcr : ℕ) (bytes : List ℕ) → m.device ≡ Holds s → StandsAt held stored m
    → StandsAmong held stored (extended_line pcr bytes (record { files = m.files; state = s; draws = m.draws })).stops
first_stop held stored m s pcr bytes e at =
    let M : Stored → Machine = λ d. record { files = m.files; device = d; draws = m.draws } in
    let here : StandsAt held stored (M (Holds s)) = subst (λ d. StandsAt held stored (M d)) e at in
    by (s.update_counter == 4294967295) here
  where
    by : (last : Bool) → StandsAt held stored (machine (record { files = m.files; state = s; draws = m.draws }))
        → StandsAmong held stored (cond {A = Outcome} last (refused_line (said.CounterEnd false) (machine (record { files = m.files; state = s; draws = m.draws })))
        (record { ending = Fine []; after = extended_machine pcr bytes (record { files = m.files; state = s; draws = m.draws }); hashed = []; stops = machine (record { files = m.files; state = s; draws = m.draws }) ∷ extended_machine pcr bytes (record { files = m.files; state = s; draws = m.draws }) ∷ [] })).stops
    by true here = inl here
    by false here = inl here

-- the order of objects stays, and that state is stored afterwards
order_by : (s : Parts) (pcr : ℕ) (bytes : List ℕ) (last : Bool) → keeps_object_order s ≡ true → keeps_object_order (cond last s (extended_parts pcr bytes s)) ≡ true
order_by s pcr bytes true h = h
order_by s pcr bytes false h = h

pub extend_order : (s : Parts) (pcr : ℕ) (bytes : List ℕ) → keeps_object_order s ≡ true → keeps_object_order (state_after pcr bytes s) ≡ true
extend_order s pcr bytes h = order_by s pcr bytes (s.update_counter == 4294967295) h

leaves_by : (m : Live) (pcr : ℕ) (bytes : List ℕ) (last : Bool)
    → (cond {A = Outcome} last (refused_line (said.CounterEnd false) (machine m))
    (record { ending = Fine []; after = extended_machine pcr bytes m; hashed = []; stops = machine m ∷ extended_machine pcr bytes m ∷ [] })).after.device
    ≡ Holds (cond last m.state (extended_parts pcr bytes m.state))
leaves_by m pcr bytes true = refl
leaves_by m pcr bytes false = refl

pub extend_leaves : (m : Live) (pcr : ℕ) (bytes : List ℕ) → (extended_line pcr bytes m).after.device ≡ Holds (state_after pcr bytes m.state)
extend_leaves m pcr bytes = leaves_by m pcr bytes (m.state.update_counter == 4294967295)

-- after all changes the machine stands last
pub last_stop : (held : Option FileMap) (stored : Option Stored) (m : Live) (pcr : ℕ) (bytes : List ℕ) → StandsAt held stored (extended_line pcr bytes m).after → StandsAmong held stored (extended_line pcr bytes m).stops
last_stop held stored m pcr bytes = by (m.state.update_counter == 4294967295)
  where
    by : (last : Bool) → StandsAt held stored (cond {A = Outcome} last (refused_line (said.CounterEnd false) (machine m))
        (record { ending = Fine []; after = extended_machine pcr bytes m; hashed = []; stops = machine m ∷ extended_machine pcr bytes m ∷ [] })).after
        → StandsAmong held stored (cond {A = Outcome} last (refused_line (said.CounterEnd false) (machine m))
        (record { ending = Fine []; after = extended_machine pcr bytes m; hashed = []; stops = machine m ∷ extended_machine pcr bytes m ∷ [] })).stops
    by true at = inl at
    by false at = inr (inl at)
