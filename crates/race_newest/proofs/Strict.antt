-- Which events authorise, and which don't; and at which events PCRs move.
use Rattle.std.proofs.Common.{◌≡◌, ℕ, true, List, [], ◌∷◌, ◌++◌, length, inl, inr, refl, sym, ap, ◌∙◌, arith, length-append, ◌+◌}
use Rattle.std.specs.Prelude.{Some}
use Rattle.std.specs.FinMap.{get}
use Rattle.policy_digest.specs.PlainTable.{PlainTable}
use Rattle.race_core.specs.declared.event.Event.TheVariants as played_event
use Rattle.race_core.specs.Playing.{Playing}
use Rattle.tpm_model.specs.declared.command.Command.{Command}
use Rattle.tpm_model.specs.declared.command.Command.TheVariants as command
use Rattle.tpm_model.specs.declared.parts.Parts.{Parts}
use Rattle.tpm_model.specs.declared.response.Refusal.{Refusal}
use Rattle.tpm_model.specs.declared.response.Response.TheVariants as answer
use Rattle.tpm_model.specs.Events.{Event, command_of}
use Rattle.tpm_model.specs.Respond.{respond}
use Rattle.tpm_model.specs.World.{LiveIndex, World}
use Rattle.race_newest.specs.ByNewest.{IsAuthorisedByNewest, IsOpenedByNewest, WasAuthorised}
use Rattle.race_newest.specs.Moments.{world_behind}
use Rattle.race_newest.specs.Rightly.{HasKeyRightly}
use Rattle.race_newest.specs.Stillness.{AreStill, moves}

-- nothing stands in no events
nothing : {A : Type 0} (before behind : List A) (at : A) → [] ≡ before ++ at ∷ behind → ⊥
nothing before behind at e = let long : length before + length (at ∷ behind) ≡ 0 = sym (length-append before (at ∷ behind)) ∙ sym (ap length e) in omega (arith, long)

pub none_authorises : (s : Parts) (w : World) (session index : ℕ) (pin : List ℕ) (table : PlainTable) → IsAuthorisedByNewest [] s w session index pin table → ⊥
none_authorises s w session index pin table by = nothing by.before by.behind by.at by.order

pub authorised_already : (s : Parts) (w : World) (session index : ℕ) (pin secret answered : List ℕ) → IsOpenedByNewest [] s w session index pin secret answered → WasAuthorised s session
authorised_already s w session index pin secret answered opened = elim (opened.by) [
  | inl by ↦ absurd (none_authorises s w session index pin opened.table by)
  | inr was ↦ was
]

pub no_key : (p : Playing) (w : World) (client index : ℕ) (pin secret given : List ℕ) → HasKeyRightly [] p w client index pin secret given → ⊥
no_key p w client index pin secret given right = nothing right.steps.before right.steps.behind (played_event.Step client) right.steps.order

-- one event that does
pub one_authorises : (at : Event) (s : Parts) (w : World) (session index : ℕ) (pin : List ℕ) (table : PlainTable) → command_of at ≡ command.PolicyAuthorizeNv session index
    → (respond (command_of at) s).0 ≡ answer.Done → get w.live index ≡ Some (record { pin = pin; table = table }) → IsAuthorisedByNewest (at ∷ []) s w session index pin table
one_authorises at s w session index pin table asks accepted newest =
    record { before = []; at = at; behind = []; order = refl; asks = asks; accepted = accepted; newest = newest }

same_live : (a b : LiveIndex) → Some a ≡ Some b → a ≡ b
same_live a b e = cc

same_tail : {A : Type 0} (x y : A) (xs ys : List A) → x ∷ xs ≡ y ∷ ys → xs ≡ ys
same_tail x y xs ys e = cc

-- not by a table that isn't the newest
pub not_by_older : (at : Event) (s : Parts) (w : World) (session index : ℕ) (pin : List ℕ) (table other : PlainTable) → get w.live index ≡ Some (record { pin = pin; table = other })
    → (table ≡ other → ⊥) → IsAuthorisedByNewest (at ∷ []) s w session index pin table → ⊥
not_by_older at s w session index pin table other newest apart by = by_place by.before by.order by.newest
  where
    by_place : (before : List Event) → at ∷ [] ≡ before ++ by.at ∷ by.behind → get (world_behind before s w).live index ≡ Some (record { pin = pin; table = table }) → ⊥
    by_place [] e is = apart (ap (λ (l : LiveIndex). l.table) (same_live (record { pin = pin; table = table }) (record { pin = pin; table = other }) (sym is ∙ newest)))
    by_place (first ∷ before) e is = nothing before by.behind by.at (same_tail at first [] (before ++ by.at ∷ by.behind) e)

-- ---- an accepted extend or restart moves PCRs, and a refused one doesn't

refused_or_done : (why : Refusal) → answer.Done ≡ answer.Refused why → ⊥
refused_or_done why e = cc

pub it_moves : (c : Command) (p : Playing) → moves c ≡ true → (respond c p.state).0 ≡ answer.Done → AreStill (played_event.Stranger c ∷ []) p → ⊥
it_moves c p moving done still = let refusal = still.0 moving in refused_or_done refusal.0 (sym done ∙ refusal.1)

pub it_stays : (c : Command) (why : Refusal) (p : Playing) → (respond c p.state).0 ≡ answer.Refused why → AreStill (played_event.Stranger c ∷ []) p
it_stays c why p refused = ((λ moving. (why, refused)), tt)
