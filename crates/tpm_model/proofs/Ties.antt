-- What leaves a state and a world hanging together.
use Rattle.std.proofs.Common.{◌≡◌, ℕ, suc, ◌+◌, ◌≤◌, Bool, true, false, cond, not, List, [], ◌∷◌, ◌++◌, map, inl, inr, refl, sym, ap, subst, ◌∙◌, arith}
use Rattle.std.specs.Prelude.{Option, None, Some, Contains, ◌==◌}
use Rattle.std.specs.Prelude as prelude
use Rattle.std.specs.Option.{option_or}
use Rattle.std.specs.List.{find, slice_index_or}
use Rattle.std.specs.Ordering.{nat_cmp, eq_by_cmp}
use Rattle.std.specs.Cmp.{nat_cmp_total, unsigned_tied}
use Rattle.std.specs.FinMap.{get, get-insert, get-remove}
use Rattle.std.proofs.lemmas.List.Elements.{Contains-append_left, Contains-append_right, Contains-append_cases}
use Rattle.std.proofs.lemmas.List.Folds.{find-append}
use Rattle.std.proofs.lemmas.Bool.{eqb-true, eqb-false, eq-eqb}
use Rattle.hash_bank.specs.HashedString.{HashedString}
use Rattle.policy_digest.specs.PlainTable.{PlainTable}
use Rattle.policy_digest.specs.TableStrings.{table_strings}
use Rattle.policy_digest.specs.BindingStrings.{bind_strings}
use Rattle.policy_digest.specs.Pin.{pin_strings}
use Rattle.tpm_model.specs.declared.object.Object.{Object}
use Rattle.tpm_model.specs.declared.parts.Parts.{Parts}
use Rattle.tpm_model.specs.Binding.{Binding, Index, Literal, policy_of, binding_strings}
use Rattle.tpm_model.specs.Events.{bound_world, evicted_world, pinned_world, strange_world, undefined_world, updated_world}
use Rattle.tpm_model.specs.Sessions.{is_object, object_at, object_place}
use Rattle.tpm_model.specs.World.{World, BoundObject, PolicyUpdate, AreHashed, extended_world, hashed_world}
pub use Rattle.tpm_model.specs.World.{Grows}
use Rattle.tpm_model.specs.Tied.{Tied, IsHeld, IsSoundBinding}
use Rattle.tpm_model.proofs.Handles.{AreHandles}

-- what a list of one member contains
pub only : {A : Type 0} (y x : A) → Contains (y ∷ []) x → y ≡ x
only y x h = let first : h.0 ≡ 0 = omega (arith, h.1) in sym (ap (λ k. slice_index_or (y ∷ []) k x) first) ∙ h.2

-- a member of a list with one more is that one, or was there before
pub pushed : {A : Type 0} (P : A → Type 0) (xs : List A) (y : A) → ((x : A) → Contains xs x → P x) → P y → (x : A) → Contains (xs ++ y ∷ []) x → P x
pushed P xs y all one x h = elim (Contains-append_cases xs (y ∷ []) x h) [
  | inl before ↦ all x before
  | inr new ↦ subst P (only y x new) one
]

pub more_hashed : (w : World) (more xs : List HashedString) → AreHashed w xs → AreHashed (hashed_world more w) xs
more_hashed w more xs h = λ s k. Contains-append_left w.hashed more s (h s k)

pub all_hashed : (w : World) (more : List HashedString) → AreHashed (hashed_world more w) more
all_hashed w more = λ s k. Contains-append_right w.hashed more s k

-- a binding is sound in each world with the same pins and more
pub sound_on : (w v : World) → ((pin : List ℕ) → Contains w.pins pin → Contains v.pins pin) → (b : Binding) → IsSoundBinding w b → IsSoundBinding v b
sound_on w v more (Index handle pin) h = more pin h
sound_on w v more (Literal hash bank pcr value) h = h

-- an object that is found in another state too is held in a world that grew
held_on : (s t : Parts) (w v : World) (handle : ℕ) (bound : BoundObject)
    → ((object : Object) → object_at handle s.objects ≡ Some object → object_at handle t.objects ≡ Some object)
    → ((pin : List ℕ) → Contains w.pins pin → Contains v.pins pin) → Grows w v
    → IsHeld s w handle bound → IsHeld t v handle bound
held_on s t w v handle bound found pins grows held = record {
  object = held.object;
  found = found held.object held.found;
  secret = held.secret;
  policy = held.policy;
  sound = sound_on w v pins bound.binding held.sound;
  strings = λ x k. grows x (held.strings x k);
}

-- more strings leave the tie
pub tied_hashed : (s : Parts) (w : World) (more : List HashedString) → Tied s w → Tied s (hashed_world more w)
tied_hashed s w more t = record {
  banks = t.banks;
  pcrs = t.pcrs;
  objects = λ handle bound e. held_on s s w (hashed_world more w) handle bound (λ _ f. f) (λ _ k. k) (λ x k. Contains-append_left w.hashed more x k) (t.objects handle bound e);
  updates = λ update k. more_hashed w more (table_strings update.table) (t.updates update k);
  update_bindings = λ update k. more_hashed w more (bind_strings update.handle update.pin) (t.update_bindings update k);
  pins = λ pin k. more_hashed w more (pin_strings pin) (t.pins pin k);
  strange = λ pin k. more_hashed w more (pin_strings pin) (t.strange pin k);
}

-- a world that follows a state with the same objects stays tied
pub follows : (s t : Parts) (w : World) → t.objects ≡ s.objects → Tied s w → Tied t (extended_world t w)
follows s t w same tie = record {
  banks = refl;
  pcrs = refl;
  objects = λ handle bound e. held_on s t w (extended_world t w) handle bound (λ _ f. ap (object_at handle) same ∙ f) (λ _ k. k) (λ _ k. k) (tie.objects handle bound e);
  updates = tie.updates;
  update_bindings = tie.update_bindings;
  pins = tie.pins;
  strange = tie.strange;
}

-- the world stays tied to a state with the same PCRs and objects
pub same_tied : (s t : Parts) (w : World) → t.banks ≡ s.banks → t.pcrs ≡ s.pcrs → t.objects ≡ s.objects → Tied s w → Tied t w
same_tied s t w banks pcrs objects tie = record {
  banks = tie.banks ∙ sym banks;
  pcrs = tie.pcrs ∙ sym pcrs;
  objects = λ handle bound e. held_on s t w w handle bound (λ _ f. ap (object_at handle) objects ∙ f) (λ _ k. k) (λ _ k. k) (tie.objects handle bound e);
  updates = tie.updates;
  update_bindings = tie.update_bindings;
  pins = tie.pins;
  strange = tie.strange;
}

-- a pin more that a policy was made with
pub tied_pinned : (s : Parts) (w : World) (pin : List ℕ) → AreHashed w (pin_strings pin) → Tied s w → Tied s (pinned_world pin w)
tied_pinned s w pin hashed t = record {
  banks = t.banks;
  pcrs = t.pcrs;
  objects = λ handle bound e. held_on s s w (pinned_world pin w) handle bound (λ _ f. f) (λ other k. Contains-append_left w.pins (pin ∷ []) other k) (λ _ k. k) (t.objects handle bound e);
  updates = t.updates;
  update_bindings = t.update_bindings;
  pins = pushed (λ p. AreHashed w (pin_strings p)) w.pins pin t.pins hashed;
  strange = t.strange;
}

-- a pin more that a stranger presented
pub tied_strange : (s : Parts) (w : World) (pin : List ℕ) → AreHashed w (pin_strings pin) → Tied s w → Tied s (strange_world pin w)
tied_strange s w pin hashed t = record {
  banks = t.banks;
  pcrs = t.pcrs;
  objects = λ handle bound e. held_on s s w (strange_world pin w) handle bound (λ _ f. f) (λ _ k. k) (λ _ k. k) (t.objects handle bound e);
  updates = t.updates;
  update_bindings = t.update_bindings;
  pins = t.pins;
  strange = pushed (λ p. AreHashed w (pin_strings p)) w.strange pin t.strange hashed;
}

-- a policy update more
pub tied_updated : (s : Parts) (w : World) (number handle : ℕ) (pin : List ℕ) (table : PlainTable)
    → AreHashed w (table_strings table) → AreHashed w (bind_strings handle pin) → AreHashed w (pin_strings pin) → Tied s w → Tied s (updated_world number handle pin table w)
tied_updated s w number handle pin table tables binds hashed t =
    let new : PolicyUpdate = record { number = number; handle = handle; pin = pin; table = table } in
    record {
      banks = t.banks;
      pcrs = t.pcrs;
      objects = λ at bound e. held_on s s w (updated_world number handle pin table w) at bound (λ _ f. f) (λ other k. Contains-append_left w.pins (pin ∷ []) other k) (λ _ k. k) (t.objects at bound e);
      updates = pushed (λ (u : PolicyUpdate). AreHashed w (table_strings u.table)) w.writes new t.updates tables;
      update_bindings = pushed (λ (u : PolicyUpdate). AreHashed w (bind_strings u.handle u.pin)) w.writes new t.update_bindings binds;
      pins = pushed (λ p. AreHashed w (pin_strings p)) w.pins pin t.pins hashed;
      strange = t.strange;
    }

-- an index less in the world
pub tied_undefined : (s : Parts) (w : World) (gone : ℕ) → Tied s w → Tied s (undefined_world gone w)
tied_undefined s w gone t = record {
  banks = t.banks;
  pcrs = t.pcrs;
  objects = λ handle bound e. held_on s s w (undefined_world gone w) handle bound (λ _ f. f) (λ _ k. k) (λ _ k. k) (t.objects handle bound e);
  updates = t.updates;
  update_bindings = t.update_bindings;
  pins = t.pins;
  strange = t.strange;
}

-- no object has a handle past those of all
pub none_found : (first end handle : ℕ) (objects : List Object) → AreHandles first end (map (λ (x : Object). x.handle) objects) → end ≤ handle → object_at handle objects ≡ None
none_found first end handle [] h past = refl
none_found first end handle (x ∷ xs) h past =
    elim (x.handle == handle) as (λ b. (x.handle == handle) ≡ b → cond b (Some x) (find (is_object handle) xs) ≡ None) [
      | true ↦ λ e. let same : x.handle ≡ handle = eqb-true x.handle handle e in absurd (omega (arith, h.1))
      | false ↦ λ e. none_found (x.handle + 1) end handle xs h.2 past
    ] refl

-- an object that was found is found among more
still_found : (handle : ℕ) (objects : List Object) (more object : Object) → object_at handle objects ≡ Some object → object_at handle (objects ++ more ∷ []) ≡ Some object
still_found handle objects more object e = find-append (is_object handle) objects (more ∷ []) ∙ ap (λ o. option_or o (find (is_object handle) (more ∷ []))) e

-- the one behind all others is found by its handle
new_found : (objects : List Object) (more : Object) → object_at more.handle objects ≡ None → object_at more.handle (objects ++ more ∷ []) ≡ Some more
new_found objects more e =
    find-append (is_object more.handle) objects (more ∷ []) ∙ ap (λ o. option_or o (find (is_object more.handle) (more ∷ []))) e
    ∙ ap (λ b. cond b (Some more) None) (eq-eqb more.handle more.handle refl)

-- an object of another handle is found where one was taken away
kept_found : (gone handle : ℕ) (objects : List Object) → (handle ≡ gone → ⊥) → object_at handle (prelude.remove objects (object_place gone objects)) ≡ object_at handle objects
kept_found gone handle [] other = refl
kept_found gone handle (x ∷ xs) other =
    elim (x.handle == gone) as (λ b. (x.handle == gone) ≡ b → object_at handle (prelude.remove (x ∷ xs) (cond (not b) (1 + object_place gone xs) 0)) ≡ object_at handle (x ∷ xs)) [
      | true ↦ λ e. first e (x.handle == handle) refl
      | false ↦ λ e. subst (λ n. object_at handle (prelude.remove (x ∷ xs) n) ≡ object_at handle (x ∷ xs)) (next (object_place gone xs))
          (ap (λ o. cond (x.handle == handle) (Some x) o) (kept_found gone handle xs other))
    ] refl
  where
    next : (n : ℕ) → suc n ≡ 1 + n
    next n = omega arith

    first : (x.handle == gone) ≡ true → (b : Bool) → (x.handle == handle) ≡ b → find (is_object handle) xs ≡ cond b (Some x) (find (is_object handle) xs)
    first e true h = absurd (other (sym (eqb-true x.handle handle h) ∙ eqb-true x.handle gone e))
    first e false h = refl

-- a state with one more object, whose handle is past those of all
abbrev pub with_object : Object → Parts → Parts
with_object object s = record s { next_object = s.next_object + 1; objects = s.objects ++ object ∷ [] }

pub tied_object : (s : Parts) (w : World) (object : Object) → Tied s w → Tied (with_object object s) w
tied_object s w object t = record {
  banks = t.banks;
  pcrs = t.pcrs;
  objects = λ handle bound e. held_on s (with_object object s) w w handle bound (λ x f. still_found handle s.objects object x f) (λ _ k. k) (λ _ k. k) (t.objects handle bound e);
  updates = t.updates;
  update_bindings = t.update_bindings;
  pins = t.pins;
  strange = t.strange;
}

pub same_handle : (q h : ℕ) → eq_by_cmp nat_cmp q h ≡ true → q ≡ h
same_handle q h e = eqb-true q h (sym (unsigned_tied q h) ∙ e)

-- the object that the program sealed is held
pub tied_bound : (s : Parts) (w : World) (object : Object) (b : Binding) → object_at object.handle s.objects ≡ None → object.policy ≡ policy_of b → IsSoundBinding w b
    → AreHashed w (binding_strings b) → Tied s w → Tied (with_object object s) (bound_world object.handle object.secret b w)
tied_bound s w object b none policy sound strings t =
    let more = tied_object s w object t in
    record {
      banks = more.banks;
      pcrs = more.pcrs;
      objects = λ q bound e. by_handle q bound (eq_by_cmp nat_cmp q object.handle) refl
          (sym (get-insert nat_cmp_total w.objects object.handle (record { secret = object.secret; binding = b }) q) ∙ e) (more.objects q bound);
      updates = more.updates;
      update_bindings = more.update_bindings;
      pins = more.pins;
      strange = more.strange;
    }
  where
    by_handle : (q : ℕ) (bound : BoundObject) (same : Bool) → eq_by_cmp nat_cmp q object.handle ≡ same
        → cond same (Some (record { secret = object.secret; binding = b })) (get w.objects q) ≡ Some bound
        → (get w.objects q ≡ Some bound → IsHeld (with_object object s) w q bound)
        → IsHeld (with_object object s) (bound_world object.handle object.secret b w) q bound
    by_handle q bound true c e old =
        let here : q ≡ object.handle = same_handle q object.handle c in
        let is : record { secret = object.secret; binding = b } ≡ bound = cc in
        subst (IsHeld (with_object object s) (bound_world object.handle object.secret b w) q) is (record {
          object = object;
          found = ap (λ h. object_at h (s.objects ++ object ∷ [])) here ∙ new_found s.objects object none;
          secret = refl;
          policy = policy;
          sound = sound_on w (bound_world object.handle object.secret b w) (λ _ k. k) b sound;
          strings = strings;
        })
    by_handle q bound false c e old =
        held_on (with_object object s) (with_object object s) w (bound_world object.handle object.secret b w) q bound (λ _ f. f) (λ _ k. k) (λ _ k. k) (old e)

-- an object less, in the state and in the world
pub tied_evicted : (s : Parts) (w : World) (gone : ℕ) → Tied s w → Tied (record s { objects = prelude.remove s.objects (object_place gone s.objects) }) (evicted_world gone w)
tied_evicted s w gone t = record {
  banks = t.banks;
  pcrs = t.pcrs;
  objects = λ q bound e. by_handle q bound (eq_by_cmp nat_cmp q gone) refl (sym (get-remove nat_cmp_total w.objects gone q) ∙ e);
  updates = t.updates;
  update_bindings = t.update_bindings;
  pins = t.pins;
  strange = t.strange;
}
  where
    by_handle : (q : ℕ) (bound : BoundObject) (same : Bool) → eq_by_cmp nat_cmp q gone ≡ same → cond same None (get w.objects q) ≡ Some bound
        → IsHeld (record s { objects = prelude.remove s.objects (object_place gone s.objects) }) (evicted_world gone w) q bound
    by_handle q bound true c e = cc
    by_handle q bound false c e =
        held_on s (record s { objects = prelude.remove s.objects (object_place gone s.objects) }) w (evicted_world gone w) q bound
        (λ x f. kept_found gone q s.objects (eqb-false q gone (sym (unsigned_tied q gone) ∙ c)) ∙ f) (λ _ k. k) (λ _ k. k) (t.objects q bound e)
