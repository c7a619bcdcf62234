-- The world after `enroll` is tied to the state that it leaves.
use Rattle.std.proofs.Common.{◌≡◌, ℕ, ◌+◌, Bool, true, false, cond, not, ◌&&◌, List, [], ◌∷◌, ◌++◌, map, length, inl, inr, refl, sym, subst, arith}
use Rattle.std.specs.Prelude.{Option, None, Some, nat_le, ◌==◌}
use Rattle.std.proofs.lemmas.Bool.{cond_both}
use Rattle.hash_bank.specs.declared.bank.Bank.{Bank}
use Rattle.hash_bank.specs.declared.bank.Bank.TheVariants.{Sha1, Sha256, Sha384, Sha512}
use Rattle.policy_digest.specs.Policies.{IsPolicyHash}
use Rattle.policy_file.specs.declared.token.Literal.{Literal}
use Rattle.tpm_model.specs.declared.response.Response.{Response}
use Rattle.tpm_model.specs.declared.object.Object.{Object}
use Rattle.tpm_model.specs.declared.parts.Parts.{Parts}
use Rattle.tpm_model.specs.Binding as binding
use Rattle.tpm_model.specs.Binding.{literal_policy}
use Rattle.tpm_model.specs.ObjectCommands.{seal, is_policy_size, object_handle}
use Rattle.tpm_model.specs.Pcrs.{pcr_of}
use Rattle.tpm_model.specs.ObjectRules.{keeps_object_order}
use Rattle.tpm_model.proofs.Ties.{none_found, tied_hashed, tied_object}
use Rattle.std.proofs.lemmas.List.{map-append}
use Rattle.std.specs.List.{Contains}
use Rattle.std.proofs.lemmas.List.Elements.{Contains-append_left}
use Rattle.hash_bank.specs.HashedString.{HashedString}
use Rattle.nv_index.specs.Handles.{are_handles}
use Rattle.tpm_model.proofs.Handles.{handles_push, handles_from_test}
use Rattle.tpm_model.specs.World.{World}
use Rattle.tpm_model.specs.Tied.{Tied}
use Rattle.tpm_device.specs.Stored.{Holds}
use Rattle.pcrlock_line.specs.Machine.{Live}
use Rattle.pcrlock_seal.specs.declared.condition.Condition.{Condition}
use Rattle.pcrlock_seal.specs.declared.condition.Condition.TheVariants as conditions
use Rattle.pcrlock_seal.specs.Enroll.{sealed_handle, token_written, with_key, with_value, literal_now, literal_hash, enrolled_line}
use Rattle.pcrlock_seal.specs.EnrollWorld.{strings_of, sealed_or, key_world, with_key_world, value_world, enroll_world, key_state, value_state, enroll_state}
use Rattle.pcrlock_seal.proofs.Objects.{tied_sealed}

-- whatever the TPM answered, the state and the world go together
abbrev Goes : List ℕ → Literal → World → Response × Parts → Type 0
Goes key literal w r = Tied r.1 (sealed_or (sealed_handle r.0) key literal w)

accepted : (key : List ℕ) (literal : Literal) (s : Parts) (w : World) (in_range : Bool) → IsPolicyHash literal.hash → keeps_object_order s ≡ true → Tied s w
    → Tied (record s { next_object = s.next_object + 1; objects = s.objects ++ record { handle = object_handle s.next_object; policy = literal_policy literal.hash literal.bank literal.pcr literal.value; secret = key } ∷ [] })
    (sealed_or (cond in_range (Some (object_handle s.next_object)) None) key literal w)
accepted key literal s w true hash rules t =
    tied_sealed s w (record { handle = object_handle s.next_object; policy = literal_policy literal.hash literal.bank literal.pcr literal.value; secret = key })
    (binding.Literal literal.hash literal.bank literal.pcr literal.value)
    (none_found 0x81000000 (0x81000000 + s.next_object) (object_handle s.next_object) s.objects
    (handles_from_test 0x81000000 (0x81000000 + s.next_object) (map (λ (x : Object). x.handle) s.objects) rules) (omega arith)) refl hash t
accepted key literal s w false hash rules t =
    let object : Object = record { handle = object_handle s.next_object; policy = literal_policy literal.hash literal.bank literal.pcr literal.value; secret = key } in
    tied_hashed (record s { next_object = s.next_object + 1; objects = s.objects ++ object ∷ [] }) w (strings_of literal) (tied_object s w object t)

goes : (key : List ℕ) (literal : Literal) (s : Parts) (w : World) → IsPolicyHash literal.hash → keeps_object_order s ≡ true → Tied s w
    → Goes key literal w (seal (literal_policy literal.hash literal.bank literal.pcr literal.value) key s)
goes key literal s w hash rules t =
    let same : Tied s (sealed_or None key literal w) = tied_hashed s w (strings_of literal) t in
    cond_both (length key == 0) _ _ (Goes key literal w) (λ _. same) (λ _.
    cond_both (not (is_policy_size (length (literal_policy literal.hash literal.bank literal.pcr literal.value)))) _ _ (Goes key literal w) (λ _. same) (λ _.
    cond_both (nat_le 64 (length s.objects)) _ _ (Goes key literal w) (λ _. same) (λ _.
    cond_both (nat_le 0x00800000 s.next_object) _ _ (Goes key literal w) (λ _. same) (λ _.
    accepted key literal s w (nat_le 0x81000000 (object_handle s.next_object) && nat_le (object_handle s.next_object) 0x817FFFFF) hash rules t))))

-- the world after a sealed key
key_tied : (key : List ℕ) (literal : Literal) (m : Live) (w : World) → IsPolicyHash literal.hash → keeps_object_order m.state ≡ true → Tied m.state w
    → Tied (seal (literal_policy literal.hash literal.bank literal.pcr literal.value) key m.state).1 (key_world literal key m w)
key_tied key literal m w hash rules t = goes key literal m.state w hash rules t

drawn_tied : (literal : Literal) (key : Option (List ℕ)) (draws : List (List ℕ)) (m : Live) (w : World) → IsPolicyHash literal.hash → keeps_object_order m.state ≡ true → Tied m.state w
    → Tied (key_state literal key draws m.state) (with_key_world literal key draws m w)
drawn_tied literal (Some key) draws m w hash rules t = key_tied key literal m w hash rules t
drawn_tied literal None (word ∷ rest) m w hash rules t = key_tied word literal m w hash rules t
drawn_tied literal None [] m w hash rules t = tied_hashed m.state w (strings_of literal) t

pub policy_bank : (bank : Bank) → IsPolicyHash (literal_hash bank)
policy_bank Sha1 = inl refl
policy_bank Sha256 = inl refl
policy_bank Sha384 = inr refl
policy_bank Sha512 = inr refl

value_tied : (pcr : ℕ) (bank : Bank) (key value : Option (List ℕ)) (m : Live) (w : World) → keeps_object_order m.state ≡ true → Tied m.state w
    → Tied (value_state pcr bank key value m) (value_world pcr bank key value m w)
value_tied pcr bank key None m w rules t = t
value_tied pcr bank key (Some value) m w rules t = drawn_tied (literal_now bank pcr value) key m.draws m w (policy_bank bank) rules t

-- the world after `enroll` is tied to the state that it leaves
pub enroll_tied : (pcr : ℕ) (bank : Bank) (key : Option (List ℕ)) (m : Live) (w : World) → keeps_object_order m.state ≡ true → Tied m.state w
    → Tied (enroll_state pcr bank key m) (enroll_world pcr bank key m w)
enroll_tied pcr bank key m w rules t = value_tied pcr bank key (pcr_of m.state.banks m.state.pcrs bank pcr) m w rules t

-- that state is stored afterwards
written_leaves : (path : List ℕ) (condition : Condition) (o : Option ℕ) (response : Response) (s : Parts) (m : Live) → (token_written path condition o response s m).after.device ≡ Holds s
written_leaves path condition (Some handle) response s m = refl
written_leaves path condition None response s m = refl

key_leaves : (path : List ℕ) (literal : Literal) (key : Option (List ℕ)) (draws : List (List ℕ)) (m : Live) → (with_key path (conditions.Value literal) key draws m).after.device ≡ Holds (key_state literal key draws m.state)
key_leaves path literal (Some key) draws m = written_leaves path (conditions.Value literal) _ _ _ m
key_leaves path literal None (word ∷ rest) m = written_leaves path (conditions.Value literal) _ _ _ (record m { draws = rest })
key_leaves path literal None [] m = refl

value_leaves : (path : List ℕ) (pcr : ℕ) (bank : Bank) (key value : Option (List ℕ)) (m : Live) → (with_value path pcr bank key value m).after.device ≡ Holds (value_state pcr bank key value m)
value_leaves path pcr bank key None m = refl
value_leaves path pcr bank key (Some value) m = key_leaves path (literal_now bank pcr value) key m.draws m

pub enroll_leaves : (path : List ℕ) (pcr : ℕ) (bank : Bank) (key : Option (List ℕ)) (m : Live) → (enrolled_line path pcr bank key m).after.device ≡ Holds (enroll_state pcr bank key m)
enroll_leaves path pcr bank key m = value_leaves path pcr bank key (pcr_of m.state.banks m.state.pcrs bank pcr) m

-- the order of objects stays
sealed_order : (policy key : List ℕ) (s : Parts) → keeps_object_order s ≡ true → keeps_object_order (seal policy key s).1 ≡ true
sealed_order policy key s order =
    let Ordered : Response × Parts → Type 0 = λ r. keeps_object_order r.1 ≡ true in
    cond_both (length key == 0) _ _ Ordered (λ _. order) (λ _.
    cond_both (not (is_policy_size (length policy))) _ _ Ordered (λ _. order) (λ _.
    cond_both (nat_le 64 (length s.objects)) _ _ Ordered (λ _. order) (λ _.
    cond_both (nat_le 0x00800000 s.next_object) _ _ Ordered (λ _. order) (λ _.
    pushed))))
  where
    pushed : are_handles 0x81000000 (0x81000000 + (s.next_object + 1)) (map (λ (x : Object). x.handle) (s.objects ++ record { handle = object_handle s.next_object; policy = policy; secret = key } ∷ [])) ≡ true
    pushed =
        let more : map (λ (x : Object). x.handle) (s.objects ++ record { handle = object_handle s.next_object; policy = policy; secret = key } ∷ []) ≡ map (λ (x : Object). x.handle) s.objects ++ object_handle s.next_object ∷ [] =
        map-append (λ (x : Object). x.handle) s.objects (record { handle = object_handle s.next_object; policy = policy; secret = key } ∷ []) in
        let end : 0x81000000 + s.next_object + 1 ≡ 0x81000000 + (s.next_object + 1) = omega arith in
        let test : are_handles 0x81000000 (object_handle s.next_object + 1) (map (λ (x : Object). x.handle) s.objects ++ object_handle s.next_object ∷ []) ≡ true =
        handles_push 0x81000000 (object_handle s.next_object) (map (λ (x : Object). x.handle) s.objects) (omega arith) order in
        subst (λ (hs : List ℕ). are_handles 0x81000000 (0x81000000 + (s.next_object + 1)) hs ≡ true) (sym more)
        (subst (λ (n : ℕ). are_handles 0x81000000 n (map (λ (x : Object). x.handle) s.objects ++ object_handle s.next_object ∷ []) ≡ true) end test)

drawn_order : (literal : Literal) (key : Option (List ℕ)) (draws : List (List ℕ)) (s : Parts) → keeps_object_order s ≡ true → keeps_object_order (key_state literal key draws s) ≡ true
drawn_order literal (Some key) draws s order = sealed_order (literal_policy literal.hash literal.bank literal.pcr literal.value) key s order
drawn_order literal None (word ∷ rest) s order = sealed_order (literal_policy literal.hash literal.bank literal.pcr literal.value) word s order
drawn_order literal None [] s order = order

value_order : (pcr : ℕ) (bank : Bank) (key value : Option (List ℕ)) (m : Live) → keeps_object_order m.state ≡ true → keeps_object_order (value_state pcr bank key value m) ≡ true
value_order pcr bank key None m order = order
value_order pcr bank key (Some value) m order = drawn_order (literal_now bank pcr value) key m.draws m.state order

pub enroll_order : (pcr : ℕ) (bank : Bank) (key : Option (List ℕ)) (m : Live) → keeps_object_order m.state ≡ true → keeps_object_order (enroll_state pcr bank key m) ≡ true
enroll_order pcr bank key m order = value_order pcr bank key (pcr_of m.state.banks m.state.pcrs bank pcr) m order

-- no string is lost
abbrev Grows : World → World → Type 0
Grows w v = (x : HashedString) → Contains w.hashed x → Contains v.hashed x

grows_key : (literal : Literal) (o : Option ℕ) (key : List ℕ) (w : World) → Grows w (sealed_or o key literal w)
grows_key literal (Some handle) key w x h = Contains-append_left w.hashed (strings_of literal) x h
grows_key literal None key w x h = Contains-append_left w.hashed (strings_of literal) x h

grows_drawn : (literal : Literal) (key : Option (List ℕ)) (draws : List (List ℕ)) (m : Live) (w : World) → Grows w (with_key_world literal key draws m w)
grows_drawn literal (Some key) draws m w = grows_key literal _ key w
grows_drawn literal None (word ∷ rest) m w = grows_key literal _ word w
grows_drawn literal None [] m w = λ x h. Contains-append_left w.hashed (strings_of literal) x h

grows_value : (pcr : ℕ) (bank : Bank) (key value : Option (List ℕ)) (m : Live) (w : World) → Grows w (value_world pcr bank key value m w)
grows_value pcr bank key None m w = λ x h. h
grows_value pcr bank key (Some value) m w = grows_drawn (literal_now bank pcr value) key m.draws m w

pub enroll_grows : (pcr : ℕ) (bank : Bank) (key : Option (List ℕ)) (m : Live) (w : World) (x : HashedString) → Contains w.hashed x → Contains (enroll_world pcr bank key m w).hashed x
enroll_grows pcr bank key m w x h = grows_value pcr bank key (pcr_of m.state.banks m.state.pcrs bank pcr) m w x h
