-- The rows of a client whose session starts or ends.
use Rattle.std.proofs.Common.{◌≡◌, ℕ, ◌+◌, ◌<◌, ◌≤◌, true, List, [], ◌∷◌, ◌++◌, length, map, refl, sym, ap, ◌∙◌, subst, arith}
use Rattle.std.specs.Prelude.{None, Some, remove, unwrap_or}
use Rattle.std.specs.List.{position, position_or_len}
use Rattle.std.proofs.lemmas.List.{length_push, map_push}
use Rattle.std.proofs.lemmas.List.Edits.{length-remove}
use Rattle.nv_index.specs.Handles.{are_handles}
use Rattle.nv_index.proofs.Handles.{handles_push, handles_remove}
use Rattle.nv_index.proofs.Lists.{map-remove}
use Rattle.nv_index.proofs.Places.{place_or_len}
use Rattle.tpm_model.specs.SessionCommands.{session_handle}
use Rattle.tpm_broker.specs.declared.rows.Handles.{Handles}
use Rattle.tpm_broker.specs.Clients.{Client, IsClient, is_own, without}

remove_past : {A : Type 0} (xs : List A) → remove xs (length xs) ≡ xs
remove_past [] = refl
remove_past (x ∷ xs) = ap (λ ys. x ∷ ys) (remove_past xs)

-- a client by its number of sessions and the open ones
abbrev pub client_of : ℕ → List Handles → Client
client_of had sessions = record { had = had; sessions = sessions }

pub ended : (had own place : ℕ) (xs ys : List Handles) → position (is_own own) xs ≡ Some place → ys ≡ remove xs place → client_of had ys ≡ without own (client_of had xs)
ended had own place xs ys found gone =
    let at : place ≡ position_or_len (is_own own) xs = sym (ap (λ o. unwrap_or o (length xs)) found) ∙ place_or_len (is_own own) xs in
    ap (client_of had) (gone ∙ ap (remove xs) at)

pub unchanged : (had own : ℕ) (xs : List Handles) → position (is_own own) xs ≡ None → client_of had xs ≡ without own (client_of had xs)
unchanged had own xs found =
    let at : length xs ≡ position_or_len (is_own own) xs = sym (ap (λ o. unwrap_or o (length xs)) found) ∙ place_or_len (is_own own) xs in
    ap (client_of had) (sym (remove_past xs) ∙ ap (remove xs) at)

-- what is kept of a client, is kept where one session starts or ends
pub kept_started : (had tpm : ℕ) (xs ys : List Handles) → IsClient (client_of had xs) → length xs < 4 → had < 0x01000000
    → ys ≡ xs ++ record { own = session_handle had; tpm = tpm } ∷ [] → IsClient (client_of (had + 1) ys)
kept_started had tpm xs ys kept few low e =
    let new : Handles = record { own = session_handle had; tpm = tpm } in
    let more : length (xs ++ new ∷ []) ≡ length xs + 1 = length_push xs new in
    let end : session_handle had + 1 ≡ session_handle (had + 1) = omega arith in
    subst (λ zs. IsClient (client_of (had + 1) zs)) (sym e) (record {
      few = omega arith;
      numbers = omega arith;
      order = subst (λ n. are_handles 0x03000000 n (map (λ (h : Handles). h.own) (xs ++ new ∷ [])) ≡ true) end
          (subst (λ (os : List ℕ). are_handles 0x03000000 (session_handle had + 1) os ≡ true) (sym (map_push (λ (h : Handles). h.own) xs new))
          (handles_push 0x03000000 (session_handle had) (map (λ (h : Handles). h.own) xs) (omega arith) kept.order));
    })

pub kept_ended : (had place : ℕ) (xs ys : List Handles) → IsClient (client_of had xs) → place < length xs → ys ≡ remove xs place → IsClient (client_of had ys)
kept_ended had place xs ys kept within e =
    let less : length (remove xs place) + 1 ≡ length xs = length-remove xs place within in
    let four : length xs ≤ 4 = kept.few in
    subst (λ zs. IsClient (client_of had zs)) (sym e) (record {
      few = omega arith;
      numbers = kept.numbers;
      order = subst (λ (os : List ℕ). are_handles 0x03000000 (session_handle had) os ≡ true) (sym (map-remove (λ (h : Handles). h.own) xs place))
          (handles_remove 0x03000000 (session_handle had) (map (λ (h : Handles). h.own) xs) place kept.order);
    })
