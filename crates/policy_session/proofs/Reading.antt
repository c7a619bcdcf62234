-- The values of a mask's PCRs, read one after the other.
use Rattle.std.proofs.Common.{◌≡◌, ℕ, suc, ◌+◌, ◌*◌, ◌/◌, ◌%◌, ◌<◌, ◌≤◌, ◌==◌, Bool, true, false, cond, List, [], ◌∷◌, ◌++◌, length, take, drop, get_or, refl, sym, ap, ◌∙◌, subst, append_assoc, append-nil, arith}
use Rattle.std.specs.Prelude.{slice_get, Option, Some}
use Rattle.std.proofs.lemmas.Option.{slice_get_within, slice_get_read, get_or_from_slice_get}
use Rattle.std.proofs.lemmas.List.{drop_all, drop_more, get_or-drop, get_or-take, length-drop, length-take}
use Rattle.hash_bank.specs.declared.bank.Bank.{Bank}
use Rattle.hash_bank.specs.declared.banks.Banks.{Banks}
use Rattle.hash_bank.specs.Banks.{has_bank}
use Rattle.tpm_model.specs.declared.parts.Parts.{Parts}
use Rattle.tpm_model.specs.declared.sessions.Session.{Session}
use Rattle.tpm_model.specs.Pcrs.{HasValues, chosen, pcr_of, place_of, banks_before, values_of}
use Rattle.tpm_model.proofs.OnePcr.{present_value}
use Rattle.tpm_model.proofs.PcrPlaces.{IsValueAt, value_at}
use Rattle.tpm_device.specs.Stored.{Stored}
use Rattle.policy_session.specs.OpenSession.{with_open}
use Rattle.tpm_device.specs.Running.{IsLive}

-- the PCRs before this one were read; the mask that is left is that of the others
pub record IsReading (bank : Bank) (pcrs : ℕ) (x : Session) (s : Parts) (keeps : Bool) (pcr left : ℕ) (so_far : List (List ℕ)) (live : Option Parts) (stored : Option Stored) : Type 0 where
  pub is : IsLive keeps (with_open x s) live stored
  pub values : chosen pcrs (values_of s.banks s.pcrs bank) ≡ so_far ++ chosen left (drop pcr (values_of s.banks s.pcrs bank))

-- the value of a present bank's PCR among the bank's values
value_within : (banks : Banks) (pcrs : List (List ℕ)) (bank : Bank) (p : ℕ) (v : List ℕ) → p < 24 → slice_get pcrs (place_of banks bank p) ≡ Some v → slice_get (values_of banks pcrs bank) p ≡ Some v
value_within banks pcrs bank p v h e =
    let n = 24 * banks_before banks bank in
    let within : n + p < length pcrs = slice_get_within pcrs (n + p) v e in
    let long : p < length (take 24 (drop n pcrs)) = omega (arith, length-take 24 (drop n pcrs), length-drop n pcrs) in
    slice_get_read (take 24 (drop n pcrs)) (length (take 24 (drop n pcrs))) p v refl long
    (sym (get_or-take 24 (drop n pcrs) p v h ∙ get_or-drop n pcrs p v ∙ get_or_from_slice_get pcrs (n + p) v v e))

-- the PCR that is next, and those behind it
pub record IsNext (banks : Banks) (pcrs : List (List ℕ)) (bank : Bank) (p : ℕ) : Type 0 where
  pub value : List ℕ
  pub found : pcr_of banks pcrs bank p ≡ Some value
  pub rest : drop p (values_of banks pcrs bank) ≡ value ∷ drop (p + 1) (values_of banks pcrs bank)

pub next_pcr : (banks : Banks) (pcrs : List (List ℕ)) (bank : Bank) (p : ℕ) → HasValues banks pcrs → p < 24 → has_bank banks bank ≡ true → IsNext banks pcrs bank p
next_pcr banks pcrs bank p values below present =
    let there = present_value banks pcrs bank p values below present in
    let v = there.value in
    let at = value_at banks pcrs bank p v values there.found in
    let all = values_of banks pcrs bank in
    let is : slice_get all p ≡ Some v = value_within banks pcrs bank p v below at.found in
    let inside : p < length all = slice_get_within all p v is in
    record {
      value = v;
      found = there.found;
      rest = drop_more all p v inside ∙ ap (λ w. w ∷ drop (p + 1) all) (get_or_from_slice_get all p v v is);
    }

module _ (bank : Bank) (pcrs : ℕ) (x : Session) (s : Parts) (keeps : Bool) (p left : ℕ) (so_far : List (List ℕ)) (live : Option Parts) (stored : Option Stored)
    (reading : IsReading bank pcrs x s keeps p left so_far live stored) where
  -- the values of the bank
  abbrev pub all : List (List ℕ)
  all = values_of s.banks s.pcrs bank

  -- one that isn't asked for
  pub passed_over : IsNext s.banks s.pcrs bank p → (left % 2 == 1) ≡ false → IsReading bank pcrs x s keeps (p + 1) (left / 2) so_far live stored
  passed_over next unasked = record {
    is = reading.is;
    values = reading.values
        ∙ ap (λ rest. so_far ++ chosen left rest) next.rest
        ∙ ap (λ b. so_far ++ cond b (next.value ∷ chosen (left / 2) (drop (p + 1) all)) (chosen (left / 2) (drop (p + 1) all))) unasked;
  }

  -- one that is
  pub read_on : (next : IsNext s.banks s.pcrs bank p) → (left % 2 == 1) ≡ true → (now : Option Parts) (kept : Option Stored) → IsLive keeps (with_open x s) now kept
      → IsReading bank pcrs x s keeps (p + 1) (left / 2) (so_far ++ next.value ∷ []) now kept
  read_on next asked now kept is = record {
    is = is;
    values = reading.values
        ∙ ap (λ rest. so_far ++ chosen left rest) next.rest
        ∙ ap (λ b. so_far ++ cond b (next.value ∷ chosen (left / 2) (drop (p + 1) all)) (chosen (left / 2) (drop (p + 1) all))) asked
        ∙ sym (append_assoc so_far (next.value ∷ []) (chosen (left / 2) (drop (p + 1) all)));
  }

  -- all were read
  pub all_read : 24 ≤ p → chosen pcrs all ≡ so_far
  all_read past =
      let long : length all ≤ p = omega (arith, past, length-take 24 (drop (24 * banks_before s.banks bank) s.pcrs)) in
      reading.values ∙ ap (λ rest. so_far ++ chosen left rest) (drop_all p all long) ∙ append-nil so_far
