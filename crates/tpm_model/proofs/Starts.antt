-- The start values of a run of PCRs.
use Rattle.std.proofs.Common.{◌≡◌, ℕ, zero, suc, ◌+◌, ◌-◌, ◌<◌, Bool, true, false, List, [], ◌∷◌, ◌++◌, map, length, replicate, refl, sym, ap, ◌∙◌, append_assoc, append-nil, arith}
use Rattle.hash_bank.specs.declared.bank.Bank.{Bank}
use Rattle.hash_bank.specs.Extending.{start_of}
use Rattle.std.proofs.lemmas.List.{map-append}
use Rattle.hash_bank.specs.declared.bank.Bank.TheVariants.{Sha1, Sha256, Sha384, Sha512}
use Rattle.hash_bank.specs.declared.banks.Banks.{Banks}
use Rattle.hash_bank.specs.Hash.{size_in}
use Rattle.hash_bank.proofs.Sizes.{length-start_of}
use Rattle.tpm_model.specs.Pcrs.{sizes_if, HasValues}
use Rattle.tpm_model.specs.StartValues.{starts_from, starts_if, start_values}

-- the first of the values that are left
pub starts_step : (bank : Bank) (locality pcr : ℕ) → pcr < 24 → starts_from bank locality pcr (24 - pcr) ≡ start_of bank pcr locality ∷ starts_from bank locality (pcr + 1) (24 - (pcr + 1))
unfolding starts_from
starts_step bank locality pcr h =
    let left : 24 - pcr ≡ suc (24 - (pcr + 1)) = omega arith in
    ap (starts_from bank locality pcr) left

-- one value more behind those so far
pub starts_push : (bank : Bank) (locality pcr : ℕ) (values whole : List (List ℕ)) → pcr < 24
    → values ++ starts_from bank locality pcr (24 - pcr) ≡ whole
    → (values ++ start_of bank pcr locality ∷ []) ++ starts_from bank locality (pcr + 1) (24 - (pcr + 1)) ≡ whole
starts_push bank locality pcr values whole h e =
    append_assoc values (start_of bank pcr locality ∷ []) (starts_from bank locality (pcr + 1) (24 - (pcr + 1)))
    ∙ ap (λ xs. values ++ xs) (sym (starts_step bank locality pcr h)) ∙ e

pub starts_end : (bank : Bank) (locality : ℕ) (values : List (List ℕ)) → values ++ starts_from bank locality 24 (24 - 24) ≡ values
unfolding starts_from
starts_end bank locality values = append-nil values

-- each start value has the bank's size
sizes-starts_from : (bank : Bank) (locality pcr n : ℕ) → map length (starts_from bank locality pcr n) ≡ replicate n (size_in bank)
unfolding starts_from
sizes-starts_from bank locality pcr zero = refl
sizes-starts_from bank locality pcr (suc n) =
    let first = length-start_of bank pcr locality in
    let rest = sizes-starts_from bank locality (pcr + 1) n in
    ap (λ k. k ∷ map length (starts_from bank locality (pcr + 1) n)) first ∙ ap (λ ks. size_in bank ∷ ks) rest

sizes-starts_if : (present : Bool) (bank : Bank) (locality : ℕ) → map length (starts_if present bank locality) ≡ sizes_if present (size_in bank)
sizes-starts_if true bank locality = sizes-starts_from bank locality 0 24
sizes-starts_if false bank locality = refl

-- 24 values of its size for each present bank
pub start_sizes : (banks : Banks) (locality : ℕ) → HasValues banks (start_values banks locality)
start_sizes banks locality =
    let a = starts_if banks.sha1 Sha1 locality in let b = starts_if banks.sha256 Sha256 locality in
    let c = starts_if banks.sha384 Sha384 locality in let d = starts_if banks.sha512 Sha512 locality in
    map-append length ((a ++ b) ++ c) d
    ∙ ap (λ xs. xs ++ map length d) (map-append length (a ++ b) c ∙ ap (λ xs. xs ++ map length c) (map-append length a b))
    ∙ (λ i. ((sizes-starts_if banks.sha1 Sha1 locality i ++ sizes-starts_if banks.sha256 Sha256 locality i) ++ sizes-starts_if banks.sha384 Sha384 locality i) ++ sizes-starts_if banks.sha512 Sha512 locality i)
