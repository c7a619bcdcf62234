-- What holds of each entry of a trail, and of the newest.
use Rattle.std.proofs.Common.{◌≡◌, List, [], ◌∷◌, ◌++◌, length, sym, ap, subst, ◌∙◌}
use Rattle.std.specs.Prelude.{reverse}
use Rattle.std.specs.List.{AllByRecursion}
use Rattle.std.proofs.lemmas.List.{reverse-append, reverse-reverse}
use Rattle.hash_bank.specs.declared.bank.Bank.{Bank}
use Rattle.hash_bank.specs.Hash.{size_in}
use Rattle.hash_bank.proofs.Sizes.{length-digest_in, length-zeros_in}
use Rattle.tpm_model.specs.declared.trail.TrailEntry.{TrailEntry}
use Rattle.tpm_model.specs.Trails.{digest_of_in, entry_string_in}

-- what follows of each member of a list
pub all_map : {A : Type 0} (P Q : A → Type 0) → ((x : A) → P x → Q x) → (xs : List A) → AllByRecursion P xs → AllByRecursion Q xs
all_map P Q f [] all = tt
all_map P Q f (x ∷ xs) all = (f x all.0, all_map P Q f xs all.1)

-- what holds of each holds of the last
all_last : {A : Type 0} (P : A → Type 0) (xs : List A) (y : A) → AllByRecursion P (xs ++ y ∷ []) → P y
all_last P [] y all = all.0
all_last P (x ∷ xs) y all = all_last P xs y all.1

-- the newest entry stands at the end
pub newest_last : (trail : List TrailEntry) (entry : TrailEntry) (rest : List TrailEntry) → reverse trail ≡ entry ∷ rest → trail ≡ reverse rest ++ entry ∷ []
newest_last trail entry rest e = sym (reverse-reverse trail) ∙ ap reverse e ∙ reverse-append (entry ∷ []) rest

pub all_newest : (P : TrailEntry → Type 0) (trail : List TrailEntry) (entry : TrailEntry) (rest : List TrailEntry) → reverse trail ≡ entry ∷ rest → AllByRecursion P trail → P entry
all_newest P trail entry rest e all = all_last P (reverse rest) entry (subst (AllByRecursion P) (newest_last trail entry rest e) all)

-- each digest has the size of its hash
pub length-digest_of_in : (hash : Bank) (entries : List TrailEntry) → length (digest_of_in hash entries) ≡ size_in hash
length-digest_of_in hash [] = length-zeros_in hash
length-digest_of_in hash (entry ∷ entries) = length-digest_in hash (entry_string_in hash (digest_of_in hash entries) entry)
