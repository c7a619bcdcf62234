-- What a file stores after it was replaced, and the banks of a TPM that was never used.
use Rattle.std.proofs.Common.{◌≡◌, ◌⊎◌, ℕ, Bool, true, false, cond, List, Option, Some, None, Result, Ok, Err, refl, inl, inr, sym, ap, subst, ◌∙◌}
use Rattle.std.specs.Prelude.{IsTrue}
use Rattle.std.specs.FinMap.{get, insert, get-insert}
use Rattle.std.specs.Ordering.{nat_cmp}
use Rattle.std.specs.Cmp.Lexicographic.{slice_cmp, nat_list_cmp_total}
use Rattle.std.specs.Ordering.{eq_by_cmp}
use Rattle.std.proofs.lemmas.Cmp.{eq_by_cmp_equiv}
use Rattle.hash_bank.specs.declared.bank.Bank.{Bank}
use Rattle.hash_bank.specs.declared.bank.Bank.TheVariants.{Sha1, Sha256, Sha384, Sha512}
use Rattle.hash_bank.specs.declared.banks.Banks.{Banks}
use Rattle.hash_bank.specs.Banks.{has_bank}
use Rattle.pl_base.specs.FileMap.{FileMap}
use Rattle.pl_base.specs.FileAnswers.{ReplaceLeaves}
use Rattle.pl_base.specs.declared.files.ReplaceError.{ReplaceError}
use Rattle.pl_base.specs.declared.files.ReplaceError.TheVariants as replace
use Rattle.tpm_model.specs.declared.parts.Parts.{Parts}
use Rattle.tpm_device.specs.Stored.{Stored, Holds}
use Rattle.tpm_state.specs.declared.version.Version.TheVariants.{Two}
use Rattle.tpm_state.specs.Layout.{text_of}
use Rattle.tpm_state.specs.Storing.{all_banks, stored_by, stored_in, storing, StoreLeaves}

-- the bytes of a path that was set
pub get_set : (files : FileMap) (path bytes : List ℕ) → get (insert files path bytes) path ≡ Some bytes
get_set files path bytes =
    get-insert nat_list_cmp_total files path bytes path ∙ ap (λ same. cond same (Some bytes) (get files path)) ((eq_by_cmp_equiv nat_list_cmp_total).refl path)

map_of : (held : Option FileMap) (path : List ℕ) (kept : Stored) → stored_in held path ≡ Some kept → (files : FileMap) × (held ≡ Some files) × (stored_by (get files path) ≡ kept)
map_of None path kept e = absurd cc
map_of (Some files) path kept e = (files, refl, cc)

pub store_leaves : (before now : Option FileMap) (path bytes : List ℕ) (r : Result Unit ReplaceError) (kept : Stored)
    → ((files : FileMap) → before ≡ Some files → ReplaceLeaves files (insert files path bytes) r now) → stored_in before path ≡ Some kept → StoreLeaves kept (stored_by (Some bytes)) r (stored_in now path)
store_leaves before now path bytes r kept told e =
    let m = map_of before path kept e in
    leaves m.0 r m.2 (told m.0 m.1)
  where
    set : (files : FileMap) → now ≡ Some (insert files path bytes) → stored_in now path ≡ Some (stored_by (Some bytes))
    set files is = ap (λ held. stored_in held path) is ∙ ap (λ found. Some (stored_by found)) (get_set files path bytes)

    old : (files : FileMap) → stored_by (get files path) ≡ kept → now ≡ Some files → stored_in now path ≡ Some kept
    old files same is = ap (λ held. stored_in held path) is ∙ ap Some same

    leaves : (files : FileMap) (r : Result Unit ReplaceError) → stored_by (get files path) ≡ kept → ReplaceLeaves files (insert files path bytes) r now → StoreLeaves kept (stored_by (Some bytes)) r (stored_in now path)
    leaves files (Ok _) same is = set files is
    leaves files (Err replace.Failed) same (inl is) = inl (old files same is)
    leaves files (Err replace.Failed) same (inr is) = inr (set files is)
    leaves files (Err replace.Memory) same is = old files same is

-- the same, at the path that was read, and of the next state as it is known
pub stored_next : (before now : Option FileMap) (path read : List ℕ) (r : Result Unit ReplaceError) (s made next : Parts) → read ≡ path → made ≡ next
    → ((kept : Stored) → stored_in before read ≡ Some kept → StoreLeaves kept (Holds made) r (stored_in now read))
    → stored_in before path ≡ Some (Holds s) → StoreLeaves (Holds s) (Holds next) r (stored_in now path)
stored_next before now path read r s made next same is leaves e =
    subst (λ (l : List ℕ). StoreLeaves (Holds s) (Holds next) r (stored_in now l)) same
    (subst (λ (n : Parts). StoreLeaves (Holds s) (Holds n) r (stored_in now read)) is (leaves (Holds s) (ap (stored_in before) same ∙ e)))

pub text_next : (files : FileMap) (now : Option FileMap) (path read : List ℕ) (r : Result Unit ReplaceError) (made next : Parts) → read ≡ path → made ≡ next
    → ReplaceLeaves files (insert files read (text_of Two made)) r now → ReplaceLeaves files (storing files path next) r now
text_next files now path read r made next same is leaves =
    subst (λ (l : List ℕ). ReplaceLeaves files (storing files l next) r now) same (subst (λ (n : Parts). ReplaceLeaves files (storing files read n) r now) is leaves)

pub is_live : (live : Option Parts) (a b : Parts) → live ≡ Some a → live ≡ Some b → a ≡ b
is_live live a b p q = some_is a b (sym p ∙ q)
  where
    some_is : (a b : Parts) → Some a ≡ Some b → a ≡ b
    some_is a b e = cc

pub banks_all : (banks : Banks) → ((b : Bank) → IsTrue (has_bank banks b)) → banks ≡ all_banks
banks_all banks all = pick banks.sha1 banks.sha256 banks.sha384 banks.sha512 (all Sha1) (all Sha256) (all Sha384) (all Sha512)
  where
    pick : (a b c d : Bool) → a ≡ true → b ≡ true → c ≡ true → d ≡ true → record { sha1 = a; sha256 = b; sha384 = c; sha512 = d } ≡ all_banks
    pick a b c d p q r s = rw (p, q, r, s) refl
