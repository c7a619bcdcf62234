-- Which sessions are authorized, and which are not.
use Rattle.std.proofs.Common.{◌≡◌, ℕ, List, [], ◌∷◌, ◌++◌, inl, inr, refl, sym, ap, subst, ◌∙◌, arith, Contains}
use Rattle.std.specs.Prelude.{reverse, None, Some}
use Rattle.std.specs.FinMap.{empty, get, get-empty}
use Rattle.std.specs.List.{AllByRecursion}
use Rattle.std.specs.Ordering.{nat_cmp}
use Rattle.std.proofs.lemmas.List.{reverse-reverse}
use Rattle.hash_bank.specs.declared.bank.Bank.{Bank}
use Rattle.hash_bank.specs.declared.bank.Bank.TheVariants.{Sha256}
use Rattle.hash_bank.specs.Hash.{digest_in}
use Rattle.nv_index.specs.declared.index.Index.{Index}
use Rattle.nv_index.specs.declared.index.Written.{Written}
use Rattle.policy_digest.specs.Levels.{next_level}
use Rattle.policy_digest.specs.PlainTable.{root_of}
use Rattle.tpm_model.specs.declared.parts.Parts.{Parts}
use Rattle.tpm_model.specs.declared.trail.TrailEntry.{TrailEntry}
use Rattle.tpm_model.specs.declared.trail.TrailEntry.TheVariants.{Pcr, AuthorizeNv}
use Rattle.tpm_model.specs.WholeTie.{TiedIndices}
use Rattle.tpm_model.specs.World.{LiveIndex, World}
use Rattle.tpm_model.proofs.TrailSteps.{newest_first}
use Rattle.tpm_walks.specs.Walks.{ReadsNot, Walks}
use Rattle.tpm_walks.proofs.Inside.{walk_reads_not}
use Rattle.tpm_unseals.specs.ByPolicy.{IsAuthorized, written_name}
use Rattle.tpm_unseals.specs.OneList.{one_list}

nothing_in : {A : Type 0} (xs : List A) (x : A) → xs ≡ [] → Contains xs x → ⊥
nothing_in xs x none at = let within = subst (λ ys. Contains ys x) none at in omega (arith, within.1)

-- the program has to have written
pub unwritten : (w : World) (trail : List TrailEntry) (index : ℕ) (pin : List ℕ) → w.writes ≡ [] → IsAuthorized w trail index pin → ⊥
unwritten w trail index pin none by = nothing_in w.writes by.update none by.wrote

same_before : (earlier walk : List TrailEntry) (last entry : TrailEntry) → earlier ++ last ∷ [] ≡ walk ++ entry ∷ [] → earlier ≡ walk
same_before earlier walk last entry e =
    let turned : last ∷ reverse earlier ≡ entry ∷ reverse walk = sym (newest_first earlier last) ∙ ap reverse e ∙ newest_first walk entry in
    let rest : reverse earlier ≡ reverse walk = cc in
    sym (reverse-reverse earlier) ∙ ap reverse rest ∙ reverse-reverse walk

-- there is one PolicyAuthorizeNV, at the end
pub once : (w : World) (earlier : List TrailEntry) (last : TrailEntry) (index : ℕ) (pin : List ℕ) → IsAuthorized w (earlier ++ last ∷ []) index pin → AllByRecursion ReadsNot earlier
once w earlier last index pin by =
    subst (AllByRecursion ReadsNot) (sym (same_before earlier by.walk last _ by.authorized)) (walk_reads_not by.update.table by.walk by.walks)

one_walk : (bank : Bank) (pcrs : ℕ) (list : List ℕ) → Walks (Pcr bank pcrs (digest_in Sha256 list) ∷ []) (one_list bank pcrs list)
unfolding next_level
one_walk bank pcrs list = (0, omega arith, [], refl, refl)

-- one look, and the read of the update
pub one_look : (w : World) (number index : ℕ) (pin : List ℕ) (bank : Bank) (pcrs : ℕ) (list : List ℕ)
    → Contains w.writes (record { number = number; handle = index; pin = pin; table = one_list bank pcrs list })
    → IsAuthorized w (Pcr bank pcrs (digest_in Sha256 list) ∷ AuthorizeNv (written_name index pin) (root_of (one_list bank pcrs list)) number ∷ []) index pin
one_look w number index pin bank pcrs list wrote = record {
  update = record { number = number; handle = index; pin = pin; table = one_list bank pcrs list };
  wrote = wrote;
  same_handle = refl;
  same_pin = refl;
  walk = Pcr bank pcrs (digest_in Sha256 list) ∷ [];
  walks = one_walk bank pcrs list;
  authorized = refl;
}

-- a world that noted neither an update nor a stranger's pin hangs together with no state that has a written index
pub forgotten : (s : Parts) (w : World) (index : Index) (written : Written) → Contains s.indices index → index.written ≡ Some written → w.live ≡ empty → w.strange ≡ [] → TiedIndices s w → ⊥
forgotten s w index written stands was none unknown tie = elim (tie.others index written stands was) [
  | inl live ↦ nothing_live live.0 (sym (get-empty nat_cmp index.public.handle) ∙ ap (λ m. get m index.public.handle) (sym none) ∙ live.1)
  | inr foreign ↦ nothing_in w.strange foreign.pin unknown foreign.presented
]
  where
    nothing_live : (live : LiveIndex) → None ≡ Some live → ⊥
    nothing_live live e = cc
