-- The components that folders give have a variant each.
use Rattle.std.proofs.Common.{◌≡◌, ℕ, zero, suc, ◌-◌, ◌≤◌, Bool, true, false, cond, List, [], ◌∷◌, ◌++◌, length, refl, subst, arith}
use Rattle.std.specs.Prelude.{Option, None, Some, Result, Ok, Err, take}
use Rattle.std.specs.Str.{bytes_eq}
use Rattle.std.proofs.lemmas.List.{length-append}
use Rattle.pl_base.specs.FileMap.{FileMap}
use Rattle.cel_record.specs.Spelled.{Spelled}
use Rattle.component_tree.specs.declared.error.TreeError.{TreeError}
use Rattle.component_tree.specs.declared.error.TreeLimit.{TreeLimit}
use Rattle.component_tree.specs.PlainTree.{PlainComponent, PlainVariant}
use Rattle.component_tree.specs.Reading.{added, added_to, last_of, loaded, passes, records_at, tree_in, variant_name, with_file, with_found, within}
use Rattle.component_tree.specs.Step.{◌>>=◌}
use Rattle.component_tree.specs.Taken.{Taken, taken_in}
use Rattle.predictor.proofs.Sound.{HasVariants}

step_ok : {A B : Type 0} (r : Result A TreeError) (f : A → Result B TreeError) (y : B) → (r >>= f) ≡ Ok y → (x : A) × (r ≡ Ok x) × (f x ≡ Ok y)
step_ok (Ok x) f y e = (x, refl, e)
step_ok (Err error) f y e = absurd (cc e)

abbrev done : {A : Type 0} → A → Result A TreeError
done x = Ok x

same_ok : (x y : List PlainComponent) → done x ≡ done y → x ≡ y
same_ok x y e = cc

one_more : (components : List PlainComponent) (c : PlainComponent) → HasVariants components → 1 ≤ length c.variants → HasVariants (components ++ c ∷ [])
one_more [] c all one = (one, tt)
one_more (x ∷ xs) c all one = (all.0, one_more xs c all.1 one)

some_first : (k : ℕ) (components : List PlainComponent) → HasVariants components → HasVariants (take k components)
some_first zero components all = tt
some_first (suc k) [] all = tt
some_first (suc k) (c ∷ components) all = (all.0, some_first k components all.1)

added_has : (last : Option PlainComponent) (components : List PlainComponent) (id : List ℕ) (v : PlainVariant) → HasVariants components → HasVariants (added_to last components id v)
added_has None components id v all = one_more components (record { id = id; variants = v ∷ [] }) all (omega arith)
added_has (Some c) components id v all = by (bytes_eq c.id id)
  where
    more : PlainComponent
    more = record { id = c.id; variants = c.variants ++ v ∷ [] }

    by : (same : Bool) → HasVariants (cond same (take (length components - 1) components ++ more ∷ []) (components ++ record { id = id; variants = v ∷ [] } ∷ []))
    by true = one_more (take (length components - 1) components) more (some_first (length components - 1) components all) (omega (arith, length-append c.variants (v ∷ [])))
    by false = one_more components (record { id = id; variants = v ∷ [] }) all (omega arith)

within_has : (limit : Option TreeLimit) (components all : List PlainComponent) → HasVariants components → within limit components ≡ Ok all → HasVariants all
within_has None components all has e = subst HasVariants (same_ok components all e) has
within_has (Some limit) components all has e = absurd (cc e)

loaded_has : (files : FileMap) (components : List PlainComponent) (taken : Taken) (all : List PlainComponent) → HasVariants components
    → loaded files components taken ≡ Ok all → HasVariants all
loaded_has files components [] all has e = subst HasVariants (same_ok components all e) has
loaded_has files components (one ∷ taken) all has e = loaded_has files first.0 taken all (by read.0 read.2) first.2
  where
    first : (more : List PlainComponent) × (with_file files components one.0 one.1 ≡ Ok more) × (loaded files more taken ≡ Ok all)
    first = step_ok (with_file files components one.0 one.1) (λ more. loaded files more taken) all e

    read : (found : Option (List Spelled)) × (records_at files one.1 ≡ Ok found) × (with_found components one.0 found ≡ Ok first.0)
    read = step_ok (records_at files one.1) (λ found. with_found components one.0 found) first.0 first.1

    by : (found : Option (List Spelled)) → with_found components one.0 found ≡ Ok first.0 → HasVariants first.0
    by None f = subst HasVariants (same_ok components first.0 f) has
    by (Some rs) f =
        let v : PlainVariant = record { name = variant_name one.0.file; records = rs } in
        within_has (passes components one.0.id (length rs)) (added components one.0.id v) first.0 (added_has (last_of components) components one.0.id v has) f

pub tree_has : (files : FileMap) (folders : List (List ℕ)) (all : List PlainComponent) → tree_in files folders ≡ Ok all → HasVariants all
unfolding tree_in
tree_has files folders all e =
    let taken = step_ok (taken_in files folders) (loaded files []) all e in
    loaded_has files [] taken.0 all tt taken.2
