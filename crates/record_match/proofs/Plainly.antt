-- Components as plain data: searches and steps over lists of them.
use Rattle.std.proofs.Common.{◌≡◌, ℕ, ◌+◌, ◌<◌, Bool, true, false, cond, ◌||◌, List, [], ◌∷◌, length, get_or, drop, map, Option, Some, None, refl, sym, ap, ◌∙◌}
use Rattle.std.specs.List.{list_any, position_from}
use Rattle.std.proofs.lemmas.List.{drop_more}
use Rattle.hash_bank.specs.declared.bank.Bank.{Bank}
use Rattle.cel_record.specs.Spelled.{spelled}
use Rattle.component_tree.specs.declared.tree.Variant.{Variant}
use Rattle.component_tree.specs.declared.tree.Component.{Component}
use Rattle.component_tree.specs.PlainTree.{plain_variant, plain_component, plain}
use Rattle.pcr_replay.specs.Row.{Row}
use Rattle.record_match.specs.Lacking.{at_or, first_giving, lacks, lacking_in}
use Rattle.record_match.specs.ListedBy.{tells, lists}

pub position_from-map : {A B : Type 0} (f : A → B) (p : B → Bool) (i : ℕ) (xs : List A) → position_from p i (map f xs) ≡ position_from (λ x. p (f x)) i xs
position_from-map f p i [] = refl
position_from-map f p i (x ∷ xs) = ap (cond (p (f x)) (Some i)) (position_from-map f p (i + 1) xs)

pub list_any-map : {A B : Type 0} (f : A → B) (p : B → Bool) (xs : List A) → list_any p (map f xs) ≡ list_any (λ x. p (f x)) xs
list_any-map f p [] = refl
list_any-map f p (x ∷ xs) = ap (λ b. p (f x) || b) (list_any-map f p xs)

pub list_any-same : {A : Type 0} (p q : A → Bool) → ((x : A) → p x ≡ q x) → (xs : List A) → list_any p xs ≡ list_any q xs
list_any-same p q same [] = refl
list_any-same p q same (x ∷ xs) = ap (λ b. b || list_any p xs) (same x) ∙ ap (λ b. q x || b) (list_any-same p q same xs)

-- what is left of a list begins with its member at the place
pub next : {A : Type 0} (xs : List A) (i : ℕ) (x : A) → i < length xs → x ≡ get_or xs i x → drop i xs ≡ x ∷ drop (i + 1) xs
next xs i x lt is = drop_more xs i x lt ∙ ap (λ (y : _). y ∷ drop (i + 1) xs) (sym is)

-- ---- the first member that gives something

pub giving_here : {A B C : Type 0} (view : C → A) (f : A → Option B) (xs : List C) (i : ℕ) (x : C) (y : B) (whole : Option (ℕ × B)) → i < length xs → x ≡ get_or xs i x → f (view x) ≡ Some y
    → first_giving f i (map view (drop i xs)) ≡ whole → whole ≡ Some (i, y)
giving_here view f xs i x y whole lt is gives so_far =
    sym so_far ∙ ap (λ ys. first_giving f i (map view ys)) (next xs i x lt is) ∙ ap (λ o. at_or i o (first_giving f (i + 1) (map view (drop (i + 1) xs)))) gives

pub giving_later : {A B C : Type 0} (view : C → A) (f : A → Option B) (xs : List C) (i : ℕ) (x : C) (whole : Option (ℕ × B)) → i < length xs → x ≡ get_or xs i x → f (view x) ≡ None
    → first_giving f i (map view (drop i xs)) ≡ whole → first_giving f (i + 1) (map view (drop (i + 1) xs)) ≡ whole
giving_later view f xs i x whole lt is gives so_far =
    sym (ap (λ ys. first_giving f i (map view ys)) (next xs i x lt is) ∙ ap (λ o. at_or i o (first_giving f (i + 1) (map view (drop (i + 1) xs)))) gives) ∙ so_far

pub lacking_plainly : (bank : Bank) (pcr : ℕ) (v : Variant) → position_from (λ r. lacks bank pcr (spelled r)) 0 v.records ≡ lacking_in bank pcr (plain_variant v)
lacking_plainly bank pcr v = sym (position_from-map spelled (lacks bank pcr) 0 v.records)

-- ---- the component that lists an entry

lists_plainly : (entry : Row) (c : Component) → list_any (λ v. list_any (λ r. tells entry (spelled r)) v.records) c.variants ≡ lists entry (plain_component c)
lists_plainly entry c =
    list_any-same (λ v. list_any (λ r. tells entry (spelled r)) v.records) (λ v. list_any (tells entry) (plain_variant v).records) (λ v. sym (list_any-map spelled (tells entry) v.records)) c.variants
    ∙ sym (list_any-map plain_variant (λ v. list_any (tells entry) v.records) c.variants)

pub listed_here : (entry : Row) (cs : List Component) (i : ℕ) (c : Component) (whole : Option ℕ) → i < length cs → c ≡ get_or cs i c → list_any (λ v. list_any (λ r. tells entry (spelled r)) v.records) c.variants ≡ true
    → position_from (lists entry) i (plain (drop i cs)) ≡ whole → whole ≡ Some i
listed_here entry cs i c whole lt is found so_far =
    sym so_far ∙ ap (λ ds. position_from (lists entry) i (plain ds)) (next cs i c lt is) ∙ ap (λ b. cond b (Some i) (position_from (lists entry) (i + 1) (plain (drop (i + 1) cs)))) (sym (lists_plainly entry c) ∙ found)

pub listed_later : (entry : Row) (cs : List Component) (i : ℕ) (c : Component) (whole : Option ℕ) → i < length cs → c ≡ get_or cs i c → list_any (λ v. list_any (λ r. tells entry (spelled r)) v.records) c.variants ≡ false
    → position_from (lists entry) i (plain (drop i cs)) ≡ whole → position_from (lists entry) (i + 1) (plain (drop (i + 1) cs)) ≡ whole
listed_later entry cs i c whole lt is other so_far =
    sym (ap (λ ds. position_from (lists entry) i (plain ds)) (next cs i c lt is) ∙ ap (λ b. cond b (Some i) (position_from (lists entry) (i + 1) (plain (drop (i + 1) cs)))) (sym (lists_plainly entry c) ∙ other)) ∙ so_far
