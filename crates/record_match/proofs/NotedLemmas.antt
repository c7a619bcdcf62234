-- What is noted for digests, and what follows of the components that list a record.
use Rattle.std.proofs.Common.{◌≡◌, drop_of_length-le, ℕ, zero, suc, ◌+◌, ◌<◌, ◌≤◌, Bool, true, false, cond, ◌&&◌, ◌||◌, ◌⊎◌, List, [], ◌∷◌, length, get_or, drop, map, Option, Some, None, refl, sym, ap, ◌∙◌, subst, inl, inr, true≢false, arith}
use Rattle.std.specs.Prelude.{◌==◌, min}
use Rattle.std.specs.Option.{IsSomeAnd}
use Rattle.std.specs.Ordering.{is_eq, nat_cmp}
use Rattle.std.specs.declared.cmp.Ordering.TheVariants.{Less, Equal, Greater}
use Rattle.std.specs.List.{All, list_any, position_from}
use Rattle.std.specs.Prelude.{nat_lt}
use Rattle.std.specs.BTreeMap.{BTreeMap}
use Rattle.std.proofs.lemmas.Bool.{cases_Bool, eqb-true}
use Rattle.std.proofs.lemmas.List.Elements.{All-head, All-tail}
use Rattle.std.proofs.lemmas.Slice.Eq.{bytes_eq-Decides}
use Rattle.hash_bank.specs.declared.bank.Bank.{Bank}
use Rattle.hash_bank.specs.declared.bank.Bank.TheVariants.{Sha1, Sha256, Sha384, Sha512}
use Rattle.cel_record.specs.Listed.{listed_in}
use Rattle.cel_record.specs.Spelled.{Spelled}
use Rattle.component_tree.specs.PlainTree.{PlainComponent, PlainVariant}
use Rattle.pcr_replay.specs.Row.{Row}
use Rattle.record_match.specs.ListedBy.{agree, agree_where_both, both_have, listed_by_of, lists, share, tells}
use Rattle.record_match.specs.Noted.{IsUpTo, Lowers, NotesAll, NotesComponent, NotesRecord, NotesVariant, key_of, least_noted, lesser, lowest, noted, noted_for}

-- ---- numbers that are noted

weaken : (m n : ℕ) (found : Option ℕ) → m ≤ n → IsUpTo m found → IsUpTo n found
weaken m n None less up = up
weaken m n (Some x) less up = omega (arith, less, up)

-- what is noted stays noted
pub kept_up : (old new : BTreeMap ℕ ℕ) (key n : ℕ) → Lowers old new → IsUpTo n (noted old key) → IsUpTo n (noted new key)
kept_up old new key n lowers up =
    elim (noted old key) as (λ found. noted old key ≡ found → IsUpTo n found → IsUpTo n (noted new key)) [
      | None ↦ λ _ bad. absurd bad
      | Some m ↦ λ is less. weaken m n (noted new key) less (lowers key m is)
    ] refl up

pub lowers_same : (numbers : BTreeMap ℕ ℕ) → Lowers numbers numbers
lowers_same numbers = λ key n is. subst (IsUpTo n) (sym is) (omega arith)

pub lowers_trans : (a b c : BTreeMap ℕ ℕ) → Lowers a b → Lowers b c → Lowers a c
lowers_trans a b c first then = λ key n is. kept_up b c key n then (first key n is)

pub kept_record : (old new : BTreeMap ℕ ℕ) (n : ℕ) (r : Spelled) → Lowers old new → NotesRecord old n r → NotesRecord new n r
kept_record old new n r lowers notes = λ b d is. kept_up old new (key_of r.pcr d) n lowers (notes b d is)

pub kept_variant : (old new : BTreeMap ℕ ℕ) (n : ℕ) (v : PlainVariant) → Lowers old new → NotesVariant old n v → NotesVariant new n v
kept_variant old new n v lowers notes = λ k d inside. kept_record old new n (get_or v.records k d) lowers (notes k d inside)

pub kept_component : (old new : BTreeMap ℕ ℕ) (n : ℕ) (c : PlainComponent) → Lowers old new → NotesComponent old n c → NotesComponent new n c
kept_component old new n c lowers notes = λ k d inside. kept_variant old new n (get_or c.variants k d) lowers (notes k d inside)

tie : (less same : Bool) → is_eq (cond less Less (cond same Equal Greater)) ≡ true → same ≡ true
tie true same e = absurd (true≢false (sym e))
tie false true e = refl
tie false false e = absurd (true≢false (sym e))

same_key : (a b : ℕ) → is_eq (nat_cmp a b) ≡ true → a ≡ b
same_key a b e = eqb-true a b (tie (nat_lt a b) (a == b) e)

lowest_up : (found : Option ℕ) (number : ℕ) → lowest found number ≤ number
lowest_up None number = omega arith
lowest_up (Some n) number = omega arith

lowest_below : (found : Option ℕ) (number n : ℕ) → found ≡ Some n → lowest found number ≤ n
lowest_below None number n is = cc
lowest_below (Some m) number n is = let same : m ≡ n = cc in omega (arith, same)

-- a number that is noted, unless a lesser one is
pub note_lowers : (old new : BTreeMap ℕ ℕ) (key number w : ℕ) → w ≡ lowest (noted old key) number → ((q : ℕ) → noted new q ≡ cond (is_eq (nat_cmp key q)) (Some w) (noted old q)) → Lowers old new
note_lowers old new key number w least updated = λ q n is.
    elim (is_eq (nat_cmp key q)) as (λ b. is_eq (nat_cmp key q) ≡ b → noted new q ≡ cond b (Some w) (noted old q) → IsUpTo n (noted new q)) [
      | true ↦ λ tied now.
          let here : noted old key ≡ Some n = ap (noted old) (same_key key q tied) ∙ is in
          subst (IsUpTo n) (sym now) (omega (arith, least, lowest_below (noted old key) number n here))
      | false ↦ λ _ now. subst (IsUpTo n) (sym (now ∙ is)) (omega arith)
    ] refl (updated q)

pub note_noted : (old new : BTreeMap ℕ ℕ) (key number w : ℕ) → w ≡ lowest (noted old key) number → noted new key ≡ Some w → IsUpTo number (noted new key)
note_noted old new key number w least now =
    subst (IsUpTo number) (sym now) (omega (arith, least, lowest_up (noted old key) number))

-- the digests of a record, bank by bank
pub by_bank : (numbers : BTreeMap ℕ ℕ) (number : ℕ) (r : Spelled)
    → ((d : List ℕ) → r.digests.sha1 ≡ Some d → IsUpTo number (noted numbers (key_of r.pcr d)))
    → ((d : List ℕ) → r.digests.sha256 ≡ Some d → IsUpTo number (noted numbers (key_of r.pcr d)))
    → ((d : List ℕ) → r.digests.sha384 ≡ Some d → IsUpTo number (noted numbers (key_of r.pcr d)))
    → ((d : List ℕ) → r.digests.sha512 ≡ Some d → IsUpTo number (noted numbers (key_of r.pcr d)))
    → NotesRecord numbers number r
by_bank numbers number r sha1 sha256 sha384 sha512 = λ b. elim b as (λ b. (d : List ℕ) → listed_in b r.digests ≡ Some d → IsUpTo number (noted numbers (key_of r.pcr d))) [
  | Sha1 ↦ sha1
  | Sha256 ↦ sha256
  | Sha384 ↦ sha384
  | Sha512 ↦ sha512
]

-- ---- a component that lists an entry

lesser_left : (number : ℕ) (a b : Option ℕ) → IsUpTo number a → IsUpTo number (lesser a b)
lesser_left number None b up = absurd up
lesser_left number (Some x) None up = up
lesser_left number (Some x) (Some y) up = omega (arith, up)

lesser_right : (number : ℕ) (a b : Option ℕ) → IsUpTo number b → IsUpTo number (lesser a b)
lesser_right number None b up = up
lesser_right number (Some x) None up = absurd up
lesser_right number (Some x) (Some y) up = omega (arith, up)

bank_told : (numbers : BTreeMap ℕ ℕ) (number pcr other : ℕ) (mine theirs : Option (List ℕ)) → pcr ≡ other → ((d : List ℕ) → mine ≡ Some d → IsUpTo number (noted numbers (key_of pcr d))) → both_have mine theirs ≡ true → agree_where_both mine theirs ≡ true → IsUpTo number (noted_for numbers other theirs)
bank_told numbers number pcr other None theirs same notes both agrees = absurd (true≢false (sym both))
bank_told numbers number pcr other (Some d) None same notes both agrees = absurd (true≢false (sym both))
bank_told numbers number pcr other (Some d) (Some e) same notes both agrees =
    let equal : d ≡ e = (bytes_eq-Decides d e).0 agrees in
    subst (λ p. IsUpTo number (noted numbers (key_of p e))) same (subst (λ x. IsUpTo number (noted numbers (key_of pcr x))) equal (notes d refl))

any_of : (a b c d : Bool) → (a || b || c || d) ≡ true → (a ≡ true) ⊎ ((b ≡ true) ⊎ ((c ≡ true) ⊎ (d ≡ true)))
any_of true b c d e = inl refl
any_of false true c d e = inr (inl refl)
any_of false false true d e = inr (inr (inl refl))
any_of false false false true e = inr (inr (inr refl))
any_of false false false false e = absurd (true≢false (sym e))

all_of : (a b c d : Bool) → (a && b && c && d) ≡ true → (a ≡ true) × (b ≡ true) × (c ≡ true) × (d ≡ true)
all_of true true true true e = (refl, refl, refl, refl)
all_of true true true false e = absurd (true≢false (sym e))
all_of true true false d e = absurd (true≢false (sym e))
all_of true false c d e = absurd (true≢false (sym e))
all_of false b c d e = absurd (true≢false (sym e))

three : (a b c : Bool) → (a && b && c) ≡ true → (a ≡ true) × (b ≡ true) × (c ≡ true)
three true true true e = (refl, refl, refl)
three true true false e = absurd (true≢false (sym e))
three true false c e = absurd (true≢false (sym e))
three false b c e = absurd (true≢false (sym e))

record_told : (numbers : BTreeMap ℕ ℕ) (number : ℕ) (entry : Row) (r : Spelled) → tells entry r ≡ true → NotesRecord numbers number r → IsUpTo number (least_noted numbers entry.pcr entry.digests)
record_told numbers number entry r told notes =
    let parts = three (r.pcr == entry.pcr) (share r.digests entry.digests) (agree r.digests entry.digests) told in
    let same : r.pcr ≡ entry.pcr = eqb-true r.pcr entry.pcr parts.0 in
    let mine = r.digests in
    let theirs = entry.digests in
    let agrees = all_of (agree_where_both mine.sha1 theirs.sha1) (agree_where_both mine.sha256 theirs.sha256) (agree_where_both mine.sha384 theirs.sha384) (agree_where_both mine.sha512 theirs.sha512) parts.2 in
    let p = entry.pcr in
    let a = noted_for numbers p theirs.sha1 in
    let b = noted_for numbers p theirs.sha256 in
    let c = noted_for numbers p theirs.sha384 in
    let d = noted_for numbers p theirs.sha512 in
    elim (any_of (both_have mine.sha1 theirs.sha1) (both_have mine.sha256 theirs.sha256) (both_have mine.sha384 theirs.sha384) (both_have mine.sha512 theirs.sha512) parts.1) [
      | inl both ↦
          lesser_left number (lesser a b) (lesser c d) (lesser_left number a b (bank_told numbers number r.pcr p mine.sha1 theirs.sha1 same (notes Sha1) both agrees.0))
      | inr (inl both) ↦
          lesser_left number (lesser a b) (lesser c d) (lesser_right number a b (bank_told numbers number r.pcr p mine.sha256 theirs.sha256 same (notes Sha256) both agrees.1))
      | inr (inr (inl both)) ↦
          lesser_right number (lesser a b) (lesser c d) (lesser_left number c d (bank_told numbers number r.pcr p mine.sha384 theirs.sha384 same (notes Sha384) both agrees.2))
      | inr (inr (inr both)) ↦
          lesser_right number (lesser a b) (lesser c d) (lesser_right number c d (bank_told numbers number r.pcr p mine.sha512 theirs.sha512 same (notes Sha512) both agrees.3))
    ]

-- what follows from each member that passes a test, where one does
from_any : {X : Type 0} (p : X → Bool) (P : X → Type 0) (Q : Type 0) (xs : List X) → list_any p xs ≡ true → All P xs → ((x : X) → p x ≡ true → P x → Q) → Q
from_any p P Q [] any all step = absurd (true≢false (sym any))
from_any p P Q (x ∷ xs) any all step =
    elim (p x) as (λ b. p x ≡ b → (b || list_any p xs) ≡ true → Q) [
      | true ↦ λ here _. step x here (All-head P x xs all)
      | false ↦ λ _ more. from_any p P Q xs more (All-tail P x xs all) step
    ] refl any

component_told : (numbers : BTreeMap ℕ ℕ) (number : ℕ) (entry : Row) (c : PlainComponent) → lists entry c ≡ true → NotesComponent numbers number c → IsUpTo number (least_noted numbers entry.pcr entry.digests)
component_told numbers number entry c listed notes =
    let up : Type 0 = IsUpTo number (least_noted numbers entry.pcr entry.digests) in
    from_any (λ (v : PlainVariant). list_any (tells entry) v.records) (NotesVariant numbers number) up c.variants listed notes
    (λ v any all. from_any (tells entry) (NotesRecord numbers number) up v.records any all (λ r told note. record_told numbers number entry r told note))

-- ---- the first component that does

position_skip : {X : Type 0} (p : X → Bool) (n m k : ℕ) (xs : List X) → n + m ≡ k → ((i : ℕ) (d : X) → i < m → i < length xs → p (get_or xs i d) ≡ false) → position_from p n xs ≡ position_from p k (drop m xs)
position_skip p n zero k xs is none = let same : n ≡ k = omega (arith, is) in ap (λ i. position_from p i xs) same
position_skip p n (suc m) k [] is none = refl
position_skip p n (suc m) k (x ∷ xs) is none =
    let here : p x ≡ false = none 0 x (omega arith) (omega arith) in
    let next : n + 1 + m ≡ k = omega (arith, is) in
    ap (λ b. cond b (Some n) (position_from p (n + 1) xs)) here
    ∙ position_skip p (n + 1) m k xs next (λ i d below inside. none (suc i) d (omega (arith, below)) (omega (arith, inside)))

-- no component below the least number lists the entry
pub found_from : (numbers : BTreeMap ℕ ℕ) (entry : Row) (components : List PlainComponent) (m : ℕ) → NotesAll numbers components → Some m ≡ least_noted numbers entry.pcr entry.digests → position_from (lists entry) m (drop m components) ≡ listed_by_of entry components
found_from numbers entry components m notes least =
    sym
    (position_skip (lists entry) 0 m m components (omega arith) (λ i d below inside.
    elim (cases_Bool (lists entry (get_or components i d))) [
      | inl listed ↦
          let up : IsUpTo i (least_noted numbers entry.pcr entry.digests) = component_told numbers i entry (get_or components i d) listed (notes i d inside) in
          let bound : m ≤ i = subst (IsUpTo i) (sym least) up in
          absurd (omega (arith, below, bound))
      | inr other ↦ other
    ]))

-- where no number is noted none does
pub found_none : (numbers : BTreeMap ℕ ℕ) (entry : Row) (components : List PlainComponent) → NotesAll numbers components → None ≡ least_noted numbers entry.pcr entry.digests → None ≡ listed_by_of entry components
found_none numbers entry components notes least =
    sym
    (position_skip (lists entry) 0 (length components) (length components) components (omega arith) (λ i d below inside.
    elim (cases_Bool (lists entry (get_or components i d))) [
      | inl listed ↦
          let up : IsUpTo i (least_noted numbers entry.pcr entry.digests) = component_told numbers i entry (get_or components i d) listed (notes i d inside) in
          absurd (subst (IsUpTo i) (sym least) up)
      | inr other ↦ other
    ])
    ∙ ap (position_from (lists entry) (length components)) (drop_of_length-le components (omega arith)))

-- what holds of each member holds of each as plain data
pub all_mapped : {X Y : Type 0} (f : X → Y) (P : ℕ → Y → Type 0) (xs : List X) → ((k : ℕ) (d : X) → k < length xs → P k (f (get_or xs k d))) → (i : ℕ) (e : Y) → i < length (map f xs) → P i (get_or (map f xs) i e)
all_mapped f P [] all i e inside = absurd (omega (arith, inside))
all_mapped f P (x ∷ xs) all zero e inside = all 0 x (omega arith)
all_mapped f P (x ∷ xs) all (suc i) e inside =
    all_mapped f (λ k. P (suc k)) xs (λ k d below. all (suc k) d (omega (arith, below))) i e (omega (arith, inside))
