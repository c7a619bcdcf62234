-- One step of each loop that tests whether a log is writable.
use Rattle.std.proofs.Common.{◌≡◌, ℕ, ◌+◌, ◌-◌, ◌*◌, ◌<◌, ◌≤◌, Bool, true, false, leb, ◌&&◌, not, List, [], ◌∷◌, ◌++◌, length, get_or, take, drop, refl, sym, ap, ◌∙◌, arith, length-append}
use Rattle.std.specs.List.{All, AllByRecursion, flat_map, list_all}
use Rattle.std.proofs.lemmas.List.{take_all, take_more, drop_more}
use Rattle.std.proofs.lemmas.List.Elements.{recursion_from_All, All-same}
use Rattle.tcg_log.specs.declared.record.Tagged.{Tagged}
use Rattle.tcg_log.specs.declared.record.FirmwareRecord.{FirmwareRecord}
use Rattle.tcg_log.specs.declared.spec_id.Algorithm.{Algorithm}
use Rattle.tcg_log.specs.declared.spec_id.SpecId.{SpecId}
use Rattle.tcg_log.specs.Text.{algorithm_text, record_text, spec_text, vendor_text}
use Rattle.tcg_log.specs.Allowed.{is_named, size_fits, are_algorithms, tagged_fits, are_digests, is_record}

-- what holds of all that were taken holds of the list
pub all_taken : {X : Type 0} (P : X → Type 0) (xs : List X) (i : ℕ) → length xs ≤ i → All P (take i xs) → AllByRecursion P xs
all_taken P xs i le h = recursion_from_All P xs (All-same P xs (take i xs) (sym (take_all i xs le)) h)

pub algorithms_next : (xs : List Algorithm) (i : ℕ) (a d : Algorithm) → i < length xs → a ≡ get_or xs i d → is_named (take i xs) a.number ≡ false → size_fits a.number a.size ≡ true
    → are_algorithms (take i xs) (drop i xs) ≡ are_algorithms (take (i + 1) xs) (drop (i + 1) xs)
algorithms_next xs i a d lt is new' sized =
    let here : drop i xs ≡ a ∷ drop (i + 1) xs = drop_more xs i d lt ∙ ap (λ x. x ∷ drop (i + 1) xs) (sym is) in
    let before : take (i + 1) xs ≡ take i xs ++ a ∷ [] = take_more xs i d lt ∙ ap (λ x. take i xs ++ x ∷ []) (sym is) in
    ap (are_algorithms (take i xs)) here
    ∙ ap (λ b. (not b && size_fits a.number a.size) && are_algorithms (take i xs ++ a ∷ []) (drop (i + 1) xs)) new'
    ∙ ap (λ b. b && are_algorithms (take i xs ++ a ∷ []) (drop (i + 1) xs)) sized
    ∙ ap (λ b. are_algorithms b (drop (i + 1) xs)) (sym before)

pub digests_next : (algorithms : List Algorithm) (xs : List Tagged) (i : ℕ) (t d : Tagged) → i < length xs → t ≡ get_or xs i d → tagged_fits algorithms (take i xs) t ≡ true
    → are_digests algorithms (take i xs) (drop i xs) ≡ are_digests algorithms (take (i + 1) xs) (drop (i + 1) xs)
digests_next algorithms xs i t d lt is fits =
    let here : drop i xs ≡ t ∷ drop (i + 1) xs = drop_more xs i d lt ∙ ap (λ x. x ∷ drop (i + 1) xs) (sym is) in
    let before : take (i + 1) xs ≡ take i xs ++ t ∷ [] = take_more xs i d lt ∙ ap (λ x. take i xs ++ x ∷ []) (sym is) in
    ap (are_digests algorithms (take i xs)) here
    ∙ ap (λ b. b && are_digests algorithms (take i xs ++ t ∷ []) (drop (i + 1) xs)) fits
    ∙ ap (λ b. are_digests algorithms b (drop (i + 1) xs)) (sym before)

-- whether records are allowed and their texts have no more bytes than are left
abbrev pub rest_fits : List Algorithm → List FirmwareRecord → ℕ → Bool
rest_fits algorithms records left = list_all (is_record algorithms) records && leb (length (flat_map record_text records)) left

same_test : (size more left : ℕ) → size ≤ left → leb (size + more) left ≡ leb more (left - size)
same_test size more left le = grind (arith, le)

pub records_next : (algorithms : List Algorithm) (xs : List FirmwareRecord) (i : ℕ) (r d : FirmwareRecord) (size left : ℕ) → i < length xs → r ≡ get_or xs i d → is_record algorithms r ≡ true → size ≡ length (record_text r) → size ≤ left
    → rest_fits algorithms (drop i xs) left ≡ rest_fits algorithms (drop (i + 1) xs) (left - size)
records_next algorithms xs i r d size left lt is allowed sized le =
    let more = drop (i + 1) xs in
    let here : drop i xs ≡ r ∷ more = drop_more xs i d lt ∙ ap (λ x. x ∷ more) (sym is) in
    let bytes : leb (length (record_text r ++ flat_map record_text more)) left ≡ leb (length (flat_map record_text more)) (left - size) =
    ap (λ n. leb n left) (length-append (record_text r) (flat_map record_text more) ∙ ap (λ n. n + length (flat_map record_text more)) (sym sized)) ∙ same_test size (length (flat_map record_text more)) left le in
    ap (λ rs. rest_fits algorithms rs left) here
    ∙ ap (λ b. (b && list_all (is_record algorithms) more) && leb (length (record_text r ++ flat_map record_text more)) left) allowed
    ∙ ap (λ b. list_all (is_record algorithms) more && b) bytes

-- how many bytes the Spec ID record has
algorithms_length : (algorithms : List Algorithm) → length (flat_map algorithm_text algorithms) ≡ 4 * length algorithms
algorithms_length [] = refl
algorithms_length (a ∷ more) = omega (arith, algorithms_length more, length-append (algorithm_text a) (flat_map algorithm_text more))

pub spec_length : (s : SpecId) → length (spec_text s) ≡ 61 + 4 * length s.algorithms + length s.vendor
spec_length s = omega (arith, algorithms_length s.algorithms, length-append (flat_map algorithm_text s.algorithms) (vendor_text s.vendor))
