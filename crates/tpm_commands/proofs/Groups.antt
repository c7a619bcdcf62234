-- A list of digests of policies, one after the other.
use Rattle.std.proofs.Common.{◌≡◌, ℕ, ◌+◌, ◌≤◌, Bool, true, false, cond, List, [], ◌∷◌, ◌++◌, length, Option, None, Some, refl, sym, ap, ◌∙◌, arith, append-nil, append_assoc, length-append}
use Rattle.std.specs.Prelude.{nat_le, option_map}
use Rattle.std.specs.Borrow.{Bor}
use Rattle.std.proofs.lemmas.Bool.{le-leb, lt-leb}
use Rattle.pl_text.specs.Parts.{parts_behind, parts_of}
use Rattle.pl_text.proofs.Splits.{has_first}
use Rattle.pl_text.specs.Words.{◌>>=◌}
use Rattle.tpm_commands.specs.Values.{group_of, policies_of, policy_of}

-- the digests before, and those of the texts, where there are at most 8 in all
abbrev pub group_from : List (List ℕ) → List (List ℕ) → Option (List (List ℕ))
group_from before texts = cond (nat_le (length before + length texts) 8) (option_map (λ more. before ++ more) (policies_of texts)) None

same_front : (found : Option (List (List ℕ))) → option_map (λ more. [] ++ more) found ≡ found
same_front None = refl
same_front (Some policies) = refl

-- at first they are those of the word
pub group_first : (word : List ℕ) → group_from [] (parts_of 44 word) ≡ group_of word
group_first word =
    let texts : List (List ℕ) = parts_of 44 word in
    let count : 0 + length texts ≡ length texts = omega arith in
    ap (λ n. cond (nat_le n 8) (option_map (λ more. [] ++ more) (policies_of texts)) None) count
    ∙ ap (λ found. cond (nat_le (length texts) 8) found None) (same_front (policies_of texts))

one_more : (before : List (List ℕ)) (policy : List ℕ) (found : Option (List (List ℕ)))
    → option_map (λ more. before ++ more) (found >>= λ policies. Some (policy ∷ policies)) ≡ option_map (λ more. (before ++ policy ∷ []) ++ more) found
one_more before policy None = refl
one_more before policy (Some policies) = ap Some (sym (append_assoc before (policy ∷ []) policies))

-- one digest more
pub group_more : (before : List (List ℕ)) (text policy : List ℕ) (texts : List (List ℕ)) → policy_of text ≡ Some policy
    → group_from before (text ∷ texts) ≡ group_from (before ++ policy ∷ []) texts
group_more before text policy texts read =
    let count : length before + length (text ∷ texts) ≡ length (before ++ policy ∷ []) + length texts = omega (arith, length-append before (policy ∷ [])) in
    let one : policies_of (text ∷ texts) ≡ (policies_of texts >>= λ policies. Some (policy ∷ policies)) = ap (λ found. found >>= λ p. policies_of texts >>= λ policies. Some (p ∷ policies)) read in
    ap (λ n. cond (nat_le n 8) (option_map (λ more. before ++ more) (policies_of (text ∷ texts))) None) count
    ∙ ap (λ found. cond (nat_le (length (before ++ policy ∷ []) + length texts) 8) found None)
    (ap (option_map (λ more. before ++ more)) one ∙ one_more before policy (policies_of texts))

none_either : (test : Bool) → cond test None None ≡ (let o : Option (List (List ℕ)) = None in o)
none_either true = refl
none_either false = refl

-- a text that is none
pub group_bad : (before : List (List ℕ)) (text : List ℕ) (texts : List (List ℕ)) → policy_of text ≡ None → group_from before (text ∷ texts) ≡ None
group_bad before text texts bad =
    let none : policies_of (text ∷ texts) ≡ None = ap (λ found. found >>= λ p. policies_of texts >>= λ policies. Some (p ∷ policies)) bad in
    ap (λ found. cond (nat_le (length before + length (text ∷ texts)) 8) (option_map (λ more. before ++ more) found) None) none
    ∙ none_either (nat_le (length before + length (text ∷ texts)) 8)

-- behind the last text
pub group_end : (before : List (List ℕ)) → length before ≤ 8 → group_from before [] ≡ Some before
group_end before few =
    let test : nat_le (length before + 0) 8 ≡ true = le-leb (length before + 0) 8 (omega arith) in
    ap (λ b. cond b (Some (before ++ [])) None) test ∙ ap Some (append-nil before)

-- a ninth text
pub group_full : (before : List (List ℕ)) (text : List ℕ) (texts : List (List ℕ)) → 8 ≤ length before → group_from before (text ∷ texts) ≡ None
group_full before text texts full =
    let test : nat_le (length before + length (text ∷ texts)) 8 ≡ false = lt-leb (length before + length (text ∷ texts)) 8 (omega arith) in
    ap (λ b. cond b (option_map (λ more. before ++ more) (policies_of (text ∷ texts))) None) test

-- a further list of texts, which has one
pub group_over : (before : List (List ℕ)) (rest : Option (Bor (List ℕ))) (text : Bor (List ℕ)) (whole : Option (List (List ℕ))) → rest ≡ Some text → 8 ≤ length before
    → group_from before (parts_behind 44 rest) ≡ whole → None ≡ whole
group_over before rest text whole is full read =
    let h = has_first 44 text.now in
    sym (ap (λ t. group_from before (parts_behind 44 t)) is ∙ ap (group_from before) h.is ∙ group_full before h.first h.rest full) ∙ read
