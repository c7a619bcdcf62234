-- Which choice of variants explains a list of digests that was measured into a PCR, or why none does.
use Rattle.std.specs.Prelude.{◌≡◌, ℕ, ◌+◌, Bool, not, List, length, take, find, Option, Some, None, Result, Ok, Err}
use Rattle.std.specs.List.{list_any, range_with_len}
use Rattle.hash_bank.specs.declared.bank.Bank.{Bank}
use Rattle.component_tree.specs.PlainTree.{PlainComponent}
use Rattle.record_match.specs.Choices.{choices}
use Rattle.record_match.specs.Extends.{variants_of, extends_of}
use Rattle.record_match.specs.Lacking.{lacking_of}
use Rattle.record_match.specs.Subsequence.{digests_eq, is_subsequence}
use Rattle.record_match.specs.declared.lacking.RecordPlace.{RecordPlace}
use Rattle.record_match.specs.declared.error.MatchError.{MatchError}
use Rattle.record_match.specs.declared.error.MatchError.TheVariants as errors

-- the first choice whose extends are the list
abbrev pub first_explaining : Bank → ℕ → List PlainComponent → List (List ℕ) → Option (List ℕ)
first_explaining bank pcr components list = find (λ c. digests_eq (extends_of bank pcr components c) list) (choices (variants_of components))

-- whether the extends of some choice are a subsequence of the list
abbrev pub some_within : Bank → ℕ → List PlainComponent → List (List ℕ) → Bool
some_within bank pcr components list = list_any (λ c. is_subsequence (extends_of bank pcr components c) list) (choices (variants_of components))

-- the least number i for which no choice of the components 0 to i has its extends as a subsequence of the list
abbrev pub missing_of : Bank → ℕ → List PlainComponent → List (List ℕ) → Option ℕ
missing_of bank pcr components list = find (λ i. not (some_within bank pcr (take (i + 1) components) list)) (range_with_len 0 (length components))

abbrev pub no_digest : RecordPlace → MatchError
no_digest at = errors.NoDigest at.component at.variant at.place

-- the first of these that there is
abbrev pub first_case : Option RecordPlace → Option (List ℕ) → Option ℕ → Result (List ℕ) MatchError
first_case (Some at) explaining missing = Err (no_digest at)
first_case None (Some choice) missing = Ok choice
first_case None None (Some i) = Err (errors.MissingComponent i)
first_case None None None = Err errors.Unrecognised

-- the answer for a list: a record lacks the bank, the first choice that explains it, the first component that it
-- lacks, or none of these
unfoldable pub recognised : Bank → ℕ → List PlainComponent → List (List ℕ) → Result (List ℕ) MatchError
recognised bank pcr components list = first_case (lacking_of bank pcr components) (first_explaining bank pcr components list) (missing_of bank pcr components list)

-- the refusal is that of the definition, or want of memory
abbrev pub Refuses : MatchError → Result (List ℕ) MatchError → Type 0
Refuses (errors.NoDigest i v n) given = given ≡ Err (errors.NoDigest i v n)
Refuses (errors.MissingComponent i) given = given ≡ Err (errors.MissingComponent i)
Refuses errors.Unrecognised given = given ≡ Err errors.Unrecognised
Refuses errors.Memory given = Unit {0}

-- the answer is that of the definition, unless memory ran out
abbrev pub Answers : Result (List ℕ) MatchError → Result (List ℕ) MatchError → Type 0
Answers (Ok choice) given = given ≡ Ok choice
Answers (Err e) given = Refuses e given
