-- A userspace log has no more records than it may have texts.
use Rattle.std.proofs.Common.{◌≡◌, ◌≤◌, ◌+◌, ℕ, suc, Bool, true, false, cond, List, [], ◌∷◌, length, map, refl, sym, ap, ◌∙◌, subst, arith}
use Rattle.std.specs.Prelude.{Option, None, Some, Result, Ok, Err, ◌==◌}
use Rattle.std.specs.Option.{ok_or}
use Rattle.std.specs.List.{slice_split}
use Rattle.std.proofs.lemmas.Bool.{eqb-false}
use Rattle.std.proofs.lemmas.List.{length-map}
use Rattle.cel_record.specs.declared.record.CelRecord.{CelRecord}
use Rattle.cel_record.specs.Spelled.{Spelled, spelled}
use Rattle.cel_record.specs.Step.{◌>>=◌}
use Rattle.userspace_log.specs.declared.error.SeqError.{SeqError}
use Rattle.userspace_log.specs.declared.error.SeqError.TheVariants.{BadSeparator, TooMany}
use Rattle.userspace_log.specs.declared.log.UserLog.{UserLog}
use Rattle.userspace_log.specs.Found.{Found, found, none_found, with_first}
use Rattle.userspace_log.specs.UserText.{is_separator, found_from, log_of, numbered, piece_says, text_limit, text_says, without_feed}

-- a test for the end that lets something through fails
not_at_end : {A : Type 0} (end : Bool) (more : Result A SeqError) (x : A) → cond {A = Result A SeqError} end (Err TooMany) more ≡ Ok x → end ≡ false
not_at_end true more x h = absurd (cc h)
not_at_end false more x h = refl

-- a text that says something is none beyond the limit
below : (n end : ℕ) (p : List ℕ) (said : Option Spelled) → piece_says n end p ≡ Ok said → n ≤ text_limit → n + 1 ≤ text_limit
below n end p said h le =
    let here : (n == text_limit) ≡ false = not_at_end (n == text_limit) (ok_or (without_feed p) (BadSeparator end) >>= λ text. numbered n (text_says text)) said h in
    let other : n ≡ text_limit → ⊥ = eqb-false n text_limit here in
    omega (arith, le, other)

-- with what one text said there is at most one record more
one_more : (n : ℕ) (said : Option Spelled) (g : Found) → n + 1 + length g.records ≤ text_limit → n + length (with_first said g).records ≤ text_limit
one_more n None g h = omega (arith, h)
one_more n (Some r) g h = omega (arith, h)

-- what one text said, and those behind it
first_and_rest : (n : ℕ) (said : Result (Option Spelled) SeqError) (rest : Result Found SeqError) (f : Found)
    → (said >>= λ o. rest >>= λ g. Ok (with_first o g)) ≡ Ok f
    → ((o : Option Spelled) (g : Found) → said ≡ Ok o → rest ≡ Ok g → n + 1 + length g.records ≤ text_limit)
    → n + length f.records ≤ text_limit
first_and_rest n (Err e) rest f h k = absurd (cc h)
first_and_rest n (Ok o) (Err e) f h k = absurd (cc h)
first_and_rest n (Ok o) (Ok g) f h k =
    let same : with_first o g ≡ f = cc h in subst (λ (x : Found). n + length x.records ≤ text_limit) same (one_more n o g (k o g refl refl))

few_from : (n place : ℕ) (ps : List (List ℕ)) (f : Found) → n ≤ text_limit → found_from n place ps ≡ Ok f → n + length f.records ≤ text_limit
few_from n place [] f le h =
    let same : none_found ≡ f = cc h in subst (λ (x : Found). n + length x.records ≤ text_limit) same (omega (arith, le))
few_from n place (p ∷ ps) f le h =
    first_and_rest n (piece_says n (place + 1 + length p) p) (found_from (n + 1) (place + 1 + length p) ps) f h
    (λ o g said rest. few_from (n + 1) (place + 1 + length p) ps g (below n (place + 1 + length p) p o said le) rest)

few_behind : (separated : Bool) (bs : List ℕ) (f : Found)
    → cond {A = Result Found SeqError} separated (found_from 0 0 (slice_split is_separator bs)) (Err (BadSeparator 0)) ≡ Ok f → length f.records ≤ text_limit
few_behind true bs f h = let le : 0 + length f.records ≤ text_limit = few_from 0 0 (slice_split is_separator bs) f (omega arith) h in omega (arith, le)
few_behind false bs f h = absurd (cc h)

few_of : (bytes : List ℕ) (f : Found) → log_of bytes ≡ Ok f → length f.records ≤ text_limit
few_of [] f h = let same : none_found ≡ f = cc h in subst (λ (x : Found). length x.records ≤ text_limit) same (omega arith)
few_of (b ∷ bs) f h = few_behind (is_separator b) bs f h

pub few_read : (bytes : List ℕ) (log : UserLog) → log_of bytes ≡ Ok (found log) → length log.records ≤ text_limit
few_read bytes log h = let le : length (map spelled log.records) ≤ text_limit = few_of bytes (found log) h in rw length-map at le
