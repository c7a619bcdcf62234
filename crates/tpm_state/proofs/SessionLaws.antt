-- Sessions that are read are spelled so, and what is spelled so is read.
use Rattle.std.proofs.Common.{◌≡◌, ℕ, ◌^◌, ◌<◌, eqb, List, [], ◌∷◌, ◌++◌, Option, Some, None, Ok, Err, refl, sym, ap, subst, ◌∙◌, arith, inl, inr, lit<}
use Rattle.std.specs.Int.{w16, w32, to_be_bytes}
use Rattle.std.proofs.lemmas.Bool.{eqb-true}
use Rattle.hash_bank.specs.declared.bank.Bank.{Bank}
use Rattle.hash_bank.specs.declared.bank.Bank.TheVariants.{Sha256, Sha384}
use Rattle.hash_bank.specs.Hash.{size_in, algorithm_in}
use Rattle.policy_digest.specs.Policies.{IsPolicyHash}
use Rattle.pl_layout.proofs.Steps.{bind_ok, bind_eq, on_test, ok_is}
use Rattle.pl_layout.proofs.Fields.{IsBytes, Takes, Takes-then, Takes-byte, Takes-nothing, Taken, Grammar, bytes_take, bytes_again, wide16, wide32, number_grammar, byte_takes}
use Rattle.pl_layout.proofs.Repeats.{ListFits}
use Rattle.tpm_model.specs.declared.sessions.Session.{Session}
use Rattle.tpm_state.specs.declared.error.DecodeError.{DecodeError}
use Rattle.tpm_state.specs.declared.version.Version.{Version}
use Rattle.tpm_state.specs.declared.version.Version.TheVariants.{One, Two}
use Rattle.tpm_state.specs.Field.{fault, counted_at, counted_text}
use Rattle.tpm_state.specs.Entries.{EntryFits, entry_text, entry_at}
use Rattle.tpm_state.specs.Sessions.{hash_text, noted_text, session_text, HashFits, NotedFits, SessionFits, hash_at, noted_number_at, noted_at, session_at}
use Rattle.tpm_state.proofs.Appends.{regroup_five}
use Rattle.tpm_state.proofs.Counted.{counted_grammar}
use Rattle.tpm_state.proofs.EntryLaws.{entry_grammar}

refused : {A : Type 0} (d : DecodeError) (y : A) → Err d ≡ Ok y → ⊥
refused d y e = cc

-- ---- the hash

hash_takes : (all : ℕ) (version : Version) (bytes : List ℕ) (x : Bank × List ℕ) → IsBytes bytes → hash_at all version bytes ≡ Ok x → Taken (hash_text version) (HashFits version) bytes x
unfolding hash_at
hash_takes all One bytes x fits e =
    subst (λ (y : Bank × List ℕ). Taken (hash_text One) (HashFits One) bytes y) (ok_is (Sha256, bytes) x e) (record { takes = Takes-nothing bytes fits; fits = refl })
hash_takes all Two bytes x fits e =
    let a = bind_ok e in
    let t = (number_grammar wide16 (fault all)).takes bytes a.value fits a.first in
    elim (on_test (eqb a.value.0 11) a.second) [
      | inl p ↦ subst (λ (y : Bank × List ℕ). Taken (hash_text Two) (HashFits Two) bytes y) (ok_is (Sha256, a.value.1) x p.1)
          (record { takes = subst (λ (n : ℕ). Takes bytes (to_be_bytes w16 n) a.value.1) (eqb-true _ _ p.0) t.takes; fits = inl refl })
      | inr q ↦ elim (on_test (eqb a.value.0 12) q.1) [
        | inl p ↦ subst (λ (y : Bank × List ℕ). Taken (hash_text Two) (HashFits Two) bytes y) (ok_is (Sha384, a.value.1) x p.1)
            (record { takes = subst (λ (n : ℕ). Takes bytes (to_be_bytes w16 n) a.value.1) (eqb-true _ _ p.0) t.takes; fits = inr refl })
        | inr q ↦ absurd (refused _ x q.1)
      ]
    ]

two_again : (all : ℕ) (hash : Bank) (rest : List ℕ) → IsPolicyHash hash → hash_at all Two (to_be_bytes w16 (algorithm_in hash) ++ rest) ≡ Ok (hash, rest)
unfolding hash_at
two_again all hash rest (inl is) =
    subst (λ (h : Bank). hash_at all Two (to_be_bytes w16 (algorithm_in h) ++ rest) ≡ Ok (h, rest)) (sym is)
    (bind_eq _ (11, rest) ((number_grammar wide16 (fault all)).again 11 rest (lit< tt)) refl)
two_again all hash rest (inr is) =
    subst (λ (h : Bank). hash_at all Two (to_be_bytes w16 (algorithm_in h) ++ rest) ≡ Ok (h, rest)) (sym is)
    (bind_eq _ (12, rest) ((number_grammar wide16 (fault all)).again 12 rest (lit< tt)) refl)

one_again : (all : ℕ) (hash : Bank) (rest : List ℕ) → hash ≡ Sha256 → hash_at all One rest ≡ Ok (hash, rest)
unfolding hash_at
one_again all hash rest is = ap (λ (h : Bank). Ok (h, rest)) (sym is)

hash_again : (all : ℕ) (version : Version) (hash : Bank) (rest : List ℕ) → HashFits version hash → hash_at all version (hash_text version hash ++ rest) ≡ Ok (hash, rest)
hash_again all One hash rest fits = one_again all hash rest fits
hash_again all Two hash rest fits = two_again all hash rest fits

-- ---- the noted counter

noted_number_takes : (all : ℕ) (bytes : List ℕ) (x : Option ℕ × List ℕ) → IsBytes bytes → noted_number_at all bytes ≡ Ok x → Taken noted_text NotedFits (1 ∷ bytes) x
unfolding noted_number_at
noted_number_takes all bytes x fits e =
    let a = bind_ok e in
    let t = (number_grammar wide32 (fault all)).takes bytes a.value fits a.first in
    let made : Option ℕ × List ℕ = (Some a.value.0, a.value.1) in
    subst (λ (y : Option ℕ × List ℕ). Taken noted_text NotedFits (1 ∷ bytes) y) (ok_is made x a.second) (record { takes = Takes-then (Takes-byte 1 bytes fits) t.takes; fits = t.fits })

noted_number_again : (all n : ℕ) (rest : List ℕ) → n < 2 ^ 32 → noted_number_at all (to_be_bytes w32 n ++ rest) ≡ Ok (Some n, rest)
unfolding noted_number_at
noted_number_again all n rest lt = bind_eq _ (n, rest) ((number_grammar wide32 (fault all)).again n rest lt) refl

behind_flag : (flag n : ℕ) (bytes rest : List ℕ) (x : Option ℕ × List ℕ) → flag ≡ n → Takes bytes (flag ∷ []) rest → Taken noted_text NotedFits (n ∷ rest) x → Taken noted_text NotedFits bytes x
behind_flag flag n bytes rest x is first t =
    let same : bytes ≡ n ∷ rest = first.parts ∙ ap (λ (k : ℕ). k ∷ rest) is in
    subst (λ (b : List ℕ). Taken noted_text NotedFits b x) (sym same) t

noted_takes : (all : ℕ) (bytes : List ℕ) (x : Option ℕ × List ℕ) → IsBytes bytes → noted_at all bytes ≡ Ok x → Taken noted_text NotedFits bytes x
unfolding noted_at
noted_takes all bytes x fits e =
    let a = bind_ok e in
    let first = byte_takes (fault all) bytes a.value fits a.first in
    elim (on_test (eqb a.value.0 0) a.second) [
      | inl p ↦ behind_flag a.value.0 0 bytes a.value.1 x (eqb-true _ _ p.0) first
          (subst (λ (y : Option ℕ × List ℕ). Taken noted_text NotedFits (0 ∷ a.value.1) y) (ok_is (None, a.value.1) x p.1) (record { takes = Takes-byte 0 a.value.1 first.rest_fits; fits = tt }))
      | inr q ↦ elim (on_test (eqb a.value.0 1) q.1) [
        | inl p ↦ behind_flag a.value.0 1 bytes a.value.1 x (eqb-true _ _ p.0) first (noted_number_takes all a.value.1 x first.rest_fits p.1)
        | inr q ↦ absurd (refused _ x q.1)
      ]
    ]

noted_again : (all : ℕ) (noted : Option ℕ) (rest : List ℕ) → NotedFits noted → noted_at all (noted_text noted ++ rest) ≡ Ok (noted, rest)
unfolding noted_at
noted_again all None rest fits = refl
noted_again all (Some n) rest fits = noted_number_again all n rest fits

-- ---- a session

trail_grammar : (all : ℕ) (hash : Bank) → Grammar (counted_at all 0 128 (entry_at all hash)) (counted_text entry_text) (ListFits 0 128 (EntryFits hash))
trail_grammar all hash = counted_grammar (entry_grammar all hash) all 0 128 (lit< tt)

session_takes : (all : ℕ) (version : Version) (bytes : List ℕ) (x : Session × List ℕ) → IsBytes bytes → session_at all version bytes ≡ Ok x → Taken (session_text version) (SessionFits version) bytes x
unfolding session_at
session_takes all version bytes x fits e =
    let a = bind_ok e in
    let b = bind_ok a.second in
    let c = bind_ok b.second in
    let d = bind_ok c.second in
    let f = bind_ok d.second in
    let handle = (number_grammar wide32 (fault all)).takes bytes a.value fits a.first in
    let hash = hash_takes all version a.value.1 b.value handle.takes.rest_fits b.first in
    let digest = bytes_take (fault all) (size_in b.value.0) b.value.1 c.value hash.takes.rest_fits c.first in
    let noted = noted_takes all c.value.1 d.value digest.takes.rest_fits d.first in
    let trail = (trail_grammar all b.value.0).takes d.value.1 f.value noted.takes.rest_fits f.first in
    let made : Session × List ℕ = (record { hash = b.value.0; handle = a.value.0; digest = c.value.0; noted = d.value.0; trail = f.value.0 }, f.value.1) in
    subst (λ (y : Session × List ℕ). Taken (session_text version) (SessionFits version) bytes y) (ok_is made x f.second) (record {
      takes = Takes-then handle.takes (Takes-then hash.takes (Takes-then digest.takes (Takes-then noted.takes trail.takes)));
      fits = record { hash = hash.fits; handle = handle.fits; digest = digest.count; noted = noted.fits; entries = trail.fits.1; trail = trail.fits.2 };
    })

session_again : (all : ℕ) (version : Version) (s : Session) (rest : List ℕ) → SessionFits version s → session_at all version (session_text version s ++ rest) ≡ Ok (s, rest)
unfolding session_at
session_again all version s rest fits =
    let trail = counted_text entry_text s.trail ++ rest in
    let noted = noted_text s.noted ++ trail in
    let digest = s.digest ++ noted in
    let hash = hash_text version s.hash ++ digest in
    ap (session_at all version) (regroup_five (to_be_bytes w32 s.handle) (hash_text version s.hash) s.digest (noted_text s.noted) (counted_text entry_text s.trail) rest)
    ∙ bind_eq _ (s.handle, hash) ((number_grammar wide32 (fault all)).again s.handle hash fits.handle)
    (bind_eq _ (s.hash, digest) (hash_again all version s.hash digest fits.hash)
    (bind_eq _ (s.digest, noted) (bytes_again (fault all) (size_in s.hash) s.digest noted fits.digest)
    (bind_eq _ (s.noted, trail) (noted_again all s.noted trail fits.noted)
    (bind_eq _ (s.trail, rest) ((trail_grammar all s.hash).again s.trail rest (omega arith, fits.entries, fits.trail)) refl))))

pub session_grammar : (all : ℕ) (version : Version) → Grammar (session_at all version) (session_text version) (SessionFits version)
session_grammar all version = record {
  takes = λ bytes x fits e. session_takes all version bytes x fits e;
  again = λ s rest fits. session_again all version s rest fits;
}
