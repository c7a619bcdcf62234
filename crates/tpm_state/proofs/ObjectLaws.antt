-- Objects that are read are spelled so, and what is spelled so is read.
use Rattle.std.proofs.Common.{◌≡◌, ◌⊎◌, ℕ, ◌<◌, ◌≤◌, Bool, true, false, leb, eqb, ◌||◌, List, ◌∷◌, ◌++◌, length, Ok, refl, sym, ap, subst, ◌∙◌, arith, inl, inr, lit<}
use Rattle.std.specs.Int.{w16, w32, to_be_bytes}
use Rattle.std.proofs.lemmas.Bool.{eqb-true, leb-true, le-leb}
use Rattle.pl_layout.proofs.Steps.{bind_ok, bind_eq, take_test, passed, ok_is}
use Rattle.pl_layout.proofs.Fields.{IsBytes, Takes, Takes-then, Takes-nothing, Taken, Grammar, bytes_take, bytes_again, wide16, wide32, number_grammar, byte_takes}
use Rattle.tpm_model.specs.declared.object.Object.{Object}
use Rattle.tpm_state.specs.declared.version.Version.{Version}
use Rattle.tpm_state.specs.declared.version.Version.TheVariants.{One, Two}
use Rattle.tpm_state.specs.Field.{fault}
use Rattle.tpm_state.specs.Objects.{size_text, secret_text, object_text, SizeFits, ObjectFits, size_at, secret_at, object_at}
use Rattle.tpm_state.proofs.Appends.{regroup_four}

-- ---- the size of a policy

either : (n : ℕ) → (eqb n 32 || eqb n 48) ≡ true → (n ≡ 32) ⊎ (n ≡ 48)
either n e = one_of (eqb n 32) (eqb n 48) (eqb-true n 32) (eqb-true n 48) e
  where
    one_of : {P Q : Type 0} (a b : Bool) → (a ≡ true → P) → (b ≡ true → Q) → (a || b) ≡ true → P ⊎ Q
    one_of true b p q e = inl (p refl)
    one_of false b p q e = inr (q e)

size_takes : (all : ℕ) (version : Version) (bytes : List ℕ) (x : ℕ × List ℕ) → IsBytes bytes → size_at all version bytes ≡ Ok x → Taken (size_text version) (SizeFits version) bytes x
unfolding size_at
size_takes all One bytes x fits e =
    subst (λ (y : ℕ × List ℕ). Taken (size_text One) (SizeFits One) bytes y) (ok_is (32, bytes) x e) (record { takes = Takes-nothing bytes fits; fits = refl })
size_takes all Two bytes x fits e =
    let a = bind_ok e in
    let t = (number_grammar wide16 (fault all)).takes bytes a.value fits a.first in
    let p = passed _ a.second in
    subst (λ (y : ℕ × List ℕ). Taken (size_text Two) (SizeFits Two) bytes y) (ok_is a.value x p.1) (record { takes = t.takes; fits = either a.value.0 p.0 })

two_again : (all size : ℕ) (rest : List ℕ) → (size ≡ 32) ⊎ (size ≡ 48) → size_at all Two (to_be_bytes w16 size ++ rest) ≡ Ok (size, rest)
unfolding size_at
two_again all size rest (inl is) =
    subst (λ (n : ℕ). size_at all Two (to_be_bytes w16 n ++ rest) ≡ Ok (n, rest)) (sym is)
    (bind_eq _ (32, rest) ((number_grammar wide16 (fault all)).again 32 rest (lit< tt)) refl)
two_again all size rest (inr is) =
    subst (λ (n : ℕ). size_at all Two (to_be_bytes w16 n ++ rest) ≡ Ok (n, rest)) (sym is)
    (bind_eq _ (48, rest) ((number_grammar wide16 (fault all)).again 48 rest (lit< tt)) refl)

one_again : (all size : ℕ) (rest : List ℕ) → size ≡ 32 → size_at all One rest ≡ Ok (size, rest)
unfolding size_at
one_again all size rest is = ap (λ (n : ℕ). Ok (n, rest)) (sym is)

size_again : (all : ℕ) (version : Version) (size : ℕ) (rest : List ℕ) → SizeFits version size → size_at all version (size_text version size ++ rest) ≡ Ok (size, rest)
size_again all One size rest fits = one_again all size rest fits
size_again all Two size rest fits = two_again all size rest fits

-- ---- the secret

secret_takes : (all : ℕ) (bytes : List ℕ) (x : List ℕ × List ℕ) → IsBytes bytes → secret_at all bytes ≡ Ok x → Taken secret_text (λ secret. length secret ≤ 128) bytes x
unfolding secret_at
secret_takes all bytes x fits e =
    let a = bind_ok e in
    let p = passed _ a.second in
    let len = byte_takes (fault all) bytes a.value fits a.first in
    let secret = bytes_take (fault all) a.value.0 a.value.1 x len.rest_fits p.1 in
    let few : a.value.0 ≤ 128 = leb-true _ _ p.0 in
    record {
      takes = subst (λ (n : ℕ). Takes bytes (n ∷ x.0) x.1) (sym secret.count) (Takes-then len secret.takes);
      fits = omega (arith, secret.count);
    }

secret_again : (all : ℕ) (secret rest : List ℕ) → length secret ≤ 128 → secret_at all (secret_text secret ++ rest) ≡ Ok (secret, rest)
unfolding secret_at
secret_again all secret rest few = take_test (leb (length secret) 128) _ (le-leb _ _ few) (bytes_again (fault all) (length secret) secret rest refl)

-- ---- an object

object_takes : (all : ℕ) (version : Version) (bytes : List ℕ) (x : Object × List ℕ) → IsBytes bytes → object_at all version bytes ≡ Ok x → Taken (object_text version) (ObjectFits version) bytes x
unfolding object_at
object_takes all version bytes x fits e =
    let a = bind_ok e in
    let b = bind_ok a.second in
    let c = bind_ok b.second in
    let d = bind_ok c.second in
    let handle = (number_grammar wide32 (fault all)).takes bytes a.value fits a.first in
    let size = size_takes all version a.value.1 b.value handle.takes.rest_fits b.first in
    let policy = bytes_take (fault all) b.value.0 b.value.1 c.value size.takes.rest_fits c.first in
    let secret = secret_takes all c.value.1 d.value policy.takes.rest_fits d.first in
    let made : Object × List ℕ = (record { handle = a.value.0; policy = c.value.0; secret = d.value.0 }, d.value.1) in
    let sized : Takes a.value.1 (size_text version (length c.value.0)) b.value.1 = subst (λ (n : ℕ). Takes a.value.1 (size_text version n) b.value.1) (sym policy.count) size.takes in
    subst (λ (y : Object × List ℕ). Taken (object_text version) (ObjectFits version) bytes y) (ok_is made x d.second) (record {
      takes = Takes-then handle.takes (Takes-then sized (Takes-then policy.takes secret.takes));
      fits = record { handle = handle.fits; policy = subst (λ (n : ℕ). SizeFits version n) (sym policy.count) size.fits; secret = secret.fits };
    })

object_again : (all : ℕ) (version : Version) (o : Object) (rest : List ℕ) → ObjectFits version o → object_at all version (object_text version o ++ rest) ≡ Ok (o, rest)
unfolding object_at
object_again all version o rest fits =
    let secret = secret_text o.secret ++ rest in
    let policy = o.policy ++ secret in
    let size = size_text version (length o.policy) ++ policy in
    ap (object_at all version) (regroup_four (to_be_bytes w32 o.handle) (size_text version (length o.policy)) o.policy (secret_text o.secret) rest)
    ∙ bind_eq _ (o.handle, size) ((number_grammar wide32 (fault all)).again o.handle size fits.handle)
    (bind_eq _ (length o.policy, policy) (size_again all version (length o.policy) policy fits.policy)
    (bind_eq _ (o.policy, secret) (bytes_again (fault all) (length o.policy) o.policy secret refl)
    (bind_eq _ (o.secret, rest) (secret_again all o.secret rest fits.secret) refl)))

pub object_grammar : (all : ℕ) (version : Version) → Grammar (object_at all version) (object_text version) (ObjectFits version)
object_grammar all version = record {
  takes = λ bytes x fits e. object_takes all version bytes x fits e;
  again = λ o rest fits. object_again all version o rest fits;
}
