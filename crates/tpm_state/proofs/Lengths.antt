-- How long the text of a state can be.
use Rattle.std.proofs.Common.{◌≡◌, ℕ, zero, suc, ◌+◌, ◌*◌, ◌≤◌, ◌<◌, Bool, true, false, cond, List, [], ◌∷◌, ◌++◌, length, map, replicate, Option, Some, None, refl, inl, inr, sym, ap, subst, ◌∙◌, arith, lit≤}
use Rattle.std.specs.List.{flat_map, AllByRecursion}
use Rattle.std.specs.Int.{w16, w32, to_be_bytes}
use Rattle.std.proofs.lemmas.List.{length-append}
use Rattle.std.proofs.Math.Nat.{suc-mul, zero-mul}
use Rattle.hash_bank.specs.declared.bank.Bank.{Bank}
use Rattle.hash_bank.specs.declared.bank.Bank.TheVariants.{Sha1, Sha256, Sha384, Sha512}
use Rattle.hash_bank.specs.declared.banks.Banks.{Banks}
use Rattle.hash_bank.specs.Hash.{size_in, algorithm_in}
use Rattle.nv_index.specs.declared.index.Index.{Index}
use Rattle.nv_index.specs.declared.index.Written.{Written}
use Rattle.tpm_model.specs.declared.trail.TrailEntry.{TrailEntry}
use Rattle.tpm_model.specs.declared.trail.TrailEntry.TheVariants.{Pcr, Or, AuthorizeNv}
use Rattle.tpm_model.specs.declared.sessions.Session.{Session}
use Rattle.tpm_model.specs.declared.object.Object.{Object}
use Rattle.tpm_model.specs.declared.parts.Parts.{Parts}
use Rattle.tpm_model.specs.Pcrs.{HasValues, sizes_of}
use Rattle.tpm_state.specs.declared.version.Version.{Version}
use Rattle.tpm_state.specs.declared.version.Version.TheVariants.{One, Two}
use Rattle.tpm_state.specs.Field.{counted_text, digest_text}
use Rattle.tpm_state.specs.Header.{magic_text, banks_byte, values_text, counters_text}
use Rattle.tpm_state.specs.Entries.{entry_text, mask_text, EntryFits}
use Rattle.tpm_state.specs.Sessions.{hash_text, noted_text, session_text, SessionFits}
use Rattle.tpm_state.specs.Indices.{written_text, index_text, WrittenFits, IndexFits}
use Rattle.tpm_state.specs.Objects.{size_text, secret_text, object_text, SizeFits, ObjectFits}
use Rattle.tpm_state.specs.Layout.{counters_of, lists_text, body_text, text_of, HasLayout}

-- items that are each at most so long
flat_most : {A : Type 0} (text : A → List ℕ) (Fits : A → Type 0) (most : ℕ) → ((a : A) → Fits a → length (text a) ≤ most) → (items : List A) → AllByRecursion Fits items → length (flat_map text items) ≤ length items * most
flat_most text Fits most each [] fits = omega (arith, zero-mul most)
flat_most text Fits most each (a ∷ items) fits =
    omega (arith, suc-mul (length items) most, length-append (text a) (flat_map text items), each a fits.0, flat_most text Fits most each items fits.1)

size_most : (bank : Bank) → size_in bank ≤ 64
size_most Sha1 = lit≤ tt
size_most Sha256 = lit≤ tt
size_most Sha384 = lit≤ tt
size_most Sha512 = lit≤ tt

-- ---- the values

abbrev total : List ℕ → ℕ
total [] = 0
total (n ∷ ns) = n + total ns

flat_sum : (xs : List (List ℕ)) → length (flat_map digest_text xs) ≡ total (map length xs)
flat_sum [] = refl
flat_sum (x ∷ xs) = length-append x (flat_map digest_text xs) ∙ ap (λ (n : ℕ). length x + n) (flat_sum xs)

sizes_most : (banks : Banks) → total (sizes_of banks) ≤ 3936
sizes_most banks = most banks.sha1 banks.sha256 banks.sha384 banks.sha512
  where
    most : (a b c d : Bool) → total (sizes_of (record { sha1 = a; sha256 = b; sha384 = c; sha512 = d })) ≤ 3936
    most false false false false = lit≤ tt
    most false false false true = lit≤ tt
    most false false true false = lit≤ tt
    most false false true true = lit≤ tt
    most false true false false = lit≤ tt
    most false true false true = lit≤ tt
    most false true true false = lit≤ tt
    most false true true true = lit≤ tt
    most true false false false = lit≤ tt
    most true false false true = lit≤ tt
    most true false true false = lit≤ tt
    most true false true true = lit≤ tt
    most true true false false = lit≤ tt
    most true true false true = lit≤ tt
    most true true true false = lit≤ tt
    most true true true true = lit≤ tt

values_most : (s : Parts) → HasValues s.banks s.pcrs → length (values_text s.pcrs) ≤ 3936
values_most s fits =
    let whole : length (values_text s.pcrs) ≡ total (sizes_of s.banks) = flat_sum s.pcrs ∙ ap total fits in
    omega (arith, sizes_most s.banks)

-- ---- the records

entry_most : (hash : Bank) (entry : TrailEntry) → EntryFits hash entry → length (entry_text entry) ≤ 600
entry_most hash (Pcr bank pcrs values) fits =
    omega (arith, size_most hash, fits.1, length-append (to_be_bytes w16 (algorithm_in bank)) (mask_text pcrs ++ values), length-append (mask_text pcrs) values)
entry_most hash (Or list) fits =
    omega (arith, fits.1, flat_most digest_text (λ (digest : List ℕ). length digest ≡ size_in hash) 64 (λ digest is. omega (arith, size_most hash)) list fits.2)
entry_most hash (AuthorizeNv name digest written) fits =
    omega (arith, fits.0, fits.1, length-append name (digest ++ to_be_bytes w32 written), length-append digest (to_be_bytes w32 written))

noted_most : (noted : Option ℕ) → length (noted_text noted) ≤ 5
noted_most None = lit≤ tt
noted_most (Some n) = lit≤ tt

hash_most : (version : Version) (hash : Bank) → length (hash_text version hash) ≤ 2
hash_most One hash = lit≤ tt
hash_most Two hash = lit≤ tt

session_most : (version : Version) (s : Session) → SessionFits version s → length (session_text version s) ≤ 76900
session_most version s fits =
    let trail = flat_most entry_text (EntryFits s.hash) 600 (entry_most s.hash) s.trail fits.trail in
    let a = length-append (hash_text version s.hash) (s.digest ++ (noted_text s.noted ++ counted_text entry_text s.trail)) in
    let b = length-append s.digest (noted_text s.noted ++ counted_text entry_text s.trail) in
    let c = length-append (noted_text s.noted) (counted_text entry_text s.trail) in
    omega (arith, trail, a, b, c, fits.entries, fits.digest, size_most s.hash, noted_most s.noted, hash_most version s.hash)

written_most : (is_written : Bool) (written : Option Written) → WrittenFits is_written written → length (written_text written) ≤ 38
written_most is_written None fits = lit≤ tt
written_most is_written (Some w) fits = omega (arith, fits.2, length-append (to_be_bytes w32 w.number) w.value)

index_most : (index : Index) → IndexFits index → length (index_text index) ≤ 80
index_most index fits =
    let p = index.public in
    let a = length-append p.policy (to_be_bytes w16 p.size ++ written_text index.written) in
    omega (arith, a, fits.policy, written_most _ index.written fits.written)

policy_most : (version : Version) (size : ℕ) → SizeFits version size → size ≤ 48
policy_most One size fits = omega arith
policy_most Two size fits = elim fits [ inl is ↦ omega arith | inr is ↦ omega arith ]

written_size_most : (version : Version) (size : ℕ) → length (size_text version size) ≤ 2
written_size_most One size = lit≤ tt
written_size_most Two size = lit≤ tt

object_most : (version : Version) (o : Object) → ObjectFits version o → length (object_text version o) ≤ 183
object_most version o fits =
    let a = length-append (size_text version (length o.policy)) (o.policy ++ secret_text o.secret) in
    let b = length-append o.policy (secret_text o.secret) in
    omega (arith, a, b, fits.secret, policy_most version (length o.policy) fits.policy, written_size_most version (length o.policy))

-- ---- the whole

pub text_most : (version : Version) (s : Parts) → HasLayout version s → length (text_of version s) ≤ 16777216
text_most version s fits =
    let sessions = flat_most (session_text version) (SessionFits version) 76900 (session_most version) s.sessions fits.sessions in
    let indices = flat_most index_text IndexFits 80 index_most s.indices fits.indices in
    let objects = flat_most (object_text version) (ObjectFits version) 183 (object_most version) s.objects fits.objects in
    let tail = counted_text index_text s.indices ++ counted_text (object_text version) s.objects in
    let a = length-append (magic_text version) (body_text version s) in
    let b = length-append (values_text s.pcrs) (counters_text (counters_of s) ++ (counted_text (session_text version) s.sessions ++ tail)) in
    let d = length-append (counted_text (session_text version) s.sessions) tail in
    let e = length-append (counted_text index_text s.indices) (counted_text (object_text version) s.objects) in
    omega (arith, magic version, a, b, d, e, sessions, indices, objects, values_most s fits.values, fits.session_count, fits.index_count, fits.object_count)
  where
    magic : (version : Version) → length (magic_text version) ≡ 8
    magic One = refl
    magic Two = refl
