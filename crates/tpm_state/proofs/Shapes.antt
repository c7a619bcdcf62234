-- What the layout can hold is what a state from outside must have, and every state has a layout.
use Rattle.std.proofs.Common.{◌≡◌, ◌⊎◌, ℕ, ◌+◌, ◌^◌, ◌<◌, ◌≤◌, Bool, true, false, not, leb, ltb, eqb, ◌&&◌, ◌||◌, List, [], ◌∷◌, ◌++◌, length, map, reverse, Option, Some, None, refl, inl, inr, sym, ap, subst, ◌∙◌, arith, lit<}
use Rattle.std.specs.List.{AllByRecursion, list_all}
use Rattle.std.specs.Str.{bytes_eq}
use Rattle.std.proofs.lemmas.Bool.{leb-true, ltb-true, eqb-true, and_parts}
use Rattle.std.proofs.lemmas.List.{reverse-append, reverse-reverse}
use Rattle.hash_bank.specs.declared.bank.Bank.{Bank}
use Rattle.hash_bank.specs.declared.bank.Bank.TheVariants.{Sha256}
use Rattle.nv_index.specs.declared.index.Index.{Index}
use Rattle.nv_index.specs.declared.index.Written.{Written}
use Rattle.tpm_model.specs.declared.trail.TrailEntry.{TrailEntry}
use Rattle.tpm_model.specs.declared.trail.TrailEntry.TheVariants.{Pcr, Or, AuthorizeNv}
use Rattle.tpm_model.specs.declared.sessions.Session.{Session}
use Rattle.tpm_model.specs.declared.object.Object.{Object}
use Rattle.tpm_model.specs.declared.parts.Parts.{Parts}
use Rattle.nv_index.specs.Handles.{are_handles}
use Rattle.tpm_model.specs.Trails.{digest_of_in, has_pcr_entry}
use Rattle.tpm_model.specs.SessionRules.{is_noted_by, is_noted, agrees_with, is_sha256, is_read, are_reads, has_reads}
use Rattle.nv_index.specs.Table.{has_written, is_numbered_within, is_counted, are_apart, has_attributes}
use Rattle.tpm_model.specs.Shape.{HasShape, IsEntryShape, IsSessionShape, IsWrittenShape, IsIndexShape, IsObjectShape}
use Rattle.tpm_model.specs.Rules.{HasRules}
use Rattle.tpm_state.specs.declared.version.Version.{Version}
use Rattle.tpm_state.specs.declared.version.Version.TheVariants.{One, Two}
use Rattle.tpm_state.specs.Entries.{EntryFits}
use Rattle.tpm_state.specs.Sessions.{HashFits, NotedFits, SessionFits}
use Rattle.tpm_state.specs.Indices.{WrittenFits, IndexFits}
use Rattle.tpm_state.specs.Objects.{SizeFits, ObjectFits}
use Rattle.tpm_state.specs.Layout.{HasLayout}
use Rattle.tpm_state.specs.Spelling.{IsOfSha256}

-- ---- lists

all_map : {A : Type 0} (P Q : A → Type 0) → ((a : A) → P a → Q a) → (items : List A) → AllByRecursion P items → AllByRecursion Q items
all_map P Q f [] all = tt
all_map P Q f (a ∷ items) all = (f a all.0, all_map P Q f items all.1)

all_both : {A : Type 0} (P Q R : A → Type 0) → ((a : A) → P a → Q a → R a) → (items : List A) → AllByRecursion P items → AllByRecursion Q items → AllByRecursion R items
all_both P Q R f [] p q = tt
all_both P Q R f (a ∷ items) p q = (f a p.0 q.0, all_both P Q R f items p.1 q.1)

all_passes : {A : Type 0} (p : A → Bool) (items : List A) → list_all p items ≡ true → AllByRecursion (λ (a : A). p a ≡ true) items
all_passes p [] e = tt
all_passes p (a ∷ items) e = let both = and_parts (p a) (list_all p items) e in (both.0, all_passes p items both.1)

all_append : {A : Type 0} (P : A → Type 0) (xs ys : List A) → AllByRecursion P xs → AllByRecursion P ys → AllByRecursion P (xs ++ ys)
all_append P [] ys p q = q
all_append P (x ∷ xs) ys p q = (p.0, all_append P xs ys p.1 q)

all_reverse : {A : Type 0} (P : A → Type 0) (xs : List A) → AllByRecursion P xs → AllByRecursion P (reverse xs)
all_reverse P [] all = tt
all_reverse {A = A} P (x ∷ xs) all =
    let turned : reverse (x ∷ xs) ≡ reverse xs ++ x ∷ [] = reverse-append (x ∷ []) xs in
    subst (λ (l : List A). AllByRecursion P l) (sym turned) (all_append P (reverse xs) (x ∷ []) (all_reverse P xs all.1) (all.0, tt))

-- ---- what is laid out has a shape

entry_shape : (hash : Bank) (entry : TrailEntry) → EntryFits hash entry → IsEntryShape hash entry
entry_shape hash (Pcr bank pcrs values) fits = record { mask = fits.0; values = fits.1 }
entry_shape hash (Or list) fits = record { two = fits.0; eight = fits.1; sizes = fits.2 }
entry_shape hash (AuthorizeNv name digest written) fits = record { name = fits.0; digest = fits.1 }

session_shape : (version : Version) (s : Session) → SessionFits version s → IsSessionShape s
session_shape One s fits = record { hash = inl fits.hash; digest = fits.digest; trail = fits.entries; entries = all_map (EntryFits s.hash) (IsEntryShape s.hash) (entry_shape s.hash) s.trail fits.trail }
session_shape Two s fits = record { hash = fits.hash; digest = fits.digest; trail = fits.entries; entries = all_map (EntryFits s.hash) (IsEntryShape s.hash) (entry_shape s.hash) s.trail fits.trail }

written_shape : (attributes : ℕ) (written : Option Written) → WrittenFits (has_written attributes) written → IsWrittenShape attributes written
written_shape attributes None fits = fits
written_shape attributes (Some w) fits = (fits.0, fits.2)

index_shape : (index : Index) → IndexFits index → IsIndexShape index
index_shape index fits = record { policy = fits.policy; written = written_shape index.public.attributes index.written fits.written }

object_shape : (version : Version) (o : Object) → ObjectFits version o → IsObjectShape o
object_shape One o fits = record { policy = inl fits.policy; secret = fits.secret }
object_shape Two o fits = record { policy = fits.policy; secret = fits.secret }

pub laid_shape : (version : Version) (s : Parts) → HasLayout version s → HasShape s
laid_shape version s fits = record {
  values = fits.values;
  updates = fits.update_counter;
  writes = fits.write_counter;
  session_count = fits.session_count;
  sessions = all_map (SessionFits version) IsSessionShape (session_shape version) s.sessions fits.sessions;
  index_count = fits.index_count;
  indices = all_map IndexFits IsIndexShape index_shape s.indices fits.indices;
  object_count = fits.object_count;
  objects = all_map (ObjectFits version) IsObjectShape (object_shape version) s.objects fits.objects;
}

-- ---- every state is laid out

handles_below : {A : Type 0} (handle : A → ℕ) (first end : ℕ) (items : List A) → are_handles first end (map handle items) ≡ true → AllByRecursion (λ (a : A). handle a < end) items
handles_below handle first end [] e = tt
handles_below handle first end (a ∷ items) e =
    let both = and_parts (leb first (handle a) && ltb (handle a) end) (are_handles (handle a + 1) end (map handle items)) e in
    let here = and_parts (leb first (handle a)) (ltb (handle a) end) both.0 in
    (ltb-true _ _ here.1, handles_below handle (handle a + 1) end items both.1)

-- the number of a PolicyAuthorizeNV
abbrev ReadBelow : ℕ → TrailEntry → Type 0
ReadBelow most (Pcr bank pcrs values) = Unit {0}
ReadBelow most (Or list) = Unit {0}
ReadBelow most (AuthorizeNv name digest written) = written ≤ most

read_below : (s : Parts) (hash : Bank) (before : List ℕ) (entry : TrailEntry) → is_read s hash before entry ≡ true → ReadBelow s.write_counter entry
read_below s hash before (Pcr bank pcrs values) e = tt
read_below s hash before (Or list) e = tt
read_below s hash before (AuthorizeNv name digest written) e =
    let numbers = leb 1 written && leb written s.write_counter in
    let first = and_parts ((is_sha256 hash && bytes_eq digest before) && numbers) (list_all (agrees_with name digest written) s.indices) e in
    let second = and_parts (is_sha256 hash && bytes_eq digest before) numbers first.0 in
    let third = and_parts (leb 1 written) (leb written s.write_counter) second.1 in
    leb-true _ _ third.1

reads_below : (s : Parts) (hash : Bank) (entries : List TrailEntry) → are_reads s hash entries ≡ true → AllByRecursion (ReadBelow s.write_counter) entries
reads_below s hash [] e = tt
reads_below s hash (entry ∷ entries) e =
    let both = and_parts (is_read s hash (digest_of_in hash entries) entry) (are_reads s hash entries) e in
    (read_below s hash (digest_of_in hash entries) entry both.0, reads_below s hash entries both.1)

entry_fits : (hash : Bank) (most : ℕ) → most < 2 ^ 32 → (entry : TrailEntry) → IsEntryShape hash entry → ReadBelow most entry → EntryFits hash entry
entry_fits hash most lt (Pcr bank pcrs values) shape below = (shape.mask, shape.values)
entry_fits hash most lt (Or list) shape below = (shape.two, shape.eight, shape.sizes)
entry_fits hash most lt (AuthorizeNv name digest written) shape below = (shape.name, shape.digest, omega arith)

noted_fits : (noted : Option ℕ) (now : ℕ) (trail : List TrailEntry) → now < 2 ^ 32 → is_noted_by noted now trail ≡ true → NotedFits noted
noted_fits None now trail lt e = tt
noted_fits (Some n) now trail lt e =
    let both = and_parts (has_pcr_entry trail) (leb n now) e in
    let le : n ≤ now = leb-true _ _ both.1 in
    omega arith

record SessionKeeps (s : Parts) (session : Session) : Type 0 where
  shape : IsSessionShape session
  handle : session.handle < 2 ^ 32
  noted : is_noted s.update_counter session ≡ true
  reads : has_reads s session ≡ true

session_fits : (s : Parts) → s.update_counter < 2 ^ 32 → s.write_counter < 2 ^ 32 → (session : Session) → SessionKeeps s session → SessionFits Two session
session_fits s updates writes session keeps =
    let newest = reads_below s session.hash (reverse session.trail) keeps.reads in
    let oldest : AllByRecursion (ReadBelow s.write_counter) session.trail = subst (λ (l : List TrailEntry). AllByRecursion (ReadBelow s.write_counter) l) (reverse-reverse session.trail) (all_reverse (ReadBelow s.write_counter) (reverse session.trail) newest) in
    record {
      hash = keeps.shape.hash;
      handle = keeps.handle;
      digest = keeps.shape.digest;
      noted = noted_fits session.noted s.update_counter session.trail updates keeps.noted;
      entries = keeps.shape.trail;
      trail = all_both (IsEntryShape session.hash) (ReadBelow s.write_counter) (EntryFits session.hash) (entry_fits session.hash s.write_counter writes) session.trail keeps.shape.entries oldest;
    }

number_fits : (attributes most : ℕ) (written : Option Written) → most < 2 ^ 32 → IsWrittenShape attributes written → is_numbered_within most written ≡ true → WrittenFits (has_written attributes) written
number_fits attributes most None lt shape e = shape
number_fits attributes most (Some w) lt shape e =
    let both = and_parts (leb 1 w.number) (leb w.number most) e in
    let le : w.number ≤ most = leb-true _ _ both.1 in
    (shape.0, omega arith, shape.1)

attributes_below : (n : ℕ) → (eqb n 0x02060008 || eqb n 0x22060008) ≡ true → n < 2 ^ 32
attributes_below n e = one_of (eqb n 0x02060008) (eqb n 0x22060008) (λ is. (let same : n ≡ 0x02060008 = eqb-true _ _ is in omega arith)) (λ is. (let same : n ≡ 0x22060008 = eqb-true _ _ is in omega arith)) e
  where
    one_of : {P : Type 0} (a b : Bool) → (a ≡ true → P) → (b ≡ true → P) → (a || b) ≡ true → P
    one_of true b p q e = p refl
    one_of false b p q e = q e

record IndexKeeps (most : ℕ) (index : Index) : Type 0 where
  shape : IsIndexShape index
  handle : index.public.handle < 2 ^ 32
  counted : is_counted most index ≡ true
  attributes : has_attributes index ≡ true

index_fits : (most : ℕ) → most < 2 ^ 32 → (index : Index) → IndexKeeps most index → IndexFits index
index_fits most lt index keeps =
    let p = index.public in
    let both = and_parts (eqb p.attributes 0x02060008 || eqb p.attributes 0x22060008) (eqb p.size 34) keeps.attributes in
    let size : p.size ≡ 34 = eqb-true _ _ both.1 in
    record {
      handle = keeps.handle;
      attributes = attributes_below p.attributes both.0;
      policy = keeps.shape.policy;
      size = omega arith;
      written = number_fits p.attributes most index.written lt keeps.shape.written keeps.counted;
    }

object_fits : (o : Object) → IsObjectShape o → o.handle < 2 ^ 32 → ObjectFits Two o
object_fits o shape lt = record { handle = lt; policy = shape.policy; secret = shape.secret }

pub rules_laid : (s : Parts) → HasRules s → HasLayout Two s
rules_laid s rules =
    let shape = rules.shape in
    let numbers = and_parts (leb s.next_session 0x01000000) (leb s.next_object 0x00800000) rules.counters in
    let sessions_end : s.next_session ≤ 0x01000000 = leb-true _ _ numbers.0 in
    let objects_end : s.next_object ≤ 0x00800000 = leb-true _ _ numbers.1 in
    let session_handles = all_map (λ (session : Session). session.handle < 0x03000000 + s.next_session) (λ (session : Session). session.handle < 2 ^ 32) (λ session lt. omega arith) s.sessions
    (handles_below (λ (session : Session). session.handle) 0x03000000 (0x03000000 + s.next_session) s.sessions rules.session_order) in
    let object_handles = all_map (λ (o : Object). o.handle < 0x81000000 + s.next_object) (λ (o : Object). o.handle < 2 ^ 32) (λ o lt. omega arith) s.objects
    (handles_below (λ (o : Object). o.handle) 0x81000000 (0x81000000 + s.next_object) s.objects rules.object_order) in
    let order = and_parts (are_handles 0x01000000 0x02000000 (map (λ (index : Index). index.public.handle) s.indices)) (list_all (is_counted s.write_counter) s.indices && are_apart s.indices) rules.index_order in
    let counted = and_parts (list_all (is_counted s.write_counter) s.indices) (are_apart s.indices) order.1 in
    let index_handles = all_map (λ (index : Index). index.public.handle < 0x02000000) (λ (index : Index). index.public.handle < 2 ^ 32) (λ index lt. omega arith) s.indices
    (handles_below (λ (index : Index). index.public.handle) 0x01000000 0x02000000 s.indices order.0) in
    record {
      values = shape.values;
      update_counter = shape.updates;
      next_session = omega arith;
      write_counter = shape.writes;
      next_object = omega arith;
      session_count = shape.session_count;
      sessions = sessions_keep s.sessions shape.sessions session_handles (all_passes (is_noted s.update_counter) s.sessions rules.noted) (all_passes (has_reads s) s.sessions rules.nv_now);
      index_count = shape.index_count;
      indices = indices_keep s.indices shape.indices index_handles (all_passes (is_counted s.write_counter) s.indices counted.0) (all_passes has_attributes s.indices rules.index_attributes);
      object_count = shape.object_count;
      objects = all_both IsObjectShape (λ (o : Object). o.handle < 2 ^ 32) (ObjectFits Two) object_fits s.objects shape.objects object_handles;
    }
  where
    sessions_keep : (list : List Session) → AllByRecursion IsSessionShape list → AllByRecursion (λ (session : Session). session.handle < 2 ^ 32) list
        → AllByRecursion (λ (session : Session). is_noted s.update_counter session ≡ true) list → AllByRecursion (λ (session : Session). has_reads s session ≡ true) list → AllByRecursion (SessionFits Two) list
    sessions_keep [] a b c d = tt
    sessions_keep (session ∷ list) a b c d =
        (session_fits s rules.shape.updates rules.shape.writes session (record { shape = a.0; handle = b.0; noted = c.0; reads = d.0 }), sessions_keep list a.1 b.1 c.1 d.1)

    indices_keep : (list : List Index) → AllByRecursion IsIndexShape list → AllByRecursion (λ (index : Index). index.public.handle < 2 ^ 32) list
        → AllByRecursion (λ (index : Index). is_counted s.write_counter index ≡ true) list → AllByRecursion (λ (index : Index). has_attributes index ≡ true) list → AllByRecursion IndexFits list
    indices_keep [] a b c d = tt
    indices_keep (index ∷ list) a b c d =
        (index_fits s.write_counter rules.shape.writes index (record { shape = a.0; handle = b.0; counted = c.0; attributes = d.0 }), indices_keep list a.1 b.1 c.1 d.1)

-- ---- version 1 is for SHA-256

pub one_laid : (s : Parts) → HasLayout Two s → IsOfSha256 s → HasLayout One s
one_laid s fits all = record {
  values = fits.values;
  update_counter = fits.update_counter;
  next_session = fits.next_session;
  write_counter = fits.write_counter;
  next_object = fits.next_object;
  session_count = fits.session_count;
  sessions = all_both (SessionFits Two) (λ (session : Session). session.hash ≡ Sha256) (SessionFits One) session_one s.sessions fits.sessions all.sessions;
  index_count = fits.index_count;
  indices = fits.indices;
  object_count = fits.object_count;
  objects = all_both (ObjectFits Two) (λ (o : Object). length o.policy ≡ 32) (ObjectFits One) object_one s.objects fits.objects all.objects;
}
  where
    session_one : (session : Session) → SessionFits Two session → session.hash ≡ Sha256 → SessionFits One session
    session_one session fits is = record { hash = is; handle = fits.handle; digest = fits.digest; noted = fits.noted; entries = fits.entries; trail = fits.trail }

    object_one : (o : Object) → ObjectFits Two o → length o.policy ≡ 32 → ObjectFits One o
    object_one o fits is = record { handle = fits.handle; policy = is; secret = fits.secret }

pub laid_one : (s : Parts) → HasLayout One s → IsOfSha256 s
laid_one s fits = record {
  sessions = all_map (SessionFits One) (λ (session : Session). session.hash ≡ Sha256) (λ session fits. fits.hash) s.sessions fits.sessions;
  objects = all_map (ObjectFits One) (λ (o : Object). length o.policy ≡ 32) (λ o fits. fits.policy) s.objects fits.objects;
}
