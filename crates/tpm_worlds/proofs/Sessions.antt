-- What is kept of a session: its digest is the fold of its trail, whose strings were hashed, and while
-- no PCR was extended since it looked at some, it saw what they hold now.
use Rattle.std.proofs.Common.{◌≡◌, ℕ, ◌&&◌, ◌+◌, ◌^◌, ◌<◌, ◌==◌, true, false, cond, not, List, [], ◌∷◌, ◌++◌, refl, sym, ap, subst, ◌∙◌, arith, Contains}
use Rattle.std.specs.Prelude.{nat_le, reverse, Option, None, Some}
use Rattle.std.specs.List.{AllByRecursion, list_all}
use Rattle.std.specs.Str.{bytes_eq}
use Rattle.std.proofs.lemmas.Bool.{and_from, and_parts, eq-eqb, eqb-true, leb-true}
use Rattle.hash_bank.specs.declared.bank.Bank.{Bank}
use Rattle.hash_bank.specs.Banks.{has_bank}
use Rattle.policy_digest.specs.Policies.{policy_pcr_of}
use Rattle.policy_digest.specs.Strings.{values_string}
use Rattle.nv_index.proofs.Lists.{all_push}
use Rattle.tpm_model.specs.declared.parts.Parts.{Parts}
use Rattle.tpm_model.specs.declared.sessions.Session.{Session}
use Rattle.tpm_model.specs.declared.trail.TrailEntry.{TrailEntry}
use Rattle.tpm_model.specs.declared.trail.TrailEntry.TheVariants as entry
use Rattle.tpm_model.specs.declared.trail.TrailEntry.TheVariants.{Pcr, Or, AuthorizeNv}
use Rattle.tpm_model.specs.Pcrs.{chosen, present_digest_in, values_of}
use Rattle.tpm_model.specs.SessionCommands.{noted_before, present_digest, with_entry, with_pcrs}
use Rattle.tpm_model.specs.SessionRules.{agrees_with, are_members, are_reads, is_noted_by, is_now, is_read, is_sha256, is_up_to_date, lists_digest, saw_present}
use Rattle.tpm_model.specs.Sessions.{fresh_session, is_session_hash}
use Rattle.tpm_model.specs.Shape.{IsEntryShape}
use Rattle.tpm_model.specs.Strings.{joined_values}
use Rattle.tpm_model.specs.Trails.{digest_after, digest_of_in, entry_string_in, has_pcr_entry, trail_digest}
use Rattle.tpm_model.specs.WholeTie.{HasHashedValues}
use Rattle.tpm_model.specs.World.{World}
use Rattle.tpm_model.proofs.KeepsRules.{KeepsSession, policy_hash}
use Rattle.tpm_model.proofs.TrailSteps.{bytes_same, digest_step, members_step, newest_first}
use Rattle.tpm_worlds.specs.SealedTie.{AreHashedEntries, IsHashedEntry, IsHashedSession}
pub use Rattle.tpm_worlds.specs.SteadySessions.{IsGood, IsSeen, IsSmall, SeesNow}
use Rattle.tpm_worlds.specs.SteadySessions.{IsSized, LooksNot, ReadDigests, ReadsDigest}
use Rattle.tpm_model.proofs.Ties.{Grows}
use Rattle.tpm_worlds.proofs.Trails.{all_map}

-- what didn't look at PCRs saw all that it could
sees_nothing : (s : Parts) (w : World) (hash : Bank) (x : TrailEntry) → LooksNot x → SeesNow s w hash x
sees_nothing s w hash (Pcr bank pcrs values) h = absurd h
sees_nothing s w hash (Or list) h = tt
sees_nothing s w hash (AuthorizeNv name digest written) h = tt

-- in a world that grew
entry_on : (w v : World) → Grows w v → (x : TrailEntry) → IsHashedEntry w x → IsHashedEntry v x
entry_on w v grows (Pcr bank pcrs values) h = tt
entry_on w v grows (Or list) h = tt
entry_on w v grows (AuthorizeNv name digest written) h = record { area = h.area; same = h.same; string = grows _ h.string }

entries_on : (w v : World) → Grows w v → (hash : Bank) (xs : List TrailEntry) → AreHashedEntries w hash xs → AreHashedEntries v hash xs
entries_on w v grows hash [] h = tt
entries_on w v grows hash (x ∷ xs) h = (entry_on w v grows x h.0, grows _ h.1, entries_on w v grows hash xs h.2)

sees_on : (s : Parts) (w v : World) → Grows w v → (hash : Bank) (x : TrailEntry) → SeesNow s w hash x → SeesNow s v hash x
sees_on s w v grows hash (Pcr bank pcrs values) h = record { present = h.present; digest = h.digest; joined = grows _ h.joined }
sees_on s w v grows hash (Or list) h = tt
sees_on s w v grows hash (AuthorizeNv name digest written) h = tt

pub good_on : (s : Parts) (w v : World) → Grows w v → (x : Session) → IsGood s w x → IsGood s v x
good_on s w v grows x g = record {
  hash = g.hash;
  fold = g.fold;
  small = g.small;
  none = g.none;
  most = g.most;
  now = λ e. all_map (SeesNow s w x.hash) (SeesNow s v x.hash) (sees_on s w v grows x.hash) x.trail (g.now e);
  members = g.members;
  lists = g.lists;
  reads = g.reads;
  entries = entries_on w v grows x.hash (reverse x.trail) g.entries;
}

-- a new session
pub fresh_good : (s : Parts) (w : World) (hash : Bank) (handle : ℕ) → is_session_hash hash ≡ true → IsGood s w (fresh_session hash handle)
fresh_good s w hash handle allowed = record {
  hash = policy_hash hash allowed;
  fold = refl;
  small = tt;
  none = λ _. tt;
  most = λ n e. cc;
  now = λ e. tt;
  members = refl;
  lists = tt;
  reads = tt;
  entries = tt;
}

-- the entries with one more
more_entries : (w : World) (x : Session) (new : TrailEntry) → x.digest ≡ trail_digest x.hash x.trail → IsHashedEntry w new
    → Contains w.hashed (record { hash = x.hash; bytes = entry_string_in x.hash x.digest new })
    → AreHashedEntries w x.hash (reverse x.trail) → AreHashedEntries w x.hash (reverse (x.trail ++ new ∷ []))
more_entries w x new fold one string all =
    subst (AreHashedEntries w x.hash) (sym (newest_first x.trail new))
    (one, subst (λ d. Contains w.hashed (record { hash = x.hash; bytes = entry_string_in x.hash d new })) fold string, all)

-- the digest with one more
more_digest : (x : Session) (new : TrailEntry) → x.digest ≡ trail_digest x.hash x.trail → digest_after x.hash x.digest new ≡ trail_digest x.hash (x.trail ++ new ∷ [])
more_digest x new fold = ap (λ d. digest_after x.hash d new) fold ∙ sym (digest_step x.hash x.trail new)

-- the lists with one more
more_members : (x : Session) (new : TrailEntry) → x.digest ≡ trail_digest x.hash x.trail → lists_digest x.digest new ≡ true
    → are_members x.hash (reverse x.trail) ≡ true → are_members x.hash (reverse (x.trail ++ new ∷ [])) ≡ true
more_members x new fold listed all =
    members_step x.hash x.trail new
    ∙ and_from (lists_digest (trail_digest x.hash x.trail) new) (are_members x.hash (reverse x.trail)) (ap (λ d. lists_digest d new) (sym fold) ∙ listed) all

-- the reads with one more
more_reads : (x : Session) (new : TrailEntry) → x.digest ≡ trail_digest x.hash x.trail → ReadsDigest x.digest new
    → ReadDigests x.hash (reverse x.trail) → ReadDigests x.hash (reverse (x.trail ++ new ∷ []))
more_reads x new fold read all =
    subst (ReadDigests x.hash) (sym (newest_first x.trail new)) (subst (λ d. ReadsDigest d new) fold read, all)

-- what an entry that isn't a look at PCRs has to have
pub record IsNext (w : World) (x : Session) (new : TrailEntry) : Type 0 where
  pub other : LooksNot new
  pub listed : lists_digest x.digest new ≡ true
  pub sized : IsSized x.hash new
  pub read : ReadsDigest x.digest new
  pub one : IsHashedEntry w new
  pub string : Contains w.hashed (record { hash = x.hash; bytes = entry_string_in x.hash x.digest new })

small_next : (new : TrailEntry) → LooksNot new → IsSmall new
small_next (Pcr bank pcrs values) other = absurd other
small_next (Or list) other = tt
small_next (AuthorizeNv name digest written) other = tt

-- a session with one more entry that isn't a look at PCRs
pub grown_good : (s : Parts) (w : World) (x : Session) (new : TrailEntry) → IsGood s w x → IsNext w x new
    → IsGood s w (with_entry (digest_after x.hash x.digest new) new x)
grown_good s w x new g next = record {
  hash = g.hash;
  fold = more_digest x new g.fold;
  small = all_push IsSmall x.trail new g.small (small_next new next.other);
  none = λ e. all_push LooksNot x.trail new (g.none e) next.other;
  most = g.most;
  now = λ e. all_push (SeesNow s w x.hash) x.trail new (g.now e) (sees_nothing s w x.hash new next.other);
  members = more_members x new g.fold next.listed g.members;
  lists = all_push (IsSized x.hash) x.trail new g.lists next.sized;
  reads = more_reads x new g.fold next.read g.reads;
  entries = more_entries w x new g.fold next.one next.string g.entries;
}

-- a session that noted no other counter saw what PCRs hold now
pub saw_so_far : (s : Parts) (w : World) (x : Session) → IsGood s w x → noted_before x.noted s.update_counter ≡ None → AllByRecursion (SeesNow s w x.hash) x.trail
saw_so_far s w x g free = by x.noted refl free
  where
    by : (o : Option ℕ) → x.noted ≡ o → noted_before o s.update_counter ≡ None → AllByRecursion (SeesNow s w x.hash) x.trail
    by None e f = all_map LooksNot (SeesNow s w x.hash) (sees_nothing s w x.hash) x.trail (g.none e)
    by (Some n) e f =
        elim (n == s.update_counter) as (λ b. (n == s.update_counter) ≡ b → cond b None (Some n) ≡ None → AllByRecursion (SeesNow s w x.hash) x.trail) [
          | true ↦ λ same _. g.now (e ∙ ap Some (eqb-true n s.update_counter same))
          | false ↦ λ _ other. cc
        ] refl f

-- a session that looks at PCRs once more
pub looked_good : (s : Parts) (w : World) (x : Session) (bank : Bank) (pcrs : ℕ) → IsGood s w x → pcrs < 2 ^ 24 → has_bank s.banks bank ≡ true
    → noted_before x.noted s.update_counter ≡ None
    → Contains w.hashed (record { hash = x.hash; bytes = joined_values bank pcrs s })
    → Contains w.hashed (record { hash = x.hash; bytes = entry_string_in x.hash x.digest (entry.Pcr bank pcrs (present_digest x.hash bank pcrs s)) })
    → let values = present_digest x.hash bank pcrs s in
    IsGood s w (with_pcrs (policy_pcr_of x.hash x.digest bank pcrs values) s.update_counter (entry.Pcr bank pcrs values) x)
looked_good s w x bank pcrs g small present free joined string =
    let new = entry.Pcr bank pcrs (present_digest x.hash bank pcrs s) in
    record {
      hash = g.hash;
      fold = more_digest x new g.fold;
      small = all_push IsSmall x.trail new g.small small;
      none = λ e. cc;
      most = λ n e. let same : s.update_counter ≡ n = cc in omega arith;
      now = λ e. all_push (SeesNow s w x.hash) x.trail new (saw_so_far s w x g free) (record { present = present; digest = refl; joined = joined });
      members = more_members x new g.fold refl g.members;
      lists = all_push (IsSized x.hash) x.trail new g.lists tt;
      reads = more_reads x new g.fold tt g.reads;
      entries = more_entries w x new g.fold tt string g.entries;
    }

-- after an extend no session saw what PCRs hold
pub passed_good : (s t : Parts) (w : World) → t.update_counter ≡ s.update_counter + 1 → (x : Session) → IsGood s w x → IsGood t w x
passed_good s t w next x g = record {
  hash = g.hash;
  fold = g.fold;
  small = g.small;
  none = g.none;
  most = λ n e. omega (arith, g.most n e, next);
  now = λ e. absurd (omega (arith, g.most t.update_counter e, next));
  members = g.members;
  lists = g.lists;
  reads = g.reads;
  entries = g.entries;
}

-- a state with the same counter and the same PCRs
pub same_good : (s t : Parts) (w : World) → t.update_counter ≡ s.update_counter → t.banks ≡ s.banks → t.pcrs ≡ s.pcrs → (x : Session) → IsGood s w x → IsGood t w x
same_good s t w counter banks pcrs x g = record {
  hash = g.hash;
  fold = g.fold;
  small = g.small;
  none = g.none;
  most = λ n e. omega (arith, g.most n e, counter);
  now = λ e. all_map (SeesNow s w x.hash) (SeesNow t w x.hash) alike x.trail (g.now (e ∙ ap Some counter));
  members = g.members;
  lists = g.lists;
  reads = g.reads;
  entries = g.entries;
}
  where
    alike : (y : TrailEntry) → SeesNow s w x.hash y → SeesNow t w x.hash y
    alike (Pcr bank mask values) h = record {
      present = ap (λ b. has_bank b bank) banks ∙ h.present;
      digest = h.digest ∙ sym (λ i. present_digest_in x.hash bank mask (banks i) (pcrs i));
      joined = subst (λ bytes. Contains w.hashed (record { hash = x.hash; bytes = bytes })) (sym (λ i. values_string (chosen mask (values_of (banks i) (pcrs i) bank)))) h.joined;
    }
    alike (Or list) h = tt
    alike (AuthorizeNv name digest written) h = tt

-- what the rules of a state and its tie to the world say of a session
small_from : (hash : Bank) (xs : List TrailEntry) → AllByRecursion (IsEntryShape hash) xs → AllByRecursion IsSmall xs
small_from hash xs all = all_map (IsEntryShape hash) IsSmall one xs all
  where
    one : (x : TrailEntry) → IsEntryShape hash x → IsSmall x
    one (Pcr bank pcrs values) h = h.mask
    one (Or list) h = tt
    one (AuthorizeNv name digest written) h = tt

sized_from : (hash : Bank) (xs : List TrailEntry) → AllByRecursion (IsEntryShape hash) xs → AllByRecursion (IsSized hash) xs
sized_from hash xs all = all_map (IsEntryShape hash) (IsSized hash) one xs all
  where
    one : (x : TrailEntry) → IsEntryShape hash x → IsSized hash x
    one (Pcr bank pcrs values) h = tt
    one (Or list) h = h.sizes
    one (AuthorizeNv name digest written) h = tt

reads_from : (s : Parts) (hash : Bank) (entries : List TrailEntry) → are_reads s hash entries ≡ true → ReadDigests hash entries
reads_from s hash [] h = tt
reads_from s hash (entry ∷ entries) h =
    let both = and_parts (is_read s hash (digest_of_in hash entries) entry) (are_reads s hash entries) h in
    (one entry both.0, reads_from s hash entries both.1)
  where
    one : (x : TrailEntry) → is_read s hash (digest_of_in hash entries) x ≡ true → ReadsDigest (digest_of_in hash entries) x
    one (Pcr bank pcrs values) e = tt
    one (Or list) e = tt
    one (AuthorizeNv name digest written) e =
        let tests = and_parts _ (list_all (agrees_with name digest written) s.indices) e in
        let before = and_parts (is_sha256 hash && bytes_eq digest (digest_of_in hash entries)) _ tests.0 in
        bytes_same digest (digest_of_in hash entries) (and_parts (is_sha256 hash) _ before.0).1

looks_not : (xs : List TrailEntry) → not (has_pcr_entry xs) ≡ true → AllByRecursion LooksNot xs
looks_not [] e = tt
looks_not (Pcr bank pcrs values ∷ xs) e = cc
looks_not (Or list ∷ xs) e = (tt, looks_not xs e)
looks_not (AuthorizeNv name digest written ∷ xs) e = (tt, looks_not xs e)

sees_from : (s : Parts) (w : World) (hash : Bank) (xs : List TrailEntry) → list_all (saw_present s hash) xs ≡ true → AllByRecursion (HasHashedValues s w hash) xs → AllByRecursion (SeesNow s w hash) xs
sees_from s w hash [] saw hashed = tt
sees_from s w hash (Pcr bank pcrs values ∷ xs) saw hashed =
    let both = and_parts (saw_present s hash (Pcr bank pcrs values)) (list_all (saw_present s hash) xs) saw in
    let one = and_parts (has_bank s.banks bank) (bytes_eq values (present_digest_in hash bank pcrs s.banks s.pcrs)) both.0 in
    (record { present = one.0; digest = bytes_same _ _ one.1; joined = hashed.0 }, sees_from s w hash xs both.1 hashed.1)
sees_from s w hash (Or list ∷ xs) saw hashed = (tt, sees_from s w hash xs saw hashed.1)
sees_from s w hash (AuthorizeNv name digest written ∷ xs) saw hashed = (tt, sees_from s w hash xs saw hashed.1)

pub good_from : (s : Parts) (w : World) (x : Session) → KeepsSession s x → IsHashedSession s w x → IsGood s w x
good_from s w x k h = record {
  hash = k.shape.hash;
  fold = bytes_same x.digest (trail_digest x.hash x.trail) k.fold;
  small = small_from x.hash x.trail k.shape.entries;
  none = λ e. looks_not x.trail (subst (λ o. is_noted_by o s.update_counter x.trail ≡ true) e k.noted);
  most = λ n e. leb-true n s.update_counter (and_parts (has_pcr_entry x.trail) (nat_le n s.update_counter) (subst (λ o. is_noted_by o s.update_counter x.trail ≡ true) e k.noted)).1;
  now = λ e. sees_from s w x.hash x.trail (saw e k.pcr_now) (h.values e);
  members = k.or_member;
  lists = sized_from x.hash x.trail k.shape.entries;
  reads = reads_from s x.hash (reverse x.trail) k.nv_now;
  entries = h.entries;
}
  where
    saw : x.noted ≡ Some s.update_counter → is_up_to_date s x ≡ true → list_all (saw_present s x.hash) x.trail ≡ true
    saw e up =
        let now : is_now x.noted s.update_counter ≡ true = ap (λ o. is_now o s.update_counter) e ∙ eq-eqb s.update_counter s.update_counter refl in
        sym (ap (λ b. cond b (list_all (saw_present s x.hash) x.trail) true) now) ∙ up

values_from : (s : Parts) (w : World) (hash : Bank) (x : TrailEntry) → SeesNow s w hash x → HasHashedValues s w hash x
values_from s w hash (Pcr bank pcrs values) h = h.joined
values_from s w hash (Or list) h = tt
values_from s w hash (AuthorizeNv name digest written) h = tt

-- and back
pub hashed_from : (s : Parts) (w : World) (x : Session) → IsGood s w x → IsHashedSession s w x
hashed_from s w x g = record {
  entries = g.entries;
  values = λ e. all_map (SeesNow s w x.hash) (HasHashedValues s w x.hash) (values_from s w x.hash) x.trail (g.now e);
}
