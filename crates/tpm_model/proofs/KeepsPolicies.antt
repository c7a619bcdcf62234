-- PolicyOR and PolicyAuthorizeNV keep the rules of a state.
use Rattle.std.proofs.Common.{◌≡◌, ℕ, ◌+◌, ◌<◌, ◌≤◌, ◌==◌, Bool, true, false, cond, not, List, [], ◌∷◌, ◌++◌, length, ◌||◌, ◌&&◌, inl, inr, zero, suc, refl, sym, ap, subst, ◌∙◌, arith}
use Rattle.std.specs.Prelude.{nat_le, nat_lt, slice_get, reverse, Option, None, Some}
use Rattle.std.specs.Int.{w16, to_be_bytes}
use Rattle.std.specs.List.{AllByRecursion, list_all, list_any}
use Rattle.std.specs.Str.{bytes_eq}
use Rattle.std.proofs.lemmas.Bool.{and_from, and_parts, cond_both, eq-eqb, eqb-true, leb-false, ltb-false}
use Rattle.std.proofs.lemmas.List.Folds.{list_any-append}
use Rattle.std.proofs.Math.ListN.{length-append}
use Rattle.hash_bank.specs.declared.bank.Bank.{Bank}
use Rattle.hash_bank.specs.declared.bank.Bank.TheVariants.{Sha1, Sha256, Sha384, Sha512}
use Rattle.hash_bank.specs.Hash.{algorithm_in, size_in}
use Rattle.hash_bank.proofs.Sizes.{length-digest_in}
use Rattle.nv_index.specs.IndexName.{index_name_of}
use Rattle.nv_index.specs.Table.{are_apart, has_other_number, index_at, index_place, is_apart, is_counted, is_numbered_within, is_other_write}
use Rattle.nv_index.specs.declared.index.Index.{Index}
use Rattle.nv_index.specs.declared.index.NvPublic.{NvPublic}
use Rattle.nv_index.specs.declared.index.Written.{Written}
use Rattle.nv_index.proofs.Lists.{all_at, all_push, passes_at, passes_push, passes_weaker}
use Rattle.policy_digest.specs.Policies.{IsPolicyHash, policy_authorize_nv_of}
use Rattle.tpm_model.specs.declared.parts.Parts.{Parts}
use Rattle.tpm_model.specs.declared.sessions.Session.{Session}
use Rattle.tpm_model.specs.declared.trail.TrailEntry.{TrailEntry}
use Rattle.tpm_model.specs.declared.trail.TrailEntry.TheVariants as entry
use Rattle.tpm_model.specs.Rules.{HasRules}
use Rattle.tpm_model.specs.SessionCommands.{content_in, has_size, is_wrong_list, policy_authorize_nv, policy_authorize_nv_at, policy_authorize_nv_by, policy_authorize_nv_on, policy_or, policy_or_on, with_entry}
use Rattle.tpm_model.specs.SessionRules.{agrees_with, are_members, are_reads, is_noted_by, is_now, is_read, is_sha256, is_that_write, lists_digest, saw_present}
use Rattle.tpm_model.specs.Sessions.{session_at, session_place}
use Rattle.tpm_model.specs.Shape.{IsEntryShape, IsIndexShape, IsWrittenShape}
use Rattle.tpm_model.specs.Trails.{digest_after, has_pcr_entry, is_pcr_entry, trail_digest}
use Rattle.tpm_model.proofs.KeepsRules.{Keeps, KeepsSession, from_not, one_more, replaced, session_kept}
use Rattle.tpm_model.proofs.TrailSteps.{bytes_same, digest_step, members_step, reads_step, same_bytes}

or_none : (a b : Bool) → b ≡ false → (a || (b || false)) ≡ a
or_none true b e = refl
or_none false b e = ap (λ c. c || false) e

-- one more entry that isn't a look at PCRs
looks_alike : (trail : List TrailEntry) (new : TrailEntry) → is_pcr_entry new ≡ false → has_pcr_entry (trail ++ new ∷ []) ≡ has_pcr_entry trail
looks_alike trail new e = list_any-append is_pcr_entry trail (new ∷ []) ∙ or_none (has_pcr_entry trail) (is_pcr_entry new) e

noted_alike : (noted : Option ℕ) (now : ℕ) (old new : List TrailEntry) → has_pcr_entry new ≡ has_pcr_entry old → is_noted_by noted now old ≡ true → is_noted_by noted now new ≡ true
noted_alike None now old new e h = ap not e ∙ h
noted_alike (Some n) now old new e h = ap (λ b. b && nat_le n now) e ∙ h

seen_still : (b all more : Bool) → (all ≡ true → more ≡ true) → cond b all true ≡ true → cond b more true ≡ true
seen_still true all more f h = f h
seen_still false all more f h = refl

-- a session with one more entry that isn't a look at PCRs
grown : (s : Parts) (x : Session) (new : TrailEntry) → KeepsSession s x → length x.trail < 128 → is_pcr_entry new ≡ false → IsEntryShape x.hash new
    → lists_digest x.digest new ≡ true → saw_present s x.hash new ≡ true → is_read s x.hash x.digest new ≡ true
    → KeepsSession s (with_entry (digest_after x.hash x.digest new) new x)
grown s x new k room other shape listed saw read =
    let before : x.digest ≡ trail_digest x.hash x.trail = bytes_same x.digest (trail_digest x.hash x.trail) k.fold in
    let after : digest_after x.hash x.digest new ≡ trail_digest x.hash (x.trail ++ new ∷ []) = ap (λ d. digest_after x.hash d new) before ∙ sym (digest_step x.hash x.trail new) in
    record {
      shape = record {
        hash = k.shape.hash;
        digest = length-digest_in x.hash _;
        trail = omega (arith, one_more x.trail new);
        entries = all_push (IsEntryShape x.hash) x.trail new k.shape.entries shape;
      };
      fold = ap (bytes_eq (digest_after x.hash x.digest new)) (sym after) ∙ same_bytes (digest_after x.hash x.digest new);
      or_member = members_step x.hash x.trail new
          ∙ and_from (lists_digest (trail_digest x.hash x.trail) new) (are_members x.hash (reverse x.trail)) (ap (λ d. lists_digest d new) (sym before) ∙ listed) k.or_member;
      noted = noted_alike x.noted s.update_counter x.trail (x.trail ++ new ∷ []) (looks_alike x.trail new other) k.noted;
      pcr_now = seen_still (is_now x.noted s.update_counter) (list_all (saw_present s x.hash) x.trail) (list_all (saw_present s x.hash) (x.trail ++ new ∷ []))
          (λ all. passes_push (saw_present s x.hash) x.trail new all saw) k.pcr_now;
      nv_now = reads_step s x.hash x.trail new
          ∙ and_from (is_read s x.hash (trail_digest x.hash x.trail) new) (are_reads s x.hash (reverse x.trail)) (ap (λ d. is_read s x.hash d new) (sym before) ∙ read) k.nv_now;
    }

or_parts : (a b : Bool) → (a || b) ≡ false → (a ≡ false) × (b ≡ false)
or_parts true b e = cc
or_parts false b e = (refl, e)

pub sizes_from : (hash : Bank) (list : List (List ℕ)) → list_all (has_size hash) list ≡ true → AllByRecursion (λ (digest : List ℕ). length digest ≡ size_in hash) list
sizes_from hash [] h = tt
sizes_from hash (d ∷ ds) h =
    let both = and_parts (has_size hash d) (list_all (has_size hash) ds) h in
    (eqb-true (length d) (size_in hash) both.0, sizes_from hash ds both.1)

-- what a list has that isn't wrong
pub record IsGoodList (hash : Bank) (digest : List ℕ) (list : List (List ℕ)) : Type 0 where
  pub two : 2 ≤ length list
  pub sizes : list_all (has_size hash) list ≡ true
  pub listed : list_any (bytes_eq digest) list ≡ true

pub good_list : (hash : Bank) (digest : List ℕ) (list : List (List ℕ)) → is_wrong_list hash digest list ≡ false → IsGoodList hash digest list
unfolding is_wrong_list
good_list hash digest list e =
    let tests = or_parts (nat_lt (length list) 2 || not (list_all (has_size hash) list)) (not (list_any (bytes_eq digest) list)) e in
    let first = or_parts (nat_lt (length list) 2) (not (list_all (has_size hash) list)) tests.0 in
    record { two = ltb-false _ _ first.0; sizes = from_not _ first.1; listed = from_not _ tests.1 }

pub keeps-policy_or : (handle : ℕ) (list : List (List ℕ)) (s : Parts) → length list ≤ 8 → HasRules s → Keeps (policy_or handle list s)
keeps-policy_or handle list s most h = on (session_at handle s.sessions) refl
  where
    on : (o : Option Session) → session_at handle s.sessions ≡ o → Keeps (policy_or_on o handle list s)
    on None e = h
    on (Some session) e =
        cond_both (is_wrong_list session.hash session.digest list) _ _ Keeps (λ _. h) (λ good.
        cond_both (nat_le 128 (length session.trail)) _ _ Keeps (λ _. h) (λ room.
        let good_one = good_list session.hash session.digest list good in
        replaced s (session_place handle s.sessions) session _ h e refl
        (grown s session (entry.Or list) (session_kept s (session_place handle s.sessions) session h e) (leb-false _ _ room) refl
        (record { two = good_one.two; eight = most; sizes = sizes_from session.hash list good_one.sizes })
        good_one.listed refl refl)))

-- where the indices' numbers differ, what one index's write agrees with all agree with
agree_all : (name digest : List ℕ) (xs : List Index) (i : ℕ) (x : Index) (w : Written) → slice_get xs i ≡ Some x → x.written ≡ Some w → are_apart xs ≡ true
    → agrees_with name digest w.number x ≡ true → list_all (agrees_with name digest w.number) xs ≡ true
agree_all name digest [] i x w e is apart good = cc
agree_all name digest (y ∷ ys) zero x w e is apart good =
    let same : y ≡ x = cc in
    let both = and_parts (is_apart y.written ys) (are_apart ys) apart in
    let others : list_all (has_other_number w.number) ys ≡ true = ap (λ o. is_apart o ys) (sym is) ∙ ap (λ (z : Index). is_apart z.written ys) (sym same) ∙ both.0 in
    and_from (agrees_with name digest w.number y) (list_all (agrees_with name digest w.number) ys)
    (ap (agrees_with name digest w.number) same ∙ good)
    (passes_weaker (has_other_number w.number) (agrees_with name digest w.number) (λ z. other z.public z.written) ys others)
  where
    unequal : (b c : Bool) → not b ≡ true → cond b c true ≡ true
    unequal true c e = cc
    unequal false c e = refl

    other : (public : NvPublic) (o : Option Written) → is_other_write w.number o ≡ true → is_that_write name digest w.number public o ≡ true
    other public None e = refl
    other public (Some v) e = unequal (v.number == w.number) _ e
agree_all name digest (y ∷ ys) (suc i) x w e is apart good =
    let both = and_parts (is_apart y.written ys) (are_apart ys) apart in
    and_from (agrees_with name digest w.number y) (list_all (agrees_with name digest w.number) ys)
    (first y.public y.written both.0) (agree_all name digest ys i x w e is both.1 good)
  where
    unequal : (b c : Bool) → not b ≡ true → cond b c true ≡ true
    unequal true c e = cc
    unequal false c e = refl

    turned : (a b : ℕ) → not (a == b) ≡ true → not (b == a) ≡ true
    turned a b e = by_test (b == a) refl
      where
        by_test : (t : Bool) → (b == a) ≡ t → not t ≡ true
        by_test true q = let same : b ≡ a = eqb-true b a q in let back : (a == b) ≡ true = eq-eqb a b (sym same) in cc
        by_test false q = refl

    first : (public : NvPublic) (o : Option Written) → is_apart o ys ≡ true → is_that_write name digest w.number public o ≡ true
    first public None a = refl
    first public (Some v) a =
        unequal (v.number == w.number) _ (turned w.number v.number (ap (is_other_write v.number) (sym is) ∙ passes_at (has_other_number v.number) ys i x a e))

-- a content of 34 bytes is met under SHA-256 alone
content_hash : (hash : Bank) (digest value : List ℕ) → IsPolicyHash hash → length digest ≡ size_in hash → length value ≡ 34 → value ≡ content_in hash digest → hash ≡ Sha256
content_hash Sha256 digest value p d v e = refl
content_hash Sha384 digest value p d v e =
    let long : length (content_in Sha384 digest) ≡ 2 + length digest = length-append (to_be_bytes w16 (algorithm_in Sha384)) digest in
    let same : length value ≡ length (content_in Sha384 digest) = ap length e in
    absurd (omega arith)
content_hash Sha1 digest value p d v e = wrong p
  where
    wrong : IsPolicyHash Sha1 → Sha1 ≡ Sha256
    wrong (inl q) = q
    wrong (inr q) = cc
content_hash Sha512 digest value p d v e = wrong p
  where
    wrong : IsPolicyHash Sha512 → Sha512 ≡ Sha256
    wrong (inl q) = q
    wrong (inr q) = cc

pub keeps-policy_authorize_nv : (handle index : ℕ) (s : Parts) → HasRules s → Keeps (policy_authorize_nv handle index s)
keeps-policy_authorize_nv handle index s h = on (session_at handle s.sessions) refl
  where
    read : (session : Session) (x : Index) (w : Written) → KeepsSession s session → index_at index s.indices ≡ Some x → x.written ≡ Some w → w.value ≡ content_in session.hash session.digest
        → is_read s session.hash session.digest (entry.AuthorizeNv (index_name_of x.public) session.digest w.number) ≡ true
    read session x w k found is content =
        let order = and_parts _ (list_all (is_counted s.write_counter) s.indices && are_apart s.indices) h.index_order in
        let counted = and_parts (list_all (is_counted s.write_counter) s.indices) (are_apart s.indices) order.1 in
        let number : is_numbered_within s.write_counter (Some w) ≡ true = ap (is_numbered_within s.write_counter) (sym is) ∙ passes_at (is_counted s.write_counter) s.indices (index_place index s.indices) x counted.0 found in
        let shape : IsIndexShape x = all_at IsIndexShape s.indices (index_place index s.indices) x h.shape.indices found in
        let size : length w.value ≡ 34 = (subst (IsWrittenShape x.public.attributes) is shape.written).1 in
        let sha256 : session.hash ≡ Sha256 = content_hash session.hash session.digest w.value k.shape.hash k.shape.digest size content in
        let value : w.value ≡ 0x00 ∷ 0x0B ∷ session.digest = content ∙ ap (λ b. content_in b session.digest) sha256 in
        let good : agrees_with (index_name_of x.public) session.digest w.number x ≡ true =
        ap (is_that_write (index_name_of x.public) session.digest w.number x.public) is
        ∙ ap (λ b. cond b (bytes_eq (index_name_of x.public) (index_name_of x.public) && bytes_eq w.value (0x00 ∷ 0x0B ∷ session.digest)) true) (eq-eqb w.number w.number refl)
        ∙ and_from (bytes_eq (index_name_of x.public) (index_name_of x.public)) (bytes_eq w.value (0x00 ∷ 0x0B ∷ session.digest)) (same_bytes (index_name_of x.public))
        (ap (bytes_eq w.value) (sym value) ∙ same_bytes w.value) in
        and_from ((is_sha256 session.hash && bytes_eq session.digest session.digest) && (nat_le 1 w.number && nat_le w.number s.write_counter)) _
        (and_from (is_sha256 session.hash && bytes_eq session.digest session.digest) (nat_le 1 w.number && nat_le w.number s.write_counter)
        (and_from (is_sha256 session.hash) (bytes_eq session.digest session.digest) (ap is_sha256 sha256) (same_bytes session.digest)) number)
        (agree_all (index_name_of x.public) session.digest s.indices (index_place index s.indices) x w found is counted.1 good)

    met : (session : Session) (x : Index) (w : Written) → KeepsSession s session → index_at index s.indices ≡ Some x → x.written ≡ Some w → w.value ≡ content_in session.hash session.digest → length session.trail < 128
        → KeepsSession s (with_entry (policy_authorize_nv_of session.hash (index_name_of x.public)) (entry.AuthorizeNv (index_name_of x.public) session.digest w.number) session)
    met session x w k found is content room =
        let shape : IsIndexShape x = all_at IsIndexShape s.indices (index_place index s.indices) x h.shape.indices found in
        let size : length w.value ≡ 34 = (subst (IsWrittenShape x.public.attributes) is shape.written).1 in
        let sha256 : session.hash ≡ Sha256 = content_hash session.hash session.digest w.value k.shape.hash k.shape.digest size content in
        grown s session (entry.AuthorizeNv (index_name_of x.public) session.digest w.number) k room refl
        (record { name = length-digest_in Sha256 _; digest = k.shape.digest ∙ ap size_in sha256 }) refl refl (read session x w k found is content)

    by : (x : Index) (o : Option Written) (session : Session) → KeepsSession s session → session_at handle s.sessions ≡ Some session → index_at index s.indices ≡ Some x → x.written ≡ o
        → Keeps (policy_authorize_nv_by x.public o handle session s)
    by x None session k e found is = h
    by x (Some w) session k e found is =
        cond_both (not (bytes_eq w.value (content_in session.hash session.digest))) _ _ Keeps (λ _. h) (λ good.
        cond_both (nat_le 128 (length session.trail)) _ _ Keeps (λ _. h) (λ room.
        replaced s (session_place handle s.sessions) session _ h e refl
        (met session x w k found is (bytes_same w.value (content_in session.hash session.digest) (from_not _ good)) (leb-false _ _ room))))

    at : (o : Option Index) (session : Session) → KeepsSession s session → session_at handle s.sessions ≡ Some session → index_at index s.indices ≡ o → Keeps (policy_authorize_nv_at o handle session s)
    at None session k e found = h
    at (Some x) session k e found = by x x.written session k e found refl

    on : (o : Option Session) → session_at handle s.sessions ≡ o → Keeps (policy_authorize_nv_on o handle index s)
    on None e = h
    on (Some session) e = at (index_at index s.indices) session (session_kept s (session_place handle s.sessions) session h e) e refl
