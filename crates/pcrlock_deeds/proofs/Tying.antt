-- What each step of a deed leaves of the policy file, the state and the world is kept.
use Rattle.std.proofs.Common.{◌≡◌, ℕ, ◌+◌, ◌<◌, ◌≤◌, nat_le, ◌||◌, Bool, true, false, cond, List, [], length, map, refl, sym, ap, subst, ◌∙◌, arith, Contains}
use Rattle.std.specs.Prelude.{Option, None, Some}
use Rattle.std.specs.Cmp.Lexicographic.{nat_list_cmp_total, slice_cmp, texts_ties}
use Rattle.std.specs.FinMap.{get, get-insert, get-remove, insert, remove}
use Rattle.std.specs.List.{AllByRecursion, list_all}
use Rattle.std.specs.Ordering.{eq_by_cmp, nat_cmp}
use Rattle.hash_bank.specs.HashedString.{HashedString}
use Rattle.tpm_model.specs.Pcrs.{bank_count}
use Rattle.hash_bank.specs.declared.banks.Banks.{Banks}
use Rattle.nv_index.specs.Handles.{are_handles}
use Rattle.nv_index.specs.Table.{IsTable, is_counted}
use Rattle.pl_base.specs.FileMap.{FileMap}
use Rattle.tpm_model.specs.declared.object.Object.{Object}
use Rattle.tpm_model.specs.declared.parts.Parts.{Parts}
use Rattle.tpm_model.specs.Events.{Clean, Event, command_of, event_strings, filed_world, world_after}
use Rattle.tpm_model.specs.Fresh.{fresh_parts}
use Rattle.tpm_model.specs.Orderly.{Orderly}
use Rattle.tpm_model.specs.Respond.{respond}
use Rattle.tpm_model.specs.Tied.{Tied}
use Rattle.tpm_model.specs.WholeTie.{IsFiledHashed}
use Rattle.tpm_model.specs.World.{BoundObject, FiledPolicy, World, extended_world, hashed_world}
use Rattle.tpm_model.proofs.FromRules.{orderly_from}
use Rattle.tpm_model.proofs.KeepsRules.{fresh_rules}
use Rattle.tpm_model.proofs.Ties.{follows, same_tied, sound_on, tied_hashed}
use Rattle.tpm_model.proofs.TrailSteps.{bytes_same}
use Rattle.tpm_worlds.specs.EventLists.{Safe}
use Rattle.tpm_worlds.specs.FreshWorld.{fresh_world}
use Rattle.tpm_worlds.specs.WholeEvents.{IsSoundEvent, OwnTie}
use Rattle.tpm_worlds.proofs.IndicesAfter.{indices_same}
use Rattle.tpm_worlds.proofs.OrderlyAfter.{orderly_after}
use Rattle.tpm_worlds.proofs.Sessions.{IsGood, good_on}
use Rattle.tpm_worlds.proofs.SessionsAfter.{like}
use Rattle.tpm_worlds.proofs.Steady.{filed_on, filed_stays}
use Rattle.tpm_worlds.proofs.TrailReads.{GrowsAll, HasReads, reads_on}
use Rattle.tpm_worlds.proofs.Trails.{all_map}
use Rattle.tpm_worlds.proofs.WholeAfter.{SteadySessions, own_after, sessions_after}
use Rattle.tpm_worlds.proofs.WholeLists.{fresh_full, grows_event}
use Rattle.pcrlock_line.specs.Content.{content_at}
use Rattle.pcrlock_line.specs.Machine.{Live}
use Rattle.pcrlock_deeds.specs.Deed.{Filing, keeps, files}
use Rattle.pcrlock_deeds.specs.Filed.{HasNumberOf, IsFiledAs}
use Rattle.pcrlock_deeds.specs.Kept.{IsKept, IsOwnKept, LeavesFiled}
use Rattle.pcrlock_deeds.specs.PolicyAt.{policy_by, policy_limit}
use Rattle.pcrlock_deeds.specs.Sound.{IsBooted, IsTie}
use Rattle.pcrlock_deeds.specs.Steps.{after_session, booted_live, drawn_live, filing_world, sent_live, walked_live}
use Rattle.pcrlock_deeds.proofs.Growing.{grows_extended, grows_filing, grows_hashed}
use Rattle.pcrlock_deeds.proofs.Objects.{objects_before, objects_rise}

-- the file at the path is as it was, and the world has the same objects and no pin less: what was filed is
filed_same : (held now : FileMap) (path : List ℕ) (w v : World) → get now path ≡ get held path → ((p : List ℕ) → Contains w.pins p → Contains v.pins p)
    → (o : Option FiledPolicy)
    → ((filed : FiledPolicy) → o ≡ Some filed → (bound : BoundObject) → get v.objects filed.pin_object ≡ Some bound → get w.objects filed.pin_object ≡ Some bound)
    → IsFiledAs held path w o → IsFiledAs now path v o
filed_same held now path w v same pins None objects h = same ∙ h
filed_same held now path w v same pins (Some filed) objects h = record {
  policy = h.policy;
  read = ap (λ found. policy_by path (content_at found policy_limit)) same ∙ h.read;
  valid = h.valid;
  handle = h.handle;
  object = h.object;
  tables = h.tables;
  digest = h.digest;
  known = pins filed.pin h.known;
  pin = λ bound e. h.pin bound (objects filed refl bound e);
}

-- bytes at another path
unlike : (path policy : List ℕ) → (path ≡ policy → ⊥) → eq_by_cmp (slice_cmp nat_cmp) policy path ≡ false
unlike path policy apart = by (eq_by_cmp (slice_cmp nat_cmp) policy path) refl
  where
    by : (same : Bool) → eq_by_cmp (slice_cmp nat_cmp) policy path ≡ same → eq_by_cmp (slice_cmp nat_cmp) policy path ≡ false
    by true e = absurd (apart (sym (bytes_same policy path (texts_ties policy path ∙ e))))
    by false e = e

written_elsewhere : (held : FileMap) (path bytes policy : List ℕ) → (path ≡ policy → ⊥) → get (insert held path bytes) policy ≡ get held policy
written_elsewhere held path bytes policy apart =
    get-insert nat_list_cmp_total held path bytes policy ∙ ap (λ same. cond same (Some bytes) (get held policy)) (unlike path policy apart)

removed_elsewhere : (held : FileMap) (path policy : List ℕ) → (path ≡ policy → ⊥) → get (remove held path) policy ≡ get held policy
removed_elsewhere held path policy apart =
    get-remove nat_list_cmp_total held path policy ∙ ap (λ same. cond same None (get held policy)) (unlike path policy apart)

-- a session of one's own
by_session : (P : Parts → Type 0) (s : Parts) → P s → P (record s { next_session = s.next_session + 1 }) → P (after_session s)
by_session P s none one = elim (nat_le 64 (length s.sessions) || nat_le 0x01000000 s.next_session) as (λ b. P (cond b s (record s { next_session = s.next_session + 1 }))) [ true ↦ none | false ↦ one ]

-- the own tie of another state and a world with the same objects and no string less
pub own_same : (s t : Parts) (w v : World) → Orderly s → GrowsAll w v → t.indices ≡ s.indices → t.write_counter ≡ s.write_counter → v.live ≡ w.live → v.writes ≡ w.writes
    → v.objects ≡ w.objects → v.filed ≡ w.filed → Tied t v → OwnTie s w → OwnTie t v
own_same s t w v orderly grows indices counter live writes objects filed base own = record {
  base = base;
  indices = indices_same s t w v orderly own.known indices counter live writes grows.pins grows.strange own.indices;
  filed = subst (IsFiledHashed v) (sym filed) (filed_on w v grows.strings w.filed own.filed);
  known = λ update k. grows.pins update.pin (own.known update (subst (λ us. Contains us update) writes k));
  ranges = λ handle bound e. own.ranges handle bound (ap (λ m. get m handle) (sym objects) ∙ e);
}

tied_filed : (s : Parts) (w : World) (filed : Option FiledPolicy) → Tied s w → Tied s (filed_world filed w)
tied_filed s w filed t = record {
  banks = t.banks;
  pcrs = t.pcrs;
  objects = λ handle bound e. let h = t.objects handle bound e in record {
    object = h.object;
    found = h.found;
    secret = h.secret;
    policy = h.policy;
    sound = sound_on w (filed_world filed w) (λ _ k. k) bound.binding h.sound;
    strings = h.strings;
  };
  updates = t.updates;
  update_bindings = t.update_bindings;
  pins = t.pins;
  strange = t.strange;
}

-- the number stays above the object with the pin
number_rises : (s t : Parts) (o : Option FiledPolicy) → s.next_object ≤ t.next_object → HasNumberOf s o → HasNumberOf t o
number_rises s t None rises h = tt
number_rises s t (Some filed) rises h = omega (arith, rises, h)

-- no event takes what is filed, or gives its object's handle to another
filed_sent : (event : Event) (s : Parts) (w : World) (held : FileMap) (path : List ℕ) (o : Option FiledPolicy) → HasNumberOf s o
    → IsFiledAs held path w o → IsFiledAs held path (world_after event s w) o
filed_sent event s w held path None number h = h
filed_sent event s w held path (Some filed) number h =
    filed_same held held path w (world_after event s w) refl (grows_event event s w).pins (Some filed)
    (λ other e bound found.
    let same : filed ≡ other = cc in
    objects_before other.pin_object bound event s w (subst (λ (f : FiledPolicy). f.pin_object < 0x81000000 + s.next_object) same number) found) h

module _ (policy : List ℕ) where
  -- what is kept where no file changes and the world files the same
  pub kept_same : (m n : Live) (w v : World) → n.files ≡ m.files → ((p : List ℕ) → Contains w.pins p → Contains v.pins p) → v.objects ≡ w.objects → v.filed ≡ w.filed
      → m.state.next_object ≤ n.state.next_object → Orderly n.state → OwnTie n.state v → IsOwnKept policy m w → IsOwnKept policy n v
  kept_same m n w v same pins objects filed rises orderly own k = record {
    orderly = orderly;
    own = own;
    filed = subst (IsFiledAs n.files policy v) (sym filed)
        (filed_same m.files n.files policy w v (ap (λ f. get f policy) same) pins w.filed (λ one e bound found. ap (λ xs. get xs one.pin_object) (sym objects) ∙ found) k.filed);
    number = subst (HasNumberOf n.state) (sym filed) (number_rises m.state n.state w.filed rises k.number);
  }

  own_sent : (event : Event) (m : Live) (w : World) → IsSoundEvent event w → Clean (world_after event m.state w) → Safe (world_after event m.state w)
      → IsOwnKept policy m w → IsOwnKept policy (sent_live event m) (world_after event m.state w)
  own_sent event m w sound clean safe k =
      let s = m.state in
      let v = world_after event s w in
      let r = respond (command_of event) s in
      let stays : v.filed ≡ w.filed = filed_stays event r.0 r.1 (hashed_world (event_strings event s) w) in
      record {
        orderly = orderly_after (command_of event) s k.orderly;
        own = own_after event s w k.orderly sound k.own clean safe;
        filed = subst (IsFiledAs m.files policy v) (sym stays) (filed_sent event s w m.files policy w.filed k.number k.filed);
        number = subst (HasNumberOf r.1) (sym stays) (number_rises s r.1 w.filed (objects_rise (command_of event) s) k.number);
      }

  own_hashed : (strings : List HashedString) (m : Live) (w : World) → IsOwnKept policy m w → IsOwnKept policy m (hashed_world strings w)
  own_hashed strings m w k =
      kept_same m m w (hashed_world strings w) refl (λ _ h. h) refl refl (omega arith) k.orderly
      (own_same m.state m.state w (hashed_world strings w) k.orderly (grows_hashed strings w) refl refl refl refl refl refl (tied_hashed m.state w strings k.own.base) k.own) k

  own_walked : (m : Live) (w : World) → IsOwnKept policy m w → IsOwnKept policy (walked_live m) w
  own_walked m w k =
      by_session (λ s. IsOwnKept policy (record m { state = s }) w) m.state k
      (let t = record m.state { next_session = m.state.next_session + 1 } in
      kept_same m (record m { state = t }) w w refl (λ _ h. h) refl refl (omega arith)
      (record { values = k.orderly.values; objects = k.orderly.objects; table = k.orderly.table; counted = k.orderly.counted })
      (own_same m.state t w w k.orderly (grows_filing keeps w) refl refl refl refl refl refl (same_tied m.state t w refl refl refl k.own.base) k.own) k)

  -- what a restart or a measurement leaves is in order
  orderly_booted : (s t : Parts) → IsBooted s t → Orderly s → Orderly t
  orderly_booted s t b o = record {
    values = b.values;
    objects = ap (λ n. are_handles 0x81000000 (0x81000000 + n) (map (λ (object : Object). object.handle) t.objects)) b.next_object
        ∙ ap (λ xs. are_handles 0x81000000 (0x81000000 + s.next_object) (map (λ (object : Object). object.handle) xs)) b.objects ∙ o.objects;
    table = subst IsTable (sym b.indices) o.table;
    counted = ap (λ n. list_all (is_counted n) t.indices) b.write_counter ∙ ap (λ xs. list_all (is_counted s.write_counter) xs) b.indices ∙ o.counted;
  }

  own_booted : (s : Parts) (m : Live) (w : World) → IsBooted m.state s → IsOwnKept policy m w → IsOwnKept policy (booted_live s m) (extended_world s w)
  own_booted s m w b k =
      kept_same m (booted_live s m) w (extended_world s w) refl (λ _ h. h) refl refl (omega (arith, b.next_object)) (orderly_booted m.state s b k.orderly)
      (own_same m.state s w (extended_world s w) k.orderly (grows_extended s w) b.indices b.write_counter refl refl refl refl (follows m.state s w b.objects k.own.base) k.own) k

  own_drawn : (rest : List (List ℕ)) (m : Live) (w : World) → IsOwnKept policy m w → IsOwnKept policy (drawn_live rest m) w
  own_drawn rest m w k = record { orderly = k.orderly; own = k.own; filed = k.filed; number = k.number }

  -- a change of a file
  own_changed : (filing : Filing) (path : List ℕ) (m : Live) (now : FileMap) (w : World) → ((path ≡ policy → ⊥) → get now policy ≡ get m.files policy)
      → LeavesFiled policy path filing (record m { files = now }) w → IsOwnKept policy m w → IsOwnKept policy (record m { files = now }) (filing_world filing w)
  own_changed keeps path m now w same apart k = record {
    orderly = k.orderly;
    own = k.own;
    filed = filed_same m.files now policy w w (same apart) (λ _ h. h) w.filed (λ _ _ _ e. e) k.filed;
    number = k.number;
  }
  own_changed (files filed) path m now w same new k =
      let v = filed_world filed w in
      record {
        orderly = k.orderly;
        own = record {
          base = tied_filed m.state w filed k.own.base;
          indices = indices_same m.state m.state w v k.orderly k.own.known refl refl refl refl (λ _ h. h) (λ _ h. h) k.own.indices;
          filed = filed_on w v (λ _ h. h) filed new.strings;
          known = k.own.known;
          ranges = k.own.ranges;
        };
        filed = new.states;
        number = new.number;
      }

  pub own_tie : IsTie (IsOwnKept policy) (LeavesFiled policy)
  own_tie = record {
    sent = own_sent;
    hashed = own_hashed;
    walked = own_walked;
    booted = own_booted;
    drawn = own_drawn;
    written = λ path bytes filing m w rule k. own_changed filing path m (insert m.files path bytes) w (written_elsewhere m.files path bytes policy) rule k;
    removed = λ path filing m w rule k. own_changed filing path m (remove m.files path) w (removed_elsewhere m.files path policy) rule k;
  }

  -- sessions in a world that grew
  grown_sessions : (s : Parts) (w v : World) → GrowsAll w v → SteadySessions s w → SteadySessions s v
  grown_sessions s w v grows k = record {
    good = all_map (IsGood s w) (IsGood s v) (good_on s w v grows.strings) s.sessions k.good;
    reads = reads_on w v grows s.sessions k.reads;
  }

  no_sessions : (s : Parts) (w : World) → s.sessions ≡ [] → SteadySessions s w
  no_sessions s w none = record {
    good = subst (AllByRecursion (IsGood s w)) (sym none) tt;
    reads = subst (AllByRecursion (HasReads w)) (sym none) tt;
  }

  pub kept_tie : IsTie (IsKept policy) (LeavesFiled policy)
  kept_tie = record {
    sent = λ event m w sound clean safe k. record {
      own = own_sent event m w sound clean safe k.own;
      sessions = sessions_after event m.state w k.own.orderly k.own.own.known k.own.own.indices k.sessions;
    };
    hashed = λ strings m w k. record { own = own_hashed strings m w k.own; sessions = grown_sessions m.state w (hashed_world strings w) (grows_hashed strings w) k.sessions };
    walked = λ m w k. record {
      own = own_walked m w k.own;
      sessions = by_session (λ s. SteadySessions s w) m.state k.sessions
          (record { good = like m.state (record m.state { next_session = m.state.next_session + 1 }) w m.state.sessions refl refl refl k.sessions.good; reads = k.sessions.reads });
    };
    booted = λ s m w b k. record { own = own_booted s m w b k.own; sessions = no_sessions s (extended_world s w) b.sessions };
    drawn = λ rest m w k. record { own = own_drawn rest m w k.own; sessions = k.sessions };
    written = λ path bytes filing m w rule k. record {
      own = own_changed filing path m (insert m.files path bytes) w (written_elsewhere m.files path bytes policy) rule k.own;
      sessions = grown_sessions m.state w (filing_world filing w) (grows_filing filing w) k.sessions;
    };
    removed = λ path filing m w rule k. record {
      own = own_changed filing path m (remove m.files path) w (removed_elsewhere m.files path policy) rule k.own;
      sessions = grown_sessions m.state w (filing_world filing w) (grows_filing filing w) k.sessions;
    };
  }

  -- a TPM that was never used and no policy file
  pub fresh_kept : (banks : Banks) (held : FileMap) (words : List (List ℕ)) → 1 ≤ bank_count banks → get held policy ≡ None
      → IsKept policy (record { files = held; state = fresh_parts banks; draws = words }) (fresh_world banks)
  fresh_kept banks held words some none = record {
    own = record { orderly = orderly_from (fresh_parts banks) (fresh_rules banks some); own = (fresh_full banks).own; filed = none; number = tt };
    sessions = record { good = tt; reads = tt };
  }
