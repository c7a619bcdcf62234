-- An `unseal` opens an object only by what it is bound to, whatever the token says of it, and whatever policy file is there.
use Rattle.std.proofs.Common.{◌≡◌, ℕ, Bool, true, false, cond, List, [], ◌∷◌, ◌++◌, length, inl, inr, refl, sym, ap, subst, ◌∙◌, Contains}
use Rattle.std.specs.Prelude.{nat_lt, nat_le, codes, Option, None, Some, Result, Ok, Err}
use Rattle.std.specs.FinMap.{get}
use Rattle.std.specs.Str.{bytes_eq}
use Rattle.std.proofs.lemmas.List.{append_cancel_left}
use Rattle.std.proofs.lemmas.List.Elements.{Contains-append_left, Contains-append_right}
use Rattle.std.proofs.lemmas.Option.{get_or_from_slice_get, slice_get_within}
use Rattle.std.proofs.lemmas.Slice.Eq.{bytes_eq-Decides}
use Rattle.pl_base.specs.FileMap.{FileMap}
use Rattle.hash_bank.specs.declared.bank.Bank.TheVariants.{Sha256}
use Rattle.hash_bank.specs.Banks.{has_bank}
use Rattle.hash_bank.specs.Hash.{zeros_in}
use Rattle.hash_bank.specs.HashedString.{HashedString, NoClash}
use Rattle.nv_index.specs.IndexName.{index_name_of, index_string, written_public}
use Rattle.nv_index.specs.Table.{index_at, index_place}
use Rattle.nv_index.specs.declared.index.Index.{Index}
use Rattle.nv_index.specs.declared.index.NvPublic.{NvPublic}
use Rattle.nv_index.specs.declared.index.Written.{Written}
use Rattle.policy_digest.specs.BindingStrings.{bind_strings, literal_strings, name_strings_in}
use Rattle.policy_digest.specs.Pin.{pin_policy_of}
use Rattle.policy_digest.specs.PlainTable.{PlainTable, root_of}
use Rattle.policy_digest.specs.Policies.{policy_authorize_nv_of}
use Rattle.policy_digest.specs.TableStrings.{table_strings}
use Rattle.policy_file.specs.declared.error.FileError.{FileError}
use Rattle.policy_file.specs.declared.error.FileError.TheVariants as file
use Rattle.policy_file.specs.declared.policy.Policy.{Policy}
use Rattle.policy_file.specs.declared.token.Literal.{Literal}
use Rattle.policy_file.specs.declared.token.Token.{Token}
use Rattle.policy_file.specs.declared.token.Token.TheVariants as tokens
use Rattle.policy_file.specs.PolicyReading.{policy_in}
use Rattle.policy_file.specs.PolicyText.{IsPolicy}
use Rattle.policy_file.specs.TokenText.{IsLiteral, IsToken}
use Rattle.policy_file.proofs.Policies as policies
use Rattle.policy_file.proofs.Tokens.{token_takes}
use Rattle.policy_roots.specs.Held.{AreHeld}
use Rattle.policy_roots.specs.Rows.{HasRows}
use Rattle.policy_roots.proofs.Parsed.{same_index_handle, same_index_policy}
use Rattle.policy_roots.proofs.Tables.{same_tables}
use Rattle.policy_roots.proofs.Valid.{valid_has_rows}
use Rattle.policy_walk.specs.Choosing.{chosen_of, content_of}
use Rattle.policy_walk.specs.Ends.{End, past_rows, at_row}
use Rattle.policy_session.specs.declared.index.IndexError.{IndexError}
use Rattle.policy_session.specs.declared.index.IndexError.TheVariants as index
use Rattle.policy_session.specs.BoundUnseal.{bound_strings, foreseen_end, joined_values}
use Rattle.tpm_model.specs.declared.object.Object.{Object}
use Rattle.tpm_model.specs.declared.parts.Parts.{Parts}
use Rattle.tpm_model.specs.Binding.{Binding, Index as IndexBinding, Literal as LiteralBinding, binding_strings, literal_policy, policy_of}
use Rattle.tpm_model.specs.Events.{Clean}
use Rattle.tpm_model.specs.Opening.{Open, Unlocks}
use Rattle.tpm_model.specs.Orderly.{Orderly}
use Rattle.tpm_model.specs.Pcrs.{pcr_of}
use Rattle.tpm_model.specs.Sessions.{object_at}
use Rattle.tpm_model.specs.Tied.{IsHeld, IsSoundBinding}
use Rattle.tpm_model.specs.World.{AreHashed, BoundObject, LiveIndex, World}
use Rattle.tpm_worlds.specs.EventLists.{Safe}
use Rattle.tpm_worlds.specs.WholeEvents.{IsRanged, OwnTie}
use Rattle.tpm_worlds.proofs.IndexPlaces.{found_handle}
use Rattle.tpm_worlds.proofs.IndicesAfter.{handle_range}
use Rattle.tpm_worlds.proofs.SamePin.{same_pin}
use Rattle.pcrlock_answer.specs.declared.answer.Answer.{Answer}
use Rattle.pcrlock_answer.specs.declared.answer.Answer.TheVariants as said
use Rattle.pcrlock_answer.specs.Texts.{key_text}
use Rattle.pcrlock_line.specs.Content.{Bytes, TooLarge, content_at}
use Rattle.pcrlock_line.specs.Machine.{Live, machine}
use Rattle.pcrlock_line.specs.Outcome.{Fine, Refused, Outcome, refused_line}
use Rattle.pcrlock_deeds.specs.PolicyAt.{needed_of, policy_by, policy_limit, policy_needed, policy_read}
use Rattle.pcrlock_open.specs.Bound.{bound_line, chosen_strings, held_by, held_strings, object_opened, opened_by_held, plain_tables, secret_ending, table_opened, walk_opened}
use Rattle.pcrlock_open.specs.Unseal.{content_line, literal_line, object_ending, policy_line, present_value, token_line, unseal_line, value_ending, value_strings}
use Rattle.pcrlock_open.proofs.BoundEnds.{held as held_at, picked}
use Rattle.pcrlock_headline.specs.Only.{HasBytes, IsUnlockedKey, NamesObject, object_of}
use Rattle.pcrlock_headline.proofs.Bindings.{index_is_no_literal, names_held, same_index, same_literal}
use Rattle.pcrlock_headline.proofs.Exact.{open_in_world}
use Rattle.pcrlock_headline.proofs.Newest.{newest_held}
use Rattle.pcrlock_headline.proofs.Rows.{all_past}

-- ---- what was read

-- a policy that was read has a text
policy_valid : (files : FileMap) (path : List ℕ) (policy : Policy) → HasBytes files path → policy_needed files path ≡ Ok policy → IsPolicy policy
policy_valid files path policy are e = by_content (get files path) refl e
  where
    by_read : (bytes : List ℕ) (r : Result Policy FileError) → get files path ≡ Some bytes → policy_in bytes ≡ r → needed_of path (policy_read path r) ≡ Ok policy → IsPolicy policy
    by_read bytes (Ok p) there read f =
        let same : p ≡ policy = cc in
        (policies.is_spelled bytes (Ok policy) (are bytes there) (read ∙ ap Ok same)).0
    by_read bytes (Err (file.Malformed at kind)) there read f = absurd (cc f)
    by_read bytes (Err file.Memory) there read f = absurd (cc f)

    by_size : (bytes : List ℕ) (large : Bool) → get files path ≡ Some bytes → needed_of path (policy_by path (cond large (TooLarge (length bytes)) (Bytes bytes))) ≡ Ok policy → IsPolicy policy
    by_size bytes true there f = absurd (cc f)
    by_size bytes false there f = by_read bytes (policy_in bytes) there refl f

    by_content : (o : Option (List ℕ)) → get files path ≡ o → needed_of path (policy_by path (content_at o policy_limit)) ≡ Ok policy → IsPolicy policy
    by_content None there f = absurd (cc f)
    by_content (Some bytes) there f = by_size bytes (nat_lt policy_limit (length bytes)) there f

-- ---- an object that gave its bytes

-- its policy is this one, and the text is its key
record IsGiven (policy text : List ℕ) (object : Object) : Type 0 where
  same : policy ≡ object.policy
  key : text ≡ key_text object.secret

text_inside : {a b : List ℕ} → Fine a ≡ Fine b → a ≡ b
text_inside e = cc

gave : (policy text : List ℕ) (handle : ℕ) (s : Parts) (object : Object) → object_at handle s.objects ≡ Some object
    → object_ending policy handle (object_at handle s.objects) ≡ Fine text → IsGiven policy text object
gave policy text handle s object found e = by_test (bytes_eq policy object.policy) refl (sym (ap (object_ending policy handle) found) ∙ e)
  where
    by_test : (same : Bool) → bytes_eq policy object.policy ≡ same → cond same (Fine (key_text object.secret)) (Refused (said.WrongBinding policy object.policy)) ≡ Fine text
        → IsGiven policy text object
    by_test true is f = record { same = (bytes_eq-Decides policy object.policy).0 is; key = sym (text_inside f) }
    by_test false is f = absurd (cc f)

-- the same of its secret
by_secret : (policy : List ℕ) (handle : ℕ) (o : Option Object) → secret_ending (object_opened policy handle o) ≡ object_ending policy handle o
by_secret policy handle None = refl
by_secret policy handle (Some object) = by_test (bytes_eq policy object.policy)
  where
    by_test : (same : Bool) → secret_ending (cond same (Ok object.secret) (Err (said.WrongBinding policy object.policy)))
        ≡ cond same (Fine (key_text object.secret)) (Refused (said.WrongBinding policy object.policy))
    by_test true = refl
    by_test false = refl

-- what is found stands in the list
found_member : (handle : ℕ) (xs : List Index) (x : Index) → index_at handle xs ≡ Some x → Contains xs x
found_member handle xs x e = (index_place handle xs, slice_get_within xs (index_place handle xs) x e, get_or_from_slice_get xs (index_place handle xs) x x e)

one_index : (a b : Index) → Some a ≡ Some b → a ≡ b
one_index a b f = cc

one_write : (a b : Written) → Some a ≡ Some b → a ≡ b
one_write a b f = cc

-- ---- an object of the world

module _ (m : Live) (w : World) (orderly : Orderly m.state) (own : OwnTie m.state w) (clean : Clean w) (handle : ℕ) (bound : BoundObject) (found : get w.objects handle ≡ Some bound) where
  held : IsHeld m.state w handle bound
  held = own.base.objects handle bound found

  module _ (more : List HashedString) (safe : NoClash (Contains (w.hashed ++ more))) where
    abbrev S : HashedString → Type 0
    S = Contains (w.hashed ++ more)

    ours : (strings : List HashedString) → AreHashed w strings → AreHeld S strings
    ours strings h = λ s k. Contains-append_left w.hashed more s (h s k)

    safe_world : Safe w
    safe_world = record {
      distinct = λ s t h k. safe.distinct s t (Contains-append_left w.hashed more s h) (Contains-append_left w.hashed more t k);
      nonzero = λ s h. safe.nonzero s (Contains-append_left w.hashed more s h);
    }

    -- its policy is that of a written index, which holds the root of a table that is open
    module _ (place : ℕ) (x : Index) (at : index_at place m.state.indices ≡ Some x) (written : Written) (was : x.written ≡ Some written) (table : PlainTable) (rows : HasRows table)
        (strings : AreHeld S (table_strings table)) (names : AreHeld S (name_strings_in Sha256 x.public)) (content : written.value ≡ content_of (root_of table)) (opens : Open table m.state.banks m.state.pcrs) where
      by_live : (number : ℕ) (pin : List ℕ) → x.public.handle ≡ number → x.public.policy ≡ pin_policy_of pin → Contains w.pins pin
          → (live : LiveIndex) → get w.live x.public.handle ≡ Some live → Unlocks w (IndexBinding number pin)
      by_live number pin here policy known live e =
          let l = (own.indices.live x.public.handle live).0 e in
          let newest = newest_held m.state w x.public.handle live orderly own e in
          let itself : index_at x.public.handle m.state.indices ≡ Some x = ap (λ n. index_at n m.state.indices) (found_handle place m.state.indices x at) ∙ at in
          let one : x ≡ l.index = one_index x l.index (sym itself ∙ l.found) in
          let two : x ≡ newest.index = one_index x newest.index (sym itself ∙ newest.found) in
          let again : written ≡ newest.written = one_write written newest.written (sym was ∙ ap (λ (y : Index). y.written) two ∙ newest.was) in
          let pins : live.pin ≡ pin = same_pin w live.pin pin safe_world (own.base.pins live.pin l.known) (own.base.pins pin known)
          (sym (ap (λ (y : Index). y.public.policy) one ∙ l.policy) ∙ policy) in
          let roots : root_of table ≡ root_of live.table =
          append_cancel_left (0x00 ∷ 0x0B ∷ []) (root_of table) (root_of live.table) (sym content ∙ ap (λ (z : Written). z.value) again ∙ newest.content) in
          let same : table ≡ live.table = same_tables S safe table live.table strings (ours (table_strings live.table) newest.hashed) rows newest.rows roots in
          record { live = live; found = ap (get w.live) (sym here) ∙ e; same = pins; opens = open_in_world live.table m.state w own.base (subst (λ t. Open t m.state.banks m.state.pcrs) same opens) }

      by_index : (b : Binding) → policy_authorize_nv_of Sha256 (index_name_of x.public) ≡ policy_of b → IsSoundBinding w b → AreHashed w (binding_strings b) → IsRanged b → Unlocks w b
      by_index (IndexBinding number pin) e sound hashed ranged =
          let other : NvPublic = written_public number (pin_policy_of pin) in
          let area : index_string x.public ≡ index_string other = same_index S safe x.public other names (names_held S number pin (ours (bind_strings number pin) hashed)) e in
          let here : x.public.handle ≡ number = same_index_handle x.public other (handle_range m.state orderly place x at) ranged area in
          let policy : x.public.policy ≡ pin_policy_of pin = same_index_policy x.public other area in
          elim (own.indices.others x written (found_member place m.state.indices x at) was) [
            | inl live ↦ by_live number pin here policy sound live.0 live.1
            | inr foreign ↦
                let one : pin ≡ foreign.pin = same_pin w pin foreign.pin safe_world (own.base.pins pin sound) (own.base.strange foreign.pin foreign.presented) (sym policy ∙ foreign.policy) in
                absurd (clean pin sound (subst (Contains w.strange) (sym one) foreign.presented))
          ]
      by_index (LiteralBinding hash bank pcr value) e sound hashed ranged =
          absurd (index_is_no_literal S safe x.public hash bank pcr value sound names (ours (literal_strings hash bank pcr value) hashed) e)

    -- its policy is that of a value that a PCR holds
    by_value : (literal : Literal) (now : List ℕ) → IsLiteral literal → present_value literal m.state ≡ Some now → AreHeld S (literal_strings literal.hash literal.bank literal.pcr now)
        → (b : Binding) → literal_policy literal.hash literal.bank literal.pcr now ≡ policy_of b → IsSoundBinding w b → AreHashed w (binding_strings b) → Unlocks w b
    by_value literal now is present strings (IndexBinding number pin) e sound hashed =
        absurd (index_is_no_literal S safe (written_public number (pin_policy_of pin)) literal.hash literal.bank literal.pcr now is.hash
        (names_held S number pin (ours (bind_strings number pin) hashed)) strings (sym e))
    by_value literal now is present strings (LiteralBinding hash bank pcr value) e sound hashed =
        let same = same_literal S safe literal.hash hash literal.bank bank literal.pcr pcr now value is.hash sound strings (ours (literal_strings hash bank pcr value) hashed) e in
        ap (λ banks. pcr_of banks w.pcrs bank pcr) own.base.banks ∙ ap (λ pcrs. pcr_of m.state.banks pcrs bank pcr) own.base.pcrs
        ∙ ap (λ k. pcr_of m.state.banks m.state.pcrs k pcr) (sym same.banks) ∙ ap (λ n. pcr_of m.state.banks m.state.pcrs literal.bank n) (sym same.pcrs)
        ∙ present ∙ ap Some same.values

  -- ---- the line

  -- what the outcome prints is the key of the object, whose binding is unlocked
  abbrev pub Only : Outcome → Type 0
  Only o = NoClash (Contains (w.hashed ++ o.hashed)) → (text : List ℕ) → o.ending ≡ Fine text → IsUnlockedKey text bound w

  refused_only : (answer : Answer) → Only (refused_line answer (machine m))
  refused_only answer safe text e = absurd (cc e)

  given_key : (policy text : List ℕ) → IsGiven policy text held.object → text ≡ key_text bound.secret
  given_key policy text g = g.key ∙ ap key_text held.secret

  literal_only : (state : List ℕ) (literal : Literal) → IsLiteral literal → Only (literal_line state literal handle (machine m))
  literal_only state literal is safe text e = by_tests (nat_le 64 (length m.state.sessions)) (nat_le 0x01000000 m.state.next_session) e
    where
      policy : List ℕ → List ℕ
      policy now = literal_policy literal.hash literal.bank literal.pcr now

      by_equal : (now : List ℕ) (equal : Bool) → present_value literal m.state ≡ Some now → NoClash (Contains (w.hashed ++ value_strings (Some now) literal))
          → cond equal (object_ending (policy now) handle (object_at handle m.state.objects)) (Refused (said.NotLiteral literal.pcr now literal.value)) ≡ Fine text → IsUnlockedKey text bound w
      by_equal now true present apart f =
          let g = gave (policy now) text handle m.state held.object held.found f in
          let mine = literal_strings literal.hash literal.bank literal.pcr now in
          let theirs = literal_strings literal.hash literal.bank literal.pcr literal.value in
          record {
            key = given_key (policy now) text g;
            unlocked = by_value (value_strings (Some now) literal) apart literal now is present
                (λ s k. Contains-append_right w.hashed (mine ++ theirs) s (Contains-append_left mine theirs s k))
                bound.binding (g.same ∙ held.policy) held.sound held.strings;
          }
      by_equal now false present apart f = absurd (cc f)

      by_present : (o : Option (List ℕ)) → present_value literal m.state ≡ o → NoClash (Contains (w.hashed ++ value_strings o literal)) → value_ending o literal handle m.state ≡ Fine text
          → IsUnlockedKey text bound w
      by_present None present apart f = absurd (cc f)
      by_present (Some now) present apart f = by_equal now (bytes_eq now literal.value) present apart f

      by_tests : (full ended : Bool) → cond full (Refused said.SessionsFull) (cond ended (Refused (said.Limit (codes "handles") 0x01000000)) (value_ending (present_value literal m.state) literal handle m.state)) ≡ Fine text
          → IsUnlockedKey text bound w
      by_tests true ended f = absurd (cc f)
      by_tests false true f = absurd (cc f)
      by_tests false false f = by_present (present_value literal m.state) refl safe f

  -- by what the policy's index holds
  module _ (policy : Policy) (valid : IsPolicy policy) (text : List ℕ) (public : NvPublic) (content : List ℕ) (read : held_by policy m.state ≡ Ok (public, content)) where
    by_walk : (table : PlainTable) (present : Bool) (end : End) → chosen_of content (plain_tables policy) ≡ Some table → NoClash (Contains (w.hashed ++ chosen_strings public m.state (Some table)))
        → has_bank m.state.banks table.bank ≡ present → foreseen_end table m.state ≡ end
        → secret_ending (cond present (walk_opened table.bank public handle m.state end) (Err (said.BankAbsent table.bank))) ≡ Fine text → IsUnlockedKey text bound w
    by_walk table true (past_rows digest) chosen apart has ends f =
        let policy_now = policy_authorize_nv_of Sha256 (index_name_of public) in
        let g = gave policy_now text handle m.state held.object held.found (sym (by_secret policy_now handle (object_at handle m.state.objects)) ∙ f) in
        let at = held_at policy m.state public content read in
        let pick = picked content policy.tables table valid.tables chosen in
        let strings = chosen_strings public m.state (Some table) in
        let front = table_strings table ++ bound_strings table m.state in
        record {
          key = given_key policy_now text g;
          unlocked = by_index strings apart policy.handle (record { public = public; written = Some at.written }) at.found at.written refl table
              (subst HasRows pick.is (valid_has_rows pick.table pick.valid))
              (λ s k. Contains-append_right w.hashed strings s (Contains-append_left front (name_strings_in Sha256 public) s (Contains-append_left (table_strings table) (bound_strings table m.state) s k)))
              (λ s k. Contains-append_right w.hashed strings s (Contains-append_right front (name_strings_in Sha256 public) s k))
              (at.value ∙ pick.content_is)
              (record { present = has; listed = all_past table.bank (joined_values table.bank m.state) (zeros_in Sha256) digest table.rows ends })
              bound.binding (g.same ∙ held.policy) held.sound held.strings (own.ranges handle bound found);
        }
    by_walk table true (at_row pcrs) chosen apart has ends f = absurd (cc f)
    by_walk table false end chosen apart has ends f = absurd (cc f)

    by_tests : (table : PlainTable) (full ended : Bool) → chosen_of content (plain_tables policy) ≡ Some table → NoClash (Contains (w.hashed ++ chosen_strings public m.state (Some table)))
        → secret_ending (cond full (Err said.SessionsFull) (cond ended (Err (said.Limit (codes "handles") 0x01000000)) (cond (has_bank m.state.banks table.bank) (walk_opened table.bank public handle m.state (foreseen_end table m.state)) (Err (said.BankAbsent table.bank))))) ≡ Fine text
        → IsUnlockedKey text bound w
    by_tests table true ended chosen apart f = absurd (cc f)
    by_tests table false true chosen apart f = absurd (cc f)
    by_tests table false false chosen apart f = by_walk table (has_bank m.state.banks table.bank) (foreseen_end table m.state) chosen apart refl refl f

    by_chosen : (o : Option PlainTable) → chosen_of content (plain_tables policy) ≡ o → NoClash (Contains (w.hashed ++ chosen_strings public m.state o))
        → secret_ending (table_opened (plain_tables policy) public content handle m.state o) ≡ Fine text → IsUnlockedKey text bound w
    by_chosen None chosen apart f = absurd (cc f)
    by_chosen (Some table) chosen apart f = by_tests table (nat_le 64 (length m.state.sessions)) (nat_le 0x01000000 m.state.next_session) chosen apart f

  bound_only : (state : List ℕ) (policy : Policy) → IsPolicy policy → Only (bound_line state policy handle (machine m))
  bound_only state policy valid safe text e = by_read (held_by policy m.state) refl safe e
    where
      by_read : (r : Result (NvPublic × List ℕ) IndexError) → held_by policy m.state ≡ r → NoClash (Contains (w.hashed ++ held_strings policy m.state r))
          → secret_ending (opened_by_held policy handle m.state r) ≡ Fine text → IsUnlockedKey text bound w
      by_read (Ok v) read apart f = by_chosen policy valid text v.0 v.1 read (chosen_of v.1 (plain_tables policy)) refl apart f
      by_read (Err index.NoIndex) read apart f = absurd (cc f)
      by_read (Err index.Unwritten) read apart f = absurd (cc f)
      by_read (Err other) read apart f = absurd (cc f)

  policy_only : (state path : List ℕ) (needed : Result Policy Answer) → HasBytes m.files path → policy_needed m.files path ≡ needed → Only (policy_line state handle needed (machine m))
  policy_only state path (Ok policy) are read = bound_only state policy (policy_valid m.files path policy are read)
  policy_only state path (Err answer) are read = refused_only answer

  token_only : (state path policy : List ℕ) (t : Token) → HasBytes m.files policy → IsToken t → object_of t ≡ handle → Only (token_line state path policy (Ok t) (machine m))
  token_only state path policy (tokens.Bound number) are is names =
      subst (λ n. Only (policy_line state n (policy_needed m.files policy) (machine m))) (sym names) (policy_only state policy (policy_needed m.files policy) are refl)
  token_only state path policy (tokens.Literal number literal) are is names =
      subst (λ n. Only (literal_line state literal n (machine m))) (sym names) (literal_only state literal is.1)

  pub line_only : (state path policy : List ℕ) → HasBytes m.files path → HasBytes m.files policy → NamesObject m.files path handle → Only (unseal_line state path policy (machine m))
  line_only state path policy are have n =
      subst (λ o. Only (content_line state path policy (content_at o 256) (machine m))) (sym n.there) (by_size (nat_lt 256 (length n.bytes)))
    where
      valid : IsToken n.token
      valid = (token_takes n.bytes n.token (are n.bytes n.there) n.read).0

      by_size : (large : Bool) → Only (content_line state path policy (cond large (TooLarge (length n.bytes)) (Bytes n.bytes)) (machine m))
      by_size true = refused_only (said.Limit (codes "token-bytes") (length n.bytes))
      by_size false = subst (λ r. Only (token_line state path policy r (machine m))) (sym n.read) (token_only state path policy n.token have valid n.names)
