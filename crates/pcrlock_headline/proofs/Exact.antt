-- An unseal of an object that is bound to an index prints the key exactly where the newest table is open.
use Rattle.std.proofs.Common.{◌≡◌, ◌↔◌, ℕ, Bool, true, false, cond, List, drop, length, refl, sym, ap, ap₂, subst, ◌∙◌, Contains}
use Rattle.std.specs.Prelude.{◌<◌, Some, Ok, Err}
use Rattle.std.specs.FinMap.{get}
use Rattle.std.specs.List.{AllByRecursion}
use Rattle.std.proofs.lemmas.Bool.{lt-leb}
use Rattle.std.proofs.lemmas.Slice.Eq.{bytes_eq-Decides}
use Rattle.hash_bank.specs.declared.bank.Bank.{Bank}
use Rattle.hash_bank.specs.declared.bank.Bank.TheVariants.{Sha256}
use Rattle.hash_bank.specs.Banks.{has_bank}
use Rattle.hash_bank.specs.Hash.{zeros_in}
use Rattle.nv_index.specs.IndexName.{index_name_of}
use Rattle.nv_index.specs.declared.index.NvPublic.{NvPublic}
use Rattle.policy_digest.specs.PlainTable.{PlainTable, root_of}
use Rattle.policy_digest.specs.Policies.{policy_authorize_nv_of}
use Rattle.policy_digest.specs.TableStrings.{table_strings}
use Rattle.policy_file.specs.declared.token.Token.TheVariants as tokens
use Rattle.policy_file.proofs.Tokens.{token_again}
use Rattle.policy_walk.specs.Choosing.{chosen_of, is_in_force, newest_root}
use Rattle.policy_walk.specs.Ends.{End, past_rows, at_row}
use Rattle.policy_session.specs.BoundUnseal.{foreseen_end, joined_values}
use Rattle.policy_session.specs.IndexReads.{index_read, read_found, read_written}
use Rattle.tpm_model.specs.declared.object.Object.{Object}
use Rattle.tpm_model.specs.declared.parts.Parts.{Parts}
use Rattle.tpm_model.specs.Binding.{Index}
use Rattle.tpm_model.specs.Opening.{Open, UnlocksIndex}
use Rattle.tpm_model.specs.Orderly.{Orderly}
use Rattle.tpm_model.specs.Pcrs.{HasValues}
use Rattle.tpm_model.specs.Sessions.{object_at}
use Rattle.tpm_model.specs.Tied.{IsHeld, Tied}
use Rattle.tpm_model.specs.WholeTie.{IsFiledHashed}
use Rattle.tpm_model.specs.World.{AreHashed, FiledPolicy, LiveIndex, World}
use Rattle.tpm_walks.proofs.OpenTables.{opens_by_values, opens_joined}
use Rattle.tpm_worlds.specs.EventLists.{Safe}
use Rattle.pcrlock_answer.specs.declared.answer.Answer.TheVariants as said
use Rattle.pcrlock_answer.specs.Texts.{key_text}
use Rattle.pcrlock_line.specs.Machine.{Live, machine}
use Rattle.pcrlock_line.specs.Outcome.{Ending, Fine, Refused}
use Rattle.pcrlock_deeds.specs.Filed.{Current, CurrentOf, IsFiled, IsFiledAs}
use Rattle.pcrlock_deeds.specs.Kept.{IsOwnKept}
use Rattle.pcrlock_deeds.specs.PolicyAt.{needed_of}
use Rattle.pcrlock_open.specs.Bound.{bound_by, object_opened, opened_by_held, plain_tables, secret_ending, table_opened, walk_opened}
use Rattle.pcrlock_open.specs.Unseal.{content_line, policy_line, token_line, unseal_line}
use Rattle.pcrlock_headline.specs.Enrolled.{IsBoundToken, IsEnrolledTo}
use Rattle.pcrlock_headline.specs.Exact.{OpensByPolicy, OpensByValues}
use Rattle.pcrlock_headline.proofs.Named.{IsAlone, all_alone, in_force, newest_named, none_named}
use Rattle.pcrlock_headline.proofs.Newest.{HoldsNewest, newest_held}
use Rattle.pcrlock_headline.proofs.Rows.{all_past, past_all}

-- ---- past the rows

-- the object is there, under this policy
opened_object : (policy : List ℕ) (handle : ℕ) (s : Parts) (object : Object) (key : List ℕ)
    → object_at handle s.objects ≡ Some object → object.secret ≡ key → policy ≡ object.policy → object_opened policy handle (object_at handle s.objects) ≡ Ok key
opened_object policy handle s object key found secret same =
    ap (object_opened policy handle) found
    ∙ ap (λ b. cond b (Ok object.secret) (Err (said.WrongBinding policy object.policy))) ((bytes_eq-Decides policy object.policy).1 same)
    ∙ ap Ok secret

-- where a session can start, the bank decides, and where the rows end
started : (bank : Bank) (public : NvPublic) (handle : ℕ) (s : Parts) (end : End) → length s.sessions < 64 → s.next_session < 0x01000000
    → bound_by bank public handle s end ≡ cond (has_bank s.banks bank) (walk_opened bank public handle s end) (Err (said.BankAbsent bank))
started bank public handle s end slot number = rw (lt-leb 64 (length s.sessions) slot, lt-leb 0x01000000 s.next_session number) refl

-- the end by whether the bank is present, and by where the rows end
abbrev Ends : PlainTable → NvPublic → ℕ → Parts → Bool → End → Ending
Ends table public handle s present end = secret_ending (cond present (walk_opened table.bank public handle s end) (Err (said.BankAbsent table.bank)))

module _ (table : PlainTable) (public : NvPublic) (handle : ℕ) (s : Parts) (object : Object) (key : List ℕ)
    (found : object_at handle s.objects ≡ Some object) (secret : object.secret ≡ key) (policy : policy_authorize_nv_of Sha256 (index_name_of public) ≡ object.policy) where
  open_where : (present : Bool) (end : End) → has_bank s.banks table.bank ≡ present → foreseen_end table s ≡ end
      → Ends table public handle s present end ≡ Fine (key_text key) → Open table s.banks s.pcrs
  open_where true (past_rows digest) has ends e =
      record { present = has; listed = all_past table.bank (joined_values table.bank s) (zeros_in Sha256) digest table.rows ends }
  open_where true (at_row pcrs) has ends e = absurd (cc e)
  open_where false end has ends e = absurd (cc e)

  key_where : Open table s.banks s.pcrs → Ends table public handle s (has_bank s.banks table.bank) (foreseen_end table s) ≡ Fine (key_text key)
  key_where open_now =
      ap (λ b. Ends table public handle s b (foreseen_end table s)) open_now.present
      ∙ ap (Ends table public handle s true) (past_all table.bank (joined_values table.bank s) (zeros_in Sha256) table.rows open_now.listed)
      ∙ ap secret_ending (opened_object (policy_authorize_nv_of Sha256 (index_name_of public)) handle s object key found secret policy)

  pub by_rows : (Ends table public handle s (has_bank s.banks table.bank) (foreseen_end table s) ≡ Fine (key_text key)) ↔ Open table s.banks s.pcrs
  by_rows = (open_where (has_bank s.banks table.bank) (foreseen_end table s) refl refl, key_where)

  -- no other key comes out
  pub only_key : (present : Bool) (end : End) (text : List ℕ) → Ends table public handle s present end ≡ Fine text → Ends table public handle s present end ≡ Fine (key_text key)
  only_key true (past_rows digest) text e = ap secret_ending (opened_object (policy_authorize_nv_of Sha256 (index_name_of public)) handle s object key found secret policy)
  only_key true (at_row pcrs) text e = absurd (cc e)
  only_key false end text e = absurd (cc e)

-- ---- up to the table

module _ (policy_path : List ℕ) (m : Live) (w : World) (k : IsOwnKept policy_path m w) (safe : Safe w) (filed : FiledPolicy) (states : w.filed ≡ Some filed)
    (live : LiveIndex) (found : get w.live filed.handle ≡ Some live) where
  file : IsFiled m.files policy_path w filed
  file = subst (IsFiledAs m.files policy_path w) states k.filed

  holds : HoldsNewest m.state w filed.handle live
  holds = newest_held m.state w filed.handle live k.orderly k.own found

  strings : IsFiledHashed w (Some filed)
  strings = subst (IsFiledHashed w) states k.own.filed

  -- the line is by what the index holds
  read_is : (state token : List ℕ) (handle : ℕ) → IsBoundToken m.files token handle
      → (unseal_line state token policy_path (machine m)).ending
      ≡ secret_ending (table_opened (plain_tables file.policy) holds.index.public holds.written.value handle m.state (chosen_of holds.written.value (plain_tables file.policy)))
  read_is state token handle t =
      ap (λ c. (content_line state token policy_path c (machine m)).ending) t.written
      ∙ ap (λ r. (token_line state token policy_path r (machine m)).ending) (token_again (tokens.Bound handle) t.valid)
      ∙ ap (λ r. (policy_line state handle (needed_of policy_path r) (machine m)).ending) file.read
      ∙ ap (λ r. secret_ending (opened_by_held file.policy handle m.state r)) held
    where
      held : index_read file.policy.handle m.state ≡ Ok (holds.index.public, holds.written.value)
      held = ap (λ h. index_read h m.state) file.handle ∙ ap read_found holds.found ∙ ap (read_written holds.index.public) holds.was

  alone_in_file : AllByRecursion (IsAlone holds.written.value live.table) (plain_tables file.policy)
  alone_in_file = all_alone w safe holds.written.value live.table holds.rows holds.hashed holds.content file.policy.tables file.valid.tables
      (subst (AllByRecursion (λ (table : PlainTable). AreHashed w (table_strings table))) (sym file.tables) strings.0)

  names_newest : is_in_force holds.written.value live.table ≡ true
  names_newest = in_force w safe holds.written.value live.table holds.rows holds.hashed holds.content

  named : Contains filed.tables live.table → chosen_of holds.written.value (plain_tables file.policy) ≡ Some live.table
  named member = newest_named holds.written.value live.table (plain_tables file.policy) alone_in_file names_newest
      (subst (λ tables. Contains tables live.table) (sym file.tables) member)

  -- where the file hasn't the newest table, the answer is that it is outdated
  pub outdated : (state token : List ℕ) (handle : ℕ) → IsBoundToken m.files token handle → (Contains filed.tables live.table → ⊥)
      → (unseal_line state token policy_path (machine m)).ending ≡ Refused (said.Outdated (root_of live.table) (newest_root filed.tables))
  outdated state token handle t missing =
      read_is state token handle t
      ∙ ap (λ o. secret_ending (table_opened (plain_tables file.policy) holds.index.public holds.written.value handle m.state o))
      (none_named holds.written.value live.table (plain_tables file.policy) alone_in_file (λ member. missing (subst (λ tables. Contains tables live.table) file.tables member)))
      ∙ ap (λ content. Refused (said.Outdated (drop 2 content) (newest_root (plain_tables file.policy)))) holds.content
      ∙ ap (λ tables. Refused (said.Outdated (root_of live.table) (newest_root tables))) file.tables

  -- where it has, the bank and the rows of that table decide
  ends_so : (state token : List ℕ) (handle : ℕ) → IsBoundToken m.files token handle → Contains filed.tables live.table
      → length m.state.sessions < 64 → m.state.next_session < 0x01000000
      → (unseal_line state token policy_path (machine m)).ending
      ≡ Ends live.table holds.index.public handle m.state (has_bank m.state.banks live.table.bank) (foreseen_end live.table m.state)
  ends_so state token handle t member slot number =
      read_is state token handle t
      ∙ ap (λ o. secret_ending (table_opened (plain_tables file.policy) holds.index.public holds.written.value handle m.state o)) (named member)
      ∙ ap secret_ending (started live.table.bank holds.index.public handle m.state (foreseen_end live.table m.state) slot number)

  module _ (handle : ℕ) (key : List ℕ) (bound : get w.objects handle ≡ Some (record { secret = key; binding = Index filed.handle live.pin })) where
    held : IsHeld m.state w handle (record { secret = key; binding = Index filed.handle live.pin })
    held = k.own.base.objects handle (record { secret = key; binding = Index filed.handle live.pin }) bound

    held_policy : policy_authorize_nv_of Sha256 (index_name_of holds.index.public) ≡ held.object.policy
    held_policy = ap (λ public. policy_authorize_nv_of Sha256 (index_name_of public)) holds.area ∙ sym held.policy

    pub opened_exactly : (state token : List ℕ) → IsBoundToken m.files token handle → Contains filed.tables live.table
        → length m.state.sessions < 64 → m.state.next_session < 0x01000000
        → ((unseal_line state token policy_path (machine m)).ending ≡ Fine (key_text key)) ↔ Open live.table m.state.banks m.state.pcrs
    opened_exactly state token t member slot number =
        subst (λ ending. (ending ≡ Fine (key_text key)) ↔ Open live.table m.state.banks m.state.pcrs) (sym (ends_so state token handle t member slot number))
        (by_rows live.table holds.index.public handle m.state held.object key held.found held.secret held_policy)

    pub opened_key : (state token : List ℕ) → IsBoundToken m.files token handle → Contains filed.tables live.table
        → length m.state.sessions < 64 → m.state.next_session < 0x01000000
        → (text : List ℕ) → (unseal_line state token policy_path (machine m)).ending ≡ Fine text → (unseal_line state token policy_path (machine m)).ending ≡ Fine (key_text key)
    opened_key state token t member slot number text =
        subst (λ ending. ending ≡ Fine text → ending ≡ Fine (key_text key)) (sym (ends_so state token handle t member slot number))
        (only_key live.table holds.index.public handle m.state held.object key held.found held.secret held_policy (has_bank m.state.banks live.table.bank) (foreseen_end live.table m.state) text)

-- ---- the headline

-- what is open in the state is open in the world
pub open_in_world : (table : PlainTable) (s : Parts) (w : World) → Tied s w → Open table s.banks s.pcrs → Open table w.banks w.pcrs
open_in_world table s w tied open_now =
    subst (λ banks. Open table banks w.pcrs) (sym tied.banks) (subst (λ pcrs. Open table s.banks pcrs) (sym tied.pcrs) open_now)

open_in_state : (table : PlainTable) (s : Parts) (w : World) → Tied s w → Open table w.banks w.pcrs → Open table s.banks s.pcrs
open_in_state table s w tied open_now =
    subst (λ pcrs. Open table s.banks pcrs) tied.pcrs (subst (λ banks. Open table banks w.pcrs) tied.banks open_now)

-- each PCR of a present bank has a value in the world
pub values_in_world : (s : Parts) (w : World) → Orderly s → Tied s w → HasValues w.banks w.pcrs
values_in_world s w orderly tied = subst (λ banks. HasValues banks w.pcrs) (sym tied.banks) (subst (λ pcrs. HasValues s.banks pcrs) (sym tied.pcrs) orderly.values)

-- the newest table of the index is the one that is live
pub only_live : (w : World) (index : ℕ) (pin : List ℕ) (live : LiveIndex) → get w.live index ≡ Some live → UnlocksIndex w index pin → Open live.table w.banks w.pcrs
only_live w index pin live found u = subst (λ (x : LiveIndex). Open x.table w.banks w.pcrs) (one u.live live (sym u.found ∙ found)) u.opens
  where
    one : (a b : LiveIndex) → Some a ≡ Some b → a ≡ b
    one a b f = cc

module _ (policy_path : List ℕ) (m : Live) (w : World) (state token : List ℕ) (handle index : ℕ) (pin key : List ℕ)
    (k : IsOwnKept policy_path m w) (current : Current w) (safe : Safe w) (e : IsEnrolledTo m w token handle index pin key) where
  abbrev Prints : Type 0
  Prints = (unseal_line state token policy_path (machine m)).ending ≡ Fine (key_text key)

  found_filed : get w.live e.filed.handle ≡ Some e.live
  found_filed = ap (get w.live) e.filed_index ∙ e.found

  in_file : Contains e.filed.tables e.live.table
  in_file = subst (CurrentOf w) e.states current e.live found_filed (e.live_pin ∙ sym e.filed_pin)

  bound : get w.objects handle ≡ Some (record { secret = key; binding = Index e.filed.handle e.live.pin })
  bound = e.object ∙ ap₂ (λ h p. Some (record { secret = key; binding = Index h p })) (sym e.filed_index) (sym e.live_pin)

  by_state : Prints ↔ Open e.live.table m.state.banks m.state.pcrs
  by_state = opened_exactly policy_path m w k safe e.filed e.states e.live found_filed handle key bound state token e.token in_file e.slot e.number

  -- whatever is printed is the key
  pub prints_key : (text : List ℕ) → (unseal_line state token policy_path (machine m)).ending ≡ Fine text → Prints
  prints_key = opened_key policy_path m w k safe e.filed e.states e.live found_filed handle key bound state token e.token in_file e.slot e.number

  pub exact : OpensByPolicy (unseal_line state token policy_path (machine m)).ending key index pin w
  exact = (
    λ printed. record { live = e.live; found = e.found; same = e.live_pin; opens = open_in_world e.live.table m.state w k.own.base (by_state.0 printed) },
    λ unlocks. by_state.1 (open_in_state e.live.table m.state w k.own.base (only_live w index pin e.live e.found unlocks)),
  )

  pub by_values : OpensByValues (unseal_line state token policy_path (machine m)).ending key index w
  by_values =
      let newest = (newest_held m.state w index e.live k.orderly k.own e.found).table in
      let values = values_in_world m.state w k.orderly k.own.base in
      record {
        live = e.live;
        found = e.found;
        table = newest.table;
        valid = newest.valid;
        newest = newest.same;
        opens = (
          λ printed. opens_by_values newest.table w.banks w.pcrs newest.valid values
              (subst (λ table. Open table w.banks w.pcrs) newest.same (open_in_world e.live.table m.state w k.own.base (by_state.0 printed))),
          λ by. by_state.1 (open_in_state e.live.table m.state w k.own.base
              (subst (λ table. Open table w.banks w.pcrs) (sym newest.same) (opens_joined newest.table w.banks w.pcrs values by))),
        );
      }
