-- An accepted PolicyAuthorizeNV by the index of a binding, which reads the root of one of its tables, is by the table
-- that is the newest of the index at that moment.
use Rattle.std.proofs.Common.{◌≡◌, ℕ, ◌^◌, ◌<◌, List, [], ◌∷◌, inl, inr, get_or, refl, sym, ap, subst, ◌∙◌, arith, lit<, Contains}
use Rattle.std.specs.Prelude.{Some}
use Rattle.std.specs.FinMap.{get}
use Rattle.std.proofs.lemmas.List.{append_cancel_left}
use Rattle.std.proofs.lemmas.List.Elements.{Contains-append_left}
use Rattle.std.proofs.lemmas.Option.{slice_get_within, get_or_from_slice_get}
use Rattle.hash_bank.specs.declared.bank.Bank.{Bank}
use Rattle.hash_bank.specs.declared.bank.Bank.TheVariants.{Sha1, Sha256, Sha384, Sha512}
use Rattle.nv_index.specs.IndexName.{index_name_of, index_string, written_public}
use Rattle.nv_index.specs.Table.{index_at, index_place}
use Rattle.nv_index.specs.declared.index.Index.{Index as NvIndex}
use Rattle.nv_index.specs.declared.index.NvPublic.{NvPublic}
use Rattle.nv_index.specs.declared.index.Written.{Written}
use Rattle.policy_digest.specs.BindingStrings.{bind_strings, name_strings_in}
use Rattle.policy_digest.specs.Pin.{pin_policy_of, pin_strings}
use Rattle.policy_digest.specs.PlainTable.{PlainTable, root_of}
use Rattle.policy_digest.specs.TableStrings.{table_strings, under_sha256}
use Rattle.policy_roots.specs.Rows.{HasRows}
use Rattle.policy_roots.proofs.Depths.{same_bytes}
use Rattle.policy_roots.proofs.Parsed.{same_index_handle, same_index_policy}
use Rattle.policy_roots.proofs.Tables.{same_tables}
use Rattle.tpm_model.specs.declared.command.Command.{Command}
use Rattle.tpm_model.specs.declared.command.Command.TheVariants as command
use Rattle.tpm_model.specs.declared.parts.Parts.{Parts}
use Rattle.tpm_model.specs.declared.sessions.Session.{Session}
use Rattle.tpm_model.specs.Events.{Clean, Event, Update, Define, SealTo, SealPin, Other, command_of, content_of_table, world_after}
use Rattle.tpm_model.specs.Respond.{respond}
use Rattle.tpm_model.specs.SessionCommands.{content_in}
use Rattle.tpm_model.specs.Sessions.{session_at}
use Rattle.tpm_model.specs.Strings.{command_strings}
use Rattle.tpm_model.specs.WholeTie.{IsStrange}
use Rattle.tpm_model.specs.World.{LiveIndex, World, AreHashed, hashed_world}
use Rattle.tpm_model.proofs.Ties.{all_hashed}
use Rattle.tpm_walks.proofs.Tied.{valid_rows}
use Rattle.tpm_worlds.specs.EventLists.{Safe}
use Rattle.tpm_worlds.proofs.IndexPlaces.{found_handle}
use Rattle.tpm_worlds.proofs.IndicesAfter.{handle_range}
use Rattle.tpm_worlds.proofs.SamePin.{same_pin}
use Rattle.tpm_worlds.proofs.SessionsAfter.{nv_hashed}
use Rattle.tpm_worlds.proofs.WholeAfter.{grows_accepted}
use Rattle.tpm_unseals.specs.ByPolicy.{written_name}
use Rattle.race_newest.proofs.Moments.{Moment}

-- the strings of a PolicyAuthorizeNV were hashed behind it, whoever gave it
asked_strings : (event : Event) (s : Parts) (w : World) (h asked : ℕ) → command_of event ≡ command.PolicyAuthorizeNv h asked → AreHashed (world_after event s w) (command_strings (command.PolicyAuthorizeNv h asked) s)
asked_strings (Update handle pin table) s w h asked e = cc
asked_strings (Define public pin) s w h asked e = cc
asked_strings (SealTo binding secret) s w h asked e = cc
asked_strings (SealPin handle pin) s w h asked e = cc
asked_strings (Other c) s w h asked e =
    subst (λ (g : Command). AreHashed (world_after (Other c) s w) (command_strings g s)) e
    (λ x k. (grows_accepted (Other c) (respond c s).0 (respond c s).1 (hashed_world (command_strings c s) w)).strings x (all_hashed w (command_strings c s) x k))

-- a session whose content is that of a table has the table's root
same_root : (hash : Bank) (digest : List ℕ) (table : PlainTable) → content_of_table table ≡ content_in hash digest → root_of table ≡ digest
same_root Sha256 digest table e = append_cancel_left (0x00 ∷ 0x0B ∷ []) (root_of table) digest e
same_root Sha1 digest table e = let byte : 0x0B ≡ 0x04 = ap (λ xs. get_or xs 1 0) e in absurd (omega (arith, byte))
same_root Sha384 digest table e = let byte : 0x0B ≡ 0x0C = ap (λ xs. get_or xs 1 0) e in absurd (omega (arith, byte))
same_root Sha512 digest table e = let byte : 0x0B ≡ 0x0D = ap (λ xs. get_or xs 1 0) e in absurd (omega (arith, byte))

-- what is found is a member
found_member : (q : ℕ) (xs : List NvIndex) (x : NvIndex) → index_at q xs ≡ Some x → Contains xs x
found_member q xs x e = (index_place q xs, slice_get_within xs (index_place q xs) x e, get_or_from_slice_get xs (index_place q xs) x x e)

-- the index that was asked for is that of the binding, and this is its newest table, under the pin
pub record IsNewestOf (w : World) (asked index : ℕ) (pin : List ℕ) (table : PlainTable) : Type 0 where
  pub same : asked ≡ index
  pub newest : get w.live index ≡ Some (record { pin = pin; table = table })

module _ (event : Event) (s : Parts) (w last : World) (m : Moment event s w last) (safe : Safe last) (clean : Clean last)
    (index : ℕ) (pin : List ℕ) (range : index < 2 ^ 32) (known : Contains last.pins pin) (strings : AreHashed last (bind_strings index pin))
    (table : PlainTable) (held : AreHashed last (table_strings table)) (rows : HasRows table)
    (h asked : ℕ) (asks : command_of event ≡ command.PolicyAuthorizeNv h asked)
    (x : Session) (found : session_at h s.sessions ≡ Some x) (i : NvIndex) (standing : index_at asked s.indices ≡ Some i)
    (written : Written) (was : i.written ≡ Some written) (met : written.value ≡ content_in x.hash x.digest)
    (name : index_name_of i.public ≡ written_name index pin) (root : x.digest ≡ root_of table) where
  abbrev mine : NvPublic
  mine = written_public index (pin_policy_of pin)

  -- the index's area is that of the binding's
  area_string : Contains last.hashed (under_sha256 (index_string i.public))
  area_string = m.onward.strings _ (nv_hashed h asked s (world_after event s w) x i found standing (asked_strings event s w h asked asks) _ (0, lit< tt, refl))

  areas : index_string mine ≡ index_string i.public
  areas = same_bytes (Contains last.hashed) safe (index_string mine) (index_string i.public) (strings _ (3, lit< tt, refl)) area_string (sym name)

  same_handle : index ≡ i.public.handle
  same_handle = same_index_handle mine i.public range (handle_range s m.orderly asked i standing) areas

  same_policy : pin_policy_of pin ≡ i.public.policy
  same_policy = same_index_policy mine i.public areas

  its_handle : i.public.handle ≡ asked
  its_handle = found_handle asked s.indices i standing

  pins : AreHashed last (pin_strings pin)
  pins = λ y k. strings y (Contains-append_left (pin_strings pin) (name_strings_in Sha256 mine) y k)

  -- it isn't a stranger's
  not_strange : IsStrange w i → ⊥
  not_strange foreign =
      let theirs : AreHashed last (pin_strings foreign.pin) = λ y k. m.grows.strings y (m.own.base.strange foreign.pin foreign.presented y k) in
      let same : pin ≡ foreign.pin = same_pin last pin foreign.pin safe pins theirs (same_policy ∙ foreign.policy) in
      clean pin known (subst (Contains last.strange) (sym same) (m.grows.strange foreign.pin foreign.presented))

  same_index : (a b : NvIndex) → Some a ≡ Some b → a ≡ b
  same_index a b e = cc

  same_write : (a b : Written) → Some a ≡ Some b → a ≡ b
  same_write a b e = cc

  itself : index_at i.public.handle s.indices ≡ Some i
  itself = ap (λ n. index_at n s.indices) its_handle ∙ standing

  -- it is live, with the pin and the table
  by_live : (live : LiveIndex) → get w.live i.public.handle ≡ Some live → live ≡ record { pin = pin; table = table }
  by_live live e =
      let l = (m.own.indices.live i.public.handle live).0 e in
      let r = m.own.indices.roots i.public.handle live e in
      let one : i ≡ l.index = same_index i l.index (sym itself ∙ l.found) in
      let two : i ≡ r.index = same_index i r.index (sym itself ∙ r.found) in
      let again : written ≡ r.written = same_write written r.written (sym was ∙ ap (λ (y : NvIndex). y.written) two ∙ r.was) in
      let content : content_of_table live.table ≡ content_in x.hash x.digest = sym r.content ∙ sym (ap (λ (z : Written). z.value) again) ∙ met in
      let roots : root_of live.table ≡ root_of table = same_root x.hash x.digest live.table content ∙ root in
      let its : AreHashed last (pin_strings live.pin) = λ y k. m.grows.strings y (m.own.base.pins live.pin l.known y k) in
      let same : pin ≡ live.pin = same_pin last pin live.pin safe pins its (same_policy ∙ ap (λ (y : NvIndex). y.public.policy) one ∙ l.policy) in
      let lists : AreHashed last (table_strings live.table) = λ y k. m.grows.strings y (m.own.base.updates _ l.update y k) in
      let tables : live.table ≡ table = same_tables (Contains last.hashed) safe live.table table lists held (valid_rows live.table (m.own.indices.updates _ l.update).table) rows roots in
      λ j. record { pin = sym same j; table = tables j }

  pub newest_there : IsNewestOf w asked index pin table
  newest_there = elim (m.own.indices.others i written (found_member asked s.indices i standing) was) [
    | inl live ↦ record {
      same = sym (same_handle ∙ its_handle);
      newest = ap (get w.live) same_handle ∙ live.1 ∙ ap Some (by_live live.0 live.1);
    }
    | inr foreign ↦ absurd (not_strange foreign)
  ]
