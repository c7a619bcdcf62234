-- Where nothing has to be changed, the table is the newest already.
use Rattle.std.proofs.Common.{◌≡◌, ℕ, Bool, true, not, List, [], ◌∷◌, inl, inr, refl, sym, ap, subst, ◌∙◌, arith, Contains}
use Rattle.std.specs.Prelude.{Some, Ok, ◌==◌}
use Rattle.std.specs.Cmp.Lexicographic.{pointwise}
use Rattle.std.specs.FinMap.{get}
use Rattle.std.specs.List.{AllByRecursion}
use Rattle.std.specs.Str.{bytes_eq}
use Rattle.std.proofs.lemmas.Bool.{and_parts, eqb-true}
use Rattle.std.proofs.lemmas.List.{append_cancel_left}
use Rattle.std.proofs.lemmas.List.Elements.{Contains-append_cases, Contains-append_left}
use Rattle.std.proofs.lemmas.Map.Views.{Contains-from_any}
use Rattle.std.proofs.lemmas.Option.{get_or_from_slice_get, slice_get_within}
use Rattle.std.proofs.lemmas.Slice.Eq.{bytes_eq-Decides}
use Rattle.hash_bank.specs.declared.bank.Bank.{Bank}
use Rattle.hash_bank.specs.declared.bank.Bank.TheVariants.{Sha1, Sha256, Sha384, Sha512}
use Rattle.hash_bank.specs.Hash.{algorithm_in, bank_of_algorithm}
use Rattle.nv_index.specs.declared.index.Index.{Index}
use Rattle.nv_index.specs.declared.index.NvPublic.{NvPublic}
use Rattle.nv_index.specs.declared.index.Written.{Written}
use Rattle.nv_index.specs.IndexName.{written_public}
use Rattle.nv_index.specs.Table.{index_at, index_place}
use Rattle.policy_digest.specs.declared.table.Row.{Row}
use Rattle.policy_digest.specs.declared.table.Table.{Table}
use Rattle.policy_digest.specs.BindingStrings.{name_strings_in}
use Rattle.policy_digest.specs.Pin.{pin_policy_of, pin_strings}
use Rattle.policy_digest.specs.Plain.{plain_table}
use Rattle.policy_digest.specs.PlainTable.{root_of}
use Rattle.policy_digest.specs.Table.{valid_table, values_eq}
use Rattle.policy_digest.specs.TableStrings.{table_strings}
use Rattle.policy_file.specs.declared.policy.Policy.{Policy}
use Rattle.policy_roots.proofs.Tables.{same_tables}
use Rattle.policy_roots.proofs.Valid.{valid_has_rows}
use Rattle.tpm_model.specs.Events.{Clean}
use Rattle.tpm_model.specs.WholeTie.{IsStrange}
use Rattle.tpm_model.specs.World.{AreHashed, LiveIndex, World}
use Rattle.tpm_model.proofs.Ties.{only}
use Rattle.tpm_worlds.specs.EventLists.{Safe}
use Rattle.tpm_worlds.proofs.IndexPlaces.{found_handle}
use Rattle.tpm_worlds.proofs.SamePin.{same_pin}
use Rattle.policy_roots.specs.Rows.{HasRows}
use Rattle.pcrlock_line.specs.Machine.{Live}
use Rattle.pcrlock_deeds.specs.Kept.{IsOwnKept}
use Rattle.pcrlock_deeds.specs.PolicyAt.{policy_of}
use Rattle.pcrlock_update.specs.Acts.{IsNewest}
use Rattle.pcrlock_update.specs.NewPolicy.{content_for}
use Rattle.pcrlock_update.specs.Standing.{file_has, file_holds, is_unchanged, same_row, same_table}
use Rattle.pcrlock_update.proofs.Sound.{IsKnown, each_hashed, policy_known}

-- ---- tables that are the same

-- a bank is told by its algorithm
own_bank : (bank : Bank) → bank_of_algorithm (algorithm_in bank) ≡ Some bank
own_bank Sha1 = refl
own_bank Sha256 = refl
own_bank Sha384 = refl
own_bank Sha512 = refl

same_bank : (a b : Bank) → (algorithm_in a == algorithm_in b) ≡ true → a ≡ b
same_bank a b e =
    let both : Some a ≡ Some b = sym (own_bank a) ∙ ap bank_of_algorithm (eqb-true (algorithm_in a) (algorithm_in b) e) ∙ own_bank b in
    cc

-- equal members give equal lists
same_members : {A : Type 0} (test : A → A → Bool) → ((a b : A) → test a b ≡ true → a ≡ b) → (xs ys : List A) → pointwise test xs ys ≡ true → xs ≡ ys
same_members test tells [] [] e = refl
same_members test tells [] (y ∷ ys) e = absurd (cc e)
same_members test tells (x ∷ xs) [] e = absurd (cc e)
same_members test tells (x ∷ xs) (y ∷ ys) e =
    let both = and_parts (test x y) (pointwise test xs ys) e in
    let first = tells x y both.0 in
    let rest = same_members test tells xs ys both.1 in
    cc

bytes_tell : (a b : List ℕ) → bytes_eq a b ≡ true → a ≡ b
bytes_tell a b e = (bytes_eq-Decides a b).0 e

rows_tell : (a b : Row) → same_row a b ≡ true → a ≡ b
rows_tell a b e =
    let both = and_parts (a.pcrs == b.pcrs) (pointwise values_eq a.choices b.choices) e in
    let pcrs = eqb-true a.pcrs b.pcrs both.0 in
    let choices = same_members values_eq (λ xs ys. same_members bytes_eq bytes_tell xs ys) a.choices b.choices both.1 in
    λ i. record { pcrs = pcrs i; choices = choices i }

tables_tell : (a b : Table) → same_table a b ≡ true → a ≡ b
tables_tell a b e =
    let both = and_parts (algorithm_in a.bank == algorithm_in b.bank) (pointwise same_row a.rows b.rows) e in
    let bank = same_bank a.bank b.bank both.0 in
    let rows = same_members same_row rows_tell a.rows b.rows both.1 in
    λ i. record { bank = bank i; rows = rows i }

-- where nothing has to be changed, the policy file has the table
pub unchanged_listed : (policy : Policy) (force : Bool) (public : NvPublic) (held : List ℕ) (table : Table) → is_unchanged (Some policy) force public held table ≡ true
    → Contains policy.tables table
unchanged_listed policy force public held table unchanged =
    let a = and_parts _ (bytes_eq held (content_for table)) unchanged in
    let b = and_parts _ (file_holds table (Some policy)) a.0 in
    Contains-from_any tables_tell table policy.tables b.1

-- what holds of all holds of a member
of_member : {A : Type 0} (P : A → Type 0) (xs : List A) (x : A) → AllByRecursion P xs → Contains xs x → P x
of_member P [] x all member = absurd (omega (arith, member.1))
of_member P (y ∷ ys) x all member = elim (Contains-append_cases (y ∷ []) ys x member) [
  | inl first ↦ subst P (only y x first) all.0
  | inr later ↦ of_member P ys x all.1 later
]

-- ---- the index

module _ (path : List ℕ) (policy : Policy) (table : Table) (index : Index) (written : Written) (m : Live) (w : World) where
  -- a live index whose content is the table's has the table
  by_live : IsOwnKept path m w → Safe w → valid_table table ≡ true → AreHashed w (table_strings (plain_table table))
      → index_at policy.handle m.state.indices ≡ Some index → index.written ≡ Some written → written.value ≡ content_for table
      → (live : LiveIndex) → get w.live policy.handle ≡ Some live → IsNewest policy.handle table w
  by_live k safe valid held found was content live e =
      let tied = k.own.indices in
      let l = (tied.live policy.handle live).0 e in
      let root = tied.roots policy.handle live e in
      let same : index ≡ root.index = one_index index root.index (sym found ∙ root.found) in
      let again : written ≡ root.written = one_write written root.written (sym was ∙ ap (λ (y : Index). y.written) same ∙ root.was) in
      let roots : root_of live.table ≡ root_of (plain_table table) =
      append_cancel_left (0x00 ∷ 0x0B ∷ []) (root_of live.table) (root_of (plain_table table)) (sym root.content ∙ sym (ap (λ (x : Written). x.value) again) ∙ content) in
      let update = tied.updates (record { number = l.written.number; handle = policy.handle; pin = live.pin; table = live.table }) l.update in
      let theirs = k.own.base.updates (record { number = l.written.number; handle = policy.handle; pin = live.pin; table = live.table }) l.update in
      let live_rows : HasRows live.table = subst HasRows (sym update.table.same) (valid_has_rows update.table.table update.table.valid) in
      let one : live.table ≡ plain_table table =
      same_tables (Contains w.hashed) safe live.table (plain_table table) theirs held live_rows (valid_has_rows table valid) roots in
      record { pin = live.pin; live = e ∙ (λ i. Some (record { pin = live.pin; table = one i })) }
    where
      one_index : (a b : Index) → Some a ≡ Some b → a ≡ b
      one_index a b f = cc

      one_write : (a b : Written) → Some a ≡ Some b → a ≡ b
      one_write a b f = cc

  -- the index isn't a stranger's, as its pin is the policy's
  no_stranger : IsOwnKept path m w → Clean w → Safe w → IsKnown path policy m.state w → policy.index_policy ≡ index.public.policy → IsStrange w index → ⊥
  no_stranger k clean safe known same foreign =
      let others = name_strings_in Sha256 (written_public policy.handle (pin_policy_of known.pin)) in
      let one : known.pin ≡ foreign.pin =
      same_pin w known.pin foreign.pin safe (λ x s. known.holds.strings x (Contains-append_left (pin_strings known.pin) others x s))
      (k.own.base.strange foreign.pin foreign.presented) (sym known.digest ∙ same ∙ foreign.policy) in
      clean known.pin known.holds.known (subst (Contains w.strange) (sym one) foreign.presented)

  pub unchanged_makes : (force : Bool) → IsOwnKept path m w → Clean w → Safe w → policy_of m.files path ≡ Ok (Some policy) → valid_table table ≡ true
      → index_at policy.handle m.state.indices ≡ Some index → index.written ≡ Some written
      → is_unchanged (Some policy) force index.public written.value table ≡ true → IsNewest policy.handle table w
  unchanged_makes force k clean safe read valid found was unchanged =
      let a = and_parts _ (bytes_eq written.value (content_for table)) unchanged in
      let b = and_parts _ (file_holds table (Some policy)) a.0 in
      let c = and_parts (not force) (file_has index.public.policy (Some policy)) b.0 in
      let known = policy_known path policy m w k read in
      let member = unchanged_listed policy force index.public written.value table unchanged in
      let held = of_member (λ (t : Table). AreHashed w (table_strings (plain_table t))) policy.tables table (each_hashed w policy.tables known.tables) member in
      let digest : policy.index_policy ≡ index.public.policy = bytes_tell policy.index_policy index.public.policy c.1 in
      let content : written.value ≡ content_for table = bytes_tell written.value (content_for table) a.1 in
      let here : index.public.handle ≡ policy.handle = found_handle policy.handle m.state.indices index found in
      let place = index_place policy.handle m.state.indices in
      let at : Contains m.state.indices index =
      (place, slice_get_within m.state.indices place index found, get_or_from_slice_get m.state.indices place index index found) in
      elim (k.own.indices.others index written at was) [
        | inl live ↦ by_live k safe valid held found was content live.0 (subst (λ (handle : ℕ). get w.live handle ≡ Some live.0) here live.1)
        | inr foreign ↦ absurd (no_stranger k clean safe known digest foreign)
      ]
