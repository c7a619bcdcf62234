-- Where the table that is foreseen is in force already, `make-policy` changes nothing.
use Rattle.std.proofs.Common.{◌≡◌, ℕ, Bool, true, false, cond, not, ◌&&◌, ◌||◌, List, ◌∷◌, ◌++◌, map, inl, inr, refl, sym, ap, subst, ◌∙◌, Contains}
use Rattle.std.specs.Prelude.{◌⊎◌, Option, None, Some, Result, Ok, Err}
use Rattle.std.specs.FinMap.{get}
use Rattle.std.specs.Str.{bytes_eq}
use Rattle.std.proofs.lemmas.List.Elements.{All-contains, All-from_recursion}
use Rattle.std.proofs.lemmas.Slice.Eq.{bytes_eq-Decides}
use Rattle.nv_index.specs.declared.index.NvPublic.{NvPublic}
use Rattle.nv_index.specs.IndexName.{index_name_of}
use Rattle.nv_index.specs.Table.{index_at}
use Rattle.policy_digest.specs.Pin.{pin_policy_of}
use Rattle.policy_digest.specs.Plain.{plain_table}
use Rattle.policy_digest.specs.PlainTable.{PlainTable, root_of}
use Rattle.policy_digest.specs.Table.{valid_table}
use Rattle.policy_digest.specs.declared.table.Table.{Table}
use Rattle.policy_file.specs.declared.policy.Policy.{Policy}
use Rattle.predict_proof.proofs.Members.{mapped_from}
use Rattle.tpm_model.specs.World.{FiledPolicy, LiveIndex, World}
use Rattle.tpm_worlds.specs.EventLists.{Safe}
use Rattle.pcrlock_answer.specs.declared.answer.Answer.TheVariants as said
use Rattle.pcrlock_answer.specs.declared.answer.Answer.{Answer}
use Rattle.pcrlock_line.specs.Machine.{Live, Machine, machine}
use Rattle.pcrlock_line.specs.Outcome.{Fine, Outcome, unchanged}
use Rattle.pcrlock_deeds.specs.Filed.{Current, CurrentOf, IsFiled, IsFiledAs}
use Rattle.pcrlock_deeds.specs.Kept.{IsOwnKept}
use Rattle.pcrlock_headline.proofs.Newest.{HoldsNewest, newest_held}
use Rattle.pcrlock_update.specs.NewPolicy.{content_for}
use Rattle.pcrlock_update.specs.Standing.{file_has, file_holds, is_unchanged, pin_has, same_table, standing_of, with_given}
use Rattle.pcrlock_policy.specs.Asked.{Asked, Target}
use Rattle.pcrlock_policy.specs.Foreseen.{Foreseen}
use Rattle.pcrlock_policy.specs.IndexState.{by_index, by_write, index_state}
use Rattle.pcrlock_policy.specs.MakePolicy.{force_line, found_line, handle_for, index_line, inputs_line, make_policy_line, tested_line, unchanged_text}
use Rattle.pcrlock_policy.specs.declared.looking.IndexState.{IndexState}
use Rattle.pcrlock_policy.specs.declared.looking.IndexState.TheVariants as states
use Rattle.pcrlock_policy.proofs.Made.{by_policy}
use Rattle.pcrlock_policy.proofs.Valid.{foreseen_valid, inputs_have}
use Rattle.pcrlock_foretold.specs.Settled.{IsSettled}
use Rattle.pcrlock_foretold.proofs.OneTable.{member_passes, one_table, table_itself}

-- ---- the tests

-- nothing has to be changed where nothing is forced, the file has the index's policy and the table, and the index its root
all_pass : (found : Option Policy) (force : Bool) (public : NvPublic) (held : List ℕ) (table : Table) → force ≡ false → file_has public.policy found ≡ true → file_holds table found ≡ true
    → bytes_eq held (content_for table) ≡ true → is_unchanged found force public held table ≡ true
all_pass found force public held table unforced has holds content = rw (unforced, has, holds, content) refl

-- so the tests say, where no pin was given but the index's
passed : (found : Option Policy) (pin : Option (List ℕ)) (force : Bool) (public : NvPublic) (held : List ℕ) (table : Table) → file_has public.policy found ≡ true
    → with_given pin public.policy (is_unchanged found force public held table) ≡ Ok true → standing_of found pin force public held table ≡ Ok true
passed found pin force public held table has given =
    ap (λ b. cond (b || pin_has public.policy pin) (with_given pin public.policy (is_unchanged found force public held table)) (Err (said.IndexTaken public.handle (index_name_of public)))) has ∙ given

given_passes : (pin : Option (List ℕ)) (filed digest : List ℕ) (same : Bool) → (pin ≡ None) ⊎ (pin ≡ Some filed) → pin_policy_of filed ≡ digest → same ≡ true → with_given pin digest same ≡ Ok true
given_passes pin filed digest same (inl none) policy is = ap (λ p. with_given p digest same) none ∙ ap Ok is
given_passes pin filed digest same (inr one) policy is =
    ap (λ p. with_given p digest same) one
    ∙ ap (λ b. cond {A = Result Bool Answer} b (Ok same) (Err (said.PinRefused (pin_policy_of filed) digest))) ((bytes_eq-Decides (pin_policy_of filed) digest).1 policy)
    ∙ ap Ok is

-- ---- the line

module _ (state : List ℕ) (asked : Asked) (target : Target) (foreseen : Foreseen) (m : Live) (w : World)
    (k : IsOwnKept target.path m w) (current : Current w) (safe : Safe w) (settled : IsSettled asked target foreseen m w) where
  file : IsFiled m.files target.path w settled.filed
  file = subst (IsFiledAs m.files target.path w) settled.states k.filed

  held : HoldsNewest m.state w settled.filed.handle settled.newest
  held = newest_held m.state w settled.filed.handle settled.newest k.orderly k.own settled.live

  valid : valid_table foreseen.table ≡ true
  valid = foreseen_valid asked settled.inputs m.state foreseen (inputs_have m.files asked.firmware asked.user asked.folders settled.inputs settled.took) settled.is

  -- the policy of the index is that of the file
  index_policy : pin_policy_of settled.filed.pin ≡ held.index.public.policy
  index_policy = ap pin_policy_of (sym settled.pin) ∙ sym (ap (λ (p : NvPublic). p.policy) held.area)

  file_same : file_has held.index.public.policy (Some file.policy) ≡ true
  file_same = (bytes_eq-Decides file.policy.index_policy held.index.public.policy).1 (file.digest ∙ index_policy)

  -- the file has the newest table
  listed : Contains (map plain_table file.policy.tables) settled.newest.table
  listed = subst (λ (ts : List PlainTable). Contains ts settled.newest.table) (sym file.tables) (subst (CurrentOf w) settled.states current settled.newest settled.live settled.pin)

  file_lists : file_holds foreseen.table (Some file.policy) ≡ true
  file_lists =
      let there = mapped_from plain_table file.policy.tables settled.newest.table listed in
      let fine : valid_table there.0 ≡ true =
      All-contains (λ (t : Table). valid_table t ≡ true) file.policy.tables there.0 (All-from_recursion (λ (t : Table). valid_table t ≡ true) file.policy.tables file.valid.tables) there.1 in
      let one : foreseen.table ≡ there.0 = one_table foreseen.table there.0 valid fine (sym settled.same ∙ sym there.2) in
      member_passes (same_table foreseen.table) file.policy.tables there.0 there.1 (ap (same_table foreseen.table) (sym one) ∙ table_itself foreseen.table)

  content : held.written.value ≡ content_for foreseen.table
  content = held.content ∙ ap (λ (t : PlainTable). 0x00 ∷ 0x0B ∷ root_of t) settled.same

  tests : standing_of (Some file.policy) target.pin target.force held.index.public held.written.value foreseen.table ≡ Ok true
  tests = passed (Some file.policy) target.pin target.force held.index.public held.written.value foreseen.table file_same
      (given_passes target.pin settled.filed.pin held.index.public.policy (is_unchanged (Some file.policy) target.force held.index.public held.written.value foreseen.table) settled.given index_policy
      (all_pass (Some file.policy) target.force held.index.public held.written.value foreseen.table settled.unforced file_same file_lists
      ((bytes_eq-Decides held.written.value (content_for foreseen.table)).1 content)))

  stands : index_state (handle_for target (Some file.policy)) m.state ≡ states.Written held.index.public held.written.value
  stands = ap (λ h. by_index (index_at h m.state.indices)) file.handle ∙ ap by_index held.found ∙ ap (by_write held.index.public) held.was

  pub settled_line : make_policy_line state asked target (machine m) ≡ unchanged (Fine (foreseen.text ++ unchanged_text)) (machine m)
  settled_line =
      let n : Live = record { files = m.files; state = m.state; draws = m.draws } in
      by_policy state asked target (machine m)
      ∙ ap (λ r. found_line state asked target r (machine m)) file.read
      ∙ ap (λ r. inputs_line state asked target (Some file.policy) r (machine m)) settled.took
      ∙ ap (λ r. force_line target (Some file.policy) r n) settled.is
      ∙ ap (λ (i : IndexState). index_line target (Some file.policy) foreseen i n) stands
      ∙ ap (λ r. tested_line r target (Some file.policy) foreseen held.index.public held.written.value n) tests
