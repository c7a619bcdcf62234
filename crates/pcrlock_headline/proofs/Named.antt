-- Which table of a policy file a content names: the newest one, where that is there, and else none.
use Rattle.std.proofs.Common.{◌≡◌, ℕ, Bool, true, false, cond, List, [], ◌∷◌, map, ◌⊎◌, inl, inr, refl, sym, ap, subst, ◌∙◌, arith, Contains}
use Rattle.std.specs.Prelude.{Option, None, Some}
use Rattle.std.specs.List.{AllByRecursion}
use Rattle.std.specs.Option.{option_or}
use Rattle.std.proofs.lemmas.List.{append_cancel_left}
use Rattle.std.proofs.lemmas.List.Elements.{Contains-append_cases, Contains-append_right}
use Rattle.std.proofs.lemmas.Slice.Eq.{bytes_eq-Decides}
use Rattle.policy_digest.specs.declared.table.Table.{Table}
use Rattle.policy_digest.specs.Plain.{plain_table}
use Rattle.policy_digest.specs.PlainTable.{PlainTable, root_of}
use Rattle.policy_digest.specs.Table.{valid_table}
use Rattle.policy_digest.specs.TableStrings.{table_strings}
use Rattle.policy_roots.specs.Rows.{HasRows}
use Rattle.policy_roots.proofs.Tables.{same_tables}
use Rattle.policy_roots.proofs.Valid.{valid_has_rows}
use Rattle.policy_walk.specs.Choosing.{chosen_of, content_of, if_in_force, is_in_force}
use Rattle.tpm_model.specs.World.{AreHashed, World}
use Rattle.tpm_model.proofs.Ties.{only}
use Rattle.tpm_worlds.specs.EventLists.{Safe}

-- ---- the last table of a content, where no other table has it

module _ (content : List ℕ) (newest : PlainTable) where
  -- the content is no other table's
  abbrev pub IsAlone : PlainTable → Type 0
  IsAlone table = is_in_force content table ≡ true → table ≡ newest

  abbrev NoneOrNewest : Option PlainTable → Type 0
  NoneOrNewest o = (o ≡ None) ⊎ (o ≡ Some newest)

  one_named : (table : PlainTable) → IsAlone table → NoneOrNewest (if_in_force content table)
  one_named table alone = by_test (is_in_force content table) refl
    where
      by_test : (b : Bool) → is_in_force content table ≡ b → NoneOrNewest (cond b (Some table) None)
      by_test true met = inr (ap Some (alone met))
      by_test false unmet = inl refl

  either_named : (tables : List PlainTable) → AllByRecursion IsAlone tables → NoneOrNewest (chosen_of content tables)
  either_named [] all = inl refl
  either_named (table ∷ tables) all = elim (either_named tables all.1) [
    | inl none ↦ subst (λ o. NoneOrNewest (option_or o (if_in_force content table))) (sym none) (one_named table all.0)
    | inr some ↦ inr (ap (λ o. option_or o (if_in_force content table)) some)
  ]

  pub newest_named : (tables : List PlainTable) → AllByRecursion IsAlone tables → is_in_force content newest ≡ true → Contains tables newest
      → chosen_of content tables ≡ Some newest
  newest_named [] all met member = absurd (omega (arith, member.1))
  newest_named (table ∷ tables) all met member = elim (Contains-append_cases (table ∷ []) tables newest member) [
    | inl first ↦
        let here : if_in_force content table ≡ Some newest = ap (if_in_force content) (only table newest first) ∙ ap (λ b. cond b (Some newest) None) met in
        elim (either_named tables all.1) [
          | inl none ↦ ap (λ o. option_or o (if_in_force content table)) none ∙ here
          | inr some ↦ ap (λ o. option_or o (if_in_force content table)) some
        ]
    | inr later ↦ ap (λ o. option_or o (if_in_force content table)) (newest_named tables all.1 met later)
  ]

  pub none_named : (tables : List PlainTable) → AllByRecursion IsAlone tables → (Contains tables newest → ⊥) → chosen_of content tables ≡ None
  none_named [] all missing = refl
  none_named (table ∷ tables) all missing =
      ap (λ o. option_or o (if_in_force content table)) (none_named tables all.1 (λ k. missing (Contains-append_right (table ∷ []) tables newest k)))
      ∙ by_test (is_in_force content table) refl
    where
      by_test : (b : Bool) → is_in_force content table ≡ b → cond b (Some table) None ≡ None
      by_test true met =
          let here : Contains (table ∷ tables) table = (0, omega arith, refl) in
          absurd (missing (subst (Contains (table ∷ tables)) (all.0 met) here))
      by_test false unmet = refl

-- ---- the tables of a policy file

-- no other table of the file has the root of the newest, where their strings were hashed and don't clash
module _ (w : World) (safe : Safe w) (content : List ℕ) (newest : PlainTable) (rows : HasRows newest) (hashed : AreHashed w (table_strings newest))
    (holds : content ≡ content_of (root_of newest)) where
  alone : (table : Table) → valid_table table ≡ true → AreHashed w (table_strings (plain_table table)) → IsAlone content newest (plain_table table)
  alone table valid held met =
      let theirs : content ≡ content_of (root_of (plain_table table)) = (bytes_eq-Decides content (content_of (root_of (plain_table table)))).0 met in
      let roots : root_of (plain_table table) ≡ root_of newest = append_cancel_left (0x00 ∷ 0x0B ∷ []) (root_of (plain_table table)) (root_of newest) (sym theirs ∙ holds) in
      same_tables (Contains w.hashed) safe (plain_table table) newest held hashed (valid_has_rows table valid) rows roots

  pub all_alone : (tables : List Table) → AllByRecursion (λ (table : Table). valid_table table ≡ true) tables
      → AllByRecursion (λ (table : PlainTable). AreHashed w (table_strings table)) (map plain_table tables) → AllByRecursion (IsAlone content newest) (map plain_table tables)
  all_alone [] valid held = tt
  all_alone (table ∷ tables) valid held = (alone table valid.0 held.0, all_alone tables valid.1 held.1)

  pub in_force : is_in_force content newest ≡ true
  in_force = (bytes_eq-Decides content (content_of (root_of newest))).1 holds
