-- A script that makes a policy, enrolls a key, lets anyone use the TPM and boots, opens the key exactly where the boot was
-- foretold.
use Rattle.std.proofs.Common.{◌≡◌, ℕ, true, List, refl, sym, ap, subst, ◌∙◌, inl, inr, Contains}
use Rattle.std.specs.Prelude.{Option, Some, Ok}
use Rattle.std.proofs.lemmas.Bool.{cases_Bool}
use Rattle.hash_bank.specs.declared.bank.Bank.{Bank}
use Rattle.hash_bank.specs.declared.banks.Banks.{Banks}
use Rattle.hash_bank.specs.Banks.{has_bank}
use Rattle.policy_digest.specs.Mask.{pcrs_of}
use Rattle.policy_file.specs.PolicyText.{IsIndex}
use Rattle.pcr_replay.specs.Measured.{measured_in}
use Rattle.forecasts.specs.Forecast.{Forecast, Holds, HoldsAlone, HoldsBy, HoldTogether, IsProtected, PcrValues}
use Rattle.tpm_model.specs.declared.parts.Parts.{Parts}
use Rattle.tpm_model.specs.Events.{Clean}
use Rattle.tpm_model.specs.Pcrs.{pcr_of}
use Rattle.tpm_model.specs.World.{World}
use Rattle.tpm_device.specs.Stored.{Stored, Holds as Stores, TooLarge, Malformed, BadRule}
use Rattle.tpm_worlds.specs.EventLists.{Safe}
use Rattle.tpm_worlds.specs.Growth.{GrowsAll}
use Rattle.tpm_worlds.proofs.EachUnseal.{safe_before}
use Rattle.tpm_worlds.proofs.WholeLists.{clean_before, joined}
use Rattle.pcrlock_line.specs.Begun.{by_device}
use Rattle.pcrlock_line.specs.Machine.{Live, Machine, machine}
use Rattle.pcrlock_line.specs.Outcome.{Fine}
use Rattle.pcrlock_deeds.specs.Acts.{Act, HoldsAt, HoldsOn, IsSoundAct, act_outcome, act_world}
use Rattle.pcrlock_deeds.specs.Kept.{IsOwnKept, LeavesFiled}
use Rattle.pcrlock_deeds.proofs.Acting.{act_grows, line_kept}
use Rattle.pcrlock_deeds.proofs.Done.{done_itself}
use Rattle.pcrlock_deeds.proofs.Tying.{own_tie}
use Rattle.pcrlock_input.specs.Logs.{PlainLogs, logs_of, rows_of}
use Rattle.pcrlock_tpm.specs.Acts.{boot_act}
use Rattle.pcrlock_tpm.specs.Boot.{boot_locality, boot_outcome, boot_state, booted_line}
use Rattle.pcrlock_tpm.proofs.Acts.{boot_is, boot_sound}
use Rattle.pcrlock_exec.specs.Acts.{exec_act}
use Rattle.pcrlock_exec.proofs.Acts.{exec_sound}
use Rattle.pcrlock_seal.specs.Acts.{enroll_bound_act}
use Rattle.pcrlock_seal.proofs.Acts.{enroll_bound_sound}
use Rattle.pcrlock_headline.specs.Calm.{LeavesNewest}
use Rattle.pcrlock_headline.proofs.Calm.{act_leaves, leaves_twice}
use Rattle.pcrlock_policy.specs.Acts.{make_policy_act}
use Rattle.pcrlock_policy.specs.MakePolicy.{make_policy_line}
use Rattle.pcrlock_policy.proofs.Sound.{make_policy_sound}
use Rattle.pcrlock_foretold.specs.Foretold.{forecast_of, values_in}
use Rattle.pcrlock_foretold.specs.Scripts.{BootScript, BootsAsForetold, booted_values}
use Rattle.pcrlock_foretold.proofs.Booted.{boot_replays}
use Rattle.pcrlock_foretold.proofs.CalmLines.{boot_calm, enroll_calm, exec_calm}
use Rattle.pcrlock_foretold.proofs.Made.{makes_foretold}
use Rattle.pcrlock_foretold.proofs.Opens.{opens_later}
use Rattle.pcrlock_foretold.proofs.Present.{asked_pcr}

-- ---- what a forecast says of values

-- values that are the same for each protected PCR
pub holds_same : (f : Forecast) (some others : PcrValues) → ((p : ℕ) → IsProtected f p → some p ≡ others p) → Holds f some → Holds f others
holds_same f some others same holds = elim (cases_Bool f.joint) [
  | inl joint ↦
      let h : HoldTogether f some = subst (λ b. HoldsBy b f some) joint holds in
      let now : HoldTogether f others = record { cut = h.cut; choice = h.choice; state = h.state; hold = λ p x. sym (same p x) ∙ h.hold p x } in
      subst (λ b. HoldsBy b f others) (sym joint) now
  | inr alone ↦
      let each : (p : ℕ) → IsProtected f p → HoldsAlone f some p = subst (λ b. HoldsBy b f some) alone holds in
      let now : (p : ℕ) → IsProtected f p → HoldsAlone f others p =
      λ p x. record { cut = (each p x).cut; choice = (each p x).choice; state = (each p x).state; holds = sym (same p x) ∙ (each p x).holds } in
      subst (λ b. HoldsBy b f others) (sym alone) now
]

-- ---- what a boot leaves

boot_after : (state : List ℕ) (given : Option ℕ) (banks : Banks) (logs : PlainLogs) (m : Machine) (s : Parts) → m.device ≡ Stores s
    → (boot_outcome state given banks (Ok logs) m).after ≡ machine (record { files = m.files; state = boot_state given banks logs s; draws = m.draws })
boot_after state given banks logs m s e = ap (λ device. (by_device device state m (booted_line given banks logs)).after) e

one_state : (a b : Parts) → Stores a ≡ Stores b → a ≡ b
one_state a b e = cc

-- where something is kept, a state is stored
stored_state : (T : Live → World → Type 0) (m : Machine) (w : World) → HoldsAt T m w → (s : Parts) × (m.device ≡ Stores s)
stored_state T m w kept = by m.device refl kept
  where
    by : (device : Stored) → m.device ≡ device → HoldsOn T device m w → (s : Parts) × (m.device ≡ Stores s)
    by (Stores s) e k = (s, e)
    by (TooLarge size) e k = absurd k
    by (Malformed place) e k = absurd k
    by (BadRule rule) e k = absurd k

-- ---- the five lines

step_kept : (path state : List ℕ) (act : Act) (m : Machine) (w : World) → IsSoundAct (LeavesFiled path) act m w → Clean (act_world act m w) → Safe (act_world act m w)
    → HoldsAt (IsOwnKept path) m w → HoldsAt (IsOwnKept path) (act_outcome act state m).after (act_world act m w)
step_kept path state act m w sound clean safe kept =
    line_kept (IsOwnKept path) (LeavesFiled path) (own_tie path) (act_outcome act state m) act state m w (done_itself (act_outcome act state m)) sound clean safe kept

module _ (script : BootScript) (m : Machine) (w : World) where
  abbrev path : List ℕ
  path = script.target.path

  abbrev act₁ : Act
  act₁ = make_policy_act script.asked script.target m w

  abbrev m₁ : Machine
  m₁ = (act_outcome act₁ script.state m).after

  abbrev w₁ : World
  w₁ = act_world act₁ m w

  abbrev act₂ : Act
  act₂ = enroll_bound_act script.token path script.key m₁ w₁

  abbrev m₂ : Machine
  m₂ = (act_outcome act₂ script.state m₁).after

  abbrev w₂ : World
  w₂ = act_world act₂ m₁ w₁

  abbrev act₃ : Act
  act₃ = exec_act script.commands m₂ w₂

  abbrev m₃ : Machine
  m₃ = (act_outcome act₃ script.state m₂).after

  abbrev w₃ : World
  w₃ = act_world act₃ m₂ w₂

  abbrev act₄ : Act
  act₄ = boot_act script.firmware script.user script.locality script.banks m₃ w₃

  abbrev m₄ : Machine
  m₄ = (act_outcome act₄ script.state m₃).after

  abbrev w₄ : World
  w₄ = act_world act₄ m₃ w₃

  -- no table is put in force behind the first line
  leaves : LeavesNewest w₁ w₄
  leaves = leaves_twice w₁ w₂ w₄ (act_leaves act₂ m₁ w₁ (enroll_calm script.token path script.key m₁ w₁))
      (leaves_twice w₂ w₃ w₄ (act_leaves act₃ m₂ w₂ (exec_calm script.commands m₂ w₂))
      (act_leaves act₄ m₃ w₃ (boot_calm script.firmware script.user script.locality script.banks m₃ w₃)))

  grows₃ : GrowsAll w₃ w₄
  grows₃ = act_grows act₄ m₃ w₃

  grows₂ : GrowsAll w₂ w₄
  grows₂ = joined w₂ w₃ w₄ (act_grows act₃ m₂ w₂) grows₃

  grows₁ : GrowsAll w₁ w₄
  grows₁ = joined w₁ w₂ w₄ (act_grows act₂ m₁ w₁) grows₂

  module _ (kept : HoldsAt (IsOwnKept path) m w) (range : IsIndex script.target.index) (other : script.token ≡ path → ⊥) (clean : Clean w₄) (safe : Safe w₄) where
    safe₁ : Safe w₁
    safe₁ = safe_before w₁ w₄ grows₁.strings safe

    clean₁ : Clean w₁
    clean₁ = clean_before w₁ w₄ grows₁ clean

    kept₁ : HoldsAt (IsOwnKept path) m₁ w₁
    kept₁ = step_kept path script.state act₁ m w (make_policy_sound script.asked script.target m w range kept safe₁) clean₁ safe₁ kept

    kept₂ : HoldsAt (IsOwnKept path) m₂ w₂
    kept₂ = step_kept path script.state act₂ m₁ w₁
        (enroll_bound_sound (LeavesFiled path) script.token path path script.key m₁ w₁ (λ live v. other)
        (λ s e. (subst (λ (device : Stored). HoldsOn (IsOwnKept path) device m₁ w₁) e kept₁).filed))
        (clean_before w₂ w₄ grows₂ clean) (safe_before w₂ w₄ grows₂.strings safe) kept₁

    kept₃ : HoldsAt (IsOwnKept path) m₃ w₃
    kept₃ = step_kept path script.state act₃ m₂ w₂ (exec_sound (LeavesFiled path) script.commands m₂ w₂) (clean_before w₃ w₄ grows₃ clean) (safe_before w₃ w₄ grows₃.strings safe) kept₂

    kept₄ : HoldsAt (IsOwnKept path) m₄ w₄
    kept₄ = step_kept path script.state act₄ m₃ w₃ (boot_sound (LeavesFiled path) script.firmware script.user script.locality script.banks m₃ w₃) clean safe kept₃

    module _ (logs : PlainLogs) (live : Live) (reads : logs_of m₃.files script.firmware script.user ≡ Ok logs) (present : has_bank script.banks script.asked.bank ≡ true) (is : m₄ ≡ machine live) where
      kept_live : IsOwnKept path live w₄
      kept_live = subst (λ (x : Machine). HoldsAt (IsOwnKept path) x w₄) is kept₄

      stored : (s : Parts) × (m₃.device ≡ Stores s)
      stored = stored_state (IsOwnKept path) m₃ w₃ kept₃

      booted_state : live.state ≡ boot_state script.locality script.banks logs stored.0
      booted_state =
          let done = boot_is script.state script.firmware script.user script.locality script.banks m₃ w₃ in
          let read = ap (λ r. (boot_outcome script.state script.locality script.banks r m₃).after) reads in
          let after = boot_after script.state script.locality script.banks logs m₃ stored.0 stored.1 in
          one_state live.state (boot_state script.locality script.banks logs stored.0) (ap (λ (x : Machine). x.device) (sym is ∙ sym done.after ∙ read ∙ after))

      -- what a PCR holds is its replay
      replays : (p : ℕ) → Contains (pcrs_of script.asked.pcrs) p → (list : List (List ℕ)) → measured_in script.asked.bank p (rows_of logs) ≡ Some list
          → values_in w₄ script.asked.bank p ≡ booted_values script logs p
      replays p asks list lists =
          let tied = kept_live.own.base in
          ap (λ (b : Banks). pcr_of b w₄.pcrs script.asked.bank p) tied.banks
          ∙ ap (λ (pcrs : List (List ℕ)). pcr_of live.state.banks pcrs script.asked.bank p) tied.pcrs
          ∙ ap (λ (s : Parts). pcr_of s.banks s.pcrs script.asked.bank p) booted_state
          ∙ boot_replays script.asked.bank p (boot_locality script.locality logs) script.banks (rows_of logs) stored.0 list present (asked_pcr script.asked.pcrs p asks).0 lists

      pub boots_foretold : (out : List ℕ) → (make_policy_line script.state script.asked script.target m).ending ≡ Fine out → BootsAsForetold script logs m w live
      boots_foretold out fine =
          let made = makes_foretold script.state script.asked script.target m w kept clean₁ safe₁ out fine in
          let f = forecast_of script.asked made.finds.inputs made.finds.now in
          record {
            made = made;
            opens = λ handle pin key e logged.
                let by = opens_later script.asked script.target m w₁ made script.state script.token handle pin key live w₄ leaves kept_live safe e in
                let same : (p : ℕ) → IsProtected f p → values_in w₄ script.asked.bank p ≡ booted_values script logs p = λ p x. replays p x.asked (logged p x).0 (logged p x).1 in (
                  λ printed. holds_same f (values_in w₄ script.asked.bank) (booted_values script logs) same (by.0 printed),
                  λ holds. by.1 (holds_same f (booted_values script logs) (values_in w₄ script.asked.bank) (λ p x. sym (same p x)) holds),
                );
          }
