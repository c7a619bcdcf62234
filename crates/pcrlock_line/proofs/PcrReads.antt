-- What the TPM answers to a read of a PCR.
use Rattle.std.proofs.Common.{◌≡◌, ◌⊎◌, ℕ, ◌≤◌, cond, List, length, inl, inr, refl, ap, ◌∙◌}
use Rattle.std.specs.Prelude.{Option, None, Some, Result, Ok, Err, IfOk}
use Rattle.std.proofs.lemmas.Bool.{le-ltb, eq-eqb}
use Rattle.hash_bank.specs.declared.bank.Bank.{Bank}
use Rattle.hash_bank.specs.Hash.{size_in}
use Rattle.tpm_model.specs.declared.response.Response.{Response}
use Rattle.tpm_model.specs.declared.parts.Parts.{Parts}
use Rattle.tpm_model.specs.Pcrs.{pcr_of}
use Rattle.tpm_model.specs.PcrCommands.{pcr_read, value_or_absent}
use Rattle.tpm_model.specs.Rules.{HasRules}
use Rattle.tpm_model.proofs.PcrPlaces.{value_at}
use Rattle.tpm_device.specs.Stored.{Stored, Holds}
use Rattle.pcrlock_line.specs.declared.stop.Stop.{Stop}
use Rattle.pcrlock_line.specs.declared.stop.Stop.TheVariants as stop
use Rattle.pcrlock_line.specs.PcrAnswer.{reading_of}
use Rattle.pcrlock_line.specs.Running.{Runs}

-- a PCR's read answers its value, or that its bank is absent
read_is : (bank : Bank) (pcr : ℕ) (s : Parts) → pcr ≤ 23 → pcr_read bank pcr s ≡ value_or_absent bank (pcr_of s.banks s.pcrs bank pcr) s
read_is bank pcr s small = rw (le-ltb 23 pcr small) refl

-- it leaves the state
absent_keeps : (bank : Bank) (o : Option (List ℕ)) (s : Parts) → (value_or_absent bank o s).1 ≡ s
absent_keeps bank None s = refl
absent_keeps bank (Some value) s = refl

pub read_keeps : (bank : Bank) (pcr : ℕ) (s : Parts) → pcr ≤ 23 → (pcr_read bank pcr s).1 ≡ s
read_keeps bank pcr s small = ap (λ (r : Response × Parts). r.1) (read_is bank pcr s small) ∙ absent_keeps bank _ s

-- what its answer tells is the PCR's value, or that there is none
taken : (bank : Bank) (o : Option (List ℕ)) (s : Parts) → ((value : List ℕ) → o ≡ Some value → length value ≡ size_in bank) → reading_of bank (value_or_absent bank o s).0 ≡ Ok o
taken bank None s h = refl
taken bank (Some value) s h =
    ap (λ b. cond {A = Result (Option (List ℕ)) Stop} b (Ok (Some value)) (Err stop.Memory)) (eq-eqb (length value) (size_in bank) (h value refl))

pub read_tells : (bank : Bank) (pcr : ℕ) (s : Parts) → pcr ≤ 23 → HasRules s → reading_of bank (pcr_read bank pcr s).0 ≡ Ok (pcr_of s.banks s.pcrs bank pcr)
read_tells bank pcr s small rules =
    ap (λ (r : Response × Parts). reading_of bank r.0) (read_is bank pcr s small)
    ∙ taken bank (pcr_of s.banks s.pcrs bank pcr) s (λ value e. (value_at s.banks s.pcrs bank pcr value rules.shape.values e).size)

-- what was read is what the answer tells
pub told_by : (result given : Result (Option (List ℕ)) Stop) (o : Option (List ℕ)) → result ≡ given → given ≡ Ok o → IfOk result (λ found. found ≡ o)
told_by (Ok found) given o e h = cc (e, h)
told_by (Err stopped) given o e h = tt

-- the device runs on with the state that it has
pub runs_on : (now : Option Parts) (kept : Option Stored) (bank : Bank) (pcr : ℕ) (s : Parts) → pcr ≤ 23
    → now ≡ Some (pcr_read bank pcr s).1 → kept ≡ Some (Holds (pcr_read bank pcr s).1) → Runs now kept s
runs_on now kept bank pcr s small live stored = record {
  live = live ∙ ap Some (read_keeps bank pcr s small);
  stored = stored ∙ ap (λ (x : Parts). Some (Holds x)) (read_keeps bank pcr s small);
}

-- after a stop at a read the same state is stored
pub stopped : (bank : Bank) (pcr : ℕ) (s : Parts) (now : Option Stored) → pcr ≤ 23
    → (now ≡ Some (Holds s)) ⊎ (now ≡ Some (Holds (pcr_read bank pcr s).1)) → now ≡ Some (Holds s)
stopped bank pcr s now small (inl same) = same
stopped bank pcr s now small (inr next) = next ∙ ap (λ x. Some (Holds x)) (read_keeps bank pcr s small)
