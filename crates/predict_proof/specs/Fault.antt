-- What is wrong with a member, by tests, and with a list of them.
use Rattle.std.specs.Prelude.{ℕ, ◌+◌, Bool, true, false, ◌&&◌, nat_le, List, [], ◌∷◌, length, take, Option, Some, None, Result, Ok, Err, if◌then◌else◌}
use Rattle.std.specs.Option.{option_or}
use Rattle.std.specs.Str.{bytes_eq}
use Rattle.hash_bank.specs.declared.bank.Bank.{Bank}
use Rattle.component_tree.specs.PlainTree.{PlainComponent}
use Rattle.policy_digest.specs.Mask.{pcrs_of}
use Rattle.record_match.specs.Choices.{chosen}
use Rattle.record_match.specs.Extends.{variants_of}
use Rattle.predictor.specs.declared.window.Window.{Window}
use Rattle.predictor.specs.Cuts.{inside_of}
use Rattle.predictor.specs.Foreseen.{first_cut}
use Rattle.predict_proof.specs.declared.proof.Proof.{Proof}
use Rattle.predict_proof.specs.declared.error.CheckError.{CheckError}
use Rattle.predict_proof.specs.declared.error.CheckError.TheVariants as errors
use Rattle.predict_proof.specs.Chosen.{is_choice}
use Rattle.predict_proof.specs.Proved.{some_lacks, held_by}

-- the first of the PCRs whose value isn't what it holds, and what it holds
abbrev pub first_differing : (ℕ → List ℕ) → List ℕ → List (List ℕ) → Option (ℕ × List ℕ)
first_differing held [] values = None
first_differing held (p ∷ pcrs) [] = None
first_differing held (p ∷ pcrs) (v ∷ values) = if bytes_eq (held p) v then first_differing held pcrs values else Some (p, held p)

abbrev pub differing : ℕ → Option (ℕ × List ℕ) → Option CheckError
differing n None = None
differing n (Some at) = Some (errors.Differs n at.0 at.1)

-- by whether it has a cut, a choice and a record that lacks the bank, and the first PCR that differs
abbrev pub fault_by : Bool → Bool → Bool → Option (ℕ × List ℕ) → ℕ → Option CheckError
fault_by false choice lacking at n = Some (errors.Cut n)
fault_by true false lacking at n = Some (errors.Choice n)
fault_by true true true at n = Some (errors.NoDigest n)
fault_by true true false at n = differing n at

abbrev pub is_cut : ℕ → ℕ → ℕ → Bool
is_cut first last cut = nat_le first cut && nat_le cut last

abbrev pub fault_of : Bank → ℕ → ℕ → List PlainComponent → ℕ → Proof → Option CheckError
fault_of bank locality first inside n q =
    fault_by (is_cut first (length inside) q.cut) (is_choice (variants_of (take q.cut inside)) q.choice) (some_lacks bank q.pcrs (chosen (variants_of (take q.cut inside)) q.choice))
    (first_differing (held_by bank locality inside q) (pcrs_of q.pcrs) q.values) n

-- ---- what is wrong with a list

-- the first fault of these members, of which so many stand before
abbrev pub first_fault_from : Bank → ℕ → ℕ → List PlainComponent → ℕ → List Proof → Option CheckError
first_fault_from bank locality first inside n [] = None
first_fault_from bank locality first inside n (q ∷ list) = option_or (fault_of bank locality first inside n q) (first_fault_from bank locality first inside (n + 1) list)

-- the first fault of the list, over the cuts of the window
abbrev pub first_fault : Bank → ℕ → Window → List PlainComponent → List Proof → Option CheckError
first_fault bank locality window tree list = first_fault_from bank locality (first_cut window tree) (inside_of window.end tree) 0 list

-- a refusal by the fault, where there is one
abbrev pub unless : Option CheckError → Result (Unit {0}) CheckError
unless None = Ok tt
unless (Some error) = Err error
