-- Each command of proof files comes to its act, and no step of it touches the policy file where no path of its is that.
use Rattle.std.proofs.Common.{ℕ, List, refl}
use Rattle.std.specs.Prelude.{Result, Ok, Err}
use Rattle.tpm_model.specs.World.{World}
use Rattle.predictor.specs.declared.window.Window.{Window}
use Rattle.pcrlock_line.specs.Machine.{Machine}
use Rattle.pcrlock_deeds.specs.Acts.{IsAct, IsSoundAct}
use Rattle.pcrlock_deeds.specs.Sound.{FileRule}
use Rattle.pcrlock_answer.specs.declared.answer.Answer.{Answer}
use Rattle.predict_proof.specs.declared.proof.Proof.{Proof}
use Rattle.pcrlock_input.specs.Answering.{◌>>=◌}
use Rattle.pcrlock_lock.specs.Changing.{changes_in}
use Rattle.pcrlock_lock.proofs.Acts.{AllMay, MayChange, work_is, work_sound}
use Rattle.pcrlock_proofs.specs.declared.asked.Asked.{Asked}
use Rattle.pcrlock_proofs.specs.Acts.{check_proof_act, prove_act}
use Rattle.pcrlock_proofs.specs.CheckProof.{check_proof_line}
use Rattle.pcrlock_proofs.specs.Prove.{proofs_of, prove_line, prove_work, written}

-- ---- the line is the act

pub check_proof_is : (state path : List ℕ) (folders : List (List ℕ)) (window : Window) → IsAct (check_proof_line path folders window) state (check_proof_act path folders window)
unfolding check_proof_act
check_proof_is state path folders window m w = record {
  ending = refl;
  after = refl;
  stops = λ held kept. (λ h. h, λ h. h);
  hashed = λ x h. h;
}

pub prove_is : (state output : List ℕ) (folders : List (List ℕ)) (window : Window) (asked : Asked) → IsAct (prove_line output folders window asked) state (prove_act output folders window asked)
unfolding prove_act
prove_is state output folders window asked m w = work_is (prove_work output folders window asked m.files) state m

-- ---- its steps keep a tie

module _ (Files : FileRule) where
  pub check_proof_sound : (path : List ℕ) (folders : List (List ℕ)) (window : Window) (m : Machine) (w : World) → IsSoundAct Files (check_proof_act path folders window m w) m w
  unfolding check_proof_act
  check_proof_sound path folders window m w = tt

  prove_may : (output : List ℕ) (asked : Asked) (found : Result (List Proof) Answer) → MayChange Files output → AllMay Files (changes_in (found >>= λ proofs. Ok (written output asked proofs)))
  prove_may output asked (Ok proofs) may = (refl, may, tt)
  prove_may output asked (Err answer) may = tt

  pub prove_sound : (output : List ℕ) (folders : List (List ℕ)) (window : Window) (asked : Asked) (m : Machine) (w : World) → MayChange Files output → IsSoundAct Files (prove_act output folders window asked m w) m w
  unfolding prove_act
  prove_sound output folders window asked m w may =
      work_sound Files (prove_work output folders window asked m.files) m w (prove_may output asked (proofs_of asked window folders m.files) may)
