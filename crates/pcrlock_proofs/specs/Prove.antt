-- What `prove` does: it writes a file of the proofs of what is foreseen of some PCRs.
use Rattle.std.specs.Prelude.{ℕ, ◌^◌, if◌then◌else◌, List, [], ◌∷◌, ◌++◌, codes, length, Result, Ok, Err}
use Rattle.pl_base.specs.FileMap.{FileMap}
use Rattle.component_tree.specs.PlainTree.{PlainComponent}
use Rattle.policy_digest.specs.Mask.{pcrs_of}
use Rattle.predictor.specs.declared.error.ForeseeError.{ForeseeError}
use Rattle.predictor.specs.declared.error.ForeseeError.TheVariants as errors
use Rattle.predictor.specs.declared.window.Window.{Window}
use Rattle.predictor.specs.Foreseen.{foreseen_joint}
use Rattle.predict_proof.specs.declared.proof.Proof.{Proof}
use Rattle.predict_proof.specs.Proving.{first_proofs}
use Rattle.predict_proof.specs.ProofText.{file_text}
use Rattle.pcrlock_answer.specs.declared.answer.Answer.{Answer}
use Rattle.pcrlock_answer.specs.declared.answer.Answer.TheVariants as said
use Rattle.pcrlock_answer.specs.Texts.{proved_text}
use Rattle.pcrlock_line.specs.Machine.{Machine}
use Rattle.pcrlock_line.specs.Outcome.{Outcome}
use Rattle.pcrlock_input.specs.Answering.{◌>>=◌}
use Rattle.pcrlock_input.specs.Components.{components_of}
use Rattle.pcrlock_predict.specs.Predict.{no_digest}
use Rattle.pcrlock_deeds.specs.Acts.{Written}
use Rattle.pcrlock_deeds.specs.Deed.{keeps}
use Rattle.pcrlock_lock.specs.Changing.{Work, changing_line}
use Rattle.pcrlock_proofs.specs.declared.asked.Asked.{Asked}

-- why nothing is foreseen. No foresight ends for want of memory
abbrev pub foresee_answer : List PlainComponent → ForeseeError → Answer
foresee_answer components (errors.NoDigest i v n) = no_digest components i v n
foresee_answer components (errors.TooMany cut) = said.Limit (codes "values") 513
foresee_answer components errors.Memory = said.Memory

-- the proofs, where something is foreseen
abbrev pub unless_refused : List PlainComponent → Result (List (List (List ℕ))) ForeseeError → List Proof → Result (List Proof) Answer
unless_refused components (Ok states) proofs = Ok proofs
unless_refused components (Err error) proofs = Err (foresee_answer components error)

-- the first proof of each state that is foreseen of the mask's PCRs at once
abbrev pub proofs_for : Asked → Window → List PlainComponent → ℕ → Result (List Proof) Answer
proofs_for asked window components mask =
    unless_refused components (foreseen_joint asked.bank asked.locality (pcrs_of mask) window components) (first_proofs asked.bank asked.locality mask window components)

-- those of each of the PCRs, one after the other, up to the first of which nothing is foreseen
abbrev pub proofs_each : Asked → Window → List PlainComponent → List ℕ → Result (List Proof) Answer
proofs_each asked window components [] = Ok []
proofs_each asked window components (pcr ∷ pcrs) =
    proofs_for asked window components (2 ^ pcr) >>= λ proofs. proofs_each asked window components pcrs >>= λ others. Ok (proofs ++ others)

-- those of all asked PCRs at once, or of each of them alone, ascending
abbrev pub proofs_asked : Asked → Window → List PlainComponent → Result (List Proof) Answer
proofs_asked asked window components =
    if asked.joint then proofs_for asked window components asked.pcrs else proofs_each asked window components (pcrs_of asked.pcrs)

-- over the components in the folders
abbrev pub proofs_of : Asked → Window → List (List ℕ) → FileMap → Result (List Proof) Answer
proofs_of asked window folders files = components_of files folders >>= λ components. proofs_asked asked window components

-- the output has the proofs, and their number is printed
abbrev pub written : List ℕ → Asked → List Proof → Work
written output asked proofs = record {
  text = proved_text (length proofs);
  changes = Written output (file_text (record { bank = asked.bank; locality = asked.locality; proofs = proofs })) keeps ∷ [];
}

abbrev pub prove_work : List ℕ → List (List ℕ) → Window → Asked → FileMap → Result Work Answer
prove_work output folders window asked files = proofs_of asked window folders files >>= λ proofs. Ok (written output asked proofs)

-- `prove`, into the file at the path `output`
abbrev pub prove_line : List ℕ → List (List ℕ) → Window → Asked → Machine → Outcome
prove_line output folders window asked m = changing_line (prove_work output folders window asked m.files) m
