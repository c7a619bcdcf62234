-- What `prove` has written passes `check-proof`, as long as the file and the components stand as they stood.
use Rattle.std.specs.Prelude.{◌≡◌, ◌≤◌, ℕ, List, length, Ok}
use Rattle.std.specs.List.{All}
use Rattle.std.specs.FinMap.{get}
use Rattle.pl_base.specs.FileMap.{FileMap}
use Rattle.component_tree.specs.PlainTree.{PlainComponent}
use Rattle.policy_digest.specs.Mask.{pcrs_of}
use Rattle.predictor.specs.declared.window.Window.{Window}
use Rattle.predict_proof.specs.declared.proof.Proof.{Proof}
use Rattle.predict_proof.specs.Proved.{Proved}
use Rattle.predict_proof.specs.ProofText.{proofs_text}
use Rattle.predict_proof.specs.ReadsAs.{IsLine}
use Rattle.pcrlock_answer.specs.Texts.{checked_text, proved_text}
use Rattle.pcrlock_line.specs.declared.reply.Reply.{Reply}
use Rattle.pcrlock_line.specs.declared.reply.Reply.TheVariants as reply
use Rattle.pcrlock_input.specs.Components.{components_of}
use Rattle.pcrlock_proofs.specs.declared.asked.Asked.{Asked}
use Rattle.pcrlock_proofs.specs.CheckProof.{checked_of}

-- in later files the output is as it was written, and the components are those that were there before
pub record StandsStill (output : List ℕ) (folders : List (List ℕ)) (before written later : FileMap) : Type 0 where
  pub output_is : get later output ≡ get written output
  pub components_are : components_of later folders ≡ components_of before folders

-- `prove` printed the number of its proofs, and `check-proof` finds as many, each of them proved
pub record PassesAll (output : List ℕ) (folders : List (List ℕ)) (window : Window) (later : FileMap) (text : List ℕ) : Type 0 where
  pub count : ℕ
  pub printed : text ≡ proved_text count
  pub checked : checked_of later output folders window ≡ Ok (checked_text count)

abbrev pub Passes : List ℕ → List (List ℕ) → Window → FileMap → FileMap → Reply → Type 0
Passes output folders window before written (reply.Fine text) = (later : FileMap) → StandsStill output folders before written later → PassesAll output folders window later text.items
Passes output folders window before written (reply.Refused answer) = Unit {0}

-- ---- for private clauses

-- proofs that pass, each of at most so many PCRs
pub record AreOf (count : ℕ) (asked : Asked) (window : Window) (components : List PlainComponent) (list : List Proof) : Type 0 where
  pub lines : All (IsLine asked.bank) list
  pub proved : All (Proved asked.bank asked.locality window components) list
  pub few : All (λ q. length (pcrs_of q.pcrs) ≤ count) list

-- proofs that pass, and whose lines fit a file
pub record Fit (asked : Asked) (window : Window) (components : List PlainComponent) (list : List Proof) : Type 0 where
  pub lines : All (IsLine asked.bank) list
  pub proved : All (Proved asked.bank asked.locality window components) list
  pub count : length list ≤ 12288
  pub short : length (proofs_text list) ≤ 16777000

-- over the components in the folders
abbrev pub FitOver : Asked → Window → List (List ℕ) → FileMap → List Proof → Type 0
FitOver asked window folders files list = (components : List PlainComponent) × (components_of files folders ≡ Ok components) × Fit asked window components list
