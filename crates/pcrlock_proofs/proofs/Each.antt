-- The proofs of PCR after PCR.
use Rattle.std.proofs.Common.{◌≡◌, ℕ, ◌+◌, ◌*◌, ◌^◌, ◌<◌, ◌≤◌, true, false, List, [], ◌++◌, length, refl, sym, ap, ◌∙◌, append_assoc, length-append, arith}
use Rattle.std.proofs.lemmas.List.{append-nil}
use Rattle.std.specs.Prelude.{Result, Ok, Err}
use Rattle.component_tree.specs.PlainTree.{PlainComponent}
use Rattle.policy_digest.specs.Mask.{has_pcr, pcrs_of}
use Rattle.policy_digest.proofs.Masks.{pcrs_from, from_first, from_next}
use Rattle.predictor.specs.declared.window.Window.{Window}
use Rattle.predict_proof.specs.declared.proof.Proof.{Proof}
use Rattle.pcrlock_answer.specs.declared.answer.Answer.{Answer}
use Rattle.pcrlock_input.specs.Answering.{◌>>=◌, Refuses}
use Rattle.pcrlock_input.specs.declared.error.InputError.{InputError}
use Rattle.pcrlock_input.specs.declared.error.InputError.TheVariants as errors
use Rattle.pcrlock_proofs.specs.declared.asked.Asked.{Asked}
use Rattle.pcrlock_proofs.specs.Prove.{proofs_for, proofs_each}

-- what is found behind these proofs
abbrev pub behind : List Proof → Result (List Proof) Answer → Result (List Proof) Answer
behind before found = found >>= λ others. Ok (before ++ others)

behind_none : (found : Result (List Proof) Answer) → found ≡ behind [] found
behind_none (Ok others) = refl
behind_none (Err answer) = refl

behind_more : (before more : List Proof) (found : Result (List Proof) Answer) → behind before (found >>= λ others. Ok (more ++ others)) ≡ behind (before ++ more) found
behind_more before more (Ok others) = ap Ok (sym (append_assoc before more others))
behind_more before more (Err answer) = refl

-- at most 512 proofs of each PCR
pub few_more : (list more : List Proof) (pcr : ℕ) → length list ≤ 512 * pcr → length more ≤ 512 → length (list ++ more) ≤ 512 * (pcr + 1)
few_more list more pcr few further = omega (arith, few, further, length-append list more)

module _ (asked : Asked) (window : Window) (components : List PlainComponent) where
  -- those of the PCRs of the mask from one on
  abbrev pub from_pcr : ℕ → Result (List Proof) Answer
  from_pcr pcr = proofs_each asked window components (pcrs_from asked.pcrs pcr)

  abbrev pub whole : Result (List Proof) Answer
  whole = proofs_each asked window components (pcrs_of asked.pcrs)

  pub at_first : (list : List Proof) → list ≡ [] → whole ≡ behind list (from_pcr 0)
  at_first list none =
      ap (proofs_each asked window components) (sym (from_first asked.pcrs)) ∙ behind_none (from_pcr 0) ∙ ap (λ (l : List Proof). behind l (from_pcr 0)) (sym none)

  here : (pcr : ℕ) (list : List Proof) (found : Result (List Proof) Answer) → pcr < 24 → true ≡ has_pcr asked.pcrs pcr → proofs_for asked window components (2 ^ pcr) ≡ found
      → whole ≡ behind list (from_pcr pcr) → whole ≡ behind list (found >>= λ proofs. from_pcr (pcr + 1) >>= λ others. Ok (proofs ++ others))
  here pcr list found lt is proofs so_far =
      so_far ∙ ap (λ (l : List ℕ). behind list (proofs_each asked window components l)) (from_next asked.pcrs pcr true lt is)
      ∙ ap (λ (f : Result (List Proof) Answer). behind list (f >>= λ proofs. from_pcr (pcr + 1) >>= λ others. Ok (proofs ++ others))) proofs

  pub next_in : (pcr : ℕ) (list more : List Proof) → pcr < 24 → true ≡ has_pcr asked.pcrs pcr → proofs_for asked window components (2 ^ pcr) ≡ Ok more
      → whole ≡ behind list (from_pcr pcr) → whole ≡ behind (list ++ more) (from_pcr (pcr + 1))
  next_in pcr list more lt is proofs so_far = here pcr list (Ok more) lt is proofs so_far ∙ behind_more list more (from_pcr (pcr + 1))

  pub next_out : (pcr : ℕ) (list : List Proof) → pcr < 24 → false ≡ has_pcr asked.pcrs pcr → whole ≡ behind list (from_pcr pcr) → whole ≡ behind list (from_pcr (pcr + 1))
  next_out pcr list lt is so_far = so_far ∙ ap (λ (l : List ℕ). behind list (proofs_each asked window components l)) (from_next asked.pcrs pcr false lt is)

  pub next_refused : (pcr : ℕ) (list : List Proof) (error : InputError) → pcr < 24 → true ≡ has_pcr asked.pcrs pcr → Refuses error (proofs_for asked window components (2 ^ pcr))
      → whole ≡ behind list (from_pcr pcr) → Refuses error whole
  next_refused pcr list (errors.Refused answer) lt is proofs so_far = here pcr list (Err answer) lt is proofs so_far
  next_refused pcr list errors.Failed lt is proofs so_far = tt
  next_refused pcr list errors.Memory lt is proofs so_far = tt

  pub at_last : (list : List Proof) → whole ≡ behind list (from_pcr 24) → whole ≡ Ok list
  at_last list so_far = so_far ∙ ap Ok (append-nil list)
