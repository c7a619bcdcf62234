use Rattle.std.proofs.Common.{◌++◌, List, ℕ, string_bytes, ap, ◌∙◌}
use Rattle.std.specs.Fmt.{decimal}
use Rattle.std.proofs.lemmas.Result.{on_ok_weaker}
use Rattle.policy_digest.specs.Mask.{pcrs_of}
use Rattle.predict_proof.specs.ProofText.{choice_text, numbers_text, proof_text, values_text}
use Rattle.predict_proof.proofs.Texts.{pieces_are}
use Rattle.predict_proof.proofs.writing.write_proof.Goals as goal

pub returns : goal.returns
unfolding proof_text
returns c =
    let q = c.args.proof.now in
    on_ok_weaker c.write_words.result
    (λ e. e ∙ ap (λ (t : List ℕ). string_bytes c.args.text.now ++ t) (pieces_are (numbers_text (pcrs_of q.pcrs)) (decimal q.cut) (choice_text q.choice) (values_text q.values)))
    c.write_words.ensures
