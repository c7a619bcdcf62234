use Rattle.std.proofs.Common.{◌≡◌, length, ap, ◌∙◌, ◌++◌, arith}
use Rattle.tpm_state.specs.declared.version.Version.TheVariants.{Two}
use Rattle.tpm_state.specs.Layout.{text_of}
use Rattle.tpm_state.specs.Decoding.{state_of}
use Rattle.tpm_state.proofs.Shapes.{rules_laid}
use Rattle.tpm_state.proofs.Lengths.{text_most}
use Rattle.tpm_state.proofs.Decoded.{state_again}
use Rattle.tpm_state.proofs.encoding.encode.Goals as goal

pub returns-clause-short : goal.returns-clause-short
returns-clause-short c =
    let text : c.put_state.new.out.items ≡ text_of Two c.args.state.now = c.in_ok-put_state.ensures.text ∙ ap (λ front. front ++ text_of Two c.args.state.now) c.in_ok-out.ensures.items in
    rw text (text_most Two c.args.state.now (rules_laid c.args.state.now c.in_ok-put_state.ensures.rules))

pub returns-clause-reads_back : goal.returns-clause-reads_back
returns-clause-reads_back c =
    let text : c.put_state.new.out.items ≡ text_of Two c.args.state.now = c.in_ok-put_state.ensures.text ∙ ap (λ front. front ++ text_of Two c.args.state.now) c.in_ok-out.ensures.items in
    ap state_of text ∙ state_again c.args.state.now c.in_ok-put_state.ensures.rules
