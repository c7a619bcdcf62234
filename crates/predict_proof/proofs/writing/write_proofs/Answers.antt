use Rattle.std.proofs.Common.{ap, ◌∙◌, rules}
use Rattle.predict_proof.specs.ProofsIn.{proofs_in}
use Rattle.predict_proof.proofs.ProofsRead.{file_back}
use Rattle.predict_proof.proofs.writing.write_proofs.Goals as goal

pub returns-clause-text : goal.returns-clause-text
returns-clause-text c = search rules

pub returns-clause-reads_back : goal.returns-clause-reads_back
returns-clause-reads_back c = λ is. ap proofs_in (returns-clause-text c) ∙ file_back c.args.file.now is
