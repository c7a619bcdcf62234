use Rattle.std.specs.Prelude.{Contains}
use Rattle.tpm_walks.proofs.Tied.{known_before, tied_trail}
use Rattle.tpm_walks.proofs.laws.tied_trails_are_known.Goals as goal

pub returns-clause-tied : goal.returns-clause-tied
returns-clause-tied c = λ w trail tied members shapes. tied_trail w trail tied members shapes

pub returns-clause-before : goal.returns-clause-before
returns-clause-before c = λ hashed trail entry known. known_before (Contains hashed) trail entry known
