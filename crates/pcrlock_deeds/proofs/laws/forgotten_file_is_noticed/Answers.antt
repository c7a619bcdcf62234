use Rattle.std.proofs.Common.{refl}
use Rattle.pcrlock_deeds.proofs.Broken.{forgotten_file}
use Rattle.pcrlock_deeds.proofs.laws.forgotten_file_is_noticed.Goals as goal

pub returns-clause-unsound : goal.returns-clause-unsound
returns-clause-unsound c = λ policy bytes last m w sound. sound.0 refl

pub returns-clause-broken : goal.returns-clause-broken
returns-clause-broken c = λ policy bytes last m w none kept. forgotten_file policy bytes m w none kept
