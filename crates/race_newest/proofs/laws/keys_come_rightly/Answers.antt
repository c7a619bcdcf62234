use Rattle.race_newest.proofs.Rightly.{key_rightly}
use Rattle.race_newest.proofs.laws.keys_come_rightly.Goals as goal

pub returns : goal.returns
returns c = record {
  only = λ events p w clients client index pin secret given new all rules tie clean safe bound came.
      key_rightly events p w clients client index pin secret given new all rules tie clean safe bound came;
}
