use Rattle.std.proofs.Common.{refl}
use Rattle.race_newest.proofs.Strict.{authorised_already, it_moves, it_stays, no_key, none_authorises, not_by_older, one_authorises}
use Rattle.race_newest.proofs.laws.names_are_strict.Goals as goal

pub returns-clause-none : goal.returns-clause-none
returns-clause-none c = λ s w session index pin table by. none_authorises s w session index pin table by

pub returns-clause-already : goal.returns-clause-already
returns-clause-already c = λ s w session index pin secret answered opened. authorised_already s w session index pin secret answered opened

pub returns-clause-no_key : goal.returns-clause-no_key
returns-clause-no_key c = λ p w client index pin secret given right. no_key p w client index pin secret given right

pub returns-clause-one : goal.returns-clause-one
returns-clause-one c = λ at s w session index pin table asks accepted newest. one_authorises at s w session index pin table asks accepted newest

pub returns-clause-older : goal.returns-clause-older
returns-clause-older c = λ at s w session index pin table other newest apart by. not_by_older at s w session index pin table other newest apart by

pub returns-clause-moved : goal.returns-clause-moved
returns-clause-moved c = λ given p moving done still. it_moves given p moving done still

pub returns-clause-stayed : goal.returns-clause-stayed
returns-clause-stayed c = λ given why p refused. it_stays given why p refused

pub returns-clause-theirs : goal.returns-clause-theirs
returns-clause-theirs c = λ given p. refl

pub returns-clause-ours : goal.returns-clause-ours
returns-clause-ours c = λ pin root table p. refl
