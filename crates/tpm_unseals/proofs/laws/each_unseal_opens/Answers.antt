use Rattle.tpm_unseals.proofs.EachUnseal.{each_unseal, each_unseal_ruled}
use Rattle.tpm_unseals.proofs.laws.each_unseal_opens.Goals as goal

pub returns-clause-each : goal.returns-clause-each
returns-clause-each c = λ events s w orderly own sessions sound clean safe. each_unseal events s w orderly own sessions sound clean safe

pub returns-clause-tied : goal.returns-clause-tied
returns-clause-tied c = λ events s w rules tie sound clean safe. each_unseal_ruled events s w rules tie sound clean safe
