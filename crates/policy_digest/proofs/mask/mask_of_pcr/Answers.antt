use Rattle.std.proofs.Common.{◌<◌, ◌^◌, arith}
use Rattle.std.proofs.lemmas.Nat.{pow_below}
use Rattle.policy_digest.proofs.mask.mask_of_pcr.Goals as goal

pub returns-clause-below : goal.returns-clause-below
returns-clause-below c = let small : 2 ^ c.args.pcr < 2 ^ 24 = pow_below c.args.pcr 24 (omega (arith, c.requires)) in omega arith
