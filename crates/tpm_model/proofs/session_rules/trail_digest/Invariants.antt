use Rattle.std.proofs.Common.{◌≡◌, length, take}
use Rattle.hash_bank.specs.Hash.{size_in}
use Rattle.tpm_model.specs.Trails.{trail_digest}
use Rattle.tpm_model.proofs.session_rules.trail_digest.Given as goal

-- the digest that the entries so far lead to
abbrev pub invariant-loop-entry : goal.invariant-loop-entry
invariant-loop-entry l = record {
  digest : l.digest ≡ trail_digest l.hash (take l.entry-index l.trail);
  size : length l.digest ≡ size_in l.hash;
}
