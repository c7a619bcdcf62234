use Rattle.std.proofs.Common.{◌≡◌, length, take}
use Rattle.std.specs.Prelude.{reverse}
use Rattle.hash_bank.specs.Hash.{size_in}
use Rattle.tpm_model.specs.SessionRules.{are_reads}
use Rattle.tpm_model.specs.Trails.{trail_digest}
use Rattle.tpm_model.proofs.session_rules.has_reads.Given as goal

-- the digest that the entries so far lead to, and whether each of them passed
abbrev pub invariant-loop-entry : goal.invariant-loop-entry
invariant-loop-entry l = record {
  digest : l.digest ≡ trail_digest l.session.hash (take l.entry-index l.trail);
  size : length l.digest ≡ size_in l.session.hash;
  passed : l.good ≡ are_reads l.parts l.session.hash (reverse (take l.entry-index l.trail));
}
