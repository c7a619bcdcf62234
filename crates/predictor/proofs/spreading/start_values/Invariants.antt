use Rattle.std.proofs.Common.{◌≡◌, length, take, map}
use Rattle.std.specs.List.{All}
use Rattle.hash_bank.specs.Hash.{size_in}
use Rattle.hash_bank.specs.Extending.{start_of}
use Rattle.predictor.proofs.spreading.start_values.Given as goal

abbrev pub invariant-loop-pcr : goal.invariant-loop-pcr
invariant-loop-pcr l = record {
  value : l.list ≡ map (λ p. start_of l.bank p l.locality) (take l.pcr-index l.pcrs);
  long : length l.list ≡ l.pcr-index;
  sized : All (λ d. length d ≡ size_in l.bank) l.list;
}
