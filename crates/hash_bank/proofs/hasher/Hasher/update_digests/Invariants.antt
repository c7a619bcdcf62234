use Rattle.std.proofs.Common.{ℕ, List, take, ◌++◌}
use Rattle.std.specs.List.{concat}
use Rattle.hash_bank.specs.Hasher.{HoldsMessage}
use Rattle.hash_bank.specs.declared.bank.Bank.{Bank}
use Rattle.hash_bank.proofs.hasher.Hasher.update_digests.Given as goal

abbrev pub invariant-loop-digest : goal.invariant-loop-digest
invariant-loop-digest l =
    (b : Bank) (m : List ℕ) → HoldsMessage l.initial.self b m
    → HoldsMessage l.self b (m ++ concat (take l.digest-index l.digests))
