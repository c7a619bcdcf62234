use Rattle.std.proofs.Common.{ℕ, List, take, ◌++◌}
use Rattle.std.specs.List.{flat_map}
use Rattle.hash_bank.specs.Hasher.{HoldsMessage}
use Rattle.hash_bank.specs.declared.bank.Bank.{Bank}
use Rattle.hash_bank.proofs.hasher.Hasher.update_parts.Given as goal

abbrev pub invariant-loop-part : goal.invariant-loop-part
invariant-loop-part l =
    (b : Bank) (m : List ℕ) → HoldsMessage l.initial.self b m
    → HoldsMessage l.self b (m ++ flat_map (λ part. part.now) (take l.part-index l.parts))
