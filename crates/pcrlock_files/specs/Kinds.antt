-- Counts of faults with those of calls that weren't let through.
use Rattle.std.specs.Prelude.{◌≡◌, ℕ, ◌+◌}
use Rattle.std.proofs.Common.{ap, ◌∙◌}
use Rattle.std.proofs.Math.Nat.{add_assoc}

-- a count of both kinds stays one where each call that isn't let through counts as a change
pub kinds_with : (total readings changes denied : ℕ) → total ≡ readings + changes → total + denied ≡ readings + (changes + denied)
kinds_with total readings changes denied split = ap (λ n. n + denied) split ∙ add_assoc readings changes denied
