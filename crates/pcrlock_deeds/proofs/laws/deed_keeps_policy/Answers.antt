use Rattle.pcrlock_deeds.specs.Kept.{IsKept, IsOwnKept, LeavesFiled}
use Rattle.pcrlock_deeds.proofs.Keeping.{deed_kept, deed_staged}
use Rattle.pcrlock_deeds.proofs.Standing.{deed_stopped}
use Rattle.pcrlock_deeds.proofs.Tying.{kept_tie, own_tie}
use Rattle.pcrlock_deeds.proofs.laws.deed_keeps_policy.Goals as goal

pub returns-clause-own : goal.returns-clause-own
returns-clause-own c = λ policy d m w sound clean safe tie. deed_kept (IsOwnKept policy) (LeavesFiled policy) (own_tie policy) d m w sound clean safe tie

pub returns-clause-trails : goal.returns-clause-trails
returns-clause-trails c = λ policy d m w sound clean safe tie. deed_kept (IsKept policy) (LeavesFiled policy) (kept_tie policy) d m w sound clean safe tie

pub returns-clause-staged : goal.returns-clause-staged
returns-clause-staged c = λ policy d m w sound clean safe tie. deed_staged (IsOwnKept policy) (LeavesFiled policy) (own_tie policy) d m w sound clean safe tie

pub returns-clause-stopped : goal.returns-clause-stopped
returns-clause-stopped c = λ policy d m w sound clean safe tie held kept stands.
    deed_stopped held kept (IsOwnKept policy) (LeavesFiled policy) (own_tie policy) d m w sound clean safe tie stands
