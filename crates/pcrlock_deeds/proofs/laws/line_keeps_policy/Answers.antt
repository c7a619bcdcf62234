use Rattle.pcrlock_deeds.specs.Kept.{IsKept, IsOwnKept, LeavesFiled}
use Rattle.pcrlock_deeds.proofs.Acting.{act_grows, line_first, line_hashed, line_kept, line_last, line_stopped}
use Rattle.pcrlock_deeds.proofs.Tying.{kept_tie, own_tie}
use Rattle.pcrlock_deeds.proofs.laws.line_keeps_policy.Goals as goal

pub returns-clause-own : goal.returns-clause-own
returns-clause-own c = λ policy state o act m w done sound clean safe tie. line_kept (IsOwnKept policy) (LeavesFiled policy) (own_tie policy) o act state m w done sound clean safe tie

pub returns-clause-trails : goal.returns-clause-trails
returns-clause-trails c = λ policy state o act m w done sound clean safe tie. line_kept (IsKept policy) (LeavesFiled policy) (kept_tie policy) o act state m w done sound clean safe tie

pub returns-clause-hashed : goal.returns-clause-hashed
returns-clause-hashed c = λ state o act m w done. line_hashed o act state m w done

pub returns-clause-grows : goal.returns-clause-grows
returns-clause-grows c = λ act m w. act_grows act m w

pub returns-clause-first : goal.returns-clause-first
returns-clause-first c = λ held kept state o act m done at. line_first held kept o act state m done at

pub returns-clause-last : goal.returns-clause-last
returns-clause-last c = λ held kept state o act m done at. line_last held kept o act state m done at

pub returns-clause-stopped : goal.returns-clause-stopped
returns-clause-stopped c = λ policy state o act m w done sound clean safe tie held kept stands.
    line_stopped (IsOwnKept policy) (LeavesFiled policy) (own_tie policy) held kept o act state m w done sound clean safe tie stands
