use Rattle.std.proofs.Common.{◌≡◌, map, drop}
use Rattle.nv_index.specs.declared.index.Index.{Index}
use Rattle.nv_index.specs.Handles.{are_handles}
use Rattle.tpm_model.proofs.index_rules.are_index_handles.Given as goal

-- what is left ascends from the next handle exactly where all ascend from the first
abbrev pub invariant-loop-index : goal.invariant-loop-index
invariant-loop-index l =
    are_handles l.next l.end (map (λ (x : Index). x.public.handle) (drop l.index-index l.indices)) ≡ are_handles l.first l.end (map (λ (x : Index). x.public.handle) l.indices)
