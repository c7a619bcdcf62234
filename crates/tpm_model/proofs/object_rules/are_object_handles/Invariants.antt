use Rattle.std.proofs.Common.{◌≡◌, map, drop}
use Rattle.tpm_model.specs.declared.object.Object.{Object}
use Rattle.nv_index.specs.Handles.{are_handles}
use Rattle.tpm_model.proofs.object_rules.are_object_handles.Given as goal

-- what is left ascends from the next handle exactly where all ascend from the first
abbrev pub invariant-loop-object : goal.invariant-loop-object
invariant-loop-object l =
    are_handles l.next l.end (map (λ (x : Object). x.handle) (drop l.object-index l.objects)) ≡ are_handles l.first l.end (map (λ (x : Object). x.handle) l.objects)
