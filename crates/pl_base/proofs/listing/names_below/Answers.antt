use Rattle.std.proofs.Common.{ap, ◌∙◌, List, ℕ}
use Rattle.std.specs.Map.{keys_of}
use Rattle.std.specs.declared.alloc.Global.{Global}
use Rattle.std.specs.declared.string.String.{String}
use Rattle.std.specs.declared.vec.Vec.{Vec}
use Rattle.pl_base.specs.Listing.{told_by_all}
use Rattle.pl_base.proofs.Below.{forward, told_between, nothing_noted}
use Rattle.pl_base.proofs.listing.names_below.Goals as goal

pub range-held-items-requires : goal.range-held-items-requires
range-held-items-requires c = forward c.args.path.now c.in_ok-from.from c.in_ok-to.to c.in_ok-from.ensures c.in_ok-to.ensures

pub loop-held-init : goal.loop-held-init
loop-held-init c = λ name.
    nothing_noted c.new-names.result c.new-names.ensures.empty name _
    ∙ ap (λ (es : List (String Global × Vec ℕ Global)). told_by_all c.args.path.now name (keys_of es)) (c.into_iter-held-iterator.ensures.into_iter_gives ∙ c.range-held-items.ensures.between tt)
    ∙ told_between c.args.path.now c.in_ok-from.from c.in_ok-to.to c.in_ok-from.ensures c.in_ok-to.ensures name c.args.files.now.entries
