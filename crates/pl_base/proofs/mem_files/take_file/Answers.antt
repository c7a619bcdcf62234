use Rattle.std.proofs.Common.{ℕ, ap, sym, ◌∙◌}
use Rattle.std.specs.Option.{option_map}
use Rattle.std.specs.declared.alloc.Global.{Global}
use Rattle.std.specs.declared.vec.Vec.{Vec}
use Rattle.pl_base.proofs.HeldFiles.{get-files, files-remove, was_there}
use Rattle.pl_base.proofs.mem_files.take_file.Goals as goal

pub returns-clause-was : goal.returns-clause-was
returns-clause-was c = was_there c.is_some.result c.remove.result c.is_some.ensures _ (get-files c.args.files.now.entries c.args.path.now ∙ ap (option_map (λ (v : Vec ℕ Global). v.items)) (sym c.remove.ensures.value))

pub returns-clause-gone : goal.returns-clause-gone
returns-clause-gone c = files-remove c.args.files.now c.remove.new.self c.args.path.now c.remove.ensures.updates
