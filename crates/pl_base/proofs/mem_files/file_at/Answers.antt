use Rattle.std.proofs.Common.{ℕ, ap, sym, ◌∙◌}
use Rattle.std.specs.Prelude.{Some}
use Rattle.std.specs.Option.{option_map}
use Rattle.std.specs.declared.alloc.Global.{Global}
use Rattle.std.specs.declared.vec.Vec.{Vec}
use Rattle.pl_base.proofs.HeldFiles.{get-files}
use Rattle.pl_base.proofs.mem_files.file_at.Goals as goal

pub returns-in-Some : goal.returns-in-Some
returns-in-Some c = ap Some c.as_slice.ensures.value ∙ ap (option_map (λ (v : Vec ℕ Global). v.items)) c.in-Some.ensures.value ∙ sym (get-files c.args.files.now.entries c.args.path.now)

pub returns-in-None : goal.returns-in-None
returns-in-None c = ap (option_map (λ (v : Vec ℕ Global). v.items)) c.in-None.ensures.value ∙ sym (get-files c.args.files.now.entries c.args.path.now)
