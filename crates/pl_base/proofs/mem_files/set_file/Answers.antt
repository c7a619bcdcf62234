use Rattle.std.proofs.Common.{ap, ◌∙◌}
use Rattle.std.specs.Prelude.{string_bytes}
use Rattle.std.specs.FinMap.{insert}
use Rattle.pl_base.specs.MemoryFiles.{files_of}
use Rattle.pl_base.proofs.HeldFiles.{files-insert}
use Rattle.pl_base.proofs.mem_files.set_file.Goals as goal

pub returns : goal.returns
returns c =
    let before = files_of c.args.files.now.entries in
    files-insert c.args.files.now c.insert.new.self (string_bytes c.in_ok-path.path) c.in_ok-bytes.bytes c.in_ok-insert.ensures.updates
    ∙ ap (λ path. insert before path c.in_ok-bytes.bytes.items) c.in_ok-path.ensures.ok
    ∙ ap (λ bytes. insert before c.args.path.now bytes) c.in_ok-bytes.ensures.items
