use Rattle.std.proofs.Common.{◌≡◌, ◌++◌, length, take}
use Rattle.std.specs.Int.{w32, to_le_bytes}
use Rattle.std.specs.List.{flat_map}
use Rattle.tcg_log.specs.Text.{tagged_text}
use Rattle.tcg_log.proofs.writing.put_digests.Given as goal

abbrev pub invariant-loop-tagged : goal.invariant-loop-tagged
invariant-loop-tagged l = l.out.items ≡ l.fn.out.items ++ (to_le_bytes w32 (length l.digests) ++ flat_map tagged_text (take l.tagged-index l.digests))
