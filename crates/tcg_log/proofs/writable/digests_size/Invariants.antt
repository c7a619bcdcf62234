use Rattle.std.proofs.Common.{◌≡◌, ◌≤◌, ◌*◌, length, take}
use Rattle.std.specs.List.{flat_map}
use Rattle.tcg_log.specs.Text.{tagged_text}
use Rattle.tcg_log.proofs.writable.digests_size.Given as goal

abbrev pub invariant-loop-tagged : goal.invariant-loop-tagged
invariant-loop-tagged l = record {
  value : l.size ≡ length (flat_map tagged_text (take l.tagged-index l.digests));
  bound : l.size ≤ 66 * l.tagged-index;
}
