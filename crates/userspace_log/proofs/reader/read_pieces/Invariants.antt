use Rattle.std.proofs.Common.{◌≡◌, ◌≤◌, ◌+◌, length, option_map, unwrap_or}
use Rattle.std.specs.Prelude.{MatchOption, ⊤}
use Rattle.std.specs.List.{slice_split}
use Rattle.userspace_log.specs.Found.{found}
use Rattle.userspace_log.specs.UserText.{found_from, is_separator, pieces_of, text_limit}
use Rattle.userspace_log.proofs.Steps.{behind}
use Rattle.userspace_log.proofs.reader.read_pieces.Given as goal

abbrev pub invariant-pieces : goal.invariant-pieces
invariant-pieces l = record {
  held : behind (found l.log) (found_from l.number l.place (pieces_of (option_map (λ r. r.now) l.rest))) ≡ found_from 0 0 (slice_split is_separator l.fn.bytes);
  places : MatchOption l.rest ⊤ (λ r. l.place + length r.now ≡ length l.fn.bytes);
  counted : l.log.skipped ≤ l.number;
  numbers : l.number ≤ text_limit;
}

abbrev pub decreases-pieces : goal.decreases-pieces
decreases-pieces l = unwrap_or (option_map (λ r. length r.now + 1) l.rest) 0
