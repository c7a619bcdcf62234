use Rattle.std.specs.Int.{w32, to_le_bytes}
use Rattle.tcg_log.specs.Text.{digests_text, event_text}
use Rattle.tcg_log.proofs.Appends.{append_four}
use Rattle.tcg_log.proofs.writing.put_record.Goals as goal

pub returns : goal.returns
returns c = append_four c.args.out.now.items (to_le_bytes w32 c.args.record.now.pcr) (to_le_bytes w32 c.args.record.now.kind) (digests_text c.args.record.now.digests) (event_text c.args.record.now.event) c.in_ok-put_u32_le.ensures c.in_ok-put_u32_le-2.ensures (rw c.as_slice.ensures at c.in_ok-put_digests.ensures) (rw c.as_slice-2.ensures at c.in_ok-put_event.ensures)
