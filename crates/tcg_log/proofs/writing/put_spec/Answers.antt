use Rattle.std.proofs.Common.{length}
use Rattle.tcg_log.specs.Text.{head_text, event_size, signature, class_text, algorithms_text, vendor_text}
use Rattle.tcg_log.proofs.Appends.{append_five}
use Rattle.tcg_log.proofs.writing.put_spec.Goals as goal

pub returns : goal.returns
returns c = append_five c.args.out.now.items (head_text (event_size (length c.args.spec.now.algorithms) (length c.args.spec.now.vendor))) signature (class_text c.args.spec.now) (algorithms_text c.args.spec.now.algorithms) (vendor_text c.args.spec.now.vendor) (rw (c.as_slice-algorithms.ensures, c.as_slice-vendor.ensures) at c.in_ok-put_head.ensures) c.in_ok-extend_from_slice.ensures.items c.in_ok-put_class.ensures (rw c.as_slice-algorithms.ensures at c.in_ok-put_algorithms.ensures) (rw c.as_slice-vendor.ensures at c.in_ok-put_vendor.ensures)
