use Rattle.std.proofs.Common.{arith}
use Rattle.tpm_state.proofs.Decoded.{shape_of_layout}
use Rattle.tpm_state.proofs.decoding.read_state.Goals as goal

pub from_parts-requires : goal.from_parts-requires
from_parts-requires c = shape_of_layout c.args.bytes.now (c.in_ok-byte.byte, c.in_ok-byte.parts) (λ i. omega (arith, c.type_inv.bytes i)) c.in_ok-byte.ensures
