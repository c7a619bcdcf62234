use Rattle.std.proofs.Common.{Err, length, ap, sym, ◌∙◌}
use Rattle.hash_bank.proofs.Digits.{decoder_answers}
use Rattle.hash_bank.proofs.digest.read_digits.Goals as goal

pub returns-in-Ok : goal.returns-in-Ok
returns-in-Ok c = rw c.in-Ok.is at (decoder_answers (length c.args.bytes.now) c.args.text.now c.decode_to_slice.result c.decode_to_slice.new.out c.requires c.decode_to_slice.ensures.value)

pub hex_error-requires : goal.hex_error-requires
hex_error-requires c = (rw c.in-Err.is at (decoder_answers (length c.args.bytes.now) c.args.text.now c.decode_to_slice.result c.decode_to_slice.new.out c.requires c.decode_to_slice.ensures.value)).1

pub returns-in-Err : goal.returns-in-Err
returns-in-Err c =
    (rw c.in-Err.is at (decoder_answers (length c.args.bytes.now) c.args.text.now c.decode_to_slice.result c.decode_to_slice.new.out c.requires c.decode_to_slice.ensures.value)).0
    ∙ ap Err (sym c.hex_error.ensures)
