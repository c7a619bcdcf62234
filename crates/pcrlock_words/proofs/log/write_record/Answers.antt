use Rattle.std.proofs.Common.{append_assoc}
use Rattle.pcrlock_words.proofs.log.write_record.Goals as goal

pub returns : goal.returns
returns c = rw (c.in_ok-writeln.ensures.bytes, c.digest_in-found.ensures, c.lister-component.ensures) (simp append_assoc)
