use Rattle.cel_record.proofs.Exact.{record_of_exactly}
use Rattle.cel_record.proofs.grammar.records_are_exact.Goals as goal

pub returns : goal.returns
returns c d r = record_of_exactly d r
