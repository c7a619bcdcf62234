use Rattle.pl_base.proofs.real_files.read_file.Goals as goal

pub returns-in-Err-read_to_end : goal.returns-in-Err-read_to_end
returns-in-Err-read_to_end g c = c.read_failure.ensures c.args.limit

pub returns : goal.returns
returns g c = c.read_failure-in-Err-copy.ensures c.args.limit
