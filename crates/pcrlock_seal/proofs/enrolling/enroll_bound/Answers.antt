use Rattle.pcrlock_line.proofs.Composed.{stops, on_files}
use Rattle.pcrlock_seal.proofs.enrolling.enroll_bound.Goals as goal

pub returns-in-Err-clause-causes : goal.returns-in-Err-clause-causes
returns-in-Err-clause-causes g c =
    let F = g.F.Files.faults in let E = g.E.Entropy.faults in let T = g.T.Tpm.faults in
    stops (F c.args.files.now, E c.args.entropy.now, T c.args.tpm.now, 0) (F c.needed_policy.new.files, E c.args.entropy.now, T c.args.tpm.now, 0) c.needed_policy.result c.in-Err.stop
    (on_files (E c.args.entropy.now) (T c.args.tpm.now) 0 (F c.args.files.now) (F c.needed_policy.new.files) c.needed_policy.result c.needed_policy.ensures.causes) c.in-Err.is
