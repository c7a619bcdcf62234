use Rattle.std.proofs.Common.{[], ◌∷◌, arith, length-append}
use Rattle.std.proofs.lemmas.Result.{err_from_is_err_and}
use Rattle.hash_bank.specs.Hash.{size_in}
use Rattle.pl_layout.specs.Reading.{bytes_at, repeat_at}
use Rattle.pl_layout.proofs.Loops.{go_on, finish}
use Rattle.tpm_state.specs.Field.{fault}
use Rattle.tpm_state.proofs.Loops.{end, told}
use Rattle.tpm_state.proofs.field.read_digests.Goals as goal

pub returns-in_err-next-clause-exact : goal.returns-in_err-next-clause-exact
returns-in_err-next-clause-exact c =
    let p = err_from_is_err_and c.from_residual.result c.from_residual.ensures.1 in
    rw (p.1, p.2) (end c.in_err-next.field-0.0 (λ b. bytes_at (fault c.args.all) (size_in c.args.bank)) c.args.count c.loop.counter c.loop.read.items c.loop.rest.now (repeat_at (λ b. bytes_at (fault c.args.all) (size_in c.args.bank)) c.args.count c.args.before.items c.args.bytes.now) c.loop-test.true c.loop.invariant.exact (told c.in_err-next.field-0.0 _ c.in_err-next.ensures.exact))

pub loop-preserved : goal.loop-preserved
loop-preserved c = record {
  exact = rw (c.in_ok-push.ensures.items, c.digest_of.ensures) (go_on (λ b. bytes_at (fault c.args.all) (size_in c.args.bank)) c.args.count c.loop.counter c.loop.read.items c.loop.rest.now c.in_ok-next.next.now c.in_ok-next.after.now (repeat_at (λ b. bytes_at (fault c.args.all) (size_in c.args.bank)) c.args.count c.args.before.items c.args.bytes.now) c.loop-test.true c.loop.invariant.exact c.in_ok-next.ensures.exact);
  count = rw c.in_ok-push.ensures.items (omega (arith, length-append c.loop.read.items (c.digest_of.result ∷ []), c.loop.invariant.count));
}

pub returns-clause-exact : goal.returns-clause-exact
returns-clause-exact c = finish (λ b. bytes_at (fault c.args.all) (size_in c.args.bank)) c.args.count c.loop.counter c.loop.read.items c.loop.rest.now (repeat_at (λ b. bytes_at (fault c.args.all) (size_in c.args.bank)) c.args.count c.args.before.items c.args.bytes.now) c.loop-test.false c.loop.invariant.exact
