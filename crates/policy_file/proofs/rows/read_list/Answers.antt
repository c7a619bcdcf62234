use Rattle.std.proofs.Common.{◌≡◌, ℕ, false, List, sym, subst, ◌∙◌}
use Rattle.std.specs.List.{list_all}
use Rattle.policy_digest.specs.Table.{differ}
use Rattle.policy_file.specs.declared.error.FileError.{FileError}
use Rattle.policy_file.specs.PolicyReading.{Fails, list_at}
use Rattle.policy_file.proofs.RowLaws.{list_refused}
use Rattle.policy_file.proofs.rows.read_list.Goals as goal

pub returns-then-not-is_new : goal.returns-then-not-is_new
returns-then-not-is_new c =
    let old : list_all (λ b. differ b c.in_ok-list.list.items) c.args.before.now ≡ false =
    subst (λ (values : List (List ℕ)). list_all (λ b. differ b values) c.args.before.now ≡ false) c.in-Some.ensures.value (sym c.is_new.ensures ∙ c.if-not-is_new.true) in
    subst (λ (e : FileError). Fails e (list_at c.args.all c.args.bank c.args.count c.args.before.now c.args.bytes.now)) (sym c.fault_at.ensures)
    (list_refused c.args.all c.args.bank c.args.count c.args.before.now c.args.bytes.now c.in_ok-list.list.items c.in_ok-list.rest.now c.in_ok-list.ensures.exact old)
