use Rattle.std.proofs.Common.{◌≡◌, true, ap, ◌∙◌, subst, Contains}
use Rattle.std.specs.Prelude.{Ok, IfOk}
use Rattle.hash_bank.specs.HashedString.{NoClash}
use Rattle.policy_digest.specs.Plain.{plain_table}
use Rattle.policy_session.specs.BoundUnseal.{bound_end, foreseen_end}
use Rattle.pcrlock_open.specs.Bound.{chosen_strings, held_after, held_strings, opened_by_held, plain_tables, table_after, table_opened}
use Rattle.pcrlock_open.specs.BoundEndings.{IsChoice}
use Rattle.pcrlock_open.proofs.BoundEnds.{held, is_prepared, own_among, walked_among}
use Rattle.pcrlock_open.proofs.BoundGives.{kept_ran, never_for, opened_so}
use Rattle.pcrlock_open.proofs.bound.secret_by.Goals as goal

pub returns-in-Ok-Ok-clause-told : goal.returns-in-Ok-Ok-clause-told
returns-in-Ok-Ok-clause-told g c = λ s public live stored rules is_held safe.
    let policy = c.args.policy.now in
    let content = c.args.content.now in
    let was : c.choose.result ≡ Ok (Ok c.in-Ok-Ok.prepared) = search rules in
    let b = subst (λ r. IfOk r (IsChoice policy content)) was c.choose.ensures.told in
    let p = is_prepared policy content c.in-Ok-Ok.prepared public s b (held policy s public content is_held) in
    let plain = plain_table b.table in
    let ran = c.unseal_bound-opened.ensures.ran s b.table public true (record { now = live; same = λ _. stored }) p in
    let strings = ap (held_strings policy s) is_held ∙ ap (chosen_strings public s) b.chosen in
    let own_safe = subst (λ hashed. NoClash (Contains hashed)) strings safe in
    let foreseen = c.unseal_bound-opened.ensures.foreseen s b.table public _ p own_safe (own_among public s plain) (walked_among public s plain) in
    opened_so b.table.bank public c.args.object s (bound_end plain s) (foreseen_end plain s) c.unseal_bound-opened.result c.secret_or_answer.result _ _ _ _ _ ran
    (c.unseal_bound-opened.ensures.rules s live) c.secret_or_answer.ensures.told foreseen
    (ap (opened_by_held policy c.args.object s) is_held ∙ ap (table_opened (plain_tables policy) public content c.args.object s) b.chosen)
    (ap (held_after policy s) is_held ∙ ap (table_after s) b.chosen)

pub returns-in-Ok-Ok-clause-kept : goal.returns-in-Ok-Ok-clause-kept
returns-in-Ok-Ok-clause-kept g c = λ s public live stored rules is_held.
    let policy = c.args.policy.now in
    let content = c.args.content.now in
    let was : c.choose.result ≡ Ok (Ok c.in-Ok-Ok.prepared) = search rules in
    let b = subst (λ r. IfOk r (IsChoice policy content)) was c.choose.ensures.told in
    let p = is_prepared policy content c.in-Ok-Ok.prepared public s b (held policy s public content is_held) in
    let ran = c.unseal_bound-opened.ensures.ran s b.table public true (record { now = live; same = λ _. stored }) p in
    kept_ran s _ c.unseal_bound-opened.result _ _ _ ran (c.unseal_bound-opened.ensures.rules s live)

pub secret_or_answer-requires : goal.secret_or_answer-requires
secret_or_answer-requires g c = never_for c.unseal_bound-opened.result c.unseal_bound-opened.ensures.never
