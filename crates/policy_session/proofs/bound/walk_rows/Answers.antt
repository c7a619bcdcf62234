use Rattle.std.proofs.Common.{◌≡◌, ℕ, ◌≤◌, sym, ap, ◌∙◌, subst, refl, rules, arith}
use Rattle.std.specs.Prelude.{Ok, Err}
use Rattle.policy_walk.specs.declared.walk.Walk.TheVariants as walk
use Rattle.policy_session.proofs.Turns.{TurnsTo, ended_at, failed, fewer, kept_on, onward, past_all, stopped_at, turn}
use Rattle.policy_session.proofs.bound.walk_rows.Goals as goal

pub rows-smaller : goal.rows-smaller
rows-smaller g c =
    let a = c.in-Ok-Ok-Started.ensures.answer in
    let was : c.in-Ok-Ok-Started.field-0 ≡ ended_at c.in-Ok-Ok-Started.next = search rules in
    fewer c.rows.walk a.0 c.in-Ok-Ok-Started.next (sym a.1 ∙ was)

pub rows-preserved : goal.rows-preserved
rows-preserved g c = record {
  readiness = c.in-Ok-Ok-Started.ensures.readiness refl;
  later = search rules;
  ran = λ s x keeps at stands.
      let o = c.rows.invariant.ran s x keeps at stands in
      let ran = c.advance.ensures.ran s _ keeps o.is o.at.walking.opened.kept (kept_on c.rows.walk o.y s o.at) in
      let was : c.advance.result ≡ Ok (ended_at c.in-Ok-Ok-Started.next) = search rules in
      onward c.args.started x s keeps _ _ _ _ (turn c.args.started x s keeps c.rows.walk _ _ o _ _ _ _ ran) c.in-Ok-Ok-Started.next was;
}

pub returns-in-Ok-Ok-Branched-clause-ran : goal.returns-in-Ok-Ok-Branched-clause-ran
returns-in-Ok-Ok-Branched-clause-ran g c = λ s x keeps at stands.
    let o = c.rows.invariant.ran s x keeps at stands in
    let ran = c.advance.ensures.ran s _ keeps o.is o.at.walking.opened.kept (kept_on c.rows.walk o.y s o.at) in
    let was : c.advance.result ≡ Ok (Ok (walk.Branched c.in-Ok-Ok-Branched.branched)) = search rules in
    past_all c.args.started x s keeps _ _ _ _ (turn c.args.started x s keeps c.rows.walk _ _ o _ _ _ _ ran) c.in-Ok-Ok-Branched.branched was

pub returns-in-Ok-Err-clause-ran : goal.returns-in-Ok-Err-clause-ran
returns-in-Ok-Err-clause-ran g c = λ s x keeps at stands.
    let o = c.rows.invariant.ran s x keeps at stands in
    let ran = c.advance.ensures.ran s _ keeps o.is o.at.walking.opened.kept (kept_on c.rows.walk o.y s o.at) in
    let was : c.advance.result ≡ Ok (Err c.in-Ok-Err.stopped) = search rules in
    stopped_at c.args.started x s keeps _ _ _ _ (turn c.args.started x s keeps c.rows.walk _ _ o _ _ _ _ ran) c.in-Ok-Err.stopped was

pub returns-in-Err-clause-ran : goal.returns-in-Err-clause-ran
returns-in-Err-clause-ran g c = λ s x keeps at stands.
    let o = c.rows.invariant.ran s x keeps at stands in
    let ran = c.advance.ensures.ran s _ keeps o.is o.at.walking.opened.kept (kept_on c.rows.walk o.y s o.at) in
    let was : c.advance.result ≡ Err c.in-Err.error = search rules in
    failed c.args.started x s keeps _ _ _ _ (turn c.args.started x s keeps c.rows.walk _ _ o _ _ _ _ ran) c.in-Err.error was
