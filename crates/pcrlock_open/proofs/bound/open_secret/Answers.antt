use Rattle.std.proofs.Common.{◌≡◌, true, sym, ap, ◌∙◌, refl, rules}
use Rattle.std.specs.Prelude.{Ok, Err}
use Rattle.policy_session.specs.declared.index.IndexError.TheVariants as index
use Rattle.policy_session.specs.IndexReads.{is_reading}
use Rattle.pcrlock_open.proofs.BoundGives.{refused_held}
use Rattle.pcrlock_open.proofs.Stops.{kept_same}
use Rattle.pcrlock_open.proofs.bound.open_secret.Goals as goal

pub returns-in-Ok-clause-told : goal.returns-in-Ok-clause-told
returns-in-Ok-clause-told g c = λ s live stored safe.
    let was : c.read_index.result ≡ Ok c.in-Ok.held = search rules in
    let a = (c.read_index.ensures.ran s true (record { now = live; same = λ _. stored })).answered (ap is_reading was) in
    c.secret_by.ensures.told s c.in-Ok.held.0 a.1.now (a.1.same refl) (c.read_index.ensures.rules s live) (sym a.0 ∙ was) safe

pub returns-in-Ok-clause-kept : goal.returns-in-Ok-clause-kept
returns-in-Ok-clause-kept g c = λ s live stored.
    let was : c.read_index.result ≡ Ok c.in-Ok.held = search rules in
    let a = (c.read_index.ensures.ran s true (record { now = live; same = λ _. stored })).answered (ap is_reading was) in
    c.secret_by.ensures.kept s c.in-Ok.held.0 a.1.now (a.1.same refl) (c.read_index.ensures.rules s live) (sym a.0 ∙ was)

pub returns-in-Err-NoIndex-clause-told : goal.returns-in-Err-NoIndex-clause-told
returns-in-Err-NoIndex-clause-told g c = λ s live stored safe.
    let was : c.read_index.result ≡ Err index.NoIndex = search rules in
    let a = (c.read_index.ensures.ran s true (record { now = live; same = λ _. stored })).answered (ap is_reading was) in
    refused_held c.args.policy.now c.args.object s index.NoIndex _ _ _ _ (sym a.0 ∙ was) refl a.2 a.1.now (a.1.same refl) (c.read_index.ensures.rules s live)

pub returns-in-Err-NoIndex-clause-kept : goal.returns-in-Err-NoIndex-clause-kept
returns-in-Err-NoIndex-clause-kept g c = λ s live stored.
    let was : c.read_index.result ≡ Err index.NoIndex = search rules in
    let a = (c.read_index.ensures.ran s true (record { now = live; same = λ _. stored })).answered (ap is_reading was) in
    kept_same s _ _ refl (a.1.same refl) (c.read_index.ensures.rules s live)

pub returns-in-Err-Unwritten-clause-told : goal.returns-in-Err-Unwritten-clause-told
returns-in-Err-Unwritten-clause-told g c = λ s live stored safe.
    let was : c.read_index.result ≡ Err index.Unwritten = search rules in
    let a = (c.read_index.ensures.ran s true (record { now = live; same = λ _. stored })).answered (ap is_reading was) in
    refused_held c.args.policy.now c.args.object s index.Unwritten _ _ _ _ (sym a.0 ∙ was) refl a.2 a.1.now (a.1.same refl) (c.read_index.ensures.rules s live)

pub returns-in-Err-Unwritten-clause-kept : goal.returns-in-Err-Unwritten-clause-kept
returns-in-Err-Unwritten-clause-kept g c = λ s live stored.
    let was : c.read_index.result ≡ Err index.Unwritten = search rules in
    let a = (c.read_index.ensures.ran s true (record { now = live; same = λ _. stored })).answered (ap is_reading was) in
    kept_same s _ _ refl (a.1.same refl) (c.read_index.ensures.rules s live)

pub returns-in-Err-Failed-clause-kept : goal.returns-in-Err-Failed-clause-kept
returns-in-Err-Failed-clause-kept g c = λ s live stored.
    let was : c.read_index.result ≡ Err index.Failed = search rules in
    (c.read_index.ensures.ran s true (record { now = live; same = λ _. stored })).stopped (ap is_reading was) refl

pub returns-in-Err-Memory-clause-kept : goal.returns-in-Err-Memory-clause-kept
returns-in-Err-Memory-clause-kept g c = λ s live stored.
    let was : c.read_index.result ≡ Err index.Memory = search rules in
    (c.read_index.ensures.ran s true (record { now = live; same = λ _. stored })).stopped (ap is_reading was) refl
