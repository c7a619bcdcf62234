use Rattle.std.proofs.Common.{◌≡◌, true, false, ap, refl, sym, ◌∙◌}
use Rattle.std.specs.Prelude.{Ok, Err}
use Rattle.nv_index.specs.Table.{index_at}
use Rattle.policy_session.specs.declared.index.IndexError.TheVariants as index
use Rattle.policy_session.specs.IndexReads.{is_reading}
use Rattle.pcrlock_policy.proofs.Looked.{missing_is, runs_on, unwritten_is, written_is}
use Rattle.pcrlock_policy.proofs.looking.look_up.Goals as goal

pub returns-in-Ok-clause-runs : goal.returns-in-Ok-clause-runs
returns-in-Ok-clause-runs g c = λ s runs.
    runs_on s _ c.read_index.result _ _ _ (c.read_index.ensures.ran s true (record { now = runs.live; same = λ _. runs.stored })) (ap is_reading c.in-Ok.is)

pub returns-in-Err-NoIndex-clause-runs : goal.returns-in-Err-NoIndex-clause-runs
returns-in-Err-NoIndex-clause-runs g c = λ s runs.
    let was : c.read_index.result ≡ Err index.NoIndex = search in
    runs_on s _ c.read_index.result _ _ _ (c.read_index.ensures.ran s true (record { now = runs.live; same = λ _. runs.stored })) (ap is_reading was)

pub returns-in-Err-Unwritten-clause-runs : goal.returns-in-Err-Unwritten-clause-runs
returns-in-Err-Unwritten-clause-runs g c = λ s runs.
    let was : c.read_index.result ≡ Err index.Unwritten = search in
    runs_on s _ c.read_index.result _ _ _ (c.read_index.ensures.ran s true (record { now = runs.live; same = λ _. runs.stored })) (ap is_reading was)

pub returns-in-Err-Failed-clause-kept : goal.returns-in-Err-Failed-clause-kept
returns-in-Err-Failed-clause-kept g c = λ s runs.
    let was : c.read_index.result ≡ Err index.Failed = search in
    (c.read_index.ensures.ran s true (record { now = runs.live; same = λ _. runs.stored })).stopped (ap is_reading was) refl

pub returns-in-Err-Memory-clause-kept : goal.returns-in-Err-Memory-clause-kept
returns-in-Err-Memory-clause-kept g c = λ s runs.
    let was : c.read_index.result ≡ Err index.Memory = search in
    (c.read_index.ensures.ran s true (record { now = runs.live; same = λ _. runs.stored })).stopped (ap is_reading was) refl

pub returns-in-Ok-clause-told : goal.returns-in-Ok-clause-told
returns-in-Ok-clause-told g c = λ s runs.
    let was : c.read_index.result ≡ Ok (c.in-Ok.public, c.in-Ok.content) = search in
    let a = (c.read_index.ensures.ran s true (record { now = runs.live; same = λ _. runs.stored })).answered (ap is_reading was) in
    written_is (index_at c.args.handle s.indices) c.in-Ok.public c.in-Ok.content (sym was ∙ a.0)

pub returns-in-Err-NoIndex-clause-told : goal.returns-in-Err-NoIndex-clause-told
returns-in-Err-NoIndex-clause-told g c = λ s runs.
    let was : c.read_index.result ≡ Err index.NoIndex = search in
    let a = (c.read_index.ensures.ran s true (record { now = runs.live; same = λ _. runs.stored })).answered (ap is_reading was) in
    missing_is (index_at c.args.handle s.indices) (sym was ∙ a.0)

pub returns-in-Err-Unwritten-clause-told : goal.returns-in-Err-Unwritten-clause-told
returns-in-Err-Unwritten-clause-told g c = λ s runs.
    let was : c.read_index.result ≡ Err index.Unwritten = search in
    let a = (c.read_index.ensures.ran s true (record { now = runs.live; same = λ _. runs.stored })).answered (ap is_reading was) in
    unwritten_is (index_at c.args.handle s.indices) (sym was ∙ a.0)
