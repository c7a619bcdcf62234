use Rattle.std.proofs.Common.{ap, ◌∙◌}
use Rattle.pcrlock_line.specs.Content.{content_of}
use Rattle.pcrlock_lock.specs.LockRaw.{raw_by, raw_limit}
use Rattle.pcrlock_lock.proofs.Done.{done_told, done_stops}
use Rattle.pcrlock_lock.proofs.raw_lock.lock_raw.Goals as goal

pub returns-in-Ok-clause-told : goal.returns-in-Ok-clause-told
returns-in-Ok-clause-told g c = λ stored words m tells.
    let content = c.in-Ok.ensures.told m.files tells.files ∙ ap (λ path. content_of m.files path raw_limit) c.text.ensures in
    done_told c.lock_found.result _ _ stored words m _ _ (ap (raw_by c.args.file.now c.args.pcr c.args.output.now) content) tells
    (c.lock_found.ensures.told m.files (c.read_file.ensures.same ∙ tells.files))

pub returns-in-Ok-clause-stops : goal.returns-in-Ok-clause-stops
returns-in-Ok-clause-stops g c = λ stored words m tells.
    let content = c.in-Ok.ensures.told m.files tells.files ∙ ap (λ path. content_of m.files path raw_limit) c.text.ensures in
    done_stops c.lock_found.result _ _ stored words m _ _ (ap (raw_by c.args.file.now c.args.pcr c.args.output.now) content) tells
    (c.lock_found.ensures.stops m.files (c.read_file.ensures.same ∙ tells.files))
