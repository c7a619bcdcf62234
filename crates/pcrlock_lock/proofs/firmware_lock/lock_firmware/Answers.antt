use Rattle.std.proofs.Common.{sym, ap, ◌∙◌}
use Rattle.std.specs.Prelude.{Result, Ok, option_copied}
use Rattle.pcrlock_answer.specs.declared.answer.Answer.{Answer}
use Rattle.pcrlock_input.specs.Answering.{◌>>=◌}
use Rattle.pcrlock_lock.specs.LockFirmware.{Halves, written, firmware_work}
use Rattle.pcrlock_lock.proofs.Done.{done_told, done_stops, stops_before}
use Rattle.pcrlock_lock.proofs.firmware_lock.lock_firmware.Goals as goal

pub returns-in-Ok-clause-told : goal.returns-in-Ok-clause-told
returns-in-Ok-clause-told g c = λ stored words m tells.
    let work = λ (h : Result Halves Answer). h >>= λ halves. Ok (written c.args.kind c.args.folder.now c.args.variant.now halves) in
    done_told c.write_halves.result _ _ stored words m _ _ (sym (ap work (c.in-Ok.ensures.told m.files tells.files))) tells
    (c.write_halves.ensures.told m.files (c.lock_at.ensures.same ∙ tells.files))

pub returns-in-Ok-clause-stops : goal.returns-in-Ok-clause-stops
returns-in-Ok-clause-stops g c = λ stored words m tells.
    let work = λ (h : Result Halves Answer). h >>= λ halves. Ok (written c.args.kind c.args.folder.now c.args.variant.now halves) in
    done_stops c.write_halves.result _ _ stored words m _ _ (sym (ap work (c.in-Ok.ensures.told m.files tells.files))) tells
    (c.write_halves.ensures.stops m.files (c.lock_at.ensures.same ∙ tells.files))

pub returns-in-Err-Failed-clause-stops : goal.returns-in-Err-Failed-clause-stops
returns-in-Err-Failed-clause-stops g c = λ stored words m tells.
    stops_before _ _ stored words m (firmware_work c.args.kind (option_copied c.args.named) c.args.folder.now c.args.variant.now m.files) c.lock_at.ensures.same tells

pub returns-in-Err-Memory-clause-stops : goal.returns-in-Err-Memory-clause-stops
returns-in-Err-Memory-clause-stops g c = λ stored words m tells.
    stops_before _ _ stored words m (firmware_work c.args.kind (option_copied c.args.named) c.args.folder.now c.args.variant.now m.files) c.lock_at.ensures.same tells
