use Rattle.std.proofs.Common.{◌≡◌, sym, ap, ◌∙◌}
use Rattle.pcrlock_line.specs.Content.{Bytes, content_found}
use Rattle.pcrlock_lock.specs.LockRaw.{raw_by}
use Rattle.pcrlock_lock.proofs.Done.{done_same, stops_same}
use Rattle.pcrlock_lock.proofs.raw_lock.lock_found.Goals as goal

pub returns-in-Bytes-clause-told : goal.returns-in-Bytes-clause-told
returns-in-Bytes-clause-told g c = λ held is.
    let content : Bytes c.as_slice.result.now ≡ content_found c.args.found.now = ap Bytes c.as_slice.ensures.value ∙ sym (ap content_found c.in-Bytes.is) in
    done_same c.write_raw.result held _ _ _ (ap (raw_by c.args.file.now c.args.pcr c.args.output.now) content) (c.write_raw.ensures.told held c.args.file.now is)

pub returns-in-Bytes-clause-stops : goal.returns-in-Bytes-clause-stops
returns-in-Bytes-clause-stops g c = λ held is.
    let content : Bytes c.as_slice.result.now ≡ content_found c.args.found.now = ap Bytes c.as_slice.ensures.value ∙ sym (ap content_found c.in-Bytes.is) in
    stops_same c.write_raw.result held _ _ _ (ap (raw_by c.args.file.now c.args.pcr c.args.output.now) content) (c.write_raw.ensures.stops held c.args.file.now is)
