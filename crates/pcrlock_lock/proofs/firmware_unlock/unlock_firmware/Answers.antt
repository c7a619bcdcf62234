use Rattle.std.proofs.Common.{ℕ, List, [], ◌∷◌, ap, ◌∙◌}
use Rattle.std.specs.Prelude.{Ok}
use Rattle.component_make.specs.FirmwareFiles.{early_path}
use Rattle.pcrlock_lock.specs.UnlockFirmware.{removed, unlock_work}
use Rattle.pcrlock_lock.proofs.Done.{done_told, done_stops}
use Rattle.pcrlock_lock.proofs.firmware_unlock.unlock_firmware.Goals as goal

pub returns-clause-told : goal.returns-clause-told
returns-clause-told g c = λ stored words m tells.
    done_told c.unlock_paths.result _ _ stored words m _ (unlock_work c.args.kind c.args.folder.now c.args.variant.now m.files)
    (ap (λ (p : List ℕ). Ok (removed (p ∷ c.text-2.result.now ∷ []) m.files)) (c.text.ensures ∙ c.in-Ok.ensures)
    ∙ ap (λ (p : List ℕ). Ok (removed (early_path c.args.kind c.args.folder.now c.args.variant.now ∷ p ∷ []) m.files)) (c.text-2.ensures ∙ c.in-Ok-late_path.ensures)) tells
    (c.unlock_paths.ensures.told m.files tells.files)

pub returns-clause-stops : goal.returns-clause-stops
returns-clause-stops g c = λ stored words m tells.
    done_stops c.unlock_paths.result _ _ stored words m _ (unlock_work c.args.kind c.args.folder.now c.args.variant.now m.files)
    (ap (λ (p : List ℕ). Ok (removed (p ∷ c.text-2.result.now ∷ []) m.files)) (c.text.ensures ∙ c.in-Ok.ensures)
    ∙ ap (λ (p : List ℕ). Ok (removed (early_path c.args.kind c.args.folder.now c.args.variant.now ∷ p ∷ []) m.files)) (c.text-2.ensures ∙ c.in-Ok-late_path.ensures)) tells
    (c.unlock_paths.ensures.stops m.files tells.files)
