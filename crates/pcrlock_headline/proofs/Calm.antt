-- Where no table is put in force, what was the newest is left, and what is current stays so.
use Rattle.std.proofs.Common.{◌≡◌, ℕ, Bool, true, false, cond, List, [], ◌∷◌, refl, sym, subst, ◌∙◌}
use Rattle.std.specs.Prelude.{Option, None, Some}
use Rattle.std.specs.Cmp.{nat_cmp_total}
use Rattle.std.specs.FinMap.{get, get-remove, remove}
use Rattle.std.specs.List.{AllByRecursion}
use Rattle.std.specs.Ordering.{eq_by_cmp, nat_cmp}
use Rattle.tpm_device.specs.Stored.{Stored, Holds, TooLarge, Malformed, BadRule}
use Rattle.tpm_model.specs.declared.command.Command.{Command}
use Rattle.tpm_model.specs.declared.command.Command.TheVariants as command
use Rattle.tpm_model.specs.declared.parts.Parts.{Parts}
use Rattle.tpm_model.specs.declared.response.Response.{Response}
use Rattle.tpm_model.specs.declared.response.Response.TheVariants as answer
use Rattle.tpm_model.specs.Events.{Event, Update, Define, SealTo, SealPin, Other, accepted_world, command_of, event_strings, other_world, world_after}
use Rattle.tpm_model.specs.Respond.{respond}
use Rattle.tpm_model.specs.World.{FiledPolicy, LiveIndex, World, extended_world, hashed_world}
use Rattle.pcrlock_line.specs.Machine.{Live, Machine}
use Rattle.pcrlock_line.specs.Worlds.{by_state}
use Rattle.pcrlock_deeds.specs.Acts.{Act, FileStep, says, reckons, changes, works, act_world, changed_world, filing_of}
use Rattle.pcrlock_deeds.specs.Deed.{Deed, Filing, keeps, files, ends, hashes, sends, sees, walks, boots, draws, writes, removes}
use Rattle.pcrlock_deeds.specs.Doings.{world}
use Rattle.pcrlock_deeds.specs.Filed.{Current, CurrentOf}
use Rattle.pcrlock_deeds.specs.Steps.{answer_to, booted_live, drawn_live, filing_world, removed_live, sent_live, walked_live, written_live}
use Rattle.pcrlock_deeds.proofs.Growing.{by_words}
use Rattle.pcrlock_headline.specs.Calm.{FilesNone, IsCalm, IsCalmAct, LeavesNewest, WritesNone}

pub leaves_current : (w v : World) → LeavesNewest w v → Current w → Current v
leaves_current w v less current = by_filed v.filed refl
  where
    by_filed : (o : Option FiledPolicy) → v.filed ≡ o → CurrentOf v o
    by_filed None is = tt
    by_filed (Some filed) is = λ live found same. subst (CurrentOf w) (less.filed filed is) current live (less.live filed.handle live found) same

same_less : (w : World) → LeavesNewest w w
same_less w = record { filed = λ filed e. e; live = λ handle live e. e }

pub leaves_twice : (w v u : World) → LeavesNewest w v → LeavesNewest v u → LeavesNewest w u
leaves_twice w v u first later = record {
  filed = λ filed e. first.filed filed (later.filed filed e);
  live = λ handle live e. first.live handle live (later.live handle live e);
}

-- where an index is taken away
left : (w : World) (gone handle : ℕ) (live : LiveIndex) → get (remove w.live gone) handle ≡ Some live → get w.live handle ≡ Some live
left w gone handle live e = by_handle (eq_by_cmp nat_cmp handle gone) (sym (get-remove nat_cmp_total w.live gone handle) ∙ e)
  where
    by_handle : (same : Bool) → cond same None (get w.live handle) ≡ Some live → get w.live handle ≡ Some live
    by_handle true f = cc
    by_handle false f = f

-- what others send takes indices away at most
other_less : (c : Command) (s : Parts) (w : World) → LeavesNewest w (other_world c s w)
other_less (command.Restart locality banks) s w = record { filed = λ filed e. e; live = λ handle live e. e }
other_less (command.PcrExtend pcr digests) s w = record { filed = λ filed e. e; live = λ handle live e. e }
other_less (command.NvUndefine index) s w = record { filed = λ filed e. e; live = left w index }
other_less (command.NvWrite index pin value) s w = record { filed = λ filed e. e; live = λ handle live e. e }
other_less (command.Evict handle) s w = record { filed = λ filed e. e; live = λ handle live e. e }
other_less other s w = same_less w

-- so does the program, but for a table
accepted_less : (event : Event) (r : Response) (s : Parts) (w : World) → WritesNone event → LeavesNewest w (accepted_world event r s w)
accepted_less event (answer.Refused why) s w none = same_less w
accepted_less (Update handle pin table) answer.Done s w none = absurd none
accepted_less (Define public pin) answer.Done s w none = record { filed = λ filed e. e; live = λ handle live e. e }
accepted_less (SealTo binding secret) (answer.Object handle) s w none = record { filed = λ filed e. e; live = λ handle live e. e }
accepted_less (SealPin index pin) (answer.Object handle) s w none = record { filed = λ filed e. e; live = λ handle live e. e }
accepted_less (Other command) accepted s w none = other_less command s w
accepted_less event other s w none = same_less w

event_less : (event : Event) (s : Parts) (w : World) → WritesNone event → LeavesNewest w (world_after event s w)
event_less event s w none =
    let r = respond (command_of event) s in
    let v = hashed_world (event_strings event s) w in
    leaves_twice w v (accepted_world event r.0 r.1 v) (record { filed = λ filed e. e; live = λ handle live e. e }) (accepted_less event r.0 r.1 v none)

filing_less : (filing : Filing) (w : World) → FilesNone filing → LeavesNewest w (filing_world filing w)
filing_less keeps w none = same_less w
filing_less (files None) w none = record { filed = λ filed e. absurd (cc e); live = λ handle live e. e }
filing_less (files (Some filed)) w none = absurd none

pub deed_leaves : (d : Deed) (m : Live) (w : World) → IsCalm d → LeavesNewest w (world d m w)
deed_leaves (ends last) m w calm = same_less w
deed_leaves (hashes strings d) m w calm =
    let v = hashed_world strings w in
    leaves_twice w v (world d m v) (record { filed = λ filed e. e; live = λ handle live e. e }) (deed_leaves d m v calm)
deed_leaves (sends event next) m w calm =
    let v = world_after event m.state w in
    leaves_twice w v (world (next (answer_to event m)) (sent_live event m) v) (event_less event m.state w calm.0)
    (deed_leaves (next (answer_to event m)) (sent_live event m) v (calm.1 (answer_to event m)))
deed_leaves (sees next) m w calm = deed_leaves (next m) m w (calm m)
deed_leaves (walks d) m w calm = deed_leaves d (walked_live m) w calm
deed_leaves (boots s d) m w calm =
    let v = extended_world s w in
    leaves_twice w v (world d (booted_live s m) v) (record { filed = λ filed e. e; live = λ handle live e. e }) (deed_leaves d (booted_live s m) v calm)
deed_leaves (draws next none) m w calm =
    by_words (LeavesNewest w) m.draws (λ word rest. world (next word) (drawn_live rest m) w) (world none m w)
    (λ word rest. deed_leaves (next word) (drawn_live rest m) w (calm.0 word)) (deed_leaves none m w calm.1)
deed_leaves (writes path bytes filing d) m w calm =
    let v = filing_world filing w in
    leaves_twice w v (world d (written_live path bytes m) v) (filing_less filing w calm.0) (deed_leaves d (written_live path bytes m) v calm.1)
deed_leaves (removes path filing d) m w calm =
    let v = filing_world filing w in
    leaves_twice w v (world d (removed_live path m) v) (filing_less filing w calm.0) (deed_leaves d (removed_live path m) v calm.1)

steps_leave : (steps : List FileStep) (w : World) → AllByRecursion (λ (step : FileStep). FilesNone (filing_of step)) steps → LeavesNewest w (changed_world steps w)
steps_leave [] w none = same_less w
steps_leave (step ∷ steps) w none =
    let v = filing_world (filing_of step) w in
    leaves_twice w v (changed_world steps v) (filing_less (filing_of step) w none.0) (steps_leave steps v none.1)

pub act_leaves : (act : Act) (m : Machine) (w : World) → IsCalmAct act → LeavesNewest w (act_world act m w)
act_leaves (says last) m w calm = same_less w
act_leaves (reckons strings last) m w calm = record { filed = λ filed e. e; live = λ handle live e. e }
act_leaves (changes steps last) m w calm = steps_leave steps w calm
act_leaves (works deed) m w calm = by_stored m.device
  where
    by_stored : (kept : Stored) → LeavesNewest w (by_state kept m w (world deed))
    by_stored (Holds s) = deed_leaves deed (record { files = m.files; state = s; draws = m.draws }) w calm
    by_stored (TooLarge size) = same_less w
    by_stored (Malformed place) = same_less w
    by_stored (BadRule rule) = same_less w

pub deed_current : (d : Deed) (m : Live) (w : World) → IsCalm d → Current w → Current (world d m w)
deed_current d m w calm current = leaves_current w (world d m w) (deed_leaves d m w calm) current

pub act_current : (act : Act) (m : Machine) (w : World) → IsCalmAct act → Current w → Current (act_world act m w)
act_current act m w calm current = leaves_current w (act_world act m w) (act_leaves act m w calm) current
