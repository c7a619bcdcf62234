-- A restart and extends by records, one after the other.
use Rattle.std.proofs.Common.{◌≡◌, ◌≢◌, ◌⊎◌, ℕ, ◌+◌, ◌<◌, ◌≤◌, zero, suc, Bool, true, false, List, [], ◌∷◌, length, map, take, get_or, inl, inr, refl, sym, ap, ◌∙◌, subst, arith, add-zero}
use Rattle.std.specs.Prelude.{Option, Some, Result, Ok, Err, IfErr, ◌==◌, unwrap_or}
use Rattle.std.proofs.lemmas.Bool.{le-ltb, ne_eqb}
use Rattle.std.proofs.lemmas.List.{length-map, length-take}
use Rattle.std.proofs.lemmas.List.Sums.{fold_more}
use Rattle.std.proofs.Math.ListN.{get_or-map}
use Rattle.pl_base.specs.FileMap.{FileMap}
use Rattle.hash_bank.specs.declared.banks.Banks.{Banks}
use Rattle.pcr_replay.specs.declared.record.LogRecord.{LogRecord}
use Rattle.pcr_replay.specs.Row.{Row, row, rows}
use Rattle.tpm_model.specs.declared.parts.Parts.{Parts}
use Rattle.tpm_model.specs.PcrCommands.{is_start_locality, restart, pcr_extend}
use Rattle.tpm_model.specs.Pcrs.{bank_count}
use Rattle.tpm_model.specs.declared.response.Response.TheVariants as answer
use Rattle.tpm_device.specs.Stored.{Stored, Holds}
use Rattle.pcrlock_line.specs.declared.stop.Stop.{Stop}
use Rattle.pcrlock_line.specs.Causes.{HasCauses}
use Rattle.pcrlock_line.proofs.Composed.{then, on_tpm}
use Rattle.pl_base.specs.Faults.{HasCause}
use Rattle.tpm_model.specs.ObjectRules.{keeps_object_order}
use Rattle.tpm_model.specs.Tied.{Tied}
use Rattle.tpm_model.specs.World.{World}
use Rattle.pcrlock_line.specs.Machine.{Live}
use Rattle.pcrlock_line.specs.Stopped.{StandsAt, StandsAmong}
use Rattle.pcrlock_line.proofs.Standing.{holds_same}
use Rattle.tpm_model.proofs.Ties.{follows}
use Rattle.pcrlock_input.specs.Logs.{PlainLogs, locality_in, rows_of}
use Rattle.pcrlock_tpm.specs.Boot.{restarted, measured_row, measured, measured_states, booted_line, boot_locality, boot_state, boot_world, at_state, IsPartWay}
use Rattle.pcrlock_line.specs.Running.{Runs, Keeps}

-- ---- one command

-- the answer and the next state of a restart that isn't refused
pub restart_is : (locality : ℕ) (banks : Banks) (s : Parts) → is_start_locality locality ≡ true → (bank_count banks == 0) ≡ false
    → restart locality banks s ≡ (answer.Done, restarted locality banks s)
restart_is locality banks s known some = rw (known, some) refl

-- those of an extend by a record
pub extend_is : (r : LogRecord) (s : Parts) → s.update_counter ≢ 4294967295 → pcr_extend r.pcr r.digests s ≡ (answer.Done, measured_row s (row r))
extend_is r s free = rw (le-ltb 23 r.pcr r.in_range, ne_eqb s.update_counter 4294967295 free) refl

-- ---- what a device tells afterwards

-- it runs on with a state that it told
pub runs_on : (now : Option Parts) (kept : Option Stored) (next t : Parts) → now ≡ Some next → kept ≡ Some (Holds next) → next ≡ t → Runs now kept t
runs_on now kept next t live stored same = record {
  live = live ∙ ap Some same;
  stored = stored ∙ ap (λ (x : Parts). Some (Holds x)) same;
}

pub keeps : (now : Option Parts) (kept : Option Stored) (s : Parts) → Runs now kept s → Keeps kept s
keeps now kept s h = record { stored = h.stored }

-- after a stop at a command
pub stopped_at : (kept : Option Stored) (s next t : Parts) → (kept ≡ Some (Holds s)) ⊎ (kept ≡ Some (Holds next)) → next ≡ t → Keeps kept s ⊎ Keeps kept t
stopped_at kept s next t (inl same) is = inl (record { stored = same })
stopped_at kept s next t (inr same) is = inr (record { stored = same ∙ ap (λ (x : Parts). Some (Holds x)) is })

-- ---- records one after the other

-- each extend is counted
pub counted : (list : List Row) (s : Parts) → (measured list s).update_counter ≡ s.update_counter + length list
counted [] s = sym (add-zero s.update_counter)
counted (r ∷ list) s = counted list (measured_row s r) ∙ (let e : s.update_counter + 1 + length list ≡ s.update_counter + length (r ∷ list) = omega arith in e)

-- so the counter isn't at its end
pub free_after : (list : List Row) (i : ℕ) (s : Parts) → length list ≤ 20480 → s.update_counter ≡ 0 → (measured (take i list) s).update_counter ≢ 4294967295
free_after list i s few fresh e =
    let count : (measured (take i list) s).update_counter ≡ s.update_counter + length (take i list) = counted (take i list) s in
    omega (arith, few, fresh, e, count, length-take {A = Row})

-- one record more
pub one_more : (list : List LogRecord) (i : ℕ) (r : LogRecord) (s : Parts) → i < length list → r ≡ get_or list i r
    → measured_row (measured (take i (rows list)) s) (row r) ≡ measured (take (i + 1) (rows list)) s
one_more list i r s lt is =
    let below : i < length (rows list) = rw length-map lt in
    let there : get_or (rows list) i (row r) ≡ row r = get_or-map row list i r ∙ ap row (sym is) in
    sym (fold_more measured_row s (rows list) i (row r) below ∙ ap (measured_row (measured (take i (rows list)) s)) there)

-- ---- counts of faults

-- what was read before may have raised the count of the files
pub files_read : {A : Type 0} (f h t u : ℕ) (failed : Type 0) (result : Result A Stop) → HasCause f h failed → HasCauses (0, 0, t, 0) (0, 0, u, 0) result
    → HasCauses (f, 0, t, 0) (h, 0, u, 0) result
files_read f h t u failed result read boot = then (f, 0, t, 0) (h, 0, t, 0) (h, 0, u, 0) fine result (record {
  files = read.later;
  entropy = omega arith;
  tpm = omega arith;
  out = omega arith;
  cause = λ stop e. absurd (cc e);
}) (on_tpm h 0 0 t u result boot)
  where
    fine : Result Unit Stop
    fine = Ok tt

-- ---- the parts of the whole

-- after a stop at the extend of a record
pub part_way : (kept : Option Stored) (list : List LogRecord) (i : ℕ) (r : LogRecord) (s : Parts) → i < length list → r ≡ get_or list i r
    → Keeps kept (measured (take i (rows list)) s) ⊎ Keeps kept (measured_row (measured (take i (rows list)) s) (row r)) → IsPartWay kept (rows list) s
part_way kept list i r s lt is (inl h) = record { extends = i; few = rw length-map (omega (arith, lt)); keeps = h }
part_way kept list i r s lt is (inr h) = record { extends = i + 1; few = rw length-map (omega (arith, lt)); keeps = subst (Keeps kept) (one_more list i r s lt is) h }

-- a stop at the extends is one of the whole
pub stops_later : {A : Type 0} (P Q : Type 0) (result : Result A Stop) → IfErr result (λ _. Q) → IfErr result (λ _. P ⊎ Q)
stops_later P Q (Ok x) h = tt
stops_later P Q (Err stop) h = inr h

pub no_end : {X : Type 0} (b : Bool) → b ≡ false → b ≡ true → X
no_end b is_false is_true = absurd (cc (sym is_false ∙ is_true))

-- ---- the machine

-- the machine at a state that is stored
pub stands_at : (held : Option FileMap) (kept : Option Stored) (m : Live) (s : Parts) → held ≡ Some m.files → Keeps kept s → StandsAt held kept (at_state m s)
stands_at held kept m s files keeps = record { files = files; device = Holds s; tells = keeps.stored; same = holds_same s }

-- the first of the machines stands
pub first_among : (held : Option FileMap) (kept : Option Stored) (m : Live) (list : List Row) (s : Parts) → held ≡ Some m.files → Keeps kept s
    → StandsAmong held kept (map (at_state m) (measured_states list s))
first_among held kept m [] s files keeps = inl (stands_at held kept m s files keeps)
first_among held kept m (r ∷ list) s files keeps = inl (stands_at held kept m s files keeps)

-- so does the one after some of the extends
pub among : (held : Option FileMap) (kept : Option Stored) (m : Live) (n : ℕ) (list : List Row) (s : Parts) → held ≡ Some m.files → Keeps kept (measured (take n list) s)
    → StandsAmong held kept (map (at_state m) (measured_states list s))
among held kept m zero list s files keeps = first_among held kept m list s files keeps
among held kept m (suc n) [] s files keeps = first_among held kept m [] s files keeps
among held kept m (suc n) (r ∷ list) s files keeps = inr (among held kept m n list (measured_row s r) files keeps)

-- a stop of the whole
pub stops_of : (held : Option FileMap) (kept : Option Stored) (m : Live) (given : Option ℕ) (banks : Banks) (logs : PlainLogs) (list : List LogRecord) (locality announced : ℕ)
    → held ≡ Some m.files → rows list ≡ rows_of logs → locality ≡ unwrap_or given announced → announced ≡ locality_in logs.firmware
    → Keeps kept m.state ⊎ IsPartWay kept (rows list) (restarted locality banks m.state)
    → StandsAmong held kept (booted_line given banks logs m).stops
stops_of held kept m given banks logs list locality announced files same is told (inl keeps) = inl (stands_at held kept m m.state files keeps)
stops_of held kept m given banks logs list locality announced files same is told (inr part) =
    let place : locality ≡ boot_locality given logs = is ∙ ap (unwrap_or given) told in
    let there : IsPartWay kept (rows list) (restarted (boot_locality given logs) banks m.state) = subst (λ (l : ℕ). IsPartWay kept (rows list) (restarted l banks m.state)) place part in
    let whole : IsPartWay kept (rows_of logs) (restarted (boot_locality given logs) banks m.state) = subst (λ (rs : List Row). IsPartWay kept rs (restarted (boot_locality given logs) banks m.state)) same there in
    inr (among held kept m whole.extends (rows_of logs) (restarted (boot_locality given logs) banks m.state) files whole.keeps)

-- ---- the world

-- no object is touched
same_objects : (list : List Row) (s : Parts) → (measured list s).objects ≡ s.objects
same_objects [] s = refl
same_objects (r ∷ list) s = same_objects list (measured_row s r)

-- the world after a boot is tied to the state that it leaves
pub boot_tied : (given : Option ℕ) (banks : Banks) (logs : PlainLogs) (s : Parts) (w : World) → Tied s w → Tied (boot_state given banks logs s) (boot_world given banks logs s w)
boot_tied given banks logs s w tie =
    follows s (boot_state given banks logs s) w (same_objects (rows_of logs) (restarted (boot_locality given logs) banks s)) tie

-- the order of objects stays
pub boot_order : (given : Option ℕ) (banks : Banks) (logs : PlainLogs) (s : Parts) → keeps_object_order s ≡ true → keeps_object_order (boot_state given banks logs s) ≡ true
boot_order given banks logs s h = by (rows_of logs) (restarted (boot_locality given logs) banks s) h
  where
    by : (list : List Row) (t : Parts) → keeps_object_order t ≡ true → keeps_object_order (measured list t) ≡ true
    by [] t h = h
    by (r ∷ list) t h = by list (measured_row t r) h
