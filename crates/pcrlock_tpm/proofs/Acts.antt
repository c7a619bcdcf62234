-- `tpm-extend` and `tpm-boot` come to their acts, and each step of them keeps a tie.
use Rattle.std.proofs.Common.{◌≡◌, ℕ, ◌≤◌, ◌++◌, ◌∙◌, append-nil, arith, Bool, true, false, cond, List, [], ◌∷◌, map, refl, sym, ap, subst}
use Rattle.std.specs.Prelude.{Option, None, Some, length, Result, Ok, Err, ◌==◌}
use Rattle.std.proofs.lemmas.Bool.{le-ltb}
use Rattle.hash_bank.specs.declared.bank.Bank.{Bank}
use Rattle.hash_bank.specs.declared.bank.Bank.TheVariants.{Sha1, Sha256, Sha384, Sha512}
use Rattle.hash_bank.specs.declared.banks.Banks.{Banks}
use Rattle.hash_bank.proofs.Sizes.{length-digest_in}
use Rattle.pcr_replay.specs.Row.{Row}
use Rattle.tpm_model.specs.declared.command.Command.TheVariants as command
use Rattle.tpm_model.specs.declared.parts.Parts.{Parts}
use Rattle.tpm_model.specs.declared.response.Response.{Response}
use Rattle.tpm_model.specs.declared.response.Response.TheVariants as answer
use Rattle.tpm_model.specs.declared.response.Refusal.TheVariants as refusal
use Rattle.tpm_model.specs.declared.response.Counter.TheVariants as counter
use Rattle.tpm_model.specs.PcrCommands.{pcr_extend}
use Rattle.tpm_model.specs.Pcrs.{HasValues, extended_in, pcr_of, place_of, put_extended}
use Rattle.tpm_model.specs.Events.{Other, accepted_world}
use Rattle.tpm_model.specs.Tied.{Tied}
use Rattle.tpm_model.specs.World.{World, extended_world, hashed_world}
use Rattle.tpm_model.proofs.PcrPlaces.{keeps_values, value_at}
use Rattle.tpm_model.proofs.Starts.{start_sizes}
use Rattle.tpm_device.specs.Stored.{Stored}
use Rattle.pcrlock_answer.specs.declared.answer.Answer.{Answer}
use Rattle.pcrlock_answer.specs.Texts.{records_text}
use Rattle.pcrlock_answer.specs.declared.answer.Answer.TheVariants as said
use Rattle.pcrlock_line.specs.Machine.{Live, Machine, machine}
use Rattle.pcrlock_line.specs.Outcome.{Ending, Outcome, Fine, refused_line}
use Rattle.pcrlock_line.specs.Worlds.{IsTied, IsTiedTo, by_state}
use Rattle.pcrlock_input.specs.Logs.{PlainLogs, logs_of, rows_of}
use Rattle.pcrlock_deeds.specs.Acts.{IsAct, IsDone, IsSoundAct, SameStops, act_outcome, act_world, works}
use Rattle.pcrlock_deeds.specs.Doings.{after, ending, hashed, outcome, stops, world}
use Rattle.pcrlock_deeds.specs.Sound.{FileRule, IsBooted, IsSound}
use Rattle.pcrlock_deeds.specs.Steps.{booted_live}
use Rattle.pcrlock_deeds.proofs.Done.{done_itself, same_twice, sound_on, works_on, world_on}
use Rattle.pcrlock_tpm.specs.Acts.{boot_act, boot_deed, booting, extend_act, extend_deed, extend_ending, hashes_of, measuring}
use Rattle.pcrlock_tpm.specs.Boot.{at_state, boot_locality, boot_outcome, boot_world, booted_line, measured, measured_row, measured_states, restarted, tpm_boot_line}
use Rattle.pcrlock_tpm.specs.Extend.{extend_world, extended_line, extended_machine, extended_parts, tpm_extend_line}

-- ---- `tpm-extend`

-- the extend is accepted unless the counter is at its end
answered : (pcr : ℕ) (bytes : List ℕ) (s : Parts) → pcr ≤ 23
    → pcr_extend pcr (hashes_of bytes) s
    ≡ cond {A = Response × Parts} (s.update_counter == 4294967295) (answer.Refused (refusal.CounterEnd counter.Update), s) (answer.Done, extended_parts pcr bytes s)
answered pcr bytes s small = rw (le-ltb 23 pcr small) refl

-- one command with this answer and next state
abbrev asked : Live → Response × Parts → Outcome
asked m r = record {
  ending = extend_ending r.0;
  after = machine (record m { state = r.1 });
  hashed = [];
  stops = machine m ∷ machine (record m { state = r.1 }) ∷ [];
}

asked_is : (pcr : ℕ) (bytes : List ℕ) (m : Live) (last : Bool)
    → IsDone (cond {A = Outcome} last (refused_line (said.CounterEnd false) (machine m))
    (record { ending = Fine []; after = extended_machine pcr bytes m; hashed = []; stops = machine m ∷ extended_machine pcr bytes m ∷ [] }))
    (asked m (cond {A = Response × Parts} last (answer.Refused (refusal.CounterEnd counter.Update), m.state) (answer.Done, extended_parts pcr bytes m.state)))
asked_is pcr bytes m true = record { ending = refl; after = refl; stops = same_twice (machine m); hashed = λ x h. h }
asked_is pcr bytes m false = done_itself (asked m (answer.Done, extended_parts pcr bytes m.state))

extends_as : (pcr : ℕ) (bytes : List ℕ) (m : Live) → pcr ≤ 23 → IsDone (extended_line pcr bytes m) (outcome (extend_deed pcr bytes) m)
extends_as pcr bytes m small =
    subst (λ (r : Response × Parts). IsDone (extended_line pcr bytes m) (asked m r)) (sym (answered pcr bytes m.state small))
    (asked_is pcr bytes m (m.state.update_counter == 4294967295))

pub extend_is : (state : List ℕ) (pcr : ℕ) (bytes : List ℕ) → pcr ≤ 23 → IsAct (tpm_extend_line state pcr bytes) state (extend_act pcr bytes)
unfolding extend_act
extend_is state pcr bytes small m w = works_on (extended_line pcr bytes) (extend_deed pcr bytes) state m (λ live. extends_as pcr bytes live small)

pub extend_sound : (Files : FileRule) (pcr : ℕ) (bytes : List ℕ) (m : Machine) (w : World) → IsSoundAct Files (extend_act pcr bytes m w) m w
unfolding extend_act
extend_sound Files pcr bytes m w = sound_on Files (extend_deed pcr bytes) m w (λ s e. (tt, tt))

-- no string is hashed
none_hashed : (w : World) → hashed_world [] w ≡ w
none_hashed w = ap (λ strings. record w { hashed = strings }) (append-nil w.hashed)

-- a world that is tied has the banks and values of the state
followed : (s : Parts) (w : World) → Tied s w → w ≡ extended_world s w
followed s w t = ap (λ banks. record w { banks = banks }) t.banks ∙ ap (λ pcrs. record w { banks = s.banks; pcrs = pcrs }) t.pcrs

world_by : (pcr : ℕ) (bytes : List ℕ) (s : Parts) (w : World) (last : Bool) → Tied s w
    → (let r : Response × Parts = cond last (answer.Refused (refusal.CounterEnd counter.Update), s) (answer.Done, extended_parts pcr bytes s) in
    accepted_world (Other (command.PcrExtend pcr (hashes_of bytes))) r.0 r.1 (hashed_world [] w) ≡ extended_world (cond last s (extended_parts pcr bytes s)) w)
world_by pcr bytes s w true t = none_hashed w ∙ followed s w t
world_by pcr bytes s w false t = ap (extended_world (extended_parts pcr bytes s)) (none_hashed w)

-- a world that is tied to the state follows it
pub extend_world_is : (pcr : ℕ) (bytes : List ℕ) (m : Machine) (w : World) → pcr ≤ 23 → IsTied m.device w
    → act_world (extend_act pcr bytes m w) m w ≡ by_state m.device m w (λ (live : Live) (v : World). extend_world pcr bytes live.state v)
unfolding extend_act
extend_world_is pcr bytes m w small t =
    world_on (extend_deed pcr bytes) (λ live v. extend_world pcr bytes live.state v) m w
    (λ s e. let tied : IsTiedTo s w = subst (λ (kept : Stored). IsTied kept w) e t in
    subst (λ (r : Response × Parts). accepted_world (Other (command.PcrExtend pcr (hashes_of bytes))) r.0 r.1 (hashed_world [] w) ≡ extend_world pcr bytes s w)
    (sym (answered pcr bytes s small)) (world_by pcr bytes s w (s.update_counter == 4294967295) tied.tied))

-- ---- `tpm-boot`

measured_ending : (rows : List Row) (s : Parts) (last : Ending) (m : Live) → ending (measuring rows s last) m ≡ last
measured_ending [] s last m = refl
measured_ending (r ∷ rows) s last m = measured_ending rows (measured_row s r) last (booted_live (measured_row s r) m)

measured_hashed : (rows : List Row) (s : Parts) (last : Ending) (m : Live) → hashed (measuring rows s last) m ≡ []
measured_hashed [] s last m = refl
measured_hashed (r ∷ rows) s last m = measured_hashed rows (measured_row s r) last (booted_live (measured_row s r) m)

measured_after : (rows : List Row) (s : Parts) (last : Ending) (m : Live) → after (measuring rows s last) (booted_live s m) ≡ booted_live (measured rows s) m
measured_after [] s last m = refl
measured_after (r ∷ rows) s last m = measured_after rows (measured_row s r) last m

measured_stops : (rows : List Row) (s : Parts) (last : Ending) (m : Live) → stops (measuring rows s last) (booted_live s m) ≡ map (at_state m) (measured_states rows s)
measured_stops [] s last m = refl
measured_stops (r ∷ rows) s last m = ap (λ more. at_state m s ∷ more) (measured_stops rows (measured_row s r) last m)

measured_world : (rows : List Row) (s : Parts) (last : Ending) (m : Live) (w : World) → world (measuring rows s last) m (extended_world s w) ≡ extended_world (measured rows s) w
measured_world [] s last m w = refl
measured_world (r ∷ rows) s last m w = measured_world rows (measured_row s r) last (booted_live (measured_row s r) m) w

boots_as : (given : Option ℕ) (banks : Banks) (logs : PlainLogs) (m : Live) → IsDone (booted_line given banks logs m) (outcome (boot_deed given banks logs) m)
boots_as given banks logs m =
    let rows = rows_of logs in
    let start = restarted (boot_locality given logs) banks m.state in
    let last = Fine (records_text (length rows)) in
    record {
      ending = sym (measured_ending rows start last (booted_live start m));
      after = ap machine (sym (measured_after rows start last m));
      stops = subst (λ more. SameStops (booted_line given banks logs m).stops (machine m ∷ more)) (sym (measured_stops rows start last m)) (done_itself (booted_line given banks logs m)).stops;
      hashed = λ x h. absurd (omega (arith, h.1));
    }

pub boot_is : (state : List ℕ) (firmware user : Option (List ℕ)) (given : Option ℕ) (banks : Banks) → IsAct (tpm_boot_line state firmware user given banks) state (boot_act firmware user given banks)
unfolding boot_act
boot_is state firmware user given banks m w = by (logs_of m.files firmware user)
  where
    by : (read : Result PlainLogs Answer) → IsDone (boot_outcome state given banks read m) (act_outcome (booting given banks read) state m)
    by (Err why) = done_itself (refused_line why m)
    by (Ok logs) = works_on (booted_line given banks logs) (boot_deed given banks logs) state m (boots_as given banks logs)

-- the world is the one after a boot with the logs
pub boot_world_is : (given : Option ℕ) (banks : Banks) (logs : PlainLogs) (m : Machine) (w : World)
    → act_world (works (boot_deed given banks logs)) m w ≡ by_state m.device m w (λ (live : Live) (v : World). boot_world given banks logs live.state v)
boot_world_is given banks logs m w =
    world_on (boot_deed given banks logs) (λ live v. boot_world given banks logs live.state v) m w
    (λ s e. let start = restarted (boot_locality given logs) banks s in
    measured_world (rows_of logs) start (Fine (records_text (length (rows_of logs)))) (record { files = m.files; state = start; draws = m.draws }) w)

-- an extend in one bank leaves the sizes of the values
sizes_in : (banks : Banks) (pcr : ℕ) (given : Option (List ℕ)) (bank : Bank) (pcrs : List (List ℕ)) → HasValues banks pcrs → HasValues banks (extended_in banks pcr given bank pcrs)
sizes_in banks pcr given bank pcrs h = on (pcr_of banks pcrs bank pcr) given refl
  where
    on : (o d : Option (List ℕ)) → pcr_of banks pcrs bank pcr ≡ o → HasValues banks (put_extended bank o d (place_of banks bank pcr) pcrs)
    on None d e = h
    on (Some old) None e = h
    on (Some old) (Some digest) e =
        let known = value_at banks pcrs bank pcr old h e in
        keeps_values banks pcrs (place_of banks bank pcr) old _ h known.found (length-digest_in bank (old ++ digest) ∙ sym known.size)

-- so does an extend by a record; no session is opened, and indices and objects stay
row_booted : (s : Parts) (r : Row) → HasValues s.banks s.pcrs → s.sessions ≡ [] → IsBooted s (measured_row s r)
row_booted s r values none =
    let one = sizes_in s.banks r.pcr r.digests.sha1 Sha1 s.pcrs values in
    let two = sizes_in s.banks r.pcr r.digests.sha256 Sha256 _ one in
    let three = sizes_in s.banks r.pcr r.digests.sha384 Sha384 _ two in
    record {
      values = sizes_in s.banks r.pcr r.digests.sha512 Sha512 _ three;
      sessions = none;
      write_counter = refl;
      indices = refl;
      next_object = refl;
      objects = refl;
    }

start_booted : (locality : ℕ) (banks : Banks) (s : Parts) → IsBooted s (restarted locality banks s)
start_booted locality banks s = record {
  values = start_sizes banks locality;
  sessions = refl;
  write_counter = refl;
  indices = refl;
  next_object = refl;
  objects = refl;
}

module _ (Files : FileRule) where
  measuring_sound : (rows : List Row) (s : Parts) (last : Ending) (m : Live) (w : World) → HasValues s.banks s.pcrs → s.sessions ≡ []
      → IsSound Files (measuring rows s last) (booted_live s m) w
  measuring_sound [] s last m w values none = tt
  measuring_sound (r ∷ rows) s last m w values none =
      let next = row_booted s r values none in
      (next, measuring_sound rows (measured_row s r) last m (extended_world (measured_row s r) w) next.values next.sessions)

  boots_sound : (given : Option ℕ) (banks : Banks) (logs : PlainLogs) (m : Live) (w : World) → IsSound Files (boot_deed given banks logs) m w
  boots_sound given banks logs m w =
      let start = restarted (boot_locality given logs) banks m.state in
      let first = start_booted (boot_locality given logs) banks m.state in
      (first, measuring_sound (rows_of logs) start (Fine (records_text (length (rows_of logs)))) m (extended_world start w) first.values first.sessions)

  pub boot_sound : (firmware user : Option (List ℕ)) (given : Option ℕ) (banks : Banks) (m : Machine) (w : World) → IsSoundAct Files (boot_act firmware user given banks m w) m w
  unfolding boot_act
  boot_sound firmware user given banks m w = by (logs_of m.files firmware user)
    where
      by : (read : Result PlainLogs Answer) → IsSoundAct Files (booting given banks read) m w
      by (Err why) = tt
      by (Ok logs) = sound_on Files (boot_deed given banks logs) m w (λ s e. boots_sound given banks logs (record { files = m.files; state = s; draws = m.draws }) w)
