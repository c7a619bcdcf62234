use Rattle.std.proofs.Common.{◌≡◌, ◌<◌, ℕ, length, false, drop, get_or}
use Rattle.std.specs.Prelude.{is_some}
use Rattle.std.specs.List.{position_from}
use Rattle.record_match.specs.Walk.{leads_on}
use Rattle.record_match.proofs.choosing.note_before.Given as goal

abbrev pub invariant-loop-place : goal.invariant-loop-place
invariant-loop-place l = record {
  count : length l.before ≡ l.place;
  leads_at : (p : ℕ) → p < l.place → get_or l.before p false ≡ is_some (position_from (leads_on (drop p l.list) (drop p l.noted)) 0 l.alternatives);
}
