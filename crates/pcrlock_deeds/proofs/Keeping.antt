-- What is kept at each step is kept by the deed, and at each of its stages.
use Rattle.std.proofs.Common.{ℕ, List, [], ◌∷◌}
use Rattle.tpm_model.specs.Events.{Clean, Event, world_after}
use Rattle.tpm_model.specs.World.{World, extended_world, hashed_world}
use Rattle.tpm_worlds.specs.EventLists.{Safe}
use Rattle.tpm_worlds.specs.WholeEvents.{IsSoundEvent}
use Rattle.tpm_worlds.proofs.EachUnseal.{safe_before}
use Rattle.tpm_worlds.proofs.WholeLists.{clean_before}
use Rattle.pcrlock_line.specs.Machine.{Live}
use Rattle.pcrlock_deeds.specs.Deed.{Deed, ends, hashes, sends, sees, walks, boots, draws, writes, removes}
use Rattle.pcrlock_deeds.specs.Doings.{after, stages, world}
use Rattle.pcrlock_deeds.specs.Sound.{AllStages, FileRule, IsSound, IsTie}
use Rattle.pcrlock_deeds.specs.Steps.{answer_to, booted_live, by_draws, drawn_live, filing_world, removed_live, sent_live, walked_live, written_live}
use Rattle.pcrlock_deeds.proofs.Growing.{deed_grows}

module _ (T : Live → World → Type 0) (Files : FileRule) (laws : IsTie T Files) where
  -- one command of the TPM, from what is known at the end
  sent : (event : Event) (rest : Deed) (m : Live) (w : World) → IsSoundEvent event w
      → Clean (world rest (sent_live event m) (world_after event m.state w)) → Safe (world rest (sent_live event m) (world_after event m.state w))
      → T m w → T (sent_live event m) (world_after event m.state w)
  sent event rest m w sound clean safe tie =
      let v = world_after event m.state w in
      let last = world rest (sent_live event m) v in
      let grows = deed_grows rest (sent_live event m) v in
      laws.sent event m w sound (clean_before v last grows clean) (safe_before v last grows.strings safe) tie

  pub deed_kept : (d : Deed) (m : Live) (w : World) → IsSound Files d m w → Clean (world d m w) → Safe (world d m w) → T m w → T (after d m) (world d m w)
  deed_kept (ends last) m w sound clean safe tie = tie
  deed_kept (hashes strings d) m w sound clean safe tie = deed_kept d m (hashed_world strings w) sound clean safe (laws.hashed strings m w tie)
  deed_kept (sends event next) m w sound clean safe tie =
      deed_kept (next (answer_to event m)) (sent_live event m) (world_after event m.state w) sound.1 clean safe
      (sent event (next (answer_to event m)) m w sound.0 clean safe tie)
  deed_kept (sees next) m w sound clean safe tie = deed_kept (next m) m w sound clean safe tie
  deed_kept (walks d) m w sound clean safe tie = deed_kept d (walked_live m) w sound clean safe (laws.walked m w tie)
  deed_kept (boots s d) m w sound clean safe tie = deed_kept d (booted_live s m) (extended_world s w) sound.1 clean safe (laws.booted s m w sound.0 tie)
  deed_kept (draws next none) m w sound clean safe tie =
      drawn m.draws (λ word rest h c k t. deed_kept (next word) (drawn_live rest m) w h c k t) (λ h c k t. deed_kept none m w h c k t) sound clean safe tie
    where
      drawn : (words : List (List ℕ))
          → ((word : List ℕ) (rest : List (List ℕ)) → IsSound Files (next word) (drawn_live rest m) w → Clean (world (next word) (drawn_live rest m) w)
          → Safe (world (next word) (drawn_live rest m) w) → T (drawn_live rest m) w → T (after (next word) (drawn_live rest m)) (world (next word) (drawn_live rest m) w))
          → (IsSound Files none m w → Clean (world none m w) → Safe (world none m w) → T m w → T (after none m) (world none m w))
          → by_draws words (λ word rest. IsSound Files (next word) (drawn_live rest m) w) (IsSound Files none m w)
          → Clean (by_draws words (λ word rest. world (next word) (drawn_live rest m) w) (world none m w))
          → Safe (by_draws words (λ word rest. world (next word) (drawn_live rest m) w) (world none m w))
          → T m w → T (by_draws words (λ word rest. after (next word) (drawn_live rest m)) (after none m)) (by_draws words (λ word rest. world (next word) (drawn_live rest m) w) (world none m w))
      drawn [] each last h c k t = last h c k t
      drawn (word ∷ rest) each last h c k t = each word rest h c k (laws.drawn rest m w t)
  deed_kept (writes path bytes filing d) m w sound clean safe tie =
      deed_kept d (written_live path bytes m) (filing_world filing w) sound.1 clean safe (laws.written path bytes filing m w sound.0 tie)
  deed_kept (removes path filing d) m w sound clean safe tie =
      deed_kept d (removed_live path m) (filing_world filing w) sound.1 clean safe (laws.removed path filing m w sound.0 tie)

  pub deed_staged : (d : Deed) (m : Live) (w : World) → IsSound Files d m w → Clean (world d m w) → Safe (world d m w) → T m w → AllStages T (stages d m w)
  deed_staged (ends last) m w sound clean safe tie = (tie, tt)
  deed_staged (hashes strings d) m w sound clean safe tie = deed_staged d m (hashed_world strings w) sound clean safe (laws.hashed strings m w tie)
  deed_staged (sends event next) m w sound clean safe tie = (
    tie,
    deed_staged (next (answer_to event m)) (sent_live event m) (world_after event m.state w) sound.1 clean safe
        (sent event (next (answer_to event m)) m w sound.0 clean safe tie),
  )
  deed_staged (sees next) m w sound clean safe tie = deed_staged (next m) m w sound clean safe tie
  deed_staged (walks d) m w sound clean safe tie = (tie, deed_staged d (walked_live m) w sound clean safe (laws.walked m w tie))
  deed_staged (boots s d) m w sound clean safe tie = (tie, deed_staged d (booted_live s m) (extended_world s w) sound.1 clean safe (laws.booted s m w sound.0 tie))
  deed_staged (draws next none) m w sound clean safe tie =
      drawn m.draws (λ word rest h c k t. deed_staged (next word) (drawn_live rest m) w h c k t) (λ h c k t. deed_staged none m w h c k t) sound clean safe tie
    where
      drawn : (words : List (List ℕ))
          → ((word : List ℕ) (rest : List (List ℕ)) → IsSound Files (next word) (drawn_live rest m) w → Clean (world (next word) (drawn_live rest m) w)
          → Safe (world (next word) (drawn_live rest m) w) → T (drawn_live rest m) w → AllStages T (stages (next word) (drawn_live rest m) w))
          → (IsSound Files none m w → Clean (world none m w) → Safe (world none m w) → T m w → AllStages T (stages none m w))
          → by_draws words (λ word rest. IsSound Files (next word) (drawn_live rest m) w) (IsSound Files none m w)
          → Clean (by_draws words (λ word rest. world (next word) (drawn_live rest m) w) (world none m w))
          → Safe (by_draws words (λ word rest. world (next word) (drawn_live rest m) w) (world none m w))
          → T m w → AllStages T (by_draws words (λ word rest. stages (next word) (drawn_live rest m) w) (stages none m w))
      drawn [] each last h c k t = last h c k t
      drawn (word ∷ rest) each last h c k t = each word rest h c k (laws.drawn rest m w t)
  deed_staged (writes path bytes filing d) m w sound clean safe tie =
      (tie, deed_staged d (written_live path bytes m) (filing_world filing w) sound.1 clean safe (laws.written path bytes filing m w sound.0 tie))
  deed_staged (removes path filing d) m w sound clean safe tie =
      (tie, deed_staged d (removed_live path m) (filing_world filing w) sound.1 clean safe (laws.removed path filing m w sound.0 tie))
