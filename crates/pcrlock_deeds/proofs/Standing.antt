-- What stands after a stop of a deed.
use Rattle.std.proofs.Common.{◌≡◌, ℕ, List, [], ◌∷◌, map, inl, inr, refl, ap, subst, arith}
use Rattle.std.specs.Prelude.{Option}
use Rattle.std.proofs.lemmas.List.Elements.{Contains-append_right}
use Rattle.pl_base.specs.FileMap.{FileMap}
use Rattle.tpm_model.specs.Events.{Clean, world_after}
use Rattle.tpm_model.specs.World.{World, extended_world, hashed_world}
use Rattle.tpm_device.specs.Stored.{Stored}
use Rattle.tpm_worlds.specs.EventLists.{Safe}
use Rattle.pcrlock_line.specs.Machine.{Live, Machine, machine}
use Rattle.pcrlock_line.specs.Stopped.{StandsAmong, StandsAt}
use Rattle.pcrlock_deeds.specs.Deed.{Deed, ends, hashes, sends, sees, walks, boots, draws, writes, removes}
use Rattle.pcrlock_deeds.specs.Doings.{Stage, after, stage_machine, stages, stops, world}
use Rattle.pcrlock_deeds.specs.Sound.{AllStages, FileRule, IsSound, IsTie, StandsTied}
use Rattle.pcrlock_deeds.specs.Steps.{answer_to, booted_live, by_draws, drawn_live, filing_world, removed_live, sent_live, walked_live, written_live}
use Rattle.pcrlock_deeds.proofs.Growing.{by_words}
use Rattle.pcrlock_deeds.proofs.Keeping.{deed_staged}

-- the stops are the machines of the stages
pub deed_stops : (d : Deed) (m : Live) (w : World) → stops d m ≡ map stage_machine (stages d m w)
deed_stops (ends last) m w = refl
deed_stops (hashes strings d) m w = deed_stops d m (hashed_world strings w)
deed_stops (sends event next) m w = ap (λ xs. machine m ∷ xs) (deed_stops (next (answer_to event m)) (sent_live event m) (world_after event m.state w))
deed_stops (sees next) m w = deed_stops (next m) m w
deed_stops (walks d) m w = ap (λ xs. machine m ∷ xs) (deed_stops d (walked_live m) w)
deed_stops (boots s d) m w = ap (λ xs. machine m ∷ xs) (deed_stops d (booted_live s m) (extended_world s w))
deed_stops (draws next none) m w = drawn m.draws (λ word rest. deed_stops (next word) (drawn_live rest m) w) (deed_stops none m w)
  where
    drawn : (words : List (List ℕ)) → ((word : List ℕ) (rest : List (List ℕ)) → stops (next word) (drawn_live rest m) ≡ map stage_machine (stages (next word) (drawn_live rest m) w))
        → stops none m ≡ map stage_machine (stages none m w)
        → by_draws words (λ word rest. stops (next word) (drawn_live rest m)) (stops none m)
        ≡ map stage_machine (by_draws words (λ word rest. stages (next word) (drawn_live rest m) w) (stages none m w))
    drawn [] each last = last
    drawn (word ∷ rest) each last = each word rest
deed_stops (writes path bytes filing d) m w = ap (λ xs. machine m ∷ xs) (deed_stops d (written_live path bytes m) (filing_world filing w))
deed_stops (removes path filing d) m w = ap (λ xs. machine m ∷ xs) (deed_stops d (removed_live path m) (filing_world filing w))

module _ (held : Option FileMap) (kept : Option Stored) where
  -- what stands before the deed stands among its stops. Words to come are no part of what stands
  pub deed_first : (d : Deed) (m : Live) → StandsAt held kept (machine m) → StandsAmong held kept (stops d m)
  deed_first (ends last) m at = inl at
  deed_first (hashes strings d) m at = deed_first d m at
  deed_first (sends event next) m at = inl at
  deed_first (sees next) m at = deed_first (next m) m at
  deed_first (walks d) m at = inl at
  deed_first (boots s d) m at = inl at
  deed_first (draws next none) m at =
      by_words (StandsAmong held kept) m.draws (λ word rest. stops (next word) (drawn_live rest m)) (stops none m)
      (λ word rest. deed_first (next word) (drawn_live rest m) (record { files = at.files; device = at.device; tells = at.tells; same = at.same })) (deed_first none m at)
  deed_first (writes path bytes filing d) m at = inl at
  deed_first (removes path filing d) m at = inl at

  -- and so does what stands after it
  pub deed_last : (d : Deed) (m : Live) → StandsAt held kept (machine (after d m)) → StandsAmong held kept (stops d m)
  deed_last (ends last) m at = inl at
  deed_last (hashes strings d) m at = deed_last d m at
  deed_last (sends event next) m at = inr (deed_last (next (answer_to event m)) (sent_live event m) at)
  deed_last (sees next) m at = deed_last (next m) m at
  deed_last (walks d) m at = inr (deed_last d (walked_live m) at)
  deed_last (boots s d) m at = inr (deed_last d (booted_live s m) at)
  deed_last (draws next none) m at = drawn m.draws (λ word rest. deed_last (next word) (drawn_live rest m)) (deed_last none m) at
    where
      drawn : (words : List (List ℕ))
          → ((word : List ℕ) (rest : List (List ℕ)) → StandsAt held kept (machine (after (next word) (drawn_live rest m))) → StandsAmong held kept (stops (next word) (drawn_live rest m)))
          → (StandsAt held kept (machine (after none m)) → StandsAmong held kept (stops none m))
          → StandsAt held kept (machine (by_draws words (λ word rest. after (next word) (drawn_live rest m)) (after none m)))
          → StandsAmong held kept (by_draws words (λ word rest. stops (next word) (drawn_live rest m)) (stops none m))
      drawn [] each last h = last h
      drawn (word ∷ rest) each last h = each word rest h
  deed_last (writes path bytes filing d) m at = inr (deed_last d (written_live path bytes m) at)
  deed_last (removes path filing d) m at = inr (deed_last d (removed_live path m) at)

  -- of stages that are all tied, the one that stands is
  among_tied : (T : Live → World → Type 0) (xs : List Stage) → AllStages T xs → StandsAmong held kept (map stage_machine xs) → StandsTied T held kept xs
  among_tied T [] all stands = absurd stands
  among_tied T (x ∷ xs) all (inl at) = record { stage = x; among = (0, omega arith, refl); stands = at; tied = all.0 }
  among_tied T (x ∷ xs) all (inr more) =
      let rest = among_tied T xs all.1 more in
      record { stage = rest.stage; among = Contains-append_right (x ∷ []) xs rest.stage rest.among; stands = rest.stands; tied = rest.tied }

  -- after a stop one of the stages stands, and it is tied
  pub deed_stopped : (T : Live → World → Type 0) (Files : FileRule) → IsTie T Files → (d : Deed) (m : Live) (w : World)
      → IsSound Files d m w → Clean (world d m w) → Safe (world d m w) → T m w → StandsAmong held kept (stops d m) → StandsTied T held kept (stages d m w)
  deed_stopped T Files laws d m w sound clean safe tie stands =
      among_tied T (stages d m w) (deed_staged T Files laws d m w sound clean safe tie) (subst (λ (xs : List Machine). StandsAmong held kept xs) (deed_stops d m w) stands)
