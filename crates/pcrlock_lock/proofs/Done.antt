-- What a command that changes files gives, and where it stands after a stop, told by its files alone.
use Rattle.std.proofs.Common.{◌≡◌, ◌⊎◌, ℕ, List, [], ◌∷◌, map, inl, inr, ◌∙◌, subst}
use Rattle.std.specs.Prelude.{Option, Some, Result, Ok, Err, IfOk, IfErr}
use Rattle.pl_base.specs.FileMap.{FileMap}
use Rattle.tpm_device.specs.Stored.{Stored}
use Rattle.pcrlock_answer.specs.declared.answer.Answer.{Answer}
use Rattle.pcrlock_line.specs.declared.reply.Reply.{Reply}
use Rattle.pcrlock_line.specs.declared.stop.Stop.{Stop}
use Rattle.pcrlock_line.specs.Machine.{Machine, Tells}
use Rattle.pcrlock_line.specs.Outcome.{Gives}
use Rattle.pcrlock_line.specs.Stopped.{StandsAmong}
use Rattle.pcrlock_line.proofs.Standing.{same_stored}
use Rattle.pcrlock_deeds.specs.Acts.{FileStep, files_between, with_files}
use Rattle.pcrlock_lock.specs.Between.{HoldsOneOf}
use Rattle.pcrlock_lock.specs.Changing.{Work, changes_in, changing_line, IsDone}

gives : (held now : Option FileMap) (stored : Option Stored) (words : Option (List (List ℕ))) (m : Machine) (reply : Reply) (given : Result Work Answer)
    → Tells held stored words m → IsDone m.files now reply given → Gives now stored words reply (changing_line given m)
gives held now stored words m reply given t d = record {
  ending = d.ending;
  tells = record { files = d.files; state = t.state; draws = t.draws };
}

-- the reply of a work that is the definition's
pub done_told : (result : Result Reply Stop) (held now : Option FileMap) (stored : Option Stored) (words : Option (List (List ℕ))) (m : Machine) (found given : Result Work Answer)
    → found ≡ given → Tells held stored words m
    → IfOk result (λ reply. IsDone m.files now reply found)
    → IfOk result (λ reply. Gives now stored words reply (changing_line given m))
done_told (Ok reply) held now stored words m found given e t d =
    gives held now stored words m reply given t (subst (λ (x : Result Work Answer). IsDone m.files now reply x) e d)
done_told (Err stop) held now stored words m found given e t d = tt

among : (now : Option FileMap) (stored : Option Stored) (m : Machine) (list : List FileMap)
    → stored ≡ Some m.device → HoldsOneOf now list → StandsAmong now stored (map (with_files m) list)
among now stored m [] s h = h
among now stored m (files ∷ more) s (inl h) = inl (record { files = h; device = m.device; tells = s; same = same_stored m.device })
among now stored m (files ∷ more) s (inr h) = inr (among now stored m more s h)

-- a stop of a work that is the definition's
pub done_stops : (result : Result Reply Stop) (held now : Option FileMap) (stored : Option Stored) (words : Option (List (List ℕ))) (m : Machine) (found given : Result Work Answer)
    → found ≡ given → Tells held stored words m
    → IfErr result (λ _. HoldsOneOf now (files_between (changes_in found) m.files))
    → IfErr result (λ _. StandsAmong now stored (changing_line given m).stops)
done_stops (Ok reply) held now stored words m found given e t h = tt
done_stops (Err stop) held now stored words m found given e t h =
    among now stored m (files_between (changes_in given) m.files) t.state
    (subst (λ (x : Result Work Answer). HoldsOneOf now (files_between (changes_in x) m.files)) e h)

-- the files as they were are the first of those between the changes
pub first_between : (now : Option FileMap) (changes : List FileStep) (files : FileMap) → now ≡ Some files → HoldsOneOf now (files_between changes files)
first_between now [] files e = inl e
first_between now (change ∷ more) files e = inl e

-- a stop before any change
pub stops_before : (held now : Option FileMap) (stored : Option Stored) (words : Option (List (List ℕ))) (m : Machine) (given : Result Work Answer)
    → now ≡ held → Tells held stored words m → StandsAmong now stored (changing_line given m).stops
stops_before held now stored words m given same t =
    among now stored m (files_between (changes_in given) m.files) t.state (first_between now (changes_in given) m.files (same ∙ t.files))

-- what is done is that of an equal work
pub done_same : (result : Result Reply Stop) (held : FileMap) (now : Option FileMap) (found given : Result Work Answer)
    → found ≡ given → IfOk result (λ reply. IsDone held now reply found) → IfOk result (λ reply. IsDone held now reply given)
done_same (Ok reply) held now found given e d = subst (λ (x : Result Work Answer). IsDone held now reply x) e d
done_same (Err stop) held now found given e d = tt

pub stops_same : (result : Result Reply Stop) (held : FileMap) (now : Option FileMap) (found given : Result Work Answer)
    → found ≡ given → IfErr result (λ _. HoldsOneOf now (files_between (changes_in found) held)) → IfErr result (λ _. HoldsOneOf now (files_between (changes_in given) held))
stops_same (Ok reply) held now found given e h = tt
stops_same (Err stop) held now found given e h = subst (λ (x : Result Work Answer). HoldsOneOf now (files_between (changes_in x) held)) e h

-- what is said of a stop
pub when_err : {A : Type 0} (result : Result A Stop) (P Q : Type 0) → (P → Q) → IfErr result (λ _. P) → IfErr result (λ _. Q)
when_err (Ok x) P Q f h = tt
when_err (Err stop) P Q f h = f h

-- the second of two files is the old or the new one
pub second_of_two : (now : Option FileMap) (files first second : FileMap) → (now ≡ Some first) ⊎ (now ≡ Some second) → HoldsOneOf now (files ∷ first ∷ second ∷ [])
second_of_two now files first second (inl e) = inr (inl e)
second_of_two now files first second (inr e) = inr (inr (inl e))
