-- What a step of `make-policy` told is what the step before it tells.
use Rattle.std.proofs.Common.{◌≡◌, ℕ, Bool, true, false, List, [], ◌∷◌, ◌++◌, inl, inr, refl, sym, subst, Contains}
use Rattle.std.specs.Prelude.{Option, None, Some, Result, Ok, Err, IfOk, IfErr}
use Rattle.pl_base.specs.FileMap.{FileMap}
use Rattle.hash_bank.specs.HashedString.{HashedString, NoClash}
use Rattle.nv_index.specs.declared.index.NvPublic.{NvPublic}
use Rattle.policy_digest.specs.declared.table.Table.{Table}
use Rattle.policy_file.specs.declared.policy.Policy.{Policy}
use Rattle.policy_session.specs.Kept.{Kept}
use Rattle.tpm_device.specs.Stored.{Stored, Holds}
use Rattle.pcrlock_answer.specs.declared.answer.Answer.{Answer}
use Rattle.pcrlock_line.specs.declared.reply.Reply.{Reply}
use Rattle.pcrlock_line.specs.declared.stop.Stop.{Stop}
use Rattle.pcrlock_line.specs.Machine.{Live, Tells, machine}
use Rattle.pcrlock_line.specs.Outcome.{Outcome, Gives}
use Rattle.pcrlock_line.specs.Stopped.{StandsAt, StandsAmong}
use Rattle.pcrlock_update.specs.Changes.{Made, changes_made}
use Rattle.pcrlock_update.specs.NewPolicy.{define_changes, new_line_from}
use Rattle.pcrlock_update.specs.Sealed.{object_made, pin_sealed, sealed_in}
use Rattle.pcrlock_update.specs.Standing.{standing_of}
use Rattle.pcrlock_update.specs.Update.{pin_in}
use Rattle.pcrlock_update.proofs.Lists.{made_first, then_stopped}
use Rattle.pcrlock_policy.specs.Asked.{Target}
use Rattle.pcrlock_policy.specs.Foreseen.{Foreseen}
use Rattle.pcrlock_policy.specs.declared.looking.IndexState.{IndexState}
use Rattle.pcrlock_policy.specs.declared.looking.IndexState.TheVariants as state
use Rattle.pcrlock_policy.specs.IndexState.{index_state}
use Rattle.pcrlock_policy.specs.MakePolicy.{behind_session, force_line, fresh_line, handle_for, index_line, replaced_line, tested_line, written_line}

-- ---- one outcome for another

-- what the objects tell of an outcome; and what stands after a stop
abbrev pub Told : Result Reply Stop → Option FileMap → Option Stored → Option (List (List ℕ)) → Outcome → Type 0
Told result held stored words o = IfOk result (λ reply. Gives held stored words reply o)

abbrev pub Stands : Result Reply Stop → Option FileMap → Option Stored → Outcome → Type 0
Stands result held stored o = IfErr result (λ _. StandsAmong held stored o.stops)

-- where no strings of the outcome clash
abbrev pub Safely : (Outcome → Type 0) → Outcome → Type 0
Safely P o = NoClash (Contains o.hashed) → P o

pub told_as : (result : Result Reply Stop) (held : Option FileMap) (stored : Option Stored) (words : Option (List (List ℕ))) (a b : Outcome) → a ≡ b → Told result held stored words b → Told result held stored words a
told_as result held stored words a b is h = subst (Told result held stored words) (sym is) h

pub stands_as : (result : Result Reply Stop) (held : Option FileMap) (stored : Option Stored) (a b : Outcome) → a ≡ b → Stands result held stored b → Stands result held stored a
stands_as result held stored a b is h = subst (Stands result held stored) (sym is) h

pub safely_told_as : (result : Result Reply Stop) (held : Option FileMap) (stored : Option Stored) (words : Option (List (List ℕ))) (a b : Outcome) → a ≡ b
    → Safely (Told result held stored words) b → Safely (Told result held stored words) a
safely_told_as result held stored words a b is h = subst (Safely (Told result held stored words)) (sym is) h

pub safely_stands_as : (result : Result Reply Stop) (held : Option FileMap) (stored : Option Stored) (a b : Outcome) → a ≡ b → Safely (Stands result held stored) b → Safely (Stands result held stored) a
safely_stands_as result held stored a b is h = subst (Safely (Stands result held stored)) (sym is) h

-- ---- behind a session

pub behind_told : (result : Result Reply Stop) (held : Option FileMap) (stored : Option Stored) (words : Option (List (List ℕ))) (m : Live) (strings : List HashedString) (o : Outcome)
    → Told result held stored words o → Told result held stored words (behind_session m strings o)
behind_told (Ok reply) held stored words m strings o h = record { ending = h.ending; tells = h.tells }
behind_told (Err stop) held stored words m strings o h = tt

pub behind_stands : (result : Result Reply Stop) (held : Option FileMap) (stored : Option Stored) (m : Live) (strings : List HashedString) (o : Outcome)
    → Stands result held stored o → Stands result held stored (behind_session m strings o)
behind_stands (Ok reply) held stored m strings o h = tt
behind_stands (Err stop) held stored m strings o h = inr h

-- a machine whose stored state differs at most in sessions stands
pub kept_at : (held : Option FileMap) (stored now : Option Stored) (words : Option (List (List ℕ))) (m : Live) → Tells held stored words (machine m) → Kept m.state now → StandsAt held now (machine m)
kept_at held stored now words m tells kept = record { files = tells.files; device = Holds kept.state; tells = kept.holds; same = (kept.state, refl, kept.kept.differs) }

-- ---- the machine before all changes is the first of the stops

object_first : (held : Option FileMap) (kept : Option Stored) (sealed : Result ℕ Answer) (m n : Live) (rest : ℕ → Live → Made) → StandsAt held kept (machine m) → StandsAmong held kept (object_made sealed m n rest).stops
object_first held kept (Ok object) m n rest at = inl at
object_first held kept (Err why) m n rest at = inl at

new_first : (held : Option FileMap) (kept : Option Stored) (draws : List (List ℕ)) (text path : List ℕ) (old : Option ℕ) (stands : Bool) (index : ℕ) (table : Table) (pin : Option (List ℕ)) (m : Live)
    → StandsAt held kept (machine m) → StandsAmong held kept (new_line_from draws text path old stands index table pin m).stops
new_first held kept draws text path old stands index table (Some pin) m at =
    then_stopped held kept (changes_made path (define_changes stands index pin) m) _ (made_first held kept path (define_changes stands index pin) m at)
new_first held kept (word ∷ rest) text path old stands index table None m at =
    then_stopped held kept (changes_made path (define_changes stands index word) (record m { draws = rest })) _ (made_first held kept path (define_changes stands index word) (record m { draws = rest })
    (record { files = at.files; device = at.device; tells = at.tells; same = at.same }))
new_first held kept [] text path old stands index table None m at = inl at

fresh_first : (held : Option FileMap) (kept : Option Stored) (target : Target) (found : Option Policy) (stands : Bool) (foreseen : Foreseen) (m : Live)
    → StandsAt held kept (machine m) → StandsAmong held kept (fresh_line target found stands foreseen m).stops
fresh_first held kept target found stands foreseen m at =
    new_first held kept m.draws foreseen.text target.path (pin_in found) stands (handle_for target found) foreseen.table target.pin m at

replaced_first : (held : Option FileMap) (kept : Option Stored) (target : Target) (pin : Option (List ℕ)) (found : Option Policy) (foreseen : Foreseen) (public : NvPublic) (content : List ℕ) (m : Live)
    → StandsAt held kept (machine m) → StandsAmong held kept (replaced_line target pin found foreseen public content m).stops
replaced_first held kept target (Some pin) found foreseen public content m at = object_first held kept (sealed_in (pin_sealed (handle_for target found) pin m.state).0) m _ _ at
replaced_first held kept target None (Some policy) foreseen public content m at = inl at
replaced_first held kept target None None foreseen public content m at = inl at

tested_first : (held : Option FileMap) (kept : Option Stored) (tested : Result Bool Answer) (target : Target) (found : Option Policy) (foreseen : Foreseen) (public : NvPublic) (content : List ℕ) (m : Live)
    → StandsAt held kept (machine m) → StandsAmong held kept (tested_line tested target found foreseen public content m).stops
tested_first held kept (Ok true) target found foreseen public content m at = inl at
tested_first held kept (Ok false) target found foreseen public content m at = replaced_first held kept target target.pin found foreseen public content m at
tested_first held kept (Err answer) target found foreseen public content m at = inl at

pub written_first : (held : Option FileMap) (kept : Option Stored) (target : Target) (found : Option Policy) (foreseen : Foreseen) (public : NvPublic) (content : List ℕ) (m : Live)
    → StandsAt held kept (machine m) → StandsAmong held kept (written_line target found foreseen public content m).stops
written_first held kept target found foreseen public content m at =
    tested_first held kept (standing_of found target.pin target.force public content foreseen.table) target found foreseen public content m at

index_first : (held : Option FileMap) (kept : Option Stored) (target : Target) (found : Option Policy) (foreseen : Foreseen) (s : IndexState) (m : Live)
    → StandsAt held kept (machine m) → StandsAmong held kept (index_line target found foreseen s m).stops
index_first held kept target found foreseen state.Missing m at = fresh_first held kept target found false foreseen m at
index_first held kept target found foreseen state.Unwritten m at = fresh_first held kept target found true foreseen m at
index_first held kept target found foreseen (state.Written public content) m at = written_first held kept target found foreseen public content m at

pub force_first : (held : Option FileMap) (kept : Option Stored) (target : Target) (found : Option Policy) (foreseen : Result Foreseen Answer) (m : Live)
    → StandsAt held kept (machine m) → StandsAmong held kept (force_line target found foreseen m).stops
force_first held kept target found (Ok foreseen) m at = index_first held kept target found foreseen (index_state (handle_for target found) m.state) m at
force_first held kept target found (Err answer) m at = inl at
