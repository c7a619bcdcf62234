-- `remove-policy` comes to its act, and each step of it keeps what is kept of the policy file.
use Rattle.std.proofs.Common.{◌≡◌, ℕ, Bool, true, false, cond, List, [], ◌∷◌, inl, inr, refl, sym, ap, subst, ◌∙◌, arith}
use Rattle.std.specs.Prelude.{Option, None, Some, Result, Ok, Err}
use Rattle.std.specs.Cmp.{eq_by_cmp_equiv, nat_cmp_total}
use Rattle.std.specs.Cmp.Lexicographic.{nat_list_cmp_total}
use Rattle.std.specs.FinMap.{get, get-remove}
use Rattle.nv_index.specs.declared.index.Index.{Index}
use Rattle.nv_index.specs.Table.{index_at, undefine_refusal_of}
use Rattle.policy_file.specs.declared.policy.Policy.{Policy}
use Rattle.tpm_model.specs.declared.command.Command.TheVariants as command
use Rattle.tpm_model.specs.declared.parts.Parts.{Parts}
use Rattle.tpm_model.specs.Events.{Other, accepted_world, event_strings, world_after}
use Rattle.tpm_model.specs.Respond.{respond}
use Rattle.tpm_model.specs.World.{World, hashed_world}
use Rattle.pcrlock_answer.specs.declared.answer.Answer.{Answer}
use Rattle.pcrlock_line.specs.Machine.{Live, Machine, machine}
use Rattle.pcrlock_line.specs.Outcome.{Outcome}
use Rattle.pcrlock_deeds.specs.Acts.{IsAct, IsDone, IsSoundAct, act_outcome}
use Rattle.pcrlock_deeds.specs.Doings.{outcome, world}
use Rattle.pcrlock_deeds.specs.Kept.{IsNewlyFiled, LeavesFiled}
use Rattle.pcrlock_deeds.specs.PolicyAt.{policy_of}
use Rattle.pcrlock_deeds.specs.Sound.{IsSound}
use Rattle.pcrlock_deeds.specs.Steps.{removed_live, sent_live}
use Rattle.pcrlock_deeds.proofs.Done.{done_itself, sound_on, works_on}
use Rattle.pcrlock_update.specs.Acts.{index_deed, pin_deed, removal_act, remove_deed, remove_policy_act}
use Rattle.pcrlock_update.specs.RemovePolicy.{has_policy, remove_policy_line, removal_of, removed_line, removed_text, without_file, without_pin, with_state}
use Rattle.pcrlock_line.specs.Outcome.{Fine}
use Rattle.tpm_model.specs.IndexCommands.{nv_undefine, nv_undefine_unless}
use Rattle.pcrlock_update.proofs.Makes.{live_stays}

-- ---- the equation

-- the removal, where the state without the index is this
abbrev removed_from : List ℕ → Policy → Parts → Live → Outcome
removed_from path policy first m =
    let second : Parts = without_pin policy first in
    record {
      ending = Fine removed_text;
      after = without_file path second m;
      hashed = [];
      stops = machine m ∷ with_state first m ∷ with_state second m ∷ without_file path second m ∷ [];
    }

removed_as : (path : List ℕ) (policy : Policy) (held : Bool) (m : Live)
    → IsDone (removed_from path policy (cond held (nv_undefine policy.handle m.state).1 m.state) m) (outcome (index_deed path policy held) m)
removed_as path policy true m = record { ending = refl; after = refl; stops = λ files kept. (λ h. h, λ h. h); hashed = λ x h. absurd (omega (arith, h.1)) }
removed_as path policy false m = record {
  ending = refl;
  after = refl;
  stops = λ files kept. (
    λ h. elim h [
      | inl at ↦ inl at
      | inr more ↦ more
    ],
    inr,
  );
  hashed = λ x h. absurd (omega (arith, h.1));
}

removal_is : (state path : List ℕ) (read : Result (Option Policy) Answer) (m : Machine) → IsDone (removal_of state path read m) (act_outcome (removal_act path read) state m)
removal_is state path (Ok None) m = done_itself (removal_of state path (Ok None) m)
removal_is state path (Ok (Some policy)) m =
    works_on (removed_line path policy) (remove_deed path policy) state m
    (λ live. removed_as path policy (has_policy policy.index_policy (index_at policy.handle live.state.indices)) live)
removal_is state path (Err answer) m = done_itself (removal_of state path (Err answer) m)

pub remove_policy_is : (state path : List ℕ) → IsAct (remove_policy_line state path) state (remove_policy_act path)
unfolding remove_policy_act
remove_policy_is state path m w = removal_is state path (policy_of m.files path) m

-- ---- soundness

-- without the file nothing is filed
none_filed : (path : List ℕ) (m : Live) (w : World) → IsNewlyFiled path None (removed_live path m) w
none_filed path m w = record {
  states = get-remove nat_list_cmp_total m.files path path ∙ ap (λ same. cond same None (get m.files path)) ((eq_by_cmp_equiv nat_list_cmp_total).refl path);
  number = tt;
  strings = tt;
}

pin_sound : (path : List ℕ) (policy : Policy) (m : Live) (w : World) → IsSound (LeavesFiled path) (pin_deed path policy) m w
pin_sound path policy m w =
    let event = Other (command.Evict policy.pin_object) in
    (tt, (none_filed path (sent_live event m) (world_after event m.state w), tt))

index_sound : (path : List ℕ) (policy : Policy) (held : Bool) (m : Live) (w : World) → IsSound (LeavesFiled path) (index_deed path policy held) m w
index_sound path policy true m w =
    let event = Other (command.NvUndefine policy.handle) in
    (tt, pin_sound path policy (sent_live event m) (world_after event m.state w))
index_sound path policy false m w = pin_sound path policy m w

removal_sound : (path : List ℕ) (read : Result (Option Policy) Answer) (m : Machine) (w : World) → IsSoundAct (LeavesFiled path) (removal_act path read) m w
removal_sound path (Ok None) m w = tt
removal_sound path (Ok (Some policy)) m w =
    sound_on (LeavesFiled path) (remove_deed path policy) m w
    (λ s e. index_sound path policy (has_policy policy.index_policy (index_at policy.handle s.indices)) (record { files = m.files; state = s; draws = m.draws }) w)
removal_sound path (Err answer) m w = tt

pub remove_policy_sound : (path : List ℕ) (m : Machine) (w : World) → IsSoundAct (LeavesFiled path) (remove_policy_act path m w) m w
unfolding remove_policy_act
remove_policy_sound path m w = removal_sound path (policy_of m.files path) m w

-- ---- the world afterwards

-- where a policy is taken away no policy is filed
pub removed_world : (path : List ℕ) (policy : Policy) (m : Live) (w : World) → (world (remove_deed path policy) m w).filed ≡ None
removed_world path policy m w = by (has_policy policy.index_policy (index_at policy.handle m.state.indices))
  where
    by : (held : Bool) → (world (index_deed path policy held) m w).filed ≡ None
    by true = refl
    by false = refl

-- an index that is there can be taken away
index_taken : (handle : ℕ) (digest : List ℕ) (o : Option Index) (s : Parts) (w : World) → has_policy digest o ≡ true
    → (let r = nv_undefine_unless (undefine_refusal_of o) handle s in get (accepted_world (Other (command.NvUndefine handle)) r.0 r.1 w).live handle ≡ None)
index_taken handle digest None s w e = absurd (cc e)
index_taken handle digest (Some index) s w e =
    get-remove nat_cmp_total w.live handle handle ∙ ap (λ same. cond same None (get w.live handle)) ((eq_by_cmp_equiv nat_cmp_total).refl handle)

-- and its index isn't live, where it held the policy
pub removed_index : (path : List ℕ) (policy : Policy) (m : Live) (w : World) → has_policy policy.index_policy (index_at policy.handle m.state.indices) ≡ true
    → get (world (remove_deed path policy) m w).live policy.handle ≡ None
removed_index path policy m w holds =
    let event = Other (command.NvUndefine policy.handle) in
    let v = world_after event m.state w in
    let evict = Other (command.Evict policy.pin_object) in
    let r = respond (command.Evict policy.pin_object) (sent_live event m).state in
    subst (λ (held : Bool). get (world (index_deed path policy held) m w).live policy.handle ≡ None) (sym holds)
    (ap (λ xs. get xs policy.handle) (live_stays policy.pin_object r.0 r.1 (hashed_world (event_strings evict (sent_live event m).state) v))
    ∙ index_taken policy.handle policy.index_policy (index_at policy.handle m.state.indices) m.state (hashed_world (event_strings event m.state) w) holds)
