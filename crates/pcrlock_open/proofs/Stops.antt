-- What is stored after a stop.
use Rattle.std.proofs.Common.{◌≡◌, ℕ, ◌+◌, Bool, true, false, cond, ◌||◌, nat_le, List, [], ◌∷◌, length, inl, refl, sym, subst, ◌∙◌}
use Rattle.std.specs.Prelude.{Option, Some, Result, Ok, Err, IfErr}
use Rattle.pl_base.specs.FileMap.{FileMap}
use Rattle.tpm_model.specs.declared.parts.Parts.{Parts}
use Rattle.tpm_model.specs.Rules.{HasRules}
use Rattle.tpm_device.specs.Running.{DiffersInSessions}
use Rattle.tpm_device.specs.Stored.{Stored, Holds}
use Rattle.policy_session.specs.declared.error.UnsealError.{UnsealError}
use Rattle.policy_session.specs.Answers.{is_answer}
use Rattle.policy_session.specs.Kept.{Kept, Stores}
use Rattle.policy_session.specs.LiteralUnseal.{after_unseal}
use Rattle.pcrlock_line.specs.declared.reply.Reply.{Reply}
use Rattle.pcrlock_line.specs.declared.stop.Stop.{Stop}
use Rattle.pcrlock_line.specs.Machine.{Machine, Live, Tells, machine}
use Rattle.pcrlock_line.specs.Stopped.{StandsAt, StandsAmong}
use Rattle.pcrlock_line.proofs.Standing.{differs_then, same_parts}
use Rattle.policy_file.specs.declared.token.Literal.{Literal}
use Rattle.policy_file.specs.declared.error.FileError.{FileError}
use Rattle.policy_file.specs.declared.error.FileError.TheVariants as file
use Rattle.policy_file.specs.declared.token.Token.{Token}
use Rattle.policy_file.specs.declared.token.Token.TheVariants as token
use Rattle.policy_file.specs.TokenReading.{token_in}
use Rattle.pcrlock_line.specs.Content.{Content, Missing, TooLarge, Bytes, content_of}
use Rattle.pcrlock_line.specs.Outcome.{Outcome}
use Rattle.pcrlock_line.proofs.Devices.{stops_first}
use Rattle.pcrlock_answer.specs.declared.answer.Answer.{Answer}
use Rattle.policy_file.specs.declared.policy.Policy.{Policy}
use Rattle.pcrlock_deeds.specs.PolicyAt.{policy_needed}
use Rattle.pcrlock_open.specs.Bound.{bound_on}
use Rattle.pcrlock_open.specs.Unseal.{unsealed_line, policy_line, token_line, content_line, unseal_line}

next_number : (s : Parts) (none : Bool) → DiffersInSessions s (cond none s (record s { next_session = s.next_session + 1 }))
next_number s true = same_parts s
next_number s false = record { banks = refl; pcrs = refl; update_counter = refl; write_counter = refl; next_object = refl; indices = refl; objects = refl }

-- the state itself is stored still
pub kept_same : (s : Parts) (before now : Option Stored) → now ≡ before → before ≡ Some (Holds s) → HasRules s → Kept s now
kept_same s before now same stored rules = record { state = s; holds = same ∙ stored; kept = record { rules = rules; differs = same_parts s } }

-- whatever the client's result
pub kept_after : {A : Type 0} (s : Parts) (opened : Result A UnsealError) (now : Option Stored) → HasRules (after_unseal s) → Stores s (after_unseal s) opened now → Kept s now
kept_after s opened now rules h = by_test (is_answer opened) refl
  where
    by_test : (answered : Bool) → is_answer opened ≡ answered → Kept s now
    by_test true e = record { state = after_unseal s; holds = h.answered e; kept = record { rules = rules; differs = next_number s (nat_le 64 (length s.sessions) || nat_le 0x01000000 s.next_session) } }
    by_test false e = h.stopped e

pub stops_so : (s : Parts) (result : Result Reply Stop) (now : Option Stored) → Kept s now → IfErr result (λ _. Kept s now)
stops_so s (Ok reply) now h = tt
stops_so s (Err stop) now h = h

-- beside files that are as before
pub stopped : (held : Option FileMap) (stored now : Option Stored) (words : Option (List (List ℕ))) (m : Live) (literal : Literal) (handle : ℕ) (result : Result Reply Stop)
    → Tells held stored words (machine m) → IfErr result (λ _. Kept m.state now) → IfErr result (λ _. StandsAmong held now (unsealed_line literal handle m).stops)
stopped held stored now words m literal handle (Ok reply) tells h = tt
stopped held stored now words m literal handle (Err stop) tells h =
    inl (record { files = tells.files; device = Holds h.state; tells = h.holds; same = (h.state, refl, h.kept.differs) })

-- the stops of another definition of the same, over files that are as before
pub stops_same : (held kept : Option FileMap) (now : Option Stored) (result : Result Reply Stop) (a b : Outcome) → a ≡ b → kept ≡ held
    → IfErr result (λ _. StandsAmong held now b.stops) → IfErr result (λ _. StandsAmong kept now a.stops)
stops_same held kept now result a b is same h =
    subst (λ (f : Option FileMap). IfErr result (λ _. StandsAmong f now a.stops)) (sym same)
    (subst (λ (o : Outcome). IfErr result (λ _. StandsAmong held now o.stops)) (sym is) h)

-- the machine itself stands first
pub first_stop : (held : Option FileMap) (stored : Option Stored) (m : Machine) (s : Parts) (literal : Literal) (handle : ℕ) → m.device ≡ Holds s → StandsAt held stored m
    → StandsAmong held stored (unsealed_line literal handle (record { files = m.files; state = s; draws = m.draws })).stops
first_stop held stored m s literal handle e at =
    let M : Stored → Machine = λ d. record { files = m.files; device = d; draws = m.draws } in
    inl (subst (λ d. StandsAt held stored (M d)) e at)

-- the machine itself stands first, where a policy was needed
pub bound_first : (held : Option FileMap) (stored : Option Stored) (m : Machine) (s : Parts) (policy : Policy) (handle : ℕ) → m.device ≡ Holds s → StandsAt held stored m
    → StandsAmong held stored (bound_on policy handle (record { files = m.files; state = s; draws = m.draws })).stops
bound_first held stored m s policy handle e at =
    let M : Stored → Machine = λ d. record { files = m.files; device = d; draws = m.draws } in
    inl (subst (λ d. StandsAt held stored (M d)) e at)

pub policy_first : (held : Option FileMap) (stored : Option Stored) (m : Machine) (state : List ℕ) (handle : ℕ) (needed : Result Policy Answer) → StandsAt held stored m
    → StandsAmong held stored (policy_line state handle needed m).stops
policy_first held stored m state handle (Ok policy) at = stops_first held stored state m (bound_on policy handle) at (λ s e. bound_first held stored m s policy handle e at)
policy_first held stored m state handle (Err answer) at = inl at

-- a stop before the device is asked
unseal_at : (held : Option FileMap) (stored : Option Stored) (m : Machine) (state path policy : List ℕ) (content : Content) → StandsAt held stored m → StandsAmong held stored (content_line state path policy content m).stops
unseal_at held stored m state path policy Missing at = inl at
unseal_at held stored m state path policy (TooLarge size) at = inl at
unseal_at held stored m state path policy (Bytes bytes) at = by (token_in bytes)
  where
    by : (read : Result Token FileError) → StandsAmong held stored (token_line state path policy read m).stops
    by (Ok (token.Literal handle literal)) = stops_first held stored state m (unsealed_line literal handle) at (λ s e. first_stop held stored m s literal handle e at)
    by (Ok (token.Bound handle)) = policy_first held stored m state handle (policy_needed m.files policy) at
    by (Err (file.Malformed place kind)) = inl at
    by (Err file.Memory) = inl at

pub unseal_first : (held : Option FileMap) (stored : Option Stored) (m : Machine) (state path policy : List ℕ) → StandsAt held stored m → StandsAmong held stored (unseal_line state path policy m).stops
unseal_first held stored m state path policy at = unseal_at held stored m state path policy (content_of m.files path 256) at

-- after the number of a session was used the machine stands as before
pub walked_stop : (held : Option FileMap) (stored : Option Stored) (m : Live) → StandsAt held stored (machine (record m { state = after_unseal m.state })) → StandsAmong held stored (machine m ∷ [])
walked_stop held stored m at = inl (record {
  files = at.files;
  device = at.device;
  tells = at.tells;
  same = (at.same.0, at.same.1, differs_then m.state (after_unseal m.state) at.same.0 (next_number m.state (nat_le 64 (length m.state.sessions) || nat_le 0x01000000 m.state.next_session)) at.same.2);
})
