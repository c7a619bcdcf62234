-- `unseal` comes to its act, and each step of it keeps a tie.
use Rattle.std.proofs.Common.{◌≡◌, ℕ, List, [], ◌∷◌, inl, inr, refl, sym, ap}
use Rattle.std.specs.Prelude.{Option, None, Some, Result, Ok, Err}
use Rattle.std.proofs.lemmas.List.{append-nil}
use Rattle.std.proofs.lemmas.List.Elements.{Contains-append_left}
use Rattle.hash_bank.specs.HashedString.{HashedString}
use Rattle.nv_index.specs.declared.index.NvPublic.{NvPublic}
use Rattle.policy_digest.specs.PlainTable.{PlainTable}
use Rattle.policy_walk.specs.Choosing.{chosen_of}
use Rattle.policy_session.specs.declared.index.IndexError.{IndexError}
use Rattle.pcrlock_answer.specs.declared.answer.Answer.{Answer}
use Rattle.policy_file.specs.declared.policy.Policy.{Policy}
use Rattle.policy_file.specs.declared.error.FileError.{FileError}
use Rattle.policy_file.specs.declared.error.FileError.TheVariants as file
use Rattle.policy_file.specs.declared.token.Literal.{Literal}
use Rattle.policy_file.specs.declared.token.Token.{Token}
use Rattle.policy_file.specs.declared.token.Token.TheVariants as token
use Rattle.policy_file.specs.TokenReading.{token_in}
use Rattle.tpm_model.specs.World.{World, hashed_world}
use Rattle.tpm_device.specs.Stored.{Stored, Holds}
use Rattle.tpm_device.specs.Stored as stored
use Rattle.pcrlock_line.specs.Begun.{by_device}
use Rattle.pcrlock_line.specs.Content.{Content, Missing, TooLarge, Bytes, content_of}
use Rattle.tpm_model.specs.declared.parts.Parts.{Parts}
use Rattle.pcrlock_line.specs.Machine.{Machine, Live, machine}
use Rattle.pcrlock_line.specs.Outcome.{Ending, Outcome}
use Rattle.pcrlock_line.specs.Worlds.{by_state}
use Rattle.pcrlock_deeds.specs.Acts.{IsAct, IsDone, IsSoundAct, act_outcome, act_world}
use Rattle.pcrlock_deeds.specs.Doings.{outcome, world}
use Rattle.pcrlock_deeds.specs.Deed.{hashes}
use Rattle.pcrlock_deeds.specs.PolicyAt.{policy_needed}
use Rattle.pcrlock_deeds.specs.Sound.{FileRule, IsSound}
use Rattle.pcrlock_deeds.proofs.Done.{done_itself, sound_on, works_on}
use Rattle.pcrlock_open.specs.Acts.{bound_deed, content_act, held_deed, policy_act, table_deed, token_act, unseal_act, unseal_deed}
use Rattle.pcrlock_open.specs.Bound.{bound_on, held_after, held_by, held_ending, held_strings, plain_tables, table_after}
use Rattle.pcrlock_open.specs.Unseal.{content_line, policy_line, present_value, token_line, unseal_line, unsealed_line, value_strings}
use Rattle.pcrlock_open.proofs.Stops.{walked_stop}

-- the machine after a session of one's own stands as the one before
opens_as : (literal : Literal) (handle : ℕ) (m : Live) → IsDone (unsealed_line literal handle m) (outcome (unseal_deed literal handle) m)
opens_as literal handle m = record {
  ending = refl;
  after = refl;
  stops = λ held kept. (
    λ h. elim h [
      | inl at ↦ inl at
      | inr none ↦ absurd none
    ],
    λ h. elim h [
      | inl at ↦ inl at
      | inr more ↦ elim more [
        | inl at ↦ walked_stop held kept m at
        | inr none ↦ absurd none
      ]
    ],
  );
  hashed = λ x h. Contains-append_left (value_strings (present_value literal m.state) literal) [] x h;
}

-- the strings are hashed, and a session walks where a table was chosen
abbrev opening : Ending → List HashedString → Live → Parts → Outcome
opening last strings m s = record { ending = last; after = machine (record m { state = s }); hashed = strings; stops = machine m ∷ [] }

table_as : (last : Ending) (strings : List HashedString) (m : Live) (table : Option PlainTable) → IsDone (opening last strings m (table_after m.state table)) (outcome (hashes strings (table_deed last table)) m)
table_as last strings m None = record { ending = refl; after = refl; stops = λ held kept. (λ h. h, λ h. h); hashed = λ x h. Contains-append_left strings [] x h }
table_as last strings m (Some table) = record {
  ending = refl;
  after = refl;
  stops = λ held kept. (
    λ h. elim h [
      | inl at ↦ inl at
      | inr none ↦ absurd none
    ],
    λ h. elim h [
      | inl at ↦ inl at
      | inr more ↦ elim more [
        | inl at ↦ walked_stop held kept m at
        | inr none ↦ absurd none
      ]
    ],
  );
  hashed = λ x h. Contains-append_left strings [] x h;
}

held_as : (policy : Policy) (last : Ending) (strings : List HashedString) (m : Live) (held : Result (NvPublic × List ℕ) IndexError)
    → IsDone (opening last strings m (held_after policy m.state held)) (outcome (hashes strings (held_deed policy last held)) m)
held_as policy last strings m (Ok held) = table_as last strings m (chosen_of held.1 (plain_tables policy))
held_as policy last strings m (Err why) = table_as last strings m None

bound_as : (policy : Policy) (handle : ℕ) (m : Live) → IsDone (bound_on policy handle m) (outcome (bound_deed policy handle) m)
bound_as policy handle m = held_as policy (held_ending policy handle m.state) (held_strings policy m.state (held_by policy m.state)) m (held_by policy m.state)

policy_is : (state : List ℕ) (handle : ℕ) (needed : Result Policy Answer) (m : Machine) → IsDone (policy_line state handle needed m) (act_outcome (policy_act handle needed) state m)
policy_is state handle (Ok policy) m = works_on (bound_on policy handle) (bound_deed policy handle) state m (λ live. bound_as policy handle live)
policy_is state handle (Err answer) m = done_itself (policy_line state handle (Err answer) m)

token_is : (state path policy : List ℕ) (read : Result Token FileError) (m : Machine) → IsDone (token_line state path policy read m) (act_outcome (token_act path policy read m) state m)
token_is state path policy (Ok (token.Literal handle literal)) m = works_on (unsealed_line literal handle) (unseal_deed literal handle) state m (λ live. opens_as literal handle live)
token_is state path policy (Ok (token.Bound handle)) m = policy_is state handle (policy_needed m.files policy) m
token_is state path policy (Err (file.Malformed at kind)) m = done_itself (token_line state path policy (Err (file.Malformed at kind)) m)
token_is state path policy (Err file.Memory) m = done_itself (token_line state path policy (Err file.Memory) m)

content_is : (state path policy : List ℕ) (content : Content) (m : Machine) → IsDone (content_line state path policy content m) (act_outcome (content_act path policy content m) state m)
content_is state path policy Missing m = done_itself (content_line state path policy Missing m)
content_is state path policy (TooLarge size) m = done_itself (content_line state path policy (TooLarge size) m)
content_is state path policy (Bytes bytes) m = token_is state path policy (token_in bytes) m

pub unseal_is : (state path policy : List ℕ) → IsAct (unseal_line state path policy) state (unseal_act path policy)
unfolding unseal_act
unseal_is state path policy m w = content_is state path policy (content_of m.files path 256) m

-- no step of it asks for anything
table_sound : (Files : FileRule) (last : Ending) (table : Option PlainTable) (m : Live) (w : World) → IsSound Files (table_deed last table) m w
table_sound Files last None m w = tt
table_sound Files last (Some table) m w = tt

held_sound : (Files : FileRule) (policy : Policy) (last : Ending) (held : Result (NvPublic × List ℕ) IndexError) (m : Live) (w : World) → IsSound Files (held_deed policy last held) m w
held_sound Files policy last (Ok held) m w = table_sound Files last (chosen_of held.1 (plain_tables policy)) m w
held_sound Files policy last (Err why) m w = tt

policy_sound : (Files : FileRule) (handle : ℕ) (needed : Result Policy Answer) (m : Machine) (w : World) → IsSoundAct Files (policy_act handle needed) m w
policy_sound Files handle (Ok policy) m w = sound_on Files (bound_deed policy handle) m w (λ s e. held_sound Files policy (held_ending policy handle s) (held_by policy s) _ _)
policy_sound Files handle (Err answer) m w = tt

token_sound : (Files : FileRule) (path policy : List ℕ) (read : Result Token FileError) (m : Machine) (w : World) → IsSoundAct Files (token_act path policy read m) m w
token_sound Files path policy (Ok (token.Literal handle literal)) m w = sound_on Files (unseal_deed literal handle) m w (λ s e. tt)
token_sound Files path policy (Ok (token.Bound handle)) m w = policy_sound Files handle (policy_needed m.files policy) m w
token_sound Files path policy (Err (file.Malformed at kind)) m w = tt
token_sound Files path policy (Err file.Memory) m w = tt

content_sound : (Files : FileRule) (path policy : List ℕ) (content : Content) (m : Machine) (w : World) → IsSoundAct Files (content_act path policy content m) m w
content_sound Files path policy Missing m w = tt
content_sound Files path policy (TooLarge size) m w = tt
content_sound Files path policy (Bytes bytes) m w = token_sound Files path policy (token_in bytes) m w

pub unseal_sound : (Files : FileRule) (path policy : List ℕ) (m : Machine) (w : World) → IsSoundAct Files (unseal_act path policy m w) m w
unfolding unseal_act
unseal_sound Files path policy m w = content_sound Files path policy (content_of m.files path 256) m w

-- the world gains the line's strings, and nothing else
no_strings : (w : World) → w ≡ hashed_world [] w
no_strings w = ap (λ (xs : List HashedString). record w { hashed = xs }) (sym (append-nil w.hashed))

literal_world : (kept : Stored) (state : List ℕ) (literal : Literal) (handle : ℕ) (m : Machine) (w : World)
    → by_state kept m w (world (unseal_deed literal handle)) ≡ hashed_world (by_device kept state m (unsealed_line literal handle)).hashed w
literal_world (Holds s) state literal handle m w = refl
literal_world (stored.TooLarge size) state literal handle m w = no_strings w
literal_world (stored.Malformed place) state literal handle m w = no_strings w
literal_world (stored.BadRule rule) state literal handle m w = no_strings w

table_world : (last : Ending) (table : Option PlainTable) (m : Live) (w : World) → world (table_deed last table) m w ≡ w
table_world last None m w = refl
table_world last (Some table) m w = refl

held_world : (policy : Policy) (last : Ending) (held : Result (NvPublic × List ℕ) IndexError) (m : Live) (w : World) → world (held_deed policy last held) m w ≡ w
held_world policy last (Ok held) m w = table_world last (chosen_of held.1 (plain_tables policy)) m w
held_world policy last (Err why) m w = refl

bound_world : (kept : Stored) (state : List ℕ) (policy : Policy) (handle : ℕ) (m : Machine) (w : World)
    → by_state kept m w (world (bound_deed policy handle)) ≡ hashed_world (by_device kept state m (bound_on policy handle)).hashed w
bound_world (Holds s) state policy handle m w =
    held_world policy (held_ending policy handle s) (held_by policy s) (record { files = m.files; state = s; draws = m.draws }) (hashed_world (held_strings policy s (held_by policy s)) w)
bound_world (stored.TooLarge size) state policy handle m w = no_strings w
bound_world (stored.Malformed place) state policy handle m w = no_strings w
bound_world (stored.BadRule rule) state policy handle m w = no_strings w

policy_world : (state : List ℕ) (handle : ℕ) (needed : Result Policy Answer) (m : Machine) (w : World)
    → act_world (policy_act handle needed) m w ≡ hashed_world (policy_line state handle needed m).hashed w
policy_world state handle (Ok policy) m w = bound_world m.device state policy handle m w
policy_world state handle (Err answer) m w = no_strings w

token_world : (state path policy : List ℕ) (read : Result Token FileError) (m : Machine) (w : World)
    → act_world (token_act path policy read m) m w ≡ hashed_world (token_line state path policy read m).hashed w
token_world state path policy (Ok (token.Literal handle literal)) m w = literal_world m.device state literal handle m w
token_world state path policy (Ok (token.Bound handle)) m w = policy_world state handle (policy_needed m.files policy) m w
token_world state path policy (Err (file.Malformed at kind)) m w = no_strings w
token_world state path policy (Err file.Memory) m w = no_strings w

content_world : (state path policy : List ℕ) (content : Content) (m : Machine) (w : World)
    → act_world (content_act path policy content m) m w ≡ hashed_world (content_line state path policy content m).hashed w
content_world state path policy Missing m w = no_strings w
content_world state path policy (TooLarge size) m w = no_strings w
content_world state path policy (Bytes bytes) m w = token_world state path policy (token_in bytes) m w

pub unseal_world : (state path policy : List ℕ) (m : Machine) (w : World) → act_world (unseal_act path policy m w) m w ≡ hashed_world (unseal_line state path policy m).hashed w
unfolding unseal_act
unseal_world state path policy m w = content_world state path policy (content_of m.files path 256) m w
