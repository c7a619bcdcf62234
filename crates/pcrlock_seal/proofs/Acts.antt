-- `enroll` comes to its act, and each step of it keeps a tie.
use Rattle.std.proofs.Common.{◌≡◌, ℕ, ◌<◌, ◌^◌, Bool, true, false, cond, not, ◌&&◌, List, [], ◌∷◌, ◌++◌, length, refl, ap, subst, ◌∙◌, arith, Contains}
use Rattle.std.specs.Prelude.{Option, None, Some, Result, Ok, Err, nat_le, ◌==◌}
use Rattle.std.specs.Str.{bytes_eq}
use Rattle.std.proofs.lemmas.Bool.{and_from, cond_both, le-leb, leb-false}
use Rattle.std.proofs.lemmas.List.Elements.{Contains-append_left}
use Rattle.std.proofs.lemmas.Slice.Eq.{bytes_eq-Decides}
use Rattle.pl_base.specs.FileMap.{FileMap}
use Rattle.hash_bank.specs.declared.bank.Bank.{Bank}
use Rattle.hash_bank.specs.HashedString.{HashedString}
use Rattle.policy_file.specs.declared.policy.Policy.{Policy}
use Rattle.policy_file.specs.declared.token.Literal.{Literal}
use Rattle.tpm_model.specs.declared.parts.Parts.{Parts}
use Rattle.tpm_model.specs.declared.response.Response.{Response}
use Rattle.tpm_model.specs.declared.command.Command.{Command}
use Rattle.tpm_model.specs.declared.command.Command.TheVariants as command
use Rattle.tpm_model.specs.Binding.{index_policy, literal_policy}
use Rattle.tpm_model.specs.Events.{Event, SealTo, accepted_world, bound_world, command_of, world_after}
use Rattle.tpm_model.specs.Respond.{respond}
use Rattle.tpm_model.specs.ObjectCommands.{is_policy_size, object_handle, seal}
use Rattle.tpm_model.specs.Pcrs.{pcr_of}
use Rattle.tpm_model.specs.World.{FiledPolicy, World, hashed_world}
use Rattle.tpm_device.specs.Stored.{Holds}
use Rattle.tpm_worlds.specs.WholeEvents.{IsSoundEvent}
use Rattle.pcrlock_answer.specs.declared.answer.Answer.{Answer}
use Rattle.pcrlock_line.specs.Machine.{Live, Machine, machine}
use Rattle.pcrlock_line.specs.Outcome.{Ending, Outcome}
use Rattle.pcrlock_line.specs.Worlds.{by_state}
use Rattle.pcrlock_deeds.specs.Acts.{IsAct, IsDone, IsSoundAct, SameStops, act_outcome, act_world}
use Rattle.pcrlock_deeds.specs.Deed.{Deed, keeps}
use Rattle.pcrlock_deeds.specs.Doings.{after, ending, hashed, outcome, stops, world}
use Rattle.pcrlock_deeds.specs.Filed.{Filed, IsFiledAs}
use Rattle.pcrlock_deeds.specs.PolicyAt.{policy_needed}
use Rattle.pcrlock_deeds.specs.Sound.{FileRule, IsSound}
use Rattle.pcrlock_deeds.specs.Steps.{answer_to, booted_live, sent_live}
use Rattle.pcrlock_deeds.proofs.Done.{done_itself, sound_on, works_on, world_on}
use Rattle.pcrlock_seal.specs.declared.condition.Condition.{Condition}
use Rattle.pcrlock_seal.specs.declared.condition.Condition.TheVariants as conditions
use Rattle.pcrlock_seal.specs.Acts.{author_by, author_where, bound_deed, bound_to, enroll_act, enroll_bound_act, enroll_deed, key_deed, literal_author, policy_act, seal_deed, token_deed, value_deed}
use Rattle.pcrlock_seal.specs.Condition.{condition_policy, condition_strings, index_condition}
use Rattle.pcrlock_seal.specs.Enroll.{bound_line, enroll_bound_line, enroll_line, enrolled_line, key_sealed, literal_now, sealed_handle, token_written, under_policy, with_key, with_value}
use Rattle.pcrlock_seal.specs.EnrollWorld.{enroll_world, key_world, sealed_or, strings_of, value_world, with_key_world}
use Rattle.pcrlock_seal.proofs.Enrolled.{policy_bank}

-- the end, the machine afterwards and the machines between are those
record IsSo (o : Outcome) (last : Ending) (end : Machine) (between : List Machine) : Type 0 where
  pub ending : o.ending ≡ last
  pub after : o.after ≡ end
  pub stops : SameStops o.stops between

abbrev DoesSo : Outcome → Deed → Live → Type 0
DoesSo o deed m = IsSo o (ending deed m) (machine (after deed m)) (stops deed m)

-- what a sealed object's token, or the refusal, comes to behind one command that left this state
token_so : (path : List ℕ) (condition : Condition) (found : Option ℕ) (response : Response) (s : Parts) (m : Live)
    → (let d = token_deed path condition response found in let on = booted_live s m in IsSo (token_written path condition found response s m) (ending d on) (machine (after d on)) (machine m ∷ stops d on))
token_so path condition (Some handle) response s m = record { ending = refl; after = refl; stops = λ held kept. (λ h. h, λ h. h) }
token_so path condition None response s m = record { ending = refl; after = refl; stops = λ held kept. (λ h. h, λ h. h) }

-- whoever its author is, the command is the seal
abbrev Seals : Condition → (List ℕ → Event) → Type 0
Seals condition author = (key : List ℕ) → command_of (author key) ≡ command.Seal (condition_policy condition) key

seal_so : (path : List ℕ) (condition : Condition) (event : Event) (key : List ℕ) (m : Live) → command_of event ≡ command.Seal (condition_policy condition) key
    → DoesSo (key_sealed path condition key m) (seal_deed path condition event) m
seal_so path condition event key m is =
    let P : Command → Type 0 = λ c. (let r = respond c m.state in DoesSo (token_written path condition (sealed_handle r.0) r.0 r.1 m) (seal_deed path condition event) m) in
    let r = respond (command_of event) m.state in
    subst P is (token_so path condition (sealed_handle r.0) r.0 r.1 m)

key_so : (path : List ℕ) (condition : Condition) (author : List ℕ → Event) → Seals condition author → (key : Option (List ℕ)) (held : FileMap) (s : Parts) (words : List (List ℕ))
    → (let m : Live = record { files = held; state = s; draws = words } in DoesSo (with_key path condition key words m) (key_deed path condition author key) m)
key_so path condition author seals (Some key) held s words = seal_so path condition (author key) key (record { files = held; state = s; draws = words }) (seals key)
key_so path condition author seals None held s [] = record { ending = refl; after = refl; stops = λ held kept. (λ h. h, λ h. h) }
key_so path condition author seals None held s (word ∷ rest) = seal_so path condition (author word) word (record { files = held; state = s; draws = rest }) (seals word)

-- in any case the strings of the condition are hashed
written_hashed : (path : List ℕ) (condition : Condition) (found : Option ℕ) (response : Response) (s : Parts) (m : Live) → (token_written path condition found response s m).hashed ≡ condition_strings condition
written_hashed path condition (Some handle) response s m = refl
written_hashed path condition None response s m = refl

key_hashed : (path : List ℕ) (condition : Condition) (key : Option (List ℕ)) (draws : List (List ℕ)) (m : Live) → (with_key path condition key draws m).hashed ≡ condition_strings condition
key_hashed path condition (Some key) draws m = written_hashed path condition _ _ _ m
key_hashed path condition None (word ∷ rest) m = written_hashed path condition _ _ _ (record m { draws = rest })
key_hashed path condition None [] m = refl

-- ---- with a literal

-- a literal's strings come with its event
literal_hashed : (path : List ℕ) (literal : Literal) (key : Option (List ℕ)) (held : FileMap) (s : Parts) (words : List (List ℕ)) (x : HashedString) → Contains (strings_of literal) x
    → Contains (hashed (key_deed path (conditions.Value literal) (literal_author literal) key) (record { files = held; state = s; draws = words })) x
literal_hashed path literal (Some key) held s words x h = Contains-append_left (strings_of literal) _ x h
literal_hashed path literal None held s [] x h = Contains-append_left (strings_of literal) [] x h
literal_hashed path literal None held s (word ∷ rest) x h = Contains-append_left (strings_of literal) _ x h

key_given_as : (path : List ℕ) (literal : Literal) (key : Option (List ℕ)) (held : FileMap) (s : Parts) (words : List (List ℕ))
    → (let m : Live = record { files = held; state = s; draws = words } in IsDone (with_key path (conditions.Value literal) key words m) (outcome (key_deed path (conditions.Value literal) (literal_author literal) key) m))
key_given_as path literal key held s words =
    let m : Live = record { files = held; state = s; draws = words } in
    let so = key_so path (conditions.Value literal) (literal_author literal) (λ k. refl) key held s words in
    record {
      ending = so.ending;
      after = so.after;
      stops = so.stops;
      hashed = λ x h. literal_hashed path literal key held s words x (subst (λ strings. Contains strings x) (key_hashed path (conditions.Value literal) key words m) h);
    }

value_read_as : (path : List ℕ) (pcr : ℕ) (bank : Bank) (key value : Option (List ℕ)) (m : Live)
    → IsDone (with_value path pcr bank key value m) (outcome (value_deed path pcr bank key value) m)
value_read_as path pcr bank key None m = done_itself (with_value path pcr bank key None m)
value_read_as path pcr bank key (Some value) m = key_given_as path (literal_now bank pcr value) key m.files m.state m.draws

pub enroll_is : (state path : List ℕ) (pcr : ℕ) (bank : Bank) (key : Option (List ℕ)) → IsAct (enroll_line state path pcr bank key) state (enroll_act path pcr bank key)
unfolding enroll_act
enroll_is state path pcr bank key m w =
    works_on (enrolled_line path pcr bank key) (enroll_deed path pcr bank key) state m
    (λ live. value_read_as path pcr bank key (pcr_of live.state.banks live.state.pcrs bank pcr) live)

-- ---- under a policy

author_is : (filed : FiledPolicy) (policy key : List ℕ) (same : Bool) → bytes_eq (index_policy filed.handle filed.pin) policy ≡ same → command_of (author_where same filed policy key) ≡ command.Seal policy key
author_is filed policy key true e = ap (λ p. command.Seal p key) ((bytes_eq-Decides (index_policy filed.handle filed.pin) policy).0 e)
author_is filed policy key false e = refl

author_seals : (condition : Condition) (filed : Option FiledPolicy) → Seals condition (author_by filed (condition_policy condition))
author_seals condition None key = refl
author_seals condition (Some filed) key = author_is filed (condition_policy condition) key (bytes_eq (index_policy filed.handle filed.pin) (condition_policy condition)) refl

bound_as : (path : List ℕ) (condition : Condition) (filed : Option FiledPolicy) (key : Option (List ℕ)) (m : Live)
    → IsDone (with_key path condition key m.draws m) (outcome (bound_deed path condition filed key) m)
bound_as path condition filed key m =
    let so = key_so path condition (author_by filed (condition_policy condition)) (author_seals condition filed) key m.files m.state m.draws in
    record {
      ending = so.ending;
      after = so.after;
      stops = so.stops;
      hashed = λ x h. Contains-append_left (condition_strings condition) _ x (subst (λ strings. Contains strings x) (key_hashed path condition key m.draws m) h);
    }

policy_is : (state path : List ℕ) (key : Option (List ℕ)) (filed : Option FiledPolicy) (needed : Result Policy Answer) (m : Machine)
    → IsDone (under_policy state path key needed m) (act_outcome (policy_act path key filed needed) state m)
policy_is state path key filed (Ok policy) m =
    works_on (bound_line path policy key) (bound_deed path (index_condition policy) filed key) state m (λ live. bound_as path (index_condition policy) filed key live)
policy_is state path key filed (Err answer) m = done_itself (under_policy state path key (Err answer) m)

pub enroll_bound_is : (state path policy : List ℕ) (key : Option (List ℕ)) → IsAct (enroll_bound_line state path policy key) state (enroll_bound_act path policy key)
unfolding enroll_bound_act
enroll_bound_is state path policy key m w = policy_is state path key w.filed (policy_needed m.files policy) m

-- ---- each step is sound: the author's binding is, and the file at the token's path may be written

module _ (Files : FileRule) (path : List ℕ) (may : (live : Live) (v : World) → Files path keeps live v) where
  token_sound : (condition : Condition) (response : Response) (found : Option ℕ) (m : Live) (w : World) → IsSound Files (token_deed path condition response found) m w
  token_sound condition response (Some handle) m w = (may _ w, tt)
  token_sound condition response None m w = tt

  seal_sound : (condition : Condition) (event : Event) (m : Live) (w : World) → IsSoundEvent event w → IsSound Files (seal_deed path condition event) m w
  seal_sound condition event m w is =
      (is, token_sound condition (answer_to event m) (sealed_handle (answer_to event m)) (sent_live event m) (world_after event m.state w))

  key_sound : (condition : Condition) (author : List ℕ → Event) (key : Option (List ℕ)) (held : FileMap) (s : Parts) (words : List (List ℕ)) (w : World)
      → ((k : List ℕ) → IsSoundEvent (author k) w) → IsSound Files (key_deed path condition author key) (record { files = held; state = s; draws = words }) w
  key_sound condition author (Some key) held s words w are = seal_sound condition (author key) (record { files = held; state = s; draws = words }) w (are key)
  key_sound condition author None held s [] w are = tt
  key_sound condition author None held s (word ∷ rest) w are = seal_sound condition (author word) (record { files = held; state = s; draws = rest }) w (are word)

  value_read_sound : (pcr : ℕ) (bank : Bank) (key value : Option (List ℕ)) (m : Live) (w : World) → IsSound Files (value_deed path pcr bank key value) m w
  value_read_sound pcr bank key None m w = tt
  value_read_sound pcr bank key (Some value) m w =
      key_sound (conditions.Value (literal_now bank pcr value)) (literal_author (literal_now bank pcr value)) key m.files m.state m.draws w (λ k. (policy_bank bank, tt))

  author_sound : (filed : FiledPolicy) (policy key : List ℕ) (same : Bool) (w : World) → Contains w.pins filed.pin → filed.handle < 2 ^ 32 → IsSoundEvent (author_where same filed policy key) w
  author_sound filed policy key true w known small = (known, small)
  author_sound filed policy key false w known small = tt

  filed_sound : (held : FileMap) (under : List ℕ) (filed : Option FiledPolicy) (strings : List HashedString) (w : World) (policy key : List ℕ) → IsFiledAs held under w filed
      → IsSoundEvent (author_by filed policy key) (hashed_world strings w)
  filed_sound held under None strings w policy key is = tt
  filed_sound held under (Some filed) strings w policy key is =
      author_sound filed policy key (bytes_eq (index_policy filed.handle filed.pin) policy) (hashed_world strings w) is.known
      (subst (λ n. n < 2 ^ 32) is.handle (omega (arith, is.valid.handle.1)))

  policy_sound : (key : Option (List ℕ)) (under : List ℕ) (needed : Result Policy Answer) (m : Machine) (w : World) → ((s : Parts) → m.device ≡ Holds s → Filed m.files under w)
      → IsSoundAct Files (policy_act path key w.filed needed) m w
  policy_sound key under (Ok policy) m w filed =
      let condition = index_condition policy in
      sound_on Files (bound_deed path condition w.filed key) m w
      (λ s e. key_sound condition (author_by w.filed (condition_policy condition)) key m.files s m.draws (hashed_world (condition_strings condition) w)
      (λ k. filed_sound m.files under w.filed (condition_strings condition) w (condition_policy condition) k (filed s e)))
  policy_sound key under (Err answer) m w filed = tt

pub enroll_sound : (Files : FileRule) (path : List ℕ) (pcr : ℕ) (bank : Bank) (key : Option (List ℕ)) (m : Machine) (w : World)
    → ((live : Live) (v : World) → Files path keeps live v) → IsSoundAct Files (enroll_act path pcr bank key m w) m w
unfolding enroll_act
enroll_sound Files path pcr bank key m w may =
    sound_on Files (enroll_deed path pcr bank key) m w
    (λ s e. value_read_sound Files path may pcr bank key (pcr_of s.banks s.pcrs bank pcr) (record { files = m.files; state = s; draws = m.draws }) w)

-- what is filed is in a policy file, whichever
pub enroll_bound_sound : (Files : FileRule) (path policy under : List ℕ) (key : Option (List ℕ)) (m : Machine) (w : World)
    → ((live : Live) (v : World) → Files path keeps live v) → ((s : Parts) → m.device ≡ Holds s → Filed m.files under w) → IsSoundAct Files (enroll_bound_act path policy key m w) m w
unfolding enroll_bound_act
enroll_bound_sound Files path policy under key m w may filed = policy_sound Files path may key under (policy_needed m.files policy) m w filed

-- ---- the world

-- the token changes nothing in the world
pub token_world : (path : List ℕ) (condition : Condition) (response : Response) (found : Option ℕ) (m : Live) (w : World) → world (token_deed path condition response found) m w ≡ w
token_world path condition response (Some handle) m w = refl
token_world path condition response None m w = refl

-- numbers of objects that may be used give handles of objects
pub in_range : (number : ℕ) → nat_le 0x00800000 number ≡ false → (nat_le 0x81000000 (object_handle number) && nat_le (object_handle number) 0x817FFFFF) ≡ true
in_range number free =
    let small : number < 0x00800000 = leb-false 0x00800000 number free in
    and_from (nat_le 0x81000000 (object_handle number)) (nat_le (object_handle number) 0x817FFFFF)
    (le-leb 0x81000000 (object_handle number) (omega arith)) (le-leb (object_handle number) 0x817FFFFF (omega (arith, small)))

-- the world gains the object of a handle in range
gained : (literal : Literal) (key : List ℕ) (handle : ℕ) (w : World) (within : Bool) → within ≡ true
    → bound_world handle key (bound_to literal) (hashed_world (strings_of literal) w) ≡ sealed_or (cond within (Some handle) None) key literal w
gained literal key handle w true e = refl
gained literal key handle w false e = absurd (cc e)

sealed_is : (literal : Literal) (key : List ℕ) (s : Parts) (w : World)
    → (let r = seal (literal_policy literal.hash literal.bank literal.pcr literal.value) key s in
    accepted_world (SealTo (bound_to literal) key) r.0 r.1 (hashed_world (strings_of literal) w) ≡ sealed_or (sealed_handle r.0) key literal w)
sealed_is literal key s w =
    let Gains : Response × Parts → Type 0 = λ r. accepted_world (SealTo (bound_to literal) key) r.0 r.1 (hashed_world (strings_of literal) w) ≡ sealed_or (sealed_handle r.0) key literal w in
    cond_both (length key == 0) _ _ Gains (λ _. refl) (λ _.
    cond_both (not (is_policy_size (length (literal_policy literal.hash literal.bank literal.pcr literal.value)))) _ _ Gains (λ _. refl) (λ _.
    cond_both (nat_le 64 (length s.objects)) _ _ Gains (λ _. refl) (λ _.
    cond_both (nat_le 0x00800000 s.next_object) _ _ Gains (λ _. refl) (λ free.
    gained literal key (object_handle s.next_object) w _ (in_range s.next_object free)))))

seal_world : (path : List ℕ) (literal : Literal) (key : List ℕ) (m : Live) (w : World) → world (seal_deed path (conditions.Value literal) (literal_author literal key)) m w ≡ key_world literal key m w
seal_world path literal key m w =
    let event = literal_author literal key in
    token_world path (conditions.Value literal) (answer_to event m) (sealed_handle (answer_to event m)) (sent_live event m) (world_after event m.state w)
    ∙ sealed_is literal key m.state w

key_given_world : (path : List ℕ) (literal : Literal) (key : Option (List ℕ)) (held : FileMap) (s : Parts) (words : List (List ℕ)) (w : World)
    → (let m : Live = record { files = held; state = s; draws = words } in world (key_deed path (conditions.Value literal) (literal_author literal) key) m w ≡ with_key_world literal key words m w)
key_given_world path literal (Some key) held s words w = seal_world path literal key (record { files = held; state = s; draws = words }) w
key_given_world path literal None held s [] w = refl
key_given_world path literal None held s (word ∷ rest) w = seal_world path literal word (record { files = held; state = s; draws = rest }) w

value_read_world : (path : List ℕ) (pcr : ℕ) (bank : Bank) (key value : Option (List ℕ)) (m : Live) (w : World)
    → world (value_deed path pcr bank key value) m w ≡ value_world pcr bank key value m w
value_read_world path pcr bank key None m w = refl
value_read_world path pcr bank key (Some value) m w = key_given_world path (literal_now bank pcr value) key m.files m.state m.draws w

-- the world after the act is that of the definition
pub enroll_world_is : (path : List ℕ) (pcr : ℕ) (bank : Bank) (key : Option (List ℕ)) (m : Machine) (w : World)
    → act_world (enroll_act path pcr bank key m w) m w ≡ by_state m.device m w (enroll_world pcr bank key)
unfolding enroll_act
enroll_world_is path pcr bank key m w =
    world_on (enroll_deed path pcr bank key) (enroll_world pcr bank key) m w
    (λ s e. value_read_world path pcr bank key (pcr_of s.banks s.pcrs bank pcr) (record { files = m.files; state = s; draws = m.draws }) w)
