-- `enroll` by the policy file binds the key to the filed index and pin.
use Rattle.std.proofs.Common.{◌≡◌, ℕ, ◌<◌, Bool, true, false, cond, not, ◌&&◌, List, [], ◌∷◌, ◌++◌, length, refl, sym, ap, subst, ◌∙◌}
use Rattle.std.specs.Prelude.{Option, None, Some, Result, Ok, Err, nat_le, ◌==◌}
use Rattle.std.specs.Cmp.{eq_by_cmp_equiv, nat_cmp_total}
use Rattle.std.specs.Cmp.Lexicographic.{nat_list_cmp_total}
use Rattle.std.specs.FinMap.{get, get-insert, insert}
use Rattle.std.specs.Str.{bytes_eq}
use Rattle.std.proofs.lemmas.Bool.{cond_both}
use Rattle.std.proofs.lemmas.Slice.Eq.{bytes_eq-Decides}
use Rattle.pl_base.specs.FileMap.{FileMap}
use Rattle.hash_bank.specs.HashedString.{HashedString}
use Rattle.hash_bank.specs.declared.bank.Bank.TheVariants.{Sha256}
use Rattle.nv_index.specs.IndexName.{index_name_of, written_public}
use Rattle.policy_digest.specs.Pin.{pin_policy_of}
use Rattle.policy_digest.specs.Policies.{policy_authorize_nv_of}
use Rattle.policy_file.specs.declared.policy.Policy.{Policy}
use Rattle.policy_file.specs.declared.token.Token.TheVariants as token
use Rattle.policy_file.specs.TokenText.{token_text}
use Rattle.tpm_model.specs.declared.parts.Parts.{Parts}
use Rattle.tpm_model.specs.declared.response.Response.{Response}
use Rattle.tpm_model.specs.declared.response.Response.TheVariants as answer
use Rattle.tpm_model.specs.Binding as binding
use Rattle.tpm_model.specs.Binding.{index_policy}
use Rattle.tpm_model.specs.Events.{Event, SealTo, accepted_world, bound_world, event_strings, world_after}
use Rattle.tpm_model.specs.ObjectCommands.{is_policy_size, object_handle, seal}
use Rattle.tpm_model.specs.World.{BoundObject, FiledPolicy, World, hashed_world}
use Rattle.pcrlock_answer.specs.declared.answer.Answer.{Answer}
use Rattle.pcrlock_line.specs.Machine.{Live, machine}
use Rattle.pcrlock_line.specs.Outcome.{Outcome}
use Rattle.pcrlock_deeds.specs.Acts.{act_world}
use Rattle.pcrlock_deeds.specs.Doings.{world}
use Rattle.pcrlock_deeds.specs.Filed.{IsFiled}
use Rattle.pcrlock_deeds.specs.PolicyAt.{needed_of, policy_needed}
use Rattle.pcrlock_deeds.specs.Steps.{answer_to, sent_live}
use Rattle.pcrlock_seal.specs.declared.condition.Condition.{Condition}
use Rattle.pcrlock_seal.specs.declared.condition.Condition.TheVariants as conditions
use Rattle.pcrlock_seal.specs.Acts.{author_where, bound_deed, enroll_bound_act, key_deed, policy_act, seal_deed}
use Rattle.pcrlock_seal.specs.BoundWorld.{IsBoundTo, SealsToFiled, is_fine, key_taken}
use Rattle.pcrlock_seal.specs.Condition.{condition_policy, condition_strings, index_condition}
use Rattle.pcrlock_seal.specs.Enroll.{key_sealed, sealed_handle, token_written, under_policy, with_key}
use Rattle.pcrlock_seal.proofs.Acts.{in_range, token_world}

-- what was put into a map is there
held_now : (held : FileMap) (path bytes : List ℕ) → get (insert held path bytes) path ≡ Some bytes
held_now held path bytes = get-insert nat_list_cmp_total held path bytes path ∙ ap (λ same. cond same (Some bytes) (get held path)) ((eq_by_cmp_equiv nat_list_cmp_total).refl path)

object_now : (w : World) (handle : ℕ) (secret : List ℕ) (b : binding.Binding) → get (bound_world handle secret b w).objects handle ≡ Some (record { secret = secret; binding = b })
object_now w handle secret b =
    let new : BoundObject = record { secret = secret; binding = b } in
    get-insert nat_cmp_total w.objects handle new handle ∙ ap (λ same. cond same (Some new) (get w.objects handle)) ((eq_by_cmp_equiv nat_cmp_total).refl handle)

module _ (path : List ℕ) (index : ℕ) (policy : List ℕ) (filed : FiledPolicy) where
  abbrev condition : Condition
  condition = conditions.Index index policy

  abbrev author : List ℕ → Event
  author key = SealTo (binding.Index filed.handle filed.pin) key

  -- the object was sealed under a handle in range
  accepted : (key : List ℕ) (handle : ℕ) (s : Parts) (m : Live) (v : World) (within : Bool) → within ≡ true
      → IsBoundTo (token_written path condition (cond within (Some handle) None) (answer.Object handle) s m) path key filed (bound_world handle key (binding.Index filed.handle filed.pin) v)
  accepted key handle s m v true e = record {
    handle = handle;
    printed = refl;
    written = held_now m.files path (token_text (token.Bound handle));
    object = object_now v handle key (binding.Index filed.handle filed.pin);
  }
  accepted key handle s m v false e = absurd (cc e)

  -- a refusal is no work
  abbrev Makes : List ℕ → Live → World → Response × Parts → Type 0
  Makes key m v r =
      is_fine (token_written path condition (sealed_handle r.0) r.0 r.1 m).ending ≡ true
      → IsBoundTo (token_written path condition (sealed_handle r.0) r.0 r.1 m) path key filed (accepted_world (author key) r.0 r.1 v)

  made : (p key : List ℕ) (m : Live) (v : World) → Makes key m v (seal p key m.state)
  made p key m v =
      cond_both (length key == 0) _ _ (Makes key m v) (λ _ fine. absurd (cc fine)) (λ _.
      cond_both (not (is_policy_size (length p))) _ _ (Makes key m v) (λ _ fine. absurd (cc fine)) (λ _.
      cond_both (nat_le 64 (length m.state.objects)) _ _ (Makes key m v) (λ _ fine. absurd (cc fine)) (λ _.
      cond_both (nat_le 0x00800000 m.state.next_object) _ _ (Makes key m v) (λ _ fine. absurd (cc fine)) (λ free fine.
      accepted key (object_handle m.state.next_object) _ m v _ (in_range m.state.next_object free)))))

  -- the policy is that of the filed index
  module _ (same : index_policy filed.handle filed.pin ≡ condition_policy condition) where
    sealed_so : (key : List ℕ) (m : Live) (w : World) → is_fine (key_sealed path condition key m).ending ≡ true
        → IsBoundTo (key_sealed path condition key m) path key filed (world (seal_deed path condition (author key)) m w)
    sealed_so key m w =
        let event = author key in
        let v : World = hashed_world (event_strings event m.state) w in
        let own = seal (index_policy filed.handle filed.pin) key m.state in
        let after : World = accepted_world event own.0 own.1 v in
        let Line : List ℕ → Outcome = λ p. (let r = seal p key m.state in token_written path condition (sealed_handle r.0) r.0 r.1 m) in
        let P : List ℕ → Type 0 = λ p. is_fine (Line p).ending ≡ true → IsBoundTo (Line p) path key filed after in
        subst (λ (x : World). is_fine (key_sealed path condition key m).ending ≡ true → IsBoundTo (key_sealed path condition key m) path key filed x)
        (sym (token_world path condition (answer_to event m) (sealed_handle (answer_to event m)) (sent_live event m) (world_after event m.state w)))
        (subst P same (made (index_policy filed.handle filed.pin) key m v))

    taken_so : (key : Option (List ℕ)) (held : FileMap) (s : Parts) (words : List (List ℕ)) (w : World)
        → (let m : Live = record { files = held; state = s; draws = words } in is_fine (with_key path condition key words m).ending ≡ true
        → IsBoundTo (with_key path condition key words m) path (key_taken key words) filed (world (key_deed path condition (author_where true filed (condition_policy condition)) key) m w))
    taken_so (Some key) held s words w = sealed_so key (record { files = held; state = s; draws = words }) w
    taken_so None held s [] w = λ fine. absurd (cc fine)
    taken_so None held s (word ∷ rest) w = sealed_so word (record { files = held; state = s; draws = rest }) w

    bound_so : (key : Option (List ℕ)) (m : Live) (w : World) → is_fine (with_key path condition key m.draws m).ending ≡ true
        → IsBoundTo (with_key path condition key m.draws m) path (key_taken key m.draws) filed (world (bound_deed path condition (Some filed) key) m w)
    bound_so key m w fine =
        let p = condition_policy condition in
        let v : World = hashed_world (condition_strings condition) w in
        let test : bytes_eq (index_policy filed.handle filed.pin) p ≡ true = (bytes_eq-Decides (index_policy filed.handle filed.pin) p).1 same in
        subst (λ (b : Bool). IsBoundTo (with_key path condition key m.draws m) path (key_taken key m.draws) filed (world (key_deed path condition (author_where b filed p) key) m v))
        (sym test) (taken_so key m.files m.state m.draws v fine)

pub enroll_bound_seals : (state path policy : List ℕ) (key : Option (List ℕ)) (m : Live) (w : World) → SealsToFiled state path policy key m w
unfolding enroll_bound_act
enroll_bound_seals state path policy key m w filed states is =
    let found = is.policy in
    let needed : policy_needed m.files policy ≡ Ok found = ap (needed_of policy) is.read in
    let name : ℕ → List ℕ → List ℕ = λ handle p. policy_authorize_nv_of Sha256 (index_name_of (written_public handle p)) in
    let same : index_policy filed.handle filed.pin ≡ condition_policy (index_condition found) =
    ap (λ handle. name handle (pin_policy_of filed.pin)) (sym is.handle) ∙ ap (name found.handle) (sym is.digest) in
    let Q : Option FiledPolicy → Result Policy Answer → Type 0 = λ f n.
    is_fine (under_policy state path key n (machine m)).ending ≡ true
    → IsBoundTo (under_policy state path key n (machine m)) path (key_taken key m.draws) filed (act_world (policy_act path key f n) (machine m) w) in
    subst (λ f. Q f (policy_needed m.files policy)) (sym states)
    (subst (λ n. Q (Some filed) n) (sym needed) (bound_so path found.handle found.index_policy filed same key m w))
