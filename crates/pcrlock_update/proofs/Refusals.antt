-- No change is refused but for the reasons that are named.
use Rattle.std.proofs.Common.{◌≡◌, ℕ, ◌+◌, ◌≤◌, ◌&&◌, ◌==◌, Bool, true, false, cond, not, List, [], ◌∷◌, ◌++◌, length, refl, sym, ap, ◌∙◌, arith}
use Rattle.std.specs.Prelude.{Option, None, Some, is_some, nat_le, nat_lt, codes, Result, Ok, Err}
use Rattle.std.specs.Str.{bytes_eq}
use Rattle.std.proofs.lemmas.Bool.{eq-eqb, le-leb, leb-false}
use Rattle.std.proofs.lemmas.Slice.Eq.{bytes_eq-Decides}
use Rattle.hash_bank.specs.declared.bank.Bank.TheVariants.{Sha256}
use Rattle.hash_bank.proofs.Sizes.{length-digest_in}
use Rattle.nv_index.specs.declared.index.Index.{Index}
use Rattle.nv_index.specs.declared.refusal.NvRefusal.{NvRefusal}
use Rattle.nv_index.specs.declared.refusal.NvRefusal.TheVariants as nv
use Rattle.nv_index.specs.Handles.{is_index_handle}
use Rattle.nv_index.specs.IndexName.{index_name_of, written_public}
use Rattle.nv_index.specs.Table.{define_refusal, index_at, undefine_refusal_of, write_refusal_of}
use Rattle.policy_digest.specs.Pin.{pin_policy_of, policy_signed_of}
use Rattle.policy_digest.specs.Policies.{policy_authorize_nv_of}
use Rattle.policy_digest.specs.Strings.{nv_string_in}
use Rattle.policy_file.specs.PolicyText.{IsIndex}
use Rattle.tpm_model.specs.declared.object.Object.{Object}
use Rattle.tpm_model.specs.declared.parts.Parts.{Parts}
use Rattle.tpm_model.specs.declared.response.Response.{Response}
use Rattle.tpm_model.specs.declared.response.Response.TheVariants as answer
use Rattle.tpm_model.specs.declared.response.Counter.TheVariants as counter
use Rattle.tpm_model.specs.declared.response.Refusal.TheVariants as refusal
use Rattle.tpm_model.specs.Binding.{index_policy}
use Rattle.tpm_model.specs.IndexCommands.{nv_define_unless, nv_undefine_unless, nv_write_unless}
use Rattle.tpm_model.specs.ObjectCommands.{evict_on, is_policy_size, object_handle}
use Rattle.pcrlock_answer.specs.declared.answer.Answer.{Answer}
use Rattle.pcrlock_answer.specs.declared.answer.Answer.TheVariants as said
use Rattle.pcrlock_update.specs.Changes.{refusal_in}
use Rattle.pcrlock_update.specs.declared.change.TpmChange.TheVariants as tpm
use Rattle.pcrlock_update.specs.NewPolicy.{new_public}
use Rattle.pcrlock_update.specs.Refusals.{RefusedOnly, refused_on}
use Rattle.pcrlock_update.specs.Sealed.{pin_sealed, sealed_in}

undefine_named : (s : Parts) (handle : ℕ) (index : Index) → index_at handle s.indices ≡ Some index → refused_on (tpm.Undefine handle) s ≡ None
undefine_named s handle index found = ap (λ o. refusal_in (tpm.Undefine handle) (nv_undefine_unless (undefine_refusal_of o) handle s).0) found

-- ---- a new index

inside : (handle : ℕ) → IsIndex handle → is_index_handle handle ≡ true
inside handle range = ap (λ b. b && nat_le handle 0x01FFFFFF) (le-leb 0x01000000 handle range.0) ∙ le-leb handle 0x01FFFFFF range.1

full_or_defined : (s : Parts) (handle : ℕ) (pin : List ℕ) (full : Bool)
    → refusal_in (tpm.Define (new_public handle pin)) (nv_define_unless (cond full (Some nv.TableFull) None) (new_public handle pin) s).0
    ≡ cond full (Some (said.Limit (codes "indices") 17)) None
full_or_defined s handle pin true = refl
full_or_defined s handle pin false = refl

define_named : (s : Parts) (handle : ℕ) (pin : List ℕ) → IsIndex handle → index_at handle s.indices ≡ None
    → refused_on (tpm.Define (new_public handle pin)) s ≡ cond (nat_le 16 (length s.indices)) (Some (said.Limit (codes "indices") 17)) None
define_named s handle pin range none =
    let full = nat_le 16 (length s.indices) in
    let last : Option NvRefusal = cond full (Some nv.TableFull) None in
    let size : (length (pin_policy_of pin) == 32) ≡ true = eq-eqb _ 32 (length-digest_in Sha256 (policy_signed_of pin)) in
    let why : define_refusal (new_public handle pin) s.indices ≡ last =
    ap (λ b. cond (not b) (Some nv.Handle) (cond (not (length (pin_policy_of pin) == 32)) (Some nv.Value) (cond (is_some (index_at handle s.indices)) (Some nv.Defined) last))) (inside handle range)
    ∙ ap (λ b. cond (not b) (Some nv.Value) (cond (is_some (index_at handle s.indices)) (Some nv.Defined) last)) size
    ∙ ap (λ o. cond (is_some o) (Some nv.Defined) last) none in
    ap (λ o. refusal_in (tpm.Define (new_public handle pin)) (nv_define_unless o (new_public handle pin) s).0) why ∙ full_or_defined s handle pin full

-- ---- a write

counted : (s : Parts) (handle : ℕ) (pin value : List ℕ) (ended : Bool) (done : Parts)
    → refusal_in (tpm.Write handle pin value) (cond {A = Response × Parts} ended (answer.Refused (refusal.CounterEnd counter.Writes), s) (answer.Done, done)).0
    ≡ cond ended (Some (said.CounterEnd true)) None
counted s handle pin value true done = refl
counted s handle pin value false done = refl

write_named : (s : Parts) (handle : ℕ) (index : Index) (pin value : List ℕ) → index_at handle s.indices ≡ Some index → index.public.policy ≡ pin_policy_of pin → length value ≡ 34
    → refused_on (tpm.Write handle pin value) s ≡ cond (s.write_counter == 4294967295) (Some (said.CounterEnd true)) None
write_named s handle index pin value found same long =
    let own : bytes_eq (pin_policy_of pin) index.public.policy ≡ true = (bytes_eq-Decides (pin_policy_of pin) index.public.policy).1 (sym same) in
    let why : write_refusal_of (index_at handle s.indices) (pin_policy_of pin) value ≡ None =
    ap (λ o. write_refusal_of o (pin_policy_of pin) value) found
    ∙ ap (λ b. cond (not b) (Some (nv.PinRefused (pin_policy_of pin) index.public.policy)) (cond (not (length value == 34)) (Some nv.Size) None)) own
    ∙ ap (λ b. cond (not b) (Some nv.Size) None) (eq-eqb (length value) 34 long) in
    ap (λ o. refusal_in (tpm.Write handle pin value) (nv_write_unless o handle value s).0) why ∙ counted s handle pin value (s.write_counter == 4294967295) _

-- ---- objects

evict_named : (s : Parts) (object : ℕ) (o : Option Object) → refusal_in (tpm.Evict object) (evict_on o object s).0 ≡ None
evict_named s object None = refl
evict_named s object (Some found) = refl

-- a number below the end has a handle of an object
numbered : (next : ℕ) → nat_le 0x00800000 next ≡ false → sealed_in (answer.Object (object_handle next)) ≡ Ok (object_handle next)
numbered next free =
    let below = leb-false 0x00800000 next free in
    ap (λ b. cond (b && nat_le (object_handle next) 0x817FFFFF) (Ok (object_handle next)) (Err said.Memory)) (le-leb 0x81000000 (object_handle next) (omega arith))
    ∙ ap (λ b. cond b (Ok (object_handle next)) (Err said.Memory)) (le-leb (object_handle next) 0x817FFFFF (omega (arith, below)))

-- sealing, by the lengths of the secret and of the policy
abbrev seal_tests : ℕ → ℕ → Parts → Parts → Response × Parts
seal_tests secret size s done =
    cond {A = Response × Parts} (secret == 0) (answer.Refused refusal.SealSize, s)
    (cond {A = Response × Parts} (not (is_policy_size size)) (answer.Refused refusal.Value, s)
    (cond {A = Response × Parts} (nat_le 64 (length s.objects)) (answer.Refused refusal.ObjectsFull, s)
    (cond {A = Response × Parts} (nat_le 0x00800000 s.next_object) (answer.Refused refusal.HandlesEnd, s) (answer.Object (object_handle s.next_object), done))))

by_numbers : (next : ℕ) (ended : Bool) (s done : Parts) → nat_le 0x00800000 next ≡ ended
    → sealed_in (cond {A = Response × Parts} ended (answer.Refused refusal.HandlesEnd, s) (answer.Object (object_handle next), done)).0
    ≡ cond ended (Err (said.Limit (codes "handles") 0x00800000)) (Ok (object_handle next))
by_numbers next true s done e = refl
by_numbers next false s done e = numbered next e

by_count : (full : Bool) (s : Parts) (more : Response × Parts) (given : Result ℕ Answer) → sealed_in more.0 ≡ given
    → sealed_in (cond {A = Response × Parts} full (answer.Refused refusal.ObjectsFull, s) more).0 ≡ cond full (Err (said.Limit (codes "objects") 65)) given
by_count true s more given e = refl
by_count false s more given e = e

seal_named : (s : Parts) (handle : ℕ) (pin : List ℕ) → length pin ≡ 32
    → sealed_in (pin_sealed handle pin s).0
    ≡ cond (nat_le 64 (length s.objects)) (Err (said.Limit (codes "objects") 65)) (cond (nat_le 0x00800000 s.next_object) (Err (said.Limit (codes "handles") 0x00800000)) (Ok (object_handle s.next_object)))
seal_named s handle pin long =
    let policy = index_policy handle pin in
    let size : length policy ≡ 32 = length-digest_in Sha256 (nv_string_in Sha256 (index_name_of (written_public handle (pin_policy_of pin)))) in
    let done : Parts = record s { next_object = s.next_object + 1; objects = s.objects ++ record { handle = object_handle s.next_object; policy = policy; secret = pin } ∷ [] } in
    ap (λ n. sealed_in (seal_tests n (length policy) s done).0) long
    ∙ ap (λ n. sealed_in (seal_tests 32 n s done).0) size
    ∙ by_count (nat_le 64 (length s.objects)) s _ _ (by_numbers s.next_object (nat_le 0x00800000 s.next_object) s done refl)

pub refused_only : (s : Parts) → RefusedOnly s
refused_only s = record {
  undefine = undefine_named s;
  define = define_named s;
  write = write_named s;
  evict = λ object. evict_named s object _;
  seal = seal_named s;
}
