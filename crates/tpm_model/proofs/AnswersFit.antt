-- Every answer of the TPM fits its command.
use Rattle.std.proofs.Common.{◌≡◌, ℕ, ◌^◌, ◌<◌, Bool, true, false, not, List, length, ◌||◌, refl, ap, ◌∙◌, arith}
use Rattle.std.specs.Prelude.{nat_le, nat_lt, ◌==◌, Option, None, Some, Result, Ok, Err, IfOk, is_some, slice_get}
use Rattle.std.specs.Str.{bytes_eq}
use Rattle.std.proofs.lemmas.Bool.{and_from, cond_both, eq-eqb, leb-false, le-leb}
use Rattle.hash_bank.specs.declared.bank.Bank.{Bank}
use Rattle.hash_bank.specs.declared.bank.Bank.TheVariants.{Sha1, Sha256, Sha384, Sha512}
use Rattle.hash_bank.specs.declared.banks.Banks.{Banks}
use Rattle.hash_bank.specs.declared.digests.Digests.{Digests}
use Rattle.hash_bank.specs.Banks.{has_bank}
use Rattle.nv_index.specs.Attributes.{content_size, defined_attributes}
use Rattle.nv_index.specs.Handles.{is_index_handle}
use Rattle.nv_index.specs.Table.{content_of, index_at, public_of, read_of, undefine_refusal_of, write_refusal_of}
use Rattle.nv_index.specs.declared.index.Index.{Index}
use Rattle.nv_index.specs.declared.index.NvPublic.{NvPublic}
use Rattle.nv_index.specs.declared.index.Written.{Written}
use Rattle.nv_index.specs.declared.refusal.NvRefusal.{NvRefusal}
use Rattle.policy_digest.specs.Pin.{pin_policy_of}
use Rattle.tpm_model.specs.IndexCommands.{content_answer, nv_define, nv_define_unless, nv_read, nv_read_public, nv_undefine, nv_undefine_unless, nv_write, nv_write_unless, public_answer}
use Rattle.tpm_model.specs.declared.command.Command.{Command}
use Rattle.tpm_model.specs.declared.command.Command.TheVariants as command
use Rattle.tpm_model.specs.declared.response.Response.{Response}
use Rattle.tpm_model.specs.declared.parts.Parts.{Parts}
use Rattle.tpm_model.specs.declared.sessions.Session.{Session}
use Rattle.tpm_model.specs.declared.object.Object.{Object}
use Rattle.tpm_model.specs.Fits.{fits, is_same_bank}
use Rattle.tpm_model.specs.ObjectCommands.{is_policy_size, seal, unseal, unseal_noted, unseal_of, unseal_on, evict, evict_on}
use Rattle.tpm_model.specs.PcrCommands.{is_start_locality, pcr_extend, pcr_read, restart, value_or_absent}
use Rattle.tpm_model.specs.Pcrs.{bank_count, pcr_of}
use Rattle.tpm_model.specs.Respond.{respond}
use Rattle.tpm_model.specs.SessionCommands.{digest_on, flush_on, flush_session, noted_before, policy_get_digest, policy_pcr, policy_pcr_noted, policy_pcr_on, session_handle, start_session, content_in, is_wrong_list, policy_authorize_nv, policy_authorize_nv_at, policy_authorize_nv_by, policy_authorize_nv_on, policy_or, policy_or_on}
use Rattle.tpm_model.specs.Sessions.{is_session_hash, object_at, session_at, object_place}

-- the answer fits the command
abbrev pub Fits : Command → Response × Parts → Type 0
Fits c r = fits c r.0 ≡ true

same_bank : (bank : Bank) → is_same_bank bank bank ≡ true
same_bank Sha1 = refl
same_bank Sha256 = refl
same_bank Sha384 = refl
same_bank Sha512 = refl

same_handle : (handle : ℕ) → (handle == handle) ≡ true
same_handle handle = eq-eqb handle handle refl

from_not : (b : Bool) → not b ≡ false → b ≡ true
from_not true e = refl
from_not false e = cc

fits-restart : (locality : ℕ) (banks : Banks) (s : Parts) → Fits (command.Restart locality banks) (restart locality banks s)
fits-restart locality banks s =
    cond_both (not (is_start_locality locality) || bank_count banks == 0) _ _ (Fits (command.Restart locality banks)) (λ wrong. wrong) (λ _. refl)

fits-pcr_extend : (pcr : ℕ) (digests : Digests) (s : Parts) → Fits (command.PcrExtend pcr digests) (pcr_extend pcr digests s)
fits-pcr_extend pcr digests s =
    cond_both (nat_lt 23 pcr) _ _ (Fits (command.PcrExtend pcr digests)) (λ wrong. wrong) (λ _.
    cond_both (s.update_counter == 4294967295) _ _ (Fits (command.PcrExtend pcr digests)) (λ _. refl) (λ _. refl))

fits-pcr_read : (bank : Bank) (pcr : ℕ) (s : Parts) → Fits (command.PcrRead bank pcr) (pcr_read bank pcr s)
fits-pcr_read bank pcr s =
    cond_both (nat_lt 23 pcr) _ _ (Fits (command.PcrRead bank pcr)) (λ wrong. wrong) (λ _. on (pcr_of s.banks s.pcrs bank pcr))
  where
    on : (o : Option (List ℕ)) → Fits (command.PcrRead bank pcr) (value_or_absent bank o s)
    on None = same_bank bank
    on (Some value) = refl

fits-start_session : (hash : Bank) (s : Parts) → Fits (command.StartSession hash) (start_session hash s)
fits-start_session hash s =
    cond_both (not (is_session_hash hash)) _ _ (Fits (command.StartSession hash)) (λ wrong. wrong) (λ _.
    cond_both (nat_le 64 (length s.sessions)) _ _ (Fits (command.StartSession hash)) (λ _. refl) (λ _.
    cond_both (nat_le 0x01000000 s.next_session) _ _ (Fits (command.StartSession hash)) (λ _. refl) (λ left.
    let below : s.next_session < 0x01000000 = leb-false _ _ left in
    and_from (nat_le 0x03000000 (session_handle s.next_session)) (nat_le (session_handle s.next_session) 0x03FFFFFF)
    (le-leb 0x03000000 (session_handle s.next_session) (omega arith)) (le-leb (session_handle s.next_session) 0x03FFFFFF (omega arith)))))

fits-policy_pcr : (handle : ℕ) (bank : Bank) (pcrs : ℕ) (s : Parts) → Fits (command.PolicyPcr handle bank pcrs) (policy_pcr handle bank pcrs s)
fits-policy_pcr handle bank pcrs s = on (session_at handle s.sessions)
  where
    noted : (o : Option ℕ) (session : Session) → Fits (command.PolicyPcr handle bank pcrs) (policy_pcr_noted o handle session bank pcrs s)
    noted (Some n) session = refl
    noted None session = cond_both (nat_le 128 (length session.trail)) _ _ (Fits (command.PolicyPcr handle bank pcrs)) (λ _. refl) (λ _. refl)

    on : (o : Option Session) → Fits (command.PolicyPcr handle bank pcrs) (policy_pcr_on o handle bank pcrs s)
    on None = same_handle handle
    on (Some session) =
        cond_both (nat_le (2 ^ 24) pcrs) _ _ (Fits (command.PolicyPcr handle bank pcrs)) (λ wrong. wrong) (λ _.
        cond_both (not (has_bank s.banks bank)) _ _ (Fits (command.PolicyPcr handle bank pcrs)) (λ _. same_bank bank) (λ _.
        noted (noted_before session.noted s.update_counter) session))

fits-policy_get_digest : (handle : ℕ) (s : Parts) → Fits (command.PolicyGetDigest handle) (policy_get_digest handle s)
fits-policy_get_digest handle s = on (session_at handle s.sessions)
  where
    on : (o : Option Session) → Fits (command.PolicyGetDigest handle) (digest_on o handle s)
    on None = same_handle handle
    on (Some session) = refl

fits-flush_session : (handle : ℕ) (s : Parts) → Fits (command.FlushSession handle) (flush_session handle s)
fits-flush_session handle s = on (session_at handle s.sessions)
  where
    on : (o : Option Session) → Fits (command.FlushSession handle) (flush_on o handle s)
    on None = same_handle handle
    on (Some session) = refl

fits-seal : (policy secret : List ℕ) (s : Parts) → Fits (command.Seal policy secret) (seal policy secret s)
fits-seal policy secret s =
    cond_both (length secret == 0) _ _ (Fits (command.Seal policy secret)) (λ _. refl) (λ some.
    cond_both (not (is_policy_size (length policy))) _ _ (Fits (command.Seal policy secret))
    (λ wrong. and_from (not (length secret == 0)) (not (is_policy_size (length policy))) (ap not some) wrong) (λ _.
    cond_both (nat_le 64 (length s.objects)) _ _ (Fits (command.Seal policy secret)) (λ _. refl) (λ _.
    cond_both (nat_le 0x00800000 s.next_object) _ _ (Fits (command.Seal policy secret)) (λ _. refl) (λ _. refl))))

or_left : (a b : Bool) → a ≡ true → (a || b) ≡ true
or_left true b e = refl
or_left false b e = cc

or_right : (a b : Bool) → b ≡ true → (a || b) ≡ true
or_right true b e = refl
or_right false b e = e

fits-unseal : (number handle : ℕ) (s : Parts) → Fits (command.Unseal number handle) (unseal number handle s)
fits-unseal number handle s = on (session_at number s.sessions)
  where
    noted : (o : Option ℕ) (session : Session) (object : Object) → Fits (command.Unseal number handle) (unseal_noted o session object s)
    noted (Some n) session object = refl
    noted None session object = cond_both (bytes_eq session.digest object.policy) _ _ (Fits (command.Unseal number handle)) (λ _. refl) (λ _. refl)

    at : (o : Option Object) (session : Session) → Fits (command.Unseal number handle) (unseal_of o session handle s)
    at None session = or_right (handle == number) (handle == handle) (same_handle handle)
    at (Some object) session = noted (noted_before session.noted s.update_counter) session object

    on : (o : Option Session) → Fits (command.Unseal number handle) (unseal_on o number handle s)
    on None = or_left (number == number) (number == handle) (same_handle number)
    on (Some session) = at (object_at handle s.objects) session

fits-policy_or : (handle : ℕ) (list : List (List ℕ)) (s : Parts) → Fits (command.PolicyOr handle list) (policy_or handle list s)
fits-policy_or handle list s = on (session_at handle s.sessions)
  where
    on : (o : Option Session) → Fits (command.PolicyOr handle list) (policy_or_on o handle list s)
    on None = same_handle handle
    on (Some session) =
        cond_both (is_wrong_list session.hash session.digest list) _ _ (Fits (command.PolicyOr handle list)) (λ _. refl) (λ _.
        cond_both (nat_le 128 (length session.trail)) _ _ (Fits (command.PolicyOr handle list)) (λ _. refl) (λ _. refl))

fits-policy_authorize_nv : (handle index : ℕ) (s : Parts) → Fits (command.PolicyAuthorizeNv handle index) (policy_authorize_nv handle index s)
fits-policy_authorize_nv handle index s = on (session_at handle s.sessions)
  where
    by : (public : NvPublic) (o : Option Written) (session : Session) → Fits (command.PolicyAuthorizeNv handle index) (policy_authorize_nv_by public o handle session s)
    by public None session = refl
    by public (Some written) session =
        cond_both (not (bytes_eq written.value (content_in session.hash session.digest))) _ _ (Fits (command.PolicyAuthorizeNv handle index)) (λ _. refl) (λ _.
        cond_both (nat_le 128 (length session.trail)) _ _ (Fits (command.PolicyAuthorizeNv handle index)) (λ _. refl) (λ _. refl))

    at : (o : Option Index) (session : Session) → Fits (command.PolicyAuthorizeNv handle index) (policy_authorize_nv_at o handle session s)
    at None session = refl
    at (Some x) session = by x.public x.written session

    on : (o : Option Session) → Fits (command.PolicyAuthorizeNv handle index) (policy_authorize_nv_on o handle index s)
    on None = same_handle handle
    on (Some session) = at (index_at index s.indices) session

fits-nv_define : (public : NvPublic) (s : Parts) → Fits (command.NvDefine public) (nv_define public s)
fits-nv_define public s =
    cond_both (not (is_index_handle public.handle)) _ _ Given (λ _. same_handle public.handle) (λ handle.
    cond_both (not (public.attributes == defined_attributes)) _ _ Given (λ _. refl) (λ attributes.
    cond_both (not (public.size == content_size)) _ _ Given (λ _. refl) (λ size.
    cond_both (not (length public.policy == 32)) _ _ Given
    (λ policy. and_from _ (not (length public.policy == 32)) (and_from _ (public.size == content_size) (and_from (is_index_handle public.handle) (public.attributes == defined_attributes) (from_not _ handle) (from_not _ attributes)) (from_not _ size)) policy) (λ _.
    cond_both (is_some (index_at public.handle s.indices)) _ _ Given (λ _. refl) (λ _.
    cond_both (nat_le 16 (length s.indices)) _ _ Given (λ _. refl) (λ _. refl))))))
  where
    Given : Option NvRefusal → Type 0
    Given o = Fits (command.NvDefine public) (nv_define_unless o public s)

fits-nv_undefine : (handle : ℕ) (s : Parts) → Fits (command.NvUndefine handle) (nv_undefine handle s)
fits-nv_undefine handle s = on (index_at handle s.indices)
  where
    on : (o : Option Index) → Fits (command.NvUndefine handle) (nv_undefine_unless (undefine_refusal_of o) handle s)
    on None = refl
    on (Some x) = refl

fits-nv_write : (handle : ℕ) (pin value : List ℕ) (s : Parts) → Fits (command.NvWrite handle pin value) (nv_write handle pin value s)
fits-nv_write handle pin value s = on (index_at handle s.indices)
  where
    Given : Option NvRefusal → Type 0
    Given o = Fits (command.NvWrite handle pin value) (nv_write_unless o handle value s)

    on : (o : Option Index) → Fits (command.NvWrite handle pin value) (nv_write_unless (write_refusal_of o (pin_policy_of pin) value) handle value s)
    on None = refl
    on (Some x) =
        cond_both (not (bytes_eq (pin_policy_of pin) x.public.policy)) _ _ Given (λ _. refl) (λ _.
        cond_both (not (length value == 34)) _ _ Given (λ _. refl) (λ _.
        cond_both (s.write_counter == 4294967295) _ _ (Fits (command.NvWrite handle pin value)) (λ _. refl) (λ _. refl)))

fits-nv_read : (handle : ℕ) (s : Parts) → Fits (command.NvRead handle) (nv_read handle s)
fits-nv_read handle s = on (index_at handle s.indices)
  where
    of : (o : Option Written) → Fits (command.NvRead handle) (content_answer (content_of o) handle s)
    of None = refl
    of (Some written) = refl

    on : (o : Option Index) → Fits (command.NvRead handle) (content_answer (read_of o) handle s)
    on None = refl
    on (Some x) = of x.written

fits-nv_read_public : (handle : ℕ) (s : Parts) → Fits (command.NvReadPublic handle) (nv_read_public handle s)
fits-nv_read_public handle s = on (index_at handle s.indices)
  where
    on : (o : Option Index) → Fits (command.NvReadPublic handle) (public_answer (public_of o) handle s)
    on None = refl
    on (Some x) = refl

fits-evict : (handle : ℕ) (s : Parts) → Fits (command.Evict handle) (evict handle s)
fits-evict handle s = on (slice_get s.objects (object_place handle s.objects))
  where
    on : (o : Option Object) → Fits (command.Evict handle) (evict_on o handle s)
    on None = same_handle handle
    on (Some x) = refl

-- the answer to each command fits it
pub fits_answer : (c : Command) (s : Parts) → Fits c (respond c s)
fits_answer (command.Restart locality banks) s = fits-restart locality banks s
fits_answer (command.PcrExtend pcr digests) s = fits-pcr_extend pcr digests s
fits_answer (command.PcrRead bank pcr) s = fits-pcr_read bank pcr s
fits_answer (command.StartSession hash) s = fits-start_session hash s
fits_answer (command.PolicyPcr session bank pcrs) s = fits-policy_pcr session bank pcrs s
fits_answer (command.PolicyOr session list) s = fits-policy_or session list s
fits_answer (command.PolicyAuthorizeNv session index) s = fits-policy_authorize_nv session index s
fits_answer (command.PolicyGetDigest session) s = fits-policy_get_digest session s
fits_answer (command.FlushSession session) s = fits-flush_session session s
fits_answer (command.NvDefine public) s = fits-nv_define public s
fits_answer (command.NvUndefine index) s = fits-nv_undefine index s
fits_answer (command.NvWrite index pin value) s = fits-nv_write index pin value s
fits_answer (command.NvRead index) s = fits-nv_read index s
fits_answer (command.NvReadPublic index) s = fits-nv_read_public index s
fits_answer (command.Seal policy secret) s = fits-seal policy secret s
fits_answer (command.Evict handle) s = fits-evict handle s
fits_answer (command.Unseal session handle) s = fits-unseal session handle s

-- an answer that is that of the state fits
pub answers_fit : {E : Type 0} (result : Result Response E) (new : Parts) (c : Command) (s : Parts)
    → IfOk result (λ answer. (answer, new) ≡ respond c s) → IfOk result (λ answer. fits c answer ≡ true)
answers_fit (Ok answer) new c s told = ap (λ (x : Response × Parts). fits c x.0) told ∙ fits_answer c s
answers_fit (Err error) new c s told = tt
