-- What the TPM answers of an index.
use Rattle.std.proofs.Common.{◌≡◌, ℕ, Bool, true, false, List, refl, sym, ap, ◌∙◌, subst, true≢false}
use Rattle.std.specs.Prelude.{Option, None, Some, Result, Ok, Err}
use Rattle.nv_index.specs.Table.{content_of, index_at, public_of, read_of}
use Rattle.nv_index.specs.declared.index.Index.{Index}
use Rattle.nv_index.specs.declared.index.NvPublic.{NvPublic}
use Rattle.nv_index.specs.declared.index.Written.{Written}
use Rattle.nv_index.specs.declared.refusal.NvRefusal.{NvRefusal}
use Rattle.tpm_device.specs.Stored.{Stored}
use Rattle.tpm_model.specs.declared.parts.Parts.{Parts}
use Rattle.tpm_model.specs.declared.response.Response.{Response}
use Rattle.tpm_model.specs.IndexCommands.{content_answer, nv_read, nv_read_public, public_answer}
use Rattle.policy_session.specs.declared.error.UnsealError.{UnsealError}
use Rattle.policy_session.specs.declared.index.IndexError.{IndexError}
use Rattle.policy_session.specs.declared.index.IndexError.TheVariants as error
use Rattle.policy_session.specs.Answers.{is_answer, is_refusal}
use Rattle.policy_session.specs.IndexReads.{IsRead, content_in, index_read, is_reading, is_told, public_in, read_found, read_written}
use Rattle.policy_session.specs.Ran.{Gives, Ran}
use Rattle.tpm_device.specs.Running.{IsLive}

-- both leave the state
public_left : (r : Result NvPublic NvRefusal) (index : ℕ) (s : Parts) → (public_answer r index s).1 ≡ s
public_left (Ok public) index s = refl
public_left (Err why) index s = refl

pub leaves_public : (index : ℕ) (s : Parts) → (nv_read_public index s).1 ≡ s
leaves_public index s = public_left (public_of (index_at index s.indices)) index s

content_left : (r : Result (List ℕ) NvRefusal) (index : ℕ) (s : Parts) → (content_answer r index s).1 ≡ s
content_left (Ok content) index s = refl
content_left (Err why) index s = refl

pub leaves_content : (index : ℕ) (s : Parts) → (nv_read index s).1 ≡ s
leaves_content index s = content_left (read_of (index_at index s.indices)) index s

-- it isn't there
no_public : (o : Option Index) (index : ℕ) (s : Parts) → None ≡ public_in (public_answer (public_of o) index s).0 → read_found o ≡ Err error.NoIndex
no_public None index s e = refl
no_public (Some i) index s e = cc

pub missing : (index : ℕ) (s : Parts) → None ≡ public_in (nv_read_public index s).0 → index_read index s ≡ Err error.NoIndex
missing index s e = no_public (index_at index s.indices) index s e

-- both were read
both_read : (o : Option Index) (index : ℕ) (s : Parts) (public : NvPublic) (content : List ℕ) → Some public ≡ public_in (public_answer (public_of o) index s).0
    → Some content ≡ content_in (content_answer (read_of o) index s).0 → read_found o ≡ Ok (public, content)
both_read None index s public content p e = cc
both_read (Some i) index s public content p e =
    let same : public ≡ i.public = cc in
    subst (λ q. read_written i.public i.written ≡ Ok (q, content)) (sym same) (by_written i.written e)
  where
    by_written : (w : Option Written) → Some content ≡ content_in (content_answer (content_of w) index s).0 → read_written i.public w ≡ Ok (i.public, content)
    by_written None f = cc
    by_written (Some w) f = let is : content ≡ w.value = cc in ap (λ v. Ok (i.public, v)) (sym is)

pub read_both : (index : ℕ) (s : Parts) (public : NvPublic) (content : List ℕ) → Some public ≡ public_in (nv_read_public index s).0 → Some content ≡ content_in (nv_read index s).0
    → index_read index s ≡ Ok (public, content)
read_both index s public content p e = both_read (index_at index s.indices) index s public content p e

-- it was never written
never : (o : Option Index) (index : ℕ) (s : Parts) (public : NvPublic) → Some public ≡ public_in (public_answer (public_of o) index s).0
    → None ≡ content_in (content_answer (read_of o) index s).0 → read_found o ≡ Err error.Unwritten
never None index s public p e = cc
never (Some i) index s public p e = by_written i.written e
  where
    by_written : (w : Option Written) → None ≡ content_in (content_answer (content_of w) index s).0 → read_written i.public w ≡ Err error.Unwritten
    by_written None f = refl
    by_written (Some w) f = cc

pub unwritten : (index : ℕ) (s : Parts) (public : NvPublic) → Some public ≡ public_in (nv_read_public index s).0 → None ≡ content_in (nv_read index s).0
    → index_read index s ≡ Err error.Unwritten
unwritten index s public p e = never (index_at index s.indices) index s public p e

-- ---- what was read, and why nothing was

pub read_so : (s : Parts) (keeps : Bool) (reading result : Result (NvPublic × List ℕ) IndexError) (ready : Bool) (live : Option Parts) (stored : Option Stored)
    → is_reading result ≡ true → result ≡ reading → IsLive keeps s live stored → ready ≡ true → IsRead s keeps reading result ready live stored
read_so s keeps reading result ready live stored one e at on = record {
  answered = λ is. (e, at, on);
  stopped = λ none. absurd (true≢false (sym one ∙ none));
}

pub not_read : {A : Type 0} (s : Parts) (keeps : Bool) (Good : Result A UnsealError → Parts → Type 0) (asked : Result A UnsealError) (why : UnsealError) (told : IndexError)
    (reading : Result (NvPublic × List ℕ) IndexError) (ready : Bool) (live : Option Parts) (stored : Option Stored)
    → Ran s keeps Good asked ready live stored → asked ≡ Err why → is_refusal why ≡ false → is_told told ≡ false → IsRead s keeps reading (Err told) ready live stored
not_read s keeps Good asked why told reading ready live stored ran was outside none = record {
  answered = λ is. absurd (true≢false (sym is ∙ none));
  stopped = λ _ k. ran.stopped (ap is_answer was ∙ outside) k;
}
