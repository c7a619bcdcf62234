-- A reading of an index leaves the state.
use Rattle.std.proofs.Common.{◌≡◌, ℕ, Bool, List, true, refl}
use Rattle.std.specs.Prelude.{Option, None, Some, Result, Ok, Err}
use Rattle.nv_index.specs.declared.index.Index.{Index}
use Rattle.nv_index.specs.declared.index.Written.{Written}
use Rattle.nv_index.specs.declared.index.NvPublic.{NvPublic}
use Rattle.policy_session.specs.declared.index.IndexError.{IndexError}
use Rattle.policy_session.specs.declared.index.IndexError.TheVariants as error
use Rattle.policy_session.specs.IndexReads.{IsRead, is_reading, read_found, read_written}
use Rattle.pcrlock_policy.specs.declared.looking.IndexState.TheVariants as state
use Rattle.pcrlock_policy.specs.IndexState.{by_index, by_write}
use Rattle.tpm_device.specs.Stored.{Stored}
use Rattle.tpm_model.specs.declared.parts.Parts.{Parts}
use Rattle.pcrlock_line.specs.Running.{Runs}

pub runs_on : (s : Parts) (reading result : Result (NvPublic × List ℕ) IndexError) (ready : Bool) (live : Option Parts) (stored : Option Stored) → IsRead s true reading result ready live stored
    → is_reading result ≡ true → Runs live stored s
runs_on s reading result ready live stored read is =
    let a = read.answered is in
    record { live = a.1.now; stored = a.1.same refl }

-- ---- what a reading tells of the index

abbrev reading : NvPublic × List ℕ → Result (NvPublic × List ℕ) IndexError
reading held = Ok held

same_reading : (held other : NvPublic × List ℕ) → reading held ≡ reading other → held ≡ other
same_reading held other e = cc

pub written_is : (o : Option Index) (public : NvPublic) (content : List ℕ) → Ok (public, content) ≡ read_found o → state.Written public content ≡ by_index o
written_is None public content e = absurd (cc e)
written_is (Some index) public content e = by index.written e
  where
    by : (w : Option Written) → Ok (public, content) ≡ read_written index.public w → state.Written public content ≡ by_write index.public w
    by None e = absurd (cc e)
    by (Some written) e =
        let both = same_reading (public, content) (index.public, written.value) e in
        λ i. state.Written (both i).0 (both i).1

pub missing_is : (o : Option Index) → Err error.NoIndex ≡ read_found o → state.Missing ≡ by_index o
missing_is None e = refl
missing_is (Some index) e = by index.written e
  where
    by : (w : Option Written) → Err error.NoIndex ≡ read_written index.public w → state.Missing ≡ by_write index.public w
    by None e = absurd (cc e)
    by (Some written) e = absurd (cc e)

pub unwritten_is : (o : Option Index) → Err error.Unwritten ≡ read_found o → state.Unwritten ≡ by_index o
unwritten_is None e = absurd (cc e)
unwritten_is (Some index) e = by index.written e
  where
    by : (w : Option Written) → Err error.Unwritten ≡ read_written index.public w → state.Unwritten ≡ by_write index.public w
    by None e = refl
    by (Some written) e = absurd (cc e)
