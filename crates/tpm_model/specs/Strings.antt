-- The strings that a command hashes, as it comes.
use Rattle.std.specs.Prelude.{ℕ, ◌^◌, nat_le, if◌then◌else◌, List, [], ◌∷◌, Option, None, Some}
use Rattle.hash_bank.specs.declared.bank.Bank.{Bank}
use Rattle.hash_bank.specs.Banks.{has_bank}
use Rattle.hash_bank.specs.HashedString.{HashedString}
use Rattle.nv_index.specs.Table.{index_at}
use Rattle.nv_index.specs.declared.index.Index.{Index}
use Rattle.policy_digest.specs.BindingStrings.{name_strings_in}
use Rattle.policy_digest.specs.Pin.{pin_strings}
use Rattle.policy_digest.specs.Strings.{or_string_in, pcr_string_in, values_string}
use Rattle.tpm_model.specs.declared.command.Command.{Command}
use Rattle.tpm_model.specs.declared.command.Command.TheVariants as command
use Rattle.tpm_model.specs.declared.parts.Parts.{Parts}
use Rattle.tpm_model.specs.declared.sessions.Session.{Session}
use Rattle.tpm_model.specs.Pcrs.{chosen, present_digest_in, values_of}
use Rattle.tpm_model.specs.Sessions.{session_at}

-- the joined present values of the mask's PCRs
abbrev pub joined_values : Bank → ℕ → Parts → List ℕ
joined_values bank pcrs s = values_string (chosen pcrs (values_of s.banks s.pcrs bank))

-- PolicyPCR on the session that was found: the joined values, and the string of the digest that it
-- gives; none where the mask has a bit past those of the 24 PCRs, or the bank isn't present
abbrev pub pcr_strings : Option Session → Bank → ℕ → Parts → List HashedString
pcr_strings None bank pcrs s = []
pcr_strings (Some session) bank pcrs s =
    if nat_le (2 ^ 24) pcrs then []
    else if has_bank s.banks bank then
    record { hash = session.hash; bytes = joined_values bank pcrs s }
    ∷ record {
      hash = session.hash;
      bytes = pcr_string_in session.hash session.digest bank pcrs (present_digest_in session.hash bank pcrs s.banks s.pcrs);
    }
    ∷ []
    else []

-- PolicyOR on the session that was found
abbrev pub or_strings : Option Session → List (List ℕ) → List HashedString
or_strings None list = []
or_strings (Some session) list = record { hash = session.hash; bytes = or_string_in session.hash list } ∷ []

-- PolicyAuthorizeNV on the session and the index that were found
abbrev pub nv_strings : Option Session → Option Index → List HashedString
nv_strings None index = []
nv_strings (Some session) None = []
nv_strings (Some session) (Some index) = name_strings_in session.hash index.public

-- a write of the index that was found
abbrev pub write_strings : Option Index → List ℕ → List HashedString
write_strings None pin = []
write_strings (Some index) pin = pin_strings pin

-- the strings of a command; none where its session, index or bank isn't there
abbrev pub command_strings : Command → Parts → List HashedString
command_strings (command.PolicyPcr session bank pcrs) s = pcr_strings (session_at session s.sessions) bank pcrs s
command_strings (command.PolicyOr session list) s = or_strings (session_at session s.sessions) list
command_strings (command.PolicyAuthorizeNv session index) s = nv_strings (session_at session s.sessions) (index_at index s.indices)
command_strings (command.NvWrite index pin value) s = write_strings (index_at index s.indices) pin
command_strings _ s = []
