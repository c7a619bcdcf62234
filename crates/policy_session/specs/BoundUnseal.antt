-- When an object that is bound to an index is opened.
use Rattle.std.specs.Prelude.{◌≡◌, ℕ, nat_le, if◌then◌else◌, true, List, [], ◌∷◌, length, Contains, Option, None, Some, Result, Ok, Err}
use Rattle.std.specs.List.{All}
use Rattle.hash_bank.specs.declared.bank.Bank.{Bank}
use Rattle.hash_bank.specs.declared.bank.Bank.TheVariants.{Sha256}
use Rattle.hash_bank.specs.Banks.{has_bank}
use Rattle.hash_bank.specs.Hash.{zeros_in}
use Rattle.hash_bank.specs.HashedString.{HashedString}
use Rattle.nv_index.specs.IndexName.{index_name_of}
use Rattle.nv_index.specs.Table.{index_at}
use Rattle.nv_index.specs.declared.index.NvPublic.{NvPublic}
use Rattle.nv_index.specs.declared.index.Written.{Written}
use Rattle.or_tree.specs.Plan.{plan_of}
use Rattle.policy_digest.specs.declared.table.Table.{Table}
use Rattle.policy_digest.specs.Plain.{plain_table}
use Rattle.policy_digest.specs.PlainTable.{PlainTable, root_of}
use Rattle.policy_digest.specs.Policies.{policy_authorize_nv_of, values_digest_of}
use Rattle.policy_digest.specs.Strings.{values_string}
use Rattle.policy_digest.specs.Table.{valid_table}
use Rattle.policy_walk.specs.Choosing.{content_of}
use Rattle.policy_walk.specs.Ends.{End, past_rows, at_row, client_end, values_end, walk_strings}
use Rattle.policy_walk.specs.Places.{Place, Ready, at_pcr}
use Rattle.policy_walk.specs.declared.why.Why.{Why}
use Rattle.policy_walk.specs.declared.why.Why.TheVariants as why
use Rattle.tpm_model.specs.declared.parts.Parts.{Parts}
use Rattle.tpm_model.specs.Pcrs.{chosen, values_of}
use Rattle.tpm_model.specs.Sessions.{object_at}
use Rattle.policy_session.specs.declared.error.UnsealError.{UnsealError}
use Rattle.policy_session.specs.declared.error.UnsealError.TheVariants as error
use Rattle.policy_session.specs.LiteralUnseal.{opened_by}

-- the walk is by this valid table, and the index, with this public area, holds the table's root
pub record IsPrepared (ready : Ready) (table : Table) (public : NvPublic) (s : Parts) : Type 0 where
  pub valid : valid_table table ≡ true
  pub plan : ready.plan ≡ plan_of (plain_table table)
  pub written : Written
  pub found : index_at ready.index s.indices ≡ Some (record { public = public; written = Some written })
  pub content : written.value ≡ content_of (root_of (plain_table table))

-- the present values of a mask's PCRs, ascending by PCR, and joined
abbrev pub present_values : Bank → Parts → ℕ → List (List ℕ)
present_values bank s pcrs = chosen pcrs (values_of s.banks s.pcrs bank)

abbrev pub joined_values : Bank → Parts → ℕ → List ℕ
joined_values bank s pcrs = values_string (present_values bank s pcrs)

-- what a refusal shows of them: of one PCR its value, of several the digest of their values
abbrev pub shown : List (List ℕ) → List ℕ
shown [] = values_digest_of Sha256 []
shown (value ∷ []) = value
shown (value ∷ other ∷ values) = values_digest_of Sha256 (value ∷ other ∷ values)

-- where the walk over the rows ends so: the secret of the object, where its policy is that of the index
abbrev pub opened_behind : Bank → NvPublic → ℕ → Parts → End → Result (List ℕ) UnsealError
opened_behind bank public object s (past_rows digest) =
    opened_by (policy_authorize_nv_of Sha256 (index_name_of public)) object (object_at object s.objects)
opened_behind bank public object s (at_row pcrs) = Err (error.NotForeseen pcrs (shown (present_values bank s pcrs)))

-- the secret, or the first refusal whose cause holds
abbrev pub opened_bound : Bank → NvPublic → ℕ → End → Parts → Result (List ℕ) UnsealError
opened_bound bank public object end s =
    if nat_le 64 (length s.sessions) then Err error.SessionsFull
    else if nat_le 0x01000000 s.next_session then Err error.HandlesEnd
    else if has_bank s.banks bank then opened_behind bank public object s end
    else Err (error.BankAbsent bank)

-- a refusal that shows a literal's value comes for keys that are sealed to one value alone
abbrev pub IsNeverLiteral : UnsealError → Type 0
IsNeverLiteral (error.NotLiteral now) = ⊥
IsNeverLiteral other = Unit {0}

-- the mask of a row that isn't met, where that is the reason for a walk's end
abbrev pub unmet_in : Option Why → Option ℕ
unmet_in (Some (why.NotForeseen pcrs)) = Some pcrs
unmet_in other = None

-- what is answered for another reason; but for an absent bank none comes
abbrev pub refused_for : Option Why → UnsealError
refused_for (Some (why.BankAbsent bank)) = error.BankAbsent bank
refused_for other = error.Memory

abbrev pub stopped_with : Bank → Parts → Option Why → Option ℕ → UnsealError
stopped_with bank s reason (Some pcrs) = error.NotForeseen pcrs (shown (present_values bank s pcrs))
stopped_with bank s reason None = refused_for reason

-- what is answered where the walk comes to this
abbrev pub opened_from : Bank → NvPublic → ℕ → Parts → Result (List ℕ) Why → Result (List ℕ) UnsealError
opened_from bank public object s (Ok digest) =
    opened_by (policy_authorize_nv_of Sha256 (index_name_of public)) object (object_at object s.objects)
opened_from bank public object s (Err reason) = Err (stopped_with bank s (Some reason) (unmet_in (Some reason)))

-- the secret, or why the object kept it; no other reason comes
abbrev pub kept_for : Option Why → UnsealError
kept_for (Some (why.WrongBinding digest policy)) = error.WrongBinding digest policy
kept_for (Some (why.NoObject object)) = error.NoObject object
kept_for other = error.Memory

abbrev pub secret_or : Option (List ℕ) → Option Why → Result (List ℕ) UnsealError
secret_or (Some secret) reason = Ok secret
secret_or None reason = Err (kept_for reason)

-- the start of a walk, by the handle of its session
abbrev pub walk_from : Ready → Result ℕ UnsealError → Result Place UnsealError
walk_from ready (Ok session) = Ok (record { plan = ready.plan; index = ready.index; session = session; row = 0; step = at_pcr })
walk_from ready (Err e) = Err e

-- where the walk by a table ends, as the client goes, by what the PCRs hold, and the strings that it hashes
abbrev pub bound_end : PlainTable → Parts → End
bound_end table s = client_end table.bank (joined_values table.bank s) (zeros_in Sha256) (plan_of table).rows

abbrev pub foreseen_end : PlainTable → Parts → End
foreseen_end table s = values_end table.bank (joined_values table.bank s) (zeros_in Sha256) table.rows

abbrev pub bound_strings : PlainTable → Parts → List HashedString
bound_strings table s = walk_strings table.bank (joined_values table.bank s) (zeros_in Sha256) table.rows

-- each of these is one of those
abbrev pub AreAmong : List HashedString → List HashedString → Type 0
AreAmong those these = All (Contains those) these
