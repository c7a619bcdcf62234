-- Where the strings don't clash, the client's result is that of the PCRs' values.
use Rattle.std.proofs.Common.{◌≡◌, ℕ, Bool, true, false, cond, List, length, nat_le, refl, Contains}
use Rattle.std.specs.Prelude.{Option, None, Some, Ok, Err, codes}
use Rattle.std.specs.Str.{bytes_eq}
use Rattle.hash_bank.specs.HashedString.{NoClash}
use Rattle.policy_file.specs.declared.token.Literal.{Literal}
use Rattle.tpm_model.specs.declared.object.Object.{Object}
use Rattle.tpm_model.specs.declared.parts.Parts.{Parts}
use Rattle.tpm_model.specs.Binding.{literal_policy}
use Rattle.tpm_model.specs.Sessions.{object_at}
use Rattle.policy_session.specs.declared.error.UnsealError.TheVariants as error
use Rattle.policy_session.specs.LiteralUnseal.{opened, opened_at, opened_by}
use Rattle.pcrlock_answer.specs.declared.answer.Answer.TheVariants as said
use Rattle.pcrlock_answer.specs.Texts.{key_text}
use Rattle.pcrlock_line.specs.Outcome.{Fine, Refused}
use Rattle.pcrlock_open.specs.Unseal.{object_ending, value_ending, present_value, literal_ending, value_strings}
use Rattle.pcrlock_open.specs.Endings.{result_ending}
use Rattle.pcrlock_open.proofs.SameValues.{same_test}

-- the object decides
by_object : (literal : Literal) (policy : List ℕ) (handle : ℕ) (o : Option Object)
    → result_ending literal (opened_by policy handle o) ≡ object_ending policy handle o
by_object literal policy handle None = refl
by_object literal policy handle (Some object) = by_test (bytes_eq policy object.policy)
  where
    by_test : (same : Bool) → result_ending literal (cond same (Ok object.secret) (Err (error.WrongBinding policy object.policy)))
        ≡ cond same (Fine (key_text object.secret)) (Refused (said.WrongBinding policy object.policy))
    by_test true = refl
    by_test false = refl

-- the PCR's value decides
by_value : (literal : Literal) (handle : ℕ) (s : Parts) (o : Option (List ℕ)) → NoClash (Contains (value_strings o literal))
    → result_ending literal (opened_at o literal handle s) ≡ value_ending o literal handle s
by_value literal handle s None safe = refl
by_value literal handle s (Some now) safe = rw (same_test literal.hash literal.bank literal.pcr now literal.value safe) (by_test (bytes_eq now literal.value))
  where
    by_test : (same : Bool) → result_ending literal (cond same (opened_by (literal_policy literal.hash literal.bank literal.pcr now) handle (object_at handle s.objects)) (Err (error.NotLiteral now)))
        ≡ cond same (object_ending (literal_policy literal.hash literal.bank literal.pcr now) handle (object_at handle s.objects)) (Refused (said.NotLiteral literal.pcr now literal.value))
    by_test true = by_object literal (literal_policy literal.hash literal.bank literal.pcr now) handle (object_at handle s.objects)
    by_test false = refl

-- the whole
pub same_ending : (literal : Literal) (handle : ℕ) (s : Parts) → NoClash (Contains (value_strings (present_value literal s) literal))
    → result_ending literal (opened literal handle s) ≡ literal_ending literal handle s
same_ending literal handle s safe = by_tests (nat_le 64 (length s.sessions)) (nat_le 0x01000000 s.next_session)
  where
    by_tests : (full ended : Bool)
        → result_ending literal (cond full (Err error.SessionsFull) (cond ended (Err error.HandlesEnd) (opened_at (present_value literal s) literal handle s)))
        ≡ cond full (Refused said.SessionsFull) (cond ended (Refused (said.Limit (codes "handles") 0x01000000)) (value_ending (present_value literal s) literal handle s))
    by_tests true ended = refl
    by_tests false true = refl
    by_tests false false = by_value literal handle s (present_value literal s) safe
