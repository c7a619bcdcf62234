-- The line of a client's outcome. Handles are eight hexadecimal digits, numbers decimal, keys and digests in
-- hexadecimal digits of lower case.
use Rattle.std.specs.Prelude.{ℕ, List, [], ◌∷◌, ◌++◌, map, codes}
use Rattle.std.specs.Fmt.{decimal}
use Rattle.hex.specs.Hex.{encode_lower}
use Rattle.hash_bank.specs.Hash.{name_in}
use Rattle.pl_text.specs.Texts.{handle_text, mask_text}
use Rattle.policy_walk.specs.declared.why.Why.{Why}
use Rattle.policy_walk.specs.declared.why.Why.TheVariants as why
use Rattle.race_core.specs.declared.outcome.Outcome.{Outcome}
use Rattle.race_core.specs.declared.outcome.Outcome.TheVariants as outcome

-- two texts behind a word
abbrev pub two_texts : List ℕ → List ℕ → List ℕ → List ℕ
two_texts word first second = word ++ first ++ codes " " ++ second

-- why a client stopped
abbrev pub why_text : Why → List ℕ
why_text (why.NotForeseen pcrs) = codes "not-foreseen " ++ mask_text pcrs
why_text (why.PcrChanged noted now) = two_texts (codes "changed ") (decimal noted) (decimal now)
why_text (why.BankAbsent bank) = codes "bank-absent " ++ name_in bank
why_text (why.SessionGone session) = codes "session-gone " ++ handle_text session
why_text why.Interfered = codes "interfered"
why_text why.NotNewest = codes "not-newest"
why_text why.NoIndex = codes "no-index"
why_text why.Unwritten = codes "unwritten"
why_text (why.NoObject object) = codes "no-object " ++ handle_text object
why_text (why.WrongBinding session object) = two_texts (codes "wrong-binding ") (encode_lower session) (encode_lower object)

-- an outcome
unfoldable pub outcome_text : Outcome → List ℕ
outcome_text outcome.Unfinished = codes "unfinished"
outcome_text (outcome.Key secret) = codes "key " ++ encode_lower secret
outcome_text (outcome.Stopped reason) = why_text reason
outcome_text outcome.Outdated = codes "outdated"
outcome_text outcome.SessionsFull = codes "sessions-full"
outcome_text outcome.HandlesEnd = codes "handles-end"

-- a client's line, with its line feed
abbrev pub client_line : ℕ → Outcome → List ℕ
client_line client end = codes "client " ++ decimal client ++ codes " " ++ outcome_text end ++ 10 ∷ []
