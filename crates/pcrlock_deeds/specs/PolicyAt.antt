-- What a command takes as the policy in force.
use Rattle.std.specs.Prelude.{ℕ, List, codes, Option, None, Some, Result, Ok, Err}
use Rattle.pl_base.specs.FileMap.{FileMap}
use Rattle.policy_file.specs.declared.error.FileError.{FileError}
use Rattle.policy_file.specs.declared.error.FileError.TheVariants as file
use Rattle.policy_file.specs.declared.policy.Policy.{Policy}
use Rattle.policy_file.specs.PolicyReading.{policy_in}
use Rattle.pcrlock_answer.specs.declared.answer.Answer.{Answer}
use Rattle.pcrlock_answer.specs.declared.answer.Answer.TheVariants as said
use Rattle.pcrlock_answer.specs.declared.place.Place.TheVariants as place
use Rattle.pcrlock_line.specs.Content.{Content, Missing, TooLarge, Bytes, content_of}

-- the most bytes that a policy file may have
abbrev pub policy_limit : ℕ
policy_limit = 4194304

-- the policy that was read, or why there is none. No reading ends for want of memory
abbrev pub policy_read : List ℕ → Result Policy FileError → Result (Option Policy) Answer
policy_read path (Ok policy) = Ok (Some policy)
policy_read path (Err (file.Malformed at kind)) = Err (said.Malformed path (place.At at))
policy_read path (Err file.Memory) = Err said.Memory

-- by what stands at the path
abbrev pub policy_by : List ℕ → Content → Result (Option Policy) Answer
policy_by path Missing = Ok None
policy_by path (TooLarge size) = Err (said.Limit (codes "policy-bytes") size)
policy_by path (Bytes bytes) = policy_read path (policy_in bytes)

-- the policy that the file at the path spells, where one is there
abbrev pub policy_of : FileMap → List ℕ → Result (Option Policy) Answer
policy_of files path = policy_by path (content_of files path policy_limit)

-- the policy of a command that can't do without one
abbrev pub needed_of : List ℕ → Result (Option Policy) Answer → Result Policy Answer
needed_of path (Ok (Some policy)) = Ok policy
needed_of path (Ok None) = Err (said.NoPolicy path)
needed_of path (Err answer) = Err answer

abbrev pub policy_needed : FileMap → List ℕ → Result Policy Answer
policy_needed files path = needed_of path (policy_of files path)
