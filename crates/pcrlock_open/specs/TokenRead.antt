-- What the token's file gave.
use Rattle.std.specs.Prelude.{ℕ, List}
use Rattle.policy_file.specs.TokenText.{IsLiteral, IsObject}
use Rattle.pcrlock_line.specs.Machine.{Machine}
use Rattle.pcrlock_line.specs.Outcome.{Outcome, refused_line}
use Rattle.pcrlock_open.specs.declared.token.TokenRead.{TokenRead}
use Rattle.pcrlock_open.specs.declared.token.TokenRead.TheVariants as read
use Rattle.pcrlock_deeds.specs.PolicyAt.{policy_needed}
use Rattle.pcrlock_open.specs.Unseal.{literal_line, policy_line}

-- the command's outcome after it
abbrev pub read_line : List ℕ → List ℕ → TokenRead → Machine → Outcome
read_line state policy (read.Refused answer) m = refused_line answer m
read_line state policy (read.Literal object literal) m = literal_line state literal object m
read_line state policy (read.Bound object) m = policy_line state object (policy_needed m.files policy) m

-- a literal that was read has a text, and so has the object's handle
abbrev pub IsRead : TokenRead → Type 0
IsRead (read.Refused answer) = Unit {0}
IsRead (read.Literal object literal) = IsObject object × IsLiteral literal
IsRead (read.Bound object) = IsObject object
