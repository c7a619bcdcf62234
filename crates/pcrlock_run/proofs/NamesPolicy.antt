-- A line of a script looks at the script's policy file, and makes no file there.
use Rattle.std.proofs.Common.{ℕ, List, Option, Some, None}
use Rattle.std.specs.Prelude.{IfSome}
use Rattle.pcrlock_words.specs.declared.request.Request.{Request}
use Rattle.pcrlock_words.specs.ProperRequest.{NamesPolicy, SparesPolicy}
use Rattle.pcrlock_words.specs.Requests.{request_of}
use Rattle.pcrlock_words.proofs.PolicyNames.{line_names}
use Rattle.pcrlock_words.proofs.Proper.{spelled_spares}
use Rattle.pcrlock_run.specs.Under.{IsUnderPath}

both : (path : List ℕ) (o : Option Request) → IfSome o (NamesPolicy path) → IfSome o (SparesPolicy path) → IfSome o (IsUnderPath path)
both path None names spares = tt
both path (Some request) names spares = record { names = names; spares = spares }

-- a line of a script stands under its policy path
pub line_under : (path : List ℕ) (words : List (List ℕ)) → IfSome (request_of words (Some path)) (IsUnderPath path)
line_under path words = both path (request_of words (Some path)) (line_names path words) (spelled_spares words (Some path))
