-- The compact text of a value reads back as the value.
use Rattle.std.proofs.Common.{◌≡◌, ◌≤◌, List, [], Option, Some, option_and_then, sym, ap, ◌∙◌, append-nil}
use Rattle.json.specs.Json as json
use Rattle.json.specs.Token.{Token}
use Rattle.json.specs.Lex.{tokens}
use Rattle.json.specs.Tree as tree
use Rattle.json.specs.Tree.{json_tokens, HasNumbers}
use Rattle.json.proofs.Printed.Tokens.{tokens-print}
use Rattle.json.proofs.Printed.Trees.{value-json_tokens, ArePrintable-json_tokens}
use Rattle.serde_json.specs.Data.{Data}
use Rattle.serde_json.specs.Read.{of_json, read, max_depth}
use Rattle.serde_json.specs.Written.{outline, compact_text}
use Rattle.serde_json.proofs.Texts.{print-outline}

-- the whole of what the grammar reads, as data
abbrev whole : Option (json.Json × List Token) → Option Data
whole o = option_and_then of_json (option_and_then (λ p. json.if_last p.0 p.1) o)

-- a value that its own outline reads as
pub record IsReadable (d : Data) : Type 0 where
  pub numbers : HasNumbers (outline d)
  pub shallow : tree.depth (outline d) ≤ max_depth
  pub same : of_json (outline d) ≡ Some d

pub read-compact_text : (d : Data) → IsReadable d → read (compact_text d) ≡ Some d
read-compact_text d h =
    let j = outline d in
    let lexed : tokens (compact_text d) ≡ json_tokens j = ap tokens (sym (print-outline d)) ∙ tokens-print (json_tokens j) (ArePrintable-json_tokens j h.numbers) in
    ap whole (ap (json.value max_depth) (lexed ∙ sym (append-nil (json_tokens j))) ∙ value-json_tokens j max_depth [] h.shallow) ∙ h.same
