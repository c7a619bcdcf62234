use Rattle.std.proofs.Common.{◌≡◌, List, ℕ, ◌∷◌, ◌++◌, ◌∙◌, sym, ap, subst, lit<, nat_eq, false, Bor}
use Rattle.std.specs.Prelude.{Option, None, Some, MatchOption}
use Rattle.std.specs.List.{list_any}
use Rattle.std.specs.Str.Pattern.{RFindsChar, SplitsAroundMatch}
use Rattle.std.specs.Str.{NoCharPasses}
use Rattle.std.proofs.lemmas.Str.Pattern.{NoCharPasses-char, drop_at_char}
use Rattle.std.proofs.lemmas.List.{take-append-drop}
use Rattle.pl_base.specs.FileMap.{slash}
use Rattle.pl_base.proofs.Parts.{plain_from_bytes}
use Rattle.pl_base.proofs.folders.last_cut.Goals as goal

-- a cut at the last slash
cut_at : (path : List ℕ) (found : Option (Bor (List ℕ) × Bor (List ℕ))) → MatchOption found (RFindsChar slash path None) (λ x. SplitsAroundMatch (RFindsChar slash) path x.0.now x.1.now)
    → MatchOption found (list_any (nat_eq slash) path ≡ false) (λ x. (path ≡ x.0.now ++ slash ∷ x.1.now) × (list_any (nat_eq slash) x.1.now ≡ false))
cut_at path None h = plain_from_bytes path (λ i. NoCharPasses-char slash path i h (lit< tt))
cut_at path (Some x) h = (
  sym (take-append-drop h.0 path) ∙ (λ k. sym h.3 k ++ (drop_at_char slash path h.0 h.1 h.2.1 (lit< tt) ∙ ap (λ l. slash ∷ l) (sym h.4)) k),
  plain_from_bytes x.1.now (λ i. NoCharPasses-char slash x.1.now i (subst (NoCharPasses (λ d. nat_eq d slash)) (sym h.4) h.2.0) (lit< tt)),
)

pub returns : goal.returns
returns c = cut_at c.args.path.now c.rsplit_once.result c.rsplit_once.ensures.cases
