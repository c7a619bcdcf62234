use Rattle.std.proofs.Common.{◌≡◌, ◌≢◌, List, ℕ, ◌∷◌, ◌++◌, ◌∙◌, sym, ap, lit<}
use Rattle.std.specs.Prelude.{Option, None, Some, MatchOption}
use Rattle.std.proofs.lemmas.Str.Pattern.{strip_prefix_char}
use Rattle.std.proofs.lemmas.List.{append_cancel_left}
use Rattle.pl_base.specs.FileMap.{slash}
use Rattle.pl_base.proofs.listing.rest_below.Goals as goal

after_path : {R : Type 0} (held path rest : List ℕ) (view : R → List ℕ) (r : Option R) → held ≡ path ++ rest → MatchOption r ((more : List ℕ) → rest ≢ slash ∷ more) (λ x. rest ≡ slash ∷ view x) → MatchOption r ((more : List ℕ) → held ≢ path ++ slash ∷ more) (λ x. held ≡ path ++ slash ∷ view x)
after_path held path rest view None e h = λ more f. h more (append_cancel_left path rest (slash ∷ more) (sym e ∙ f))
after_path held path rest view (Some x) e h = e ∙ ap (λ t. path ++ t) h

pub returns-in-Some : goal.returns-in-Some
returns-in-Some c =
    let cut = c.in-Some.ensures.cases in
    after_path c.args.held.now c.args.path.now c.in-Some.rest.now (λ x. x.now) c.strip_prefix-in-Some.result (cut.1.1 ∙ ap (λ t. c.args.path.now ++ t) (sym cut.2)) (strip_prefix_char 47 c.in-Some.rest.now c.strip_prefix-in-Some.result c.strip_prefix-in-Some.ensures.cases (lit< tt))
