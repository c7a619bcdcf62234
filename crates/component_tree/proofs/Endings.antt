-- What `strip_suffix` at a text gives.
use Rattle.std.proofs.Common.{◌≡◌, ℕ, ◌-◌, true, false, eqb, List, length, take, Option, Some, None, refl, ap, ◌∙◌, arith}
use Rattle.std.specs.Prelude.{option_copied}
use Rattle.std.specs.Borrow.{Bor}
use Rattle.std.specs.List.{ends_with}
use Rattle.std.specs.Option.{MatchOption}
use Rattle.std.specs.Str.Pattern.{FindsTextSuffix, StripsSuffix}
use Rattle.std.proofs.lemmas.Str.Pattern.{ends_text}
use Rattle.component_tree.specs.Names.{stem_of}

pub strips_text : (ending name : List ℕ) (r : Option (Bor (List ℕ))) → MatchOption r (FindsTextSuffix ending name None) (λ x. StripsSuffix (FindsTextSuffix ending) name x.now)
    → option_copied r ≡ stem_of ending name
strips_text ending name None h = let ends : false ≡ ends_with eqb name ending = ends_text false ending name h in rw (← ends) refl
strips_text ending name (Some x) h =
    let ends : true ≡ ends_with eqb name ending = ends_text true ending name (h.0, h.1, omega (arith, h.3), rw h.1.0 h.1.2) in
    rw (← ends) (ap (λ (rest : List ℕ). Some rest) (h.2 ∙ ap (λ (n : ℕ). take (length name - n) name) h.1.0))
