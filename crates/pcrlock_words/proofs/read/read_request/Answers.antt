use Rattle.std.proofs.Common.{◌≡◌, ◌∙◌, ℕ, false, List, ◌∷◌, length, Option, Some, None, is_some, refl, sym, ap, subst, true≢false}
use Rattle.std.specs.Prelude.{◌==◌, option_copied}
use Rattle.pcrlock_words.specs.Readings.{Gives}
use Rattle.pcrlock_words.specs.Requests.{line_request, request_of}
use Rattle.pcrlock_words.proofs.Bytes.{is_some-copied}
use Rattle.pcrlock_words.proofs.read.read_request.Goals as goal

-- outside a script the words behind the state path are read
outside : (policy : Option (List ℕ)) (words rest : List (List ℕ)) (state : List ℕ) → is_some policy ≡ false → words ≡ state ∷ rest → (length state == 0) ≡ false → request_of words policy ≡ line_request policy rest
unfolding request_of
outside (Some path) words rest state inside are named = absurd (true≢false inside)
outside None words rest state inside are named = ap (λ w. request_of w None) are ∙ rw named refl

pub returns-in-Some : goal.returns-in-Some
returns-in-Some c =
    let policy = option_copied c.args.script_policy in
    let closed : is_some policy ≡ false = is_some-copied c.args.script_policy ∙ sym c.is_some.ensures ∙ c.if-is_some.false in
    let named : (length c.in-Some.state.now == 0) ≡ false = sym (ap (λ (text : List ℕ). length text == 0) c.text.ensures) ∙ sym c.is_empty.ensures ∙ c.if-not-is_empty.true in
    subst (Gives c.read_line-in-Some.result) (sym (outside policy c.args.words.now c.in-Some.words.now c.in-Some.state.now closed c.in-Some.ensures.cases.0 named)) c.read_line-in-Some.ensures
