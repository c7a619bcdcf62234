-- A state that is read is spelled so, and what is spelled so is read.
use Rattle.std.proofs.Common.{◌≡◌, ℕ, ◌≤◌, Bool, true, false, cond, leb, ◌&&◌, List, Option, Some, None, Result, Ok, Err, refl, inl, inr, ap, subst, ◌∙◌, arith}
use Rattle.std.specs.Prelude.{IfOk}
use Rattle.std.proofs.lemmas.Bool.{leb-true}
use Rattle.hash_bank.specs.declared.banks.Banks.{Banks}
use Rattle.pl_layout.proofs.Steps.{bind_ok, bind_eq}
use Rattle.pl_layout.proofs.Fields.{IsBytes}
use Rattle.tpm_model.specs.declared.parts.Parts.{Parts}
use Rattle.tpm_model.specs.declared.rules.StateRule.{StateRule}
use Rattle.tpm_model.specs.Pcrs.{bank_count}
use Rattle.tpm_model.specs.Rules.{HasRules, broken_rule}
use Rattle.tpm_model.specs.Shape.{HasShape}
use Rattle.tpm_model.specs.declared.rules.StateRule.TheVariants.{Banks as BanksRule}
use Rattle.tpm_state.specs.declared.error.DecodeError.{DecodeError}
use Rattle.tpm_state.specs.declared.error.DecodeError.TheVariants.{BadRule}
use Rattle.tpm_state.specs.declared.version.Version.{Version}
use Rattle.tpm_state.specs.declared.version.Version.TheVariants.{One, Two}
use Rattle.tpm_state.specs.Field.{Gives}
use Rattle.tpm_state.specs.Header.{banks_byte}
use Rattle.tpm_state.specs.Layout.{text_of, HasLayout, layout_at}
use Rattle.tpm_state.specs.Decoding.{unless_broken, ruled, state_of}
use Rattle.tpm_state.specs.Spelling.{IsSpelled}
use Rattle.tpm_state.proofs.LayoutLaws.{layout_takes, layout_is_text, layout_again}
use Rattle.tpm_state.proofs.Shapes.{laid_shape, rules_laid, one_laid, laid_one}

-- what was laid out has the shape that a state from outside must have
pub shape_of_layout : (bytes : List ℕ) (x : ℕ × Parts) → IsBytes bytes → layout_at bytes ≡ Ok x → HasShape x.1
shape_of_layout bytes x fits e = let t = layout_takes bytes x fits e in laid_shape t.version x.1 t.fits

-- ---- what is spelled so is read

not_broken : (s : Parts) → HasRules s → broken_rule s ≡ None
not_broken s h = simp (h.banks, h.counters, h.session_order, h.fold, h.or_member, h.noted, h.pcr_now, h.nv_now, h.index_order, h.index_attributes, h.object_order, h.secret)

byte_some : (banks : Banks) → 1 ≤ bank_count banks → (leb 1 (banks_byte banks) && leb (banks_byte banks) 15) ≡ true
byte_some banks some = test banks.sha1 banks.sha256 banks.sha384 banks.sha512 some
  where
    test : (a b c d : Bool) → 1 ≤ bank_count (record { sha1 = a; sha256 = b; sha384 = c; sha512 = d })
        → (leb 1 (banks_byte (record { sha1 = a; sha256 = b; sha384 = c; sha512 = d })) && leb (banks_byte (record { sha1 = a; sha256 = b; sha384 = c; sha512 = d })) 15) ≡ true
    test false false false false some = absurd (omega arith)
    test false false false true some = refl
    test false false true false some = refl
    test false false true true some = refl
    test false true false false some = refl
    test false true false true some = refl
    test false true true false some = refl
    test false true true true some = refl
    test true false false false some = refl
    test true false false true some = refl
    test true false true false some = refl
    test true false true true some = refl
    test true true false false some = refl
    test true true false true some = refl
    test true true true false some = refl
    test true true true true some = refl

ruled_again : (s : Parts) → HasRules s → ruled (banks_byte s.banks, s) ≡ Ok s
ruled_again s h = simp (byte_some s.banks (leb-true _ _ h.banks), not_broken s h)

laid_again : (version : Version) (s : Parts) → HasRules s → HasLayout version s → state_of (text_of version s) ≡ Ok s
unfolding state_of
laid_again version s h fits = bind_eq ruled (banks_byte s.banks, s) (layout_again version s fits) (ruled_again s h)

pub state_again : (s : Parts) → HasRules s → state_of (text_of Two s) ≡ Ok s
state_again s h = laid_again Two s h (rules_laid s h)

spelled_again : (bytes : List ℕ) (s : Parts) → HasRules s → IsSpelled bytes s → state_of bytes ≡ Ok s
spelled_again bytes s h (inl text) = ap state_of text ∙ state_again s h
spelled_again bytes s h (inr old) = ap state_of old.1 ∙ laid_again One s h (one_laid s (rules_laid s h) old.0)

-- ---- what is read is spelled so

record RuledTaken (x : ℕ × Parts) (s : Parts) : Type 0 where
  few : x.0 ≤ 15
  same : x.1 ≡ s

ruled_takes : (x : ℕ × Parts) (s : Parts) → ruled x ≡ Ok s → RuledTaken x s
ruled_takes (byte, t) s e = test (leb 1 byte) (leb byte 15) (leb-true byte 15) e
  where
    unbroken : (broken : Option StateRule) → unless_broken broken t ≡ Ok s → t ≡ s
    unbroken None e = cc
    unbroken (Some rule) e = absurd cc

    test : (a b : Bool) → (b ≡ true → byte ≤ 15) → cond (a && b) (unless_broken (broken_rule t) t) (Err (BadRule BanksRule)) ≡ Ok s → RuledTaken (byte, t) s
    test true true few e = record { few = few refl; same = unbroken (broken_rule t) e }
    test true false few e = absurd cc
    test false b few e = absurd cc

spelled_in : (version : Version) (bytes : List ℕ) (s : Parts) → HasLayout version s → bytes ≡ text_of version s → IsSpelled bytes s
spelled_in One bytes s fits text = inr (laid_one s fits, text)
spelled_in Two bytes s fits text = inl text

state_spelled : (bytes : List ℕ) (s : Parts) → IsBytes bytes → state_of bytes ≡ Ok s → IsSpelled bytes s
unfolding state_of
state_spelled bytes s fits e =
    let a = bind_ok e in
    let t = layout_takes bytes a.value fits a.first in
    let r = ruled_takes a.value s a.second in
    subst (λ (s : Parts). IsSpelled bytes s) r.same (spelled_in t.version bytes a.value.1 t.fits (layout_is_text bytes a.value t r.few))

-- ---- what a function that gives the reading tells

pub is_found : (bytes : List ℕ) (r : Result Parts DecodeError) → IsBytes bytes → Gives (λ x. x) r (state_of bytes) → IfOk r (λ s. IsSpelled bytes s)
is_found bytes (Ok s) fits given = state_spelled bytes s fits given
is_found bytes (Err e) fits given = tt

pub is_only : (bytes : List ℕ) (r : Result Parts DecodeError) → Gives (λ x. x) r (state_of bytes) → (s : Parts) → HasRules s → IsSpelled bytes s → Gives (λ x. x) r (Ok s)
is_only bytes r given s h spelled = subst (λ f. Gives (λ x. x) r f) (spelled_again bytes s h spelled) given
