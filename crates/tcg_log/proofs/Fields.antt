-- The fields of a log that are read are those that were written, and what was written is read again.
use Rattle.std.proofs.Common.{◌≡◌, ℕ, ◌^◌, ◌<◌, true, false, ltb, List, ◌++◌, length, take, drop, Ok, refl, sym, ap, subst, ◌∙◌, arith}
use Rattle.std.specs.Int.{w16, w32, to_le_bytes}
use Rattle.std.specs.Str.{bytes_eq}
use Rattle.std.proofs.lemmas.Bool.{le-ltb}
use Rattle.std.proofs.lemmas.List.{take_at, drop_at, take-append-drop, length-append}
use Rattle.std.proofs.lemmas.Slice.Eq.{bytes_eq-Decides}
use Rattle.pl_layout.specs.Reading.{little_at, byte_at}
use Rattle.pl_layout.proofs.Steps.{passed, passed_over, ok_is}
use Rattle.pl_layout.proofs.Fields.{IsBytes, IsBytes-drop, Takes, Grammar, byte_text, little16, little32, number_grammar, byte_grammar}
use Rattle.tcg_log.specs.Reading.{cut, constant_at}

-- numbers of one, two and four bytes
pub one : (all : ℕ) → Grammar (byte_at (cut all)) byte_text (λ n. n < 256)
one all = byte_grammar (cut all)

pub two : (all : ℕ) → Grammar (little_at (cut all) w16) (to_le_bytes w16) (λ n. n < 2 ^ 16)
two all = number_grammar little16 (cut all)

pub four : (all : ℕ) → Grammar (little_at (cut all) w32) (to_le_bytes w32) (λ n. n < 2 ^ 32)
four all = number_grammar little32 (cut all)

-- what a Spec ID record has in one place
pub constant_takes : (all : ℕ) (text bytes rest : List ℕ) → IsBytes bytes → constant_at all text bytes ≡ Ok rest → Takes bytes text rest
constant_takes all text bytes rest fits e =
    let g = passed_over _ e in
    let h = passed _ g.1 in
    let same : take (length text) bytes ≡ text = (bytes_eq-Decides (take (length text) bytes) text).0 h.0 in
    subst (λ (y : List ℕ). Takes bytes text y) (ok_is (drop (length text) bytes) rest h.1) (record {
      parts = sym (take-append-drop (length text) bytes) ∙ ap (λ (t : List ℕ). t ++ drop (length text) bytes) same;
      rest_fits = IsBytes-drop (length text) bytes fits;
    })

pub constant_again : (all : ℕ) (text rest : List ℕ) → constant_at all text (text ++ rest) ≡ Ok rest
constant_again all text rest =
    let long : ltb (length (text ++ rest)) (length text) ≡ false = le-ltb _ _ (omega (arith, length-append text rest)) in
    let same : bytes_eq text text ≡ true = (bytes_eq-Decides text text).1 refl in
    rw (long, take_at text rest (length text) refl, drop_at text rest (length text) refl, same) refl
