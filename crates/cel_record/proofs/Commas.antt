-- Texts with commas between them, written one after another.
use Rattle.std.proofs.Common.{◌≡◌, ◌<◌, ◌+◌, ℕ, List, [], ◌∷◌, ◌++◌, Bool, true, false, drop, flat_map, get_or, length, refl, sym, ap, ◌∙◌, add-one, append-nil}
use Rattle.std.proofs.Math.Seq.{drop-cons}
use Rattle.std.specs.List.{join_with_byte}
use Rattle.cel_record.specs.Commas.{comma_texts}

after_first : (t : List ℕ) (ts : List (List ℕ)) → join_with_byte 44 (t ∷ ts) ≡ t ++ comma_texts true ts
after_first t [] = sym (append-nil t)
after_first t (u ∷ us) = ap (λ s. t ++ 44 ∷ s) (after_first u us)

pub comma_texts-join : (ts : List (List ℕ)) → join_with_byte 44 ts ≡ comma_texts false ts
comma_texts-join [] = refl
comma_texts-join (t ∷ ts) = after_first t ts

-- once nothing is left, all texts stand there
pub all_written : (out old : List ℕ) (later : Bool) (left texts : List (List ℕ)) → left ≡ []
    → out ++ comma_texts later left ≡ old ++ comma_texts false texts → out ≡ old ++ join_with_byte 44 texts
all_written out old later [] texts e h = sym (append-nil out) ∙ h ∙ ap (λ s. old ++ s) (sym (comma_texts-join texts))
all_written out old later (t ∷ ts) texts e h = cc

pub ruleset comma_laws = (comma_texts-join)

-- the next of some things, and those behind it
pub next_texts : {X : Type 0} (f : X → List (List ℕ)) (xs : List X) (i : ℕ) (d : X) → i < length xs
    → flat_map f (drop i xs) ≡ f (get_or xs i d) ++ flat_map f (drop (i + 1) xs)
next_texts f xs i d h = rw add-one (ap (flat_map f) (drop-cons xs i d h))
