use Rattle.std.proofs.Common.{◌≡◌, ◌&&◌, ℕ, Bool, cond, Bor, List, length, map, Some, None, sym, ap, ap₂, ◌∙◌}
use Rattle.std.specs.Prelude.{◌==◌, nat_le, not}
use Rattle.std.specs.List.{list_any}
use Rattle.std.proofs.lemmas.List.{length-map}
use Rattle.clap.proofs.WalkLemmas.{list_any-map}
use Rattle.pl_text.specs.Parts.{parts_of}
use Rattle.pcrlock_words.specs.Values.{folders_of}
use Rattle.pcrlock_words.proofs.values.read_folders.Goals as goal

-- whether the parts of a value are folders
abbrev are_folders : List (List ℕ) → Bool
are_folders parts = nat_le (length parts) 16 && not (list_any (λ part. length part == 0) parts)

abbrev texts : List (Bor (List ℕ)) → List (List ℕ)
texts = map (λ part. part.now)

same_test : (parts : List (Bor (List ℕ))) (value : List ℕ) (test : Bool) → texts parts ≡ parts_of 44 value → test ≡ (nat_le (length parts) 16 && not (list_any (λ (part : Bor (List ℕ)). length part.now == 0) parts)) → are_folders (parts_of 44 value) ≡ test
same_test parts value test are e =
    ap are_folders (sym are)
    ∙ ap₂ (λ n any. nat_le n 16 && not any) (length-map parts (λ (part : Bor (List ℕ)). part.now)) (sym (list_any-map (λ part. length part == 0) (λ (part : Bor (List ℕ)). part.now) parts))
    ∙ sym e

some_folders : (value : List ℕ) (test : Bool) → are_folders (parts_of 44 value) ≡ test → folders_of value ≡ cond test (Some (parts_of 44 value)) None
some_folders value test e = ap (λ b. cond b (Some (parts_of 44 value)) None) e

pub returns-then-not-are_folders : goal.returns-then-not-are_folders
returns-then-not-are_folders c =
    some_folders c.args.value.now _ (same_test c.as_slice.result.now c.args.value.now _ (ap texts c.as_slice.ensures.value ∙ c.in_ok-parts.ensures) c.are_folders.ensures)
    ∙ ap (λ b. cond b (Some (parts_of 44 c.args.value.now)) None) c.if-not-are_folders.true

pub returns : goal.returns
returns c =
    some_folders c.args.value.now _ (same_test c.as_slice.result.now c.args.value.now _ (ap texts c.as_slice.ensures.value ∙ c.in_ok-parts.ensures) c.are_folders.ensures)
    ∙ ap (λ b. cond b (Some (parts_of 44 c.args.value.now)) None) c.if-not-are_folders.false
    ∙ ap Some (sym (ap texts c.as_slice-2.ensures.value ∙ c.in_ok-parts.ensures))
    ∙ ap Some (sym c.in_ok-names.ensures)
