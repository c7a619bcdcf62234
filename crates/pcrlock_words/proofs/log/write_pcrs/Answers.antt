use Rattle.std.proofs.Common.{◌≡◌, ℕ, ◌<◌, ◌++◌, List, [], length, get_or, Option, None, sym, ap₂, ◌∙◌, subst, string_bytes}
use Rattle.std.specs.Prelude.{slice_index_or}
use Rattle.std.proofs.lemmas.List.{get_or_default}
use Rattle.pcrlock_words.specs.LogText.{pcr_text}
use Rattle.pcrlock_words.proofs.Ranges.{more_text, texts_from}
use Rattle.pcrlock_words.proofs.log.write_pcrs.Goals as goal

-- what was read at a place
read_at : {X : Type 0} (xs : List X) (i n : ℕ) (x d : X) → length xs ≡ n → i < n → x ≡ get_or xs i x → slice_index_or xs i d ≡ x
read_at xs i n x d all below read = get_or_default xs i d x (subst (λ m. i < m) (sym all) below) ∙ sym read

pub loop-pcr-preserved : goal.loop-pcr-preserved
loop-pcr-preserved c =
    let replayed : List (Option (List ℕ)) = c.args.replayed.now in
    let now : List (List ℕ) = c.args.now.now in
    let pcr = c.loop-pcr.pcr in
    let text : ℕ → List ℕ = λ p. pcr_text p (slice_index_or replayed p None) (slice_index_or now p []) in
    let replay_is : slice_index_or replayed pcr None ≡ c.index-replayed-place.result =
    read_at replayed pcr 24 c.index-replayed-place.result None c.requires.replayed c.loop-pcr-test.true c.index-replayed-place.is in
    let now_is : slice_index_or now pcr [] ≡ c.index-now-place.result =
    read_at now pcr 24 c.index-now-place.result [] c.requires.now c.loop-pcr-test.true c.index-now-place.is in
    more_text text pcr (string_bytes c.loop-pcr.text) (string_bytes c.write_pcr.new.text) (string_bytes c.args.text.now ++ texts_from text 0) c.loop-pcr-test.true c.loop-pcr.invariant
    (c.in_ok-write_pcr.ensures ∙ ap₂ (λ a b. string_bytes c.loop-pcr.text ++ pcr_text pcr a b) (sym replay_is) (sym now_is))
