use Rattle.std.proofs.Common.{◌≡◌, ℕ, ◌*◌, ◌<◌, ◌≤◌, Bool, true, false, cond, ◌&&◌, List, length, Option, Some, None, Result, Ok, Err, refl, sym, ap, ◌∙◌, subst, arith}
use Rattle.std.specs.Prelude.{nat_le, MatchOption}
use Rattle.std.specs.Option.{ok_or}
use Rattle.std.specs.Result.{result_ok}
use Rattle.std.proofs.lemmas.Bool.{and_parts, leb-true}
use Rattle.hex.specs.Hex.{decode_of}
use Rattle.hex.specs.declared.error.FromHexError.{FromHexError}
use Rattle.hex.proofs.HexLemmas.{decode_of-ok}
use Rattle.pcrlock_words.specs.declared.error.WordsError.TheVariants.{BadWords}
use Rattle.pcrlock_words.specs.Readings.{Gives}
use Rattle.pcrlock_words.specs.Values.{key_of}
use Rattle.pcrlock_words.proofs.values.read_key.Goals as goal

-- what a test lets through was decoded
let_through : (test : Bool) (r : Result (List ℕ) FromHexError) (bytes : List ℕ) → cond test (result_ok r) None ≡ Some bytes → (test ≡ true) × (r ≡ Ok bytes)
let_through true (Ok found) bytes e = (refl, cc)
let_through true (Err d) bytes f = cc
let_through false r bytes f = cc

-- at most 256 digits are at most 128 bytes
key_fits : (value bytes : List ℕ) → key_of value ≡ Some bytes → length bytes ≤ 128
key_fits value bytes read =
    let parts = let_through (nat_le 2 (length value) && nat_le (length value) 256) (decode_of value) bytes read in
    let bounds = and_parts (nat_le 2 (length value)) (nat_le (length value) 256) parts.0 in
    let twice : length value ≡ 2 * length bytes = (decode_of-ok value bytes parts.1).2 in
    omega (arith, leb-true (length value) 256 bounds.1, twice)

-- so they have room
key_kept : (value bytes seen : List ℕ) (small : Option (List ℕ)) → key_of value ≡ Some bytes → seen ≡ bytes → MatchOption small (128 < length seen) (λ s. (length seen ≤ 128) × (s ≡ seen)) → Gives (ok_or small BadWords) (key_of value)
key_kept value bytes seen None read same large =
    absurd (omega (arith, key_fits value bytes read, subst (λ b. 128 < length b) same large))
key_kept value bytes seen (Some key) read same kept = read ∙ ap (λ b. Some b) (sym (kept.1 ∙ same))

pub returns : goal.returns
returns c =
    rw c.ok_or.ensures.value
    (key_kept c.args.value.now c.in_ok-bytes.bytes c.as_slice.result.now c.from_slice.result c.in_ok-bytes.ensures c.as_slice.ensures c.from_slice.ensures)
