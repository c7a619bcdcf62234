-- What a reader of words answers, against what the definitions give.
use Rattle.std.specs.Prelude.{◌≡◌, Option, Some, None, Result, Ok, Err}
use Rattle.pcrlock_words.specs.declared.error.WordsError.{WordsError}
use Rattle.pcrlock_words.specs.declared.error.WordsError.TheVariants.{BadWords, Memory}

-- the words give nothing, unless memory ran out
abbrev pub Refuses : {X : Type 0} → WordsError → Option X → Type 0
Refuses BadWords reading = reading ≡ None
Refuses Memory reading = Unit {0}

-- what was answered is what the words give, unless memory ran out
abbrev pub Gives : {X : Type 0} → Result X WordsError → Option X → Type 0
Gives (Ok x) reading = reading ≡ Some x
Gives (Err e) reading = Refuses e reading
