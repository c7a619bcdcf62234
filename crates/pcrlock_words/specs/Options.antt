-- The options that words give. Each is one word, `--name=value`, or two, `--name` and `value`. A flag is
-- the one word `--name`: it has no value.
use Rattle.std.specs.Prelude.{ℕ, Bool, true, false, ◌==◌, ◌&&◌, ◌||◌, not, nat_eq, if◌then◌else◌, List, [], ◌∷◌, drop, slice_index, codes, find, Option, Some, None, is_some, option_map, option_and_then}
use Rattle.std.specs.List.{starts_with, before_first, after_first, list_any}
use Rattle.std.specs.Option.{option_map_or}
use Rattle.std.specs.Str.{bytes_eq}

-- an option of a command: its name, whether it has to be given, and whether it is a flag
pub record Entry : Type 0 where
  pub name : List ℕ
  pub is_needed : Bool
  pub is_flag : Bool

-- an option that words give: its name, without the dashes, and its value; a flag stands with the value
-- `true`
abbrev pub Given : Type 0
Given = List ℕ × List ℕ

-- whether a word begins with a dash
abbrev pub is_dashed : List ℕ → Bool
is_dashed word = slice_index word 0 == 45

-- what stands behind the two dashes at the front of a word
abbrev pub undashed : List ℕ → Option (List ℕ)
undashed word = if starts_with nat_eq word (codes "--") then Some (drop 2 word) else None

-- the texts before and after the first `=`, where there is one
abbrev pub around_equals : List ℕ → Option (List ℕ × List ℕ)
around_equals text =
    if list_any (λ b. b == 61) text then Some (before_first (λ b. b == 61) text, after_first (λ b. b == 61) text)
    else None

-- the name and the value that one word has
abbrev pub joined : List ℕ → Option Given
joined word = option_and_then around_equals (undashed word)

-- whether a name is that of a flag
abbrev pub is_flag : List Entry → List ℕ → Bool
is_flag entries name = option_map_or (λ entry. entry.is_flag) (find (λ entry. bytes_eq entry.name name) entries) false

-- an option with a value, which a flag never has
abbrev pub unless_flag : List Entry → Given → Option Given
unless_flag entries option = if is_flag entries option.0 then None else Some option

-- the flag of this name
abbrev pub as_flag : List Entry → List ℕ → Option Given
as_flag entries name = if is_flag entries name then Some (name, codes "true") else None

-- the flag that one word gives
abbrev pub flagged : List Entry → List ℕ → Option Given
flagged entries word = option_and_then (as_flag entries) (undashed word)

-- whether a word is an option or a flag without the next one: it has a value, or is the name of a flag
abbrev pub is_whole : List Entry → List ℕ → Bool
is_whole entries word = is_some (joined word) || is_some (flagged entries word)

-- the option or the flag that one word gives
abbrev pub whole : List Entry → List ℕ → Option Given
whole entries word = if is_some (joined word) then option_and_then (unless_flag entries) (joined word) else flagged entries word

-- the option that two words give; the value doesn't begin with a dash
abbrev pub apart : List ℕ → List ℕ → Option Given
apart word value = if is_dashed value then None else option_map (λ name. (name, value)) (undashed word)

-- an option before others, where there are all of them
abbrev pub onto : Option Given → Option (List Given) → Option (List Given)
onto (Some option) (Some options) = Some (option ∷ options)
onto (Some option) None = None
onto None options = None

-- the options that all the words together give, from left to right, where these are the command's
abbrev pub given : List Entry → List (List ℕ) → Option (List Given)
given entries [] = Some []
given entries (word ∷ []) = onto (whole entries word) (Some [])
given entries (word ∷ value ∷ words) =
    if is_whole entries word then onto (whole entries word) (given entries (value ∷ words))
    else onto (apart word value) (given entries words)

-- whether an option of this name stands among some
abbrev pub is_given : List ℕ → List Given → Bool
is_given name options = list_any (λ option. bytes_eq option.0 name) options

-- the value of the first option of this name
abbrev pub value_of : List ℕ → List Given → Option (List ℕ)
value_of name options = option_map (λ option. option.1) (find (λ option. bytes_eq option.0 name) options)

-- whether one of the options has this name
abbrev pub is_known : List Entry → List ℕ → Bool
is_known entries name = list_any (λ entry. bytes_eq entry.name name) entries

-- whether each option has a name that is known, and none is given twice
abbrev pub are_taken : List Entry → List Given → Bool
are_taken entries [] = true
are_taken entries (option ∷ options) =
    is_known entries option.0 && not (is_given option.0 options) && are_taken entries options

-- whether an option that has to be given isn't
abbrev pub lacks_one : List Entry → List Given → Bool
lacks_one entries options = list_any (λ entry. entry.is_needed && not (is_given entry.name options)) entries

-- the options that words give, where they are some of these, none of them twice, with all that have to
-- be given
abbrev pub accepted : List Entry → Option (List Given) → Option (List Given)
accepted entries None = None
accepted entries (Some options) =
    if are_taken entries options && not (lacks_one entries options) then Some options else None
