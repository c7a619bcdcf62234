-- The parser of a command's options, as `clap` sees it.
use Rattle.std.specs.Prelude.{ℕ, Bool, true, false, ◌≡◌, ◌==◌, not, if◌then◌else◌, List, [], ◌∷◌, ◌++◌, length, map, filter, codes, get_or, Option, Some, None}
use Rattle.std.specs.Option.{option_map_or}
use Rattle.clap.specs.Words.{App, Row, Rule, found_of, new_rule, rows_of}
use Rattle.clap.specs.Simple.{new_shape}
use Rattle.clap.specs.declared.builder.action.ArgAction.{ArgAction}
use Rattle.clap.specs.declared.builder.action.ArgAction.TheVariants.{SetTrue}
use Rattle.clap.specs.declared.builder.value_parser.Reading.TheVariants as reading
use Rattle.clap.specs.declared.parser.matches.ArgMatches.{ArgMatches}
use Rattle.clap.specs.declared.parser.matches.ValueSource.{ValueSource}
use Rattle.clap.specs.declared.parser.matches.ValueSource.TheVariants.{CommandLine, DefaultValue}
use Rattle.clap.specs.declared.error.kind.ErrorKind.{ErrorKind}
use Rattle.clap.specs.declared.error.kind.ErrorKind.TheVariants as kind
use Rattle.pcrlock_words.specs.declared.error.WordsError.{WordsError}
use Rattle.pcrlock_words.specs.declared.error.WordsError.TheVariants.{BadWords, Memory}
use Rattle.pcrlock_words.specs.declared.command.Entry as declared
use Rattle.pcrlock_words.specs.declared.command.Entry.TheVariants.{Needed, Free, Flag}
use Rattle.pcrlock_words.specs.Commands.{needed, free, flag}
use Rattle.pcrlock_words.specs.Options.{Entry, Given, is_dashed, undashed}

-- an option of a command, as the code has it
abbrev pub entry_of : declared.Entry → Entry
entry_of (Needed name) = needed name.now
entry_of (Free name) = free name.now
entry_of (Flag name) = flag name.now

-- what a flag does where it is given
abbrev pub action_for : Entry → Option ArgAction
action_for entry = if entry.is_flag then Some SetTrue else None

-- the argument of an option
abbrev pub rule_for : Entry → Rule
rule_for entry = record (new_rule entry.name) {
  long = Some entry.name;
  required = entry.is_needed;
  action = action_for entry;
}

-- the parser with no argument, which adds none by itself
abbrev pub empty_parser : App
empty_parser = record {
  top = record (new_shape (codes "pcrlock")) { no_binary_name = true; disable_help_flag = true };
  subs = [];
}

-- the parser of these options
abbrev pub parser_for : List Entry → App
parser_for entries = record empty_parser { top = record empty_parser.top { rules = map rule_for entries } }

-- a word that begins with a dash and spells no option, in whatever place: `clap` takes `-` as a value,
-- and `--` as a mark
abbrev pub is_stray : List ℕ → Bool
is_stray word = option_map_or (λ name. length name == 0) (undashed word) (is_dashed word)

-- whether a value comes from the words, and not from a default
abbrev pub is_of_words : Option ValueSource → Bool
is_of_words (Some CommandLine) = true
is_of_words (Some DefaultValue) = false
is_of_words None = false

-- whether the words gave what was matched
abbrev pub is_from_words : Row → Bool
is_from_words row = is_of_words row.source

-- the options that were matched in the words
abbrev pub options_in : ArgMatches → List Given
options_in matches = map (λ row. (row.id, get_or row.values 0 [])) (filter is_from_words (rows_of (found_of matches)))

-- the flags that were not
abbrev pub left_in : ArgMatches → List (List ℕ)
left_in matches = map (λ row. row.id) (filter (λ row. not (is_from_words row)) (rows_of (found_of matches)))

-- what is matched of an option that is given
abbrev pub row_for : Given → Row
row_for option = record {
  id = option.0;
  values = option.1 ∷ [];
  count = None;
  source = Some CommandLine;
  reading = reading.AsWritten;
}

-- what stands for a flag that isn't given
abbrev pub row_left : List ℕ → Row
row_left name = record {
  id = name;
  values = codes "false" ∷ [];
  count = None;
  source = Some DefaultValue;
  reading = reading.AsWritten;
}

-- the matches are the options that the words gave, and then the flags that they didn't
abbrev pub HasOptions : ArgMatches → Type 0
HasOptions matches = rows_of (found_of matches) ≡ map row_for (options_in matches) ++ map row_left (left_in matches)

-- what the parser's error means for the words
abbrev pub refusal_of : ErrorKind → WordsError
refusal_of kind.OutOfMemory = Memory
refusal_of _ = BadWords
