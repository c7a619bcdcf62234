use Rattle.std.proofs.Common.{◌≡◌, ℕ, List, Bor, Option, Some, is_some, map, sym, ap, ◌∙◌, subst, Result, Ok, Err, IsErrAnd}
use Rattle.std.specs.Prelude.{option_copied}
use Rattle.pcrlock_words.specs.declared.command.Command.{Command}
use Rattle.pcrlock_words.specs.declared.error.WordsError.{WordsError}
use Rattle.pcrlock_words.specs.declared.error.WordsError.TheVariants.{BadWords, Memory}
use Rattle.pcrlock_words.specs.Options.{Given}
use Rattle.pcrlock_words.specs.Commands.{options_for}
use Rattle.pcrlock_words.specs.Readings.{Gives, Refuses}
use Rattle.pcrlock_words.specs.Requests.{command_request, options_request}
use Rattle.pcrlock_words.proofs.Bytes.{is_some-copied}
use Rattle.pcrlock_words.proofs.read.read_options.Goals as goal

-- good options behind a command's name
options_read : (policy : Option (List ℕ)) (command : Command) (words : List (List ℕ)) (options : List Given) → options_for (is_some policy) command words ≡ Some options → options_request policy command words ≡ command_request policy command options
options_read policy command words options given = rw given

-- words that give no options spell no request
no_options : (policy : Option (List ℕ)) (command : Command) (words : List (List ℕ)) (e : WordsError) → Refuses e (options_for (is_some policy) command words) → Refuses e (options_request policy command words)
no_options policy command words BadWords none = rw none
no_options policy command words Memory none = tt

-- an error that is passed on, as an answer
err_gives : {X : Type 0} (r : Result X WordsError) (e : WordsError) (request : Option X) → IsErrAnd r (λ y. y ≡ e) → Refuses e request → Gives r request
err_gives (Ok x) e request is refuses = absurd is
err_gives (Err y) e request is refuses = subst (λ x. Refuses x request) (sym is) refuses

abbrev as_texts : List (Bor (List ℕ)) → List (List ℕ)
as_texts = map (λ text. text.now)

pub returns : goal.returns
returns c =
    let policy = option_copied c.args.script_policy in
    let words = c.args.words.now in
    let within = c.is_some.ensures ∙ sym (is_some-copied c.args.script_policy) in
    let texts_are : as_texts c.as_slice.result.now ≡ words = ap as_texts c.as_slice.ensures.value ∙ c.in_ok-texts.ensures in
    let given : options_for (is_some policy) c.args.command words ≡ Some c.in_ok-options.options =
    ap (options_for (is_some policy) c.args.command) (sym texts_are)
    ∙ ap (λ w. options_for w c.args.command (as_texts c.as_slice.result.now)) (sym within)
    ∙ c.in_ok-options.ensures in
    subst (Gives c.read_command.result) (sym (options_read policy c.args.command words c.in_ok-options.options given)) c.read_command.ensures

pub returns-in_err-options : goal.returns-in_err-options
returns-in_err-options c =
    let policy = option_copied c.args.script_policy in
    let words = c.args.words.now in
    let e = c.in_err-options.field-0.0 in
    let within = c.is_some.ensures ∙ sym (is_some-copied c.args.script_policy) in
    let texts_are : as_texts c.as_slice.result.now ≡ words = ap as_texts c.as_slice.ensures.value ∙ c.in_ok-texts.ensures in
    let none : Refuses e (options_for (is_some policy) c.args.command words) =
    subst (λ w. Refuses e (options_for w c.args.command words)) within (subst (λ t. Refuses e (options_for c.is_some.result c.args.command t)) texts_are c.in_err-options.ensures) in
    err_gives c.from_residual-in_err-options.result e (options_request policy c.args.command words) c.from_residual-in_err-options.ensures.1 (no_options policy c.args.command words e none)
