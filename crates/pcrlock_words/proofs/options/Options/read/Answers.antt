use Rattle.std.proofs.Common.{◌≡◌, ◌∙◌, ℕ, Bool, false, true, List, [], Bor, Option, Result, Ok, Err, IsErrAnd, map, refl, sym, ap, subst}
use Rattle.std.specs.List.{list_any}
use Rattle.clap.specs.Kinds.{HasKind}
use Rattle.clap.specs.Words.{HasMatchesOf, app_of, fault_of, is_simple_and_free, kind_of}
use Rattle.clap.proofs.WalkLemmas.{list_any-map}
use Rattle.pcrlock_words.specs.declared.command.Command.{Command}
use Rattle.pcrlock_words.specs.declared.command.Command.TheVariants.{Script, Log, Cel, ListComponents, Predict, MakePolicy, RemovePolicy, Enroll, Unseal, TpmBoot, TpmExtend, TpmExec, Race, Gen, LockFirmwareCode, LockFirmwareConfig, UnlockFirmwareCode, UnlockFirmwareConfig, LockRaw, Broker, Prove, CheckProof}
use Rattle.pcrlock_words.specs.Commands.{options_for, options_of}
use Rattle.pcrlock_words.specs.Options.{is_known}
use Rattle.pcrlock_words.specs.Parser.{is_stray, parser_for, refusal_of}
use Rattle.pcrlock_words.specs.Readings.{Gives, Refuses}
use Rattle.pcrlock_words.specs.declared.error.WordsError.{WordsError}
use Rattle.pcrlock_words.proofs.ParserReads.{is_simple_parser}
use Rattle.pcrlock_words.proofs.ParserSet.{parser_gives, parser_refuses, stray_refused}
use Rattle.pcrlock_words.proofs.options.Options.read.Goals as goal

-- each option has a name
named : (within : Bool) (command : Command) → is_known (options_of within command) [] ≡ false
named true Script = refl
named true Log = refl
named true Cel = refl
named true ListComponents = refl
named true Predict = refl
named true MakePolicy = refl
named true RemovePolicy = refl
named true Enroll = refl
named true Unseal = refl
named true TpmBoot = refl
named true TpmExtend = refl
named true TpmExec = refl
named true Race = refl
named true Gen = refl
named true LockFirmwareCode = refl
named true LockFirmwareConfig = refl
named true UnlockFirmwareCode = refl
named true UnlockFirmwareConfig = refl
named true LockRaw = refl
named true Broker = refl
named true Prove = refl
named true CheckProof = refl
named false Script = refl
named false Log = refl
named false Cel = refl
named false ListComponents = refl
named false Predict = refl
named false MakePolicy = refl
named false RemovePolicy = refl
named false Enroll = refl
named false Unseal = refl
named false TpmBoot = refl
named false TpmExtend = refl
named false TpmExec = refl
named false Race = refl
named false Gen = refl
named false LockFirmwareCode = refl
named false LockFirmwareConfig = refl
named false UnlockFirmwareCode = refl
named false UnlockFirmwareConfig = refl
named false LockRaw = refl
named false Broker = refl
named false Prove = refl
named false CheckProof = refl

abbrev texts : List (Bor (List ℕ)) → List (List ℕ)
texts = map (λ word. word.now)

stray_texts : (words : List (Bor (List ℕ))) (has : Bool) → has ≡ list_any (λ (word : Bor (List ℕ)). is_stray word.now) words → list_any is_stray (texts words) ≡ has
stray_texts words has e = sym (e ∙ list_any-map is_stray (λ (word : Bor (List ℕ)). word.now) words)

pub returns-then-has_stray : goal.returns-then-has_stray
returns-then-has_stray c =
    let words = c.args.words.now in
    stray_refused (options_of c.args.within c.args.command) (named c.args.within c.args.command) (texts words) (stray_texts words _ c.has_stray.ensures ∙ c.if-has_stray.true)

-- an error that stands for another, as an answer
err_gives : {X : Type 0} (r : Result X WordsError) (k : WordsError) (options : Option X) → IsErrAnd r (λ e. e ≡ k) → Refuses k options → Gives r options
err_gives (Ok x) k options is refuses = absurd is
err_gives (Err e) k options is refuses = subst (λ x. Refuses x options) (sym is) refuses

fine_texts : (words : List (Bor (List ℕ))) (has : Bool) → has ≡ list_any (λ (word : Bor (List ℕ)). is_stray word.now) words → has ≡ false → list_any is_stray (texts words) ≡ false
fine_texts words has e none = stray_texts words has e ∙ none

pub returns-in_err-matches : goal.returns-in_err-matches
returns-in_err-matches c =
    let entries = options_of c.args.within c.args.command in
    let words = texts c.args.words.now in
    let e = c.in_err-matches.field-0.0 in
    let simple : is_simple_and_free (app_of c.in_ok-parser.parser) ≡ true = ap is_simple_and_free c.in_ok-parser.ensures ∙ is_simple_parser entries in
    let kinds : HasKind (fault_of (parser_for entries) words) e = subst (λ app. HasKind (fault_of app words) e) c.in_ok-parser.ensures (c.in_err-matches.ensures.kinds simple) in
    err_gives c.from_residual-in_err-matches.result (refusal_of (kind_of e)) (options_for c.args.within c.args.command words) c.from_residual-in_err-matches.ensures.1 (parser_refuses entries words e (fine_texts c.args.words.now _ c.has_stray.ensures c.if-has_stray.false) kinds)

pub invariant_of-result : goal.invariant_of-result
invariant_of-result c =
    let entries = options_of c.args.within c.args.command in
    let words = texts c.args.words.now in
    let m = c.in_ok-matches.matches in
    let simple : is_simple_and_free (app_of c.in_ok-parser.parser) ≡ true = ap is_simple_and_free c.in_ok-parser.ensures ∙ is_simple_parser entries in
    (parser_gives entries words m (fine_texts c.args.words.now _ c.has_stray.ensures c.if-has_stray.false) (ap (λ app. fault_of app words) (sym c.in_ok-parser.ensures) ∙ c.in_ok-matches.ensures.kinds simple) (subst (λ app. HasMatchesOf app words m) c.in_ok-parser.ensures c.in_ok-matches.ensures.matches)).1

pub returns : goal.returns
returns c =
    let entries = options_of c.args.within c.args.command in
    let words = texts c.args.words.now in
    let m = c.in_ok-matches.matches in
    let simple : is_simple_and_free (app_of c.in_ok-parser.parser) ≡ true = ap is_simple_and_free c.in_ok-parser.ensures ∙ is_simple_parser entries in
    (parser_gives entries words m (fine_texts c.args.words.now _ c.has_stray.ensures c.if-has_stray.false) (ap (λ app. fault_of app words) (sym c.in_ok-parser.ensures) ∙ c.in_ok-matches.ensures.kinds simple) (subst (λ app. HasMatchesOf app words m) c.in_ok-parser.ensures c.in_ok-matches.ensures.matches)).0
