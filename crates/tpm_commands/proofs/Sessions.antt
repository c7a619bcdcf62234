-- The line of a new session.
use Rattle.std.proofs.Common.{◌≡◌, ℕ, true, cond, List, Option, None, Some, sym, ap, ◌∙◌}
use Rattle.std.specs.Prelude.{codes, is_some}
use Rattle.std.specs.Borrow.{Bor}
use Rattle.std.specs.Str.{bytes_eq}
use Rattle.hash_bank.specs.declared.bank.Bank.TheVariants.{Sha384}
use Rattle.tpm_model.specs.declared.command.Command.{Command}
use Rattle.tpm_model.specs.declared.command.Command.TheVariants as command
use Rattle.tpm_commands.specs.CommandLine.{start_session_of}
use Rattle.pl_text.specs.Parts.{one_of, parts_behind, parts_of}
use Rattle.pl_text.specs.Words.{◌>>=◌}
use Rattle.pl_text.proofs.Splits.{has_first}

-- the session of a hash's name
abbrev named : List ℕ → Option Command
named hash = cond (bytes_eq hash (codes "sha384")) (Some (command.StartSession Sha384)) None

-- more than one word behind the verb
start_none : (text : List ℕ) → one_of (parts_of 32 text) ≡ None → start_session_of (parts_of 32 text) ≡ None
start_none text none =
    let h = has_first 32 text in
    ap start_session_of h.is ∙ ap (λ word. word >>= named) (sym (ap one_of h.is) ∙ none)

pub start_none_behind : (words : Option (Bor (List ℕ))) → is_some words ≡ true → one_of (parts_behind 32 words) ≡ None → start_session_of (parts_behind 32 words) ≡ None
start_none_behind None some none = absurd (cc some)
start_none_behind (Some text) some none = start_none text.now none
