use Rattle.std.proofs.Common.{rules, ◌≡◌, ◌∙◌, sym, ap}
use Rattle.std.specs.Prelude.{codes}
use Rattle.std.proofs.lemmas.List.{append_cancel_right}
use Rattle.pcrlock_files.specs.Beside.{new_of}
use Rattle.pcrlock_files.proofs.place.is_new_of.Goals as goal

pub returns-in-Some : goal.returns-in-Some
returns-in-Some c =
    let cut = c.in-Some.ensures.cases in
    let whole : c.args.name.now ≡ new_of c.in-Some.front.now = cut.1.1 ∙ ap new_of (sym cut.2) in
    let onward : c.in-Some.front.now ≡ c.args.other.now → c.args.name.now ≡ new_of c.args.other.now = λ same. whole ∙ ap new_of same in
    let back : c.args.name.now ≡ new_of c.args.other.now → c.in-Some.front.now ≡ c.args.other.now = λ e. append_cancel_right c.in-Some.front.now c.args.other.now (codes ".new") (sym whole ∙ e) in
    search rules
