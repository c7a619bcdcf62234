use Rattle.std.proofs.Common.{◌≡◌, ◌++◌, [], ◌∷◌, List, ℕ, sym, ap, ◌∙◌, subst}
use Rattle.std.specs.List.{remove}
use Rattle.predictor.specs.declared.reached.Reached.{Reached}
use Rattle.predictor.specs.StateOrder.{HasKeys}
use Rattle.predictor.proofs.StateKeys.{keys_more, taken_back}
use Rattle.predictor.proofs.seen.add.Goals.{in-Ok, in-Err}
use Rattle.predictor.proofs.seen.add.Goals as goal

pub returns-clause-has_keys : goal.returns-clause-has_keys
returns-clause-has_keys c =
    let list = c.args.list.now in
    let pushed : c.push.new.self ≡ list ++ c.args.state ∷ [] = c.in_ok-push.ensures in
    elim c.match-insert.branch [
      | in-Ok w ↦
          let made : c.match-insert.list ≡ list ++ c.args.state ∷ [] = w.list-is ∙ pushed in
          subst (λ (l : List Reached). HasKeys c.insert.new.self.keys l) (sym made)
          (keys_more c.args.keys.now.keys c.insert.new.self.keys list c.args.key c.args.state c.requires.same c.requires.has_keys w.in-Ok.ensures.updates.0)
      | in-Err w ↦
          let made : c.match-insert.list ≡ list =
          w.list-is ∙ w.remove-refused.ensures.rest ∙ ap (λ (l : List Reached). remove l c.len-count.result) pushed ∙ ap (remove (list ++ c.args.state ∷ [])) c.len-count.ensures ∙ taken_back list c.args.state in
          subst (λ (l : List Reached). HasKeys c.insert.new.self.keys l) (sym made) (subst (λ (ks : List (List (List ℕ))). HasKeys ks list) (sym w.in-Err.ensures.err) c.requires.has_keys)
    ]
