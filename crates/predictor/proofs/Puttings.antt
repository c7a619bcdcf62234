-- States put to a list one after the other, up to a limit, and their values.
use Rattle.std.proofs.Common.{◌≡◌, ℕ, ◌+◌, ◌<◌, List, [], ◌∷◌, length, get_or, drop, map, Err, refl, sym, ap, ◌∙◌, arith}
use Rattle.hash_bank.specs.declared.bank.Bank.{Bank}
use Rattle.component_tree.specs.declared.tree.Variant.{Variant}
use Rattle.component_tree.specs.PlainTree.{PlainVariant, plain_variant}
use Rattle.record_match.proofs.Plainly.{next}
use Rattle.predictor.specs.Distinct.{put, put_all, distinct}
use Rattle.predictor.specs.Foreseen.{value_limit}
use Rattle.predictor.proofs.Repeats.{all_put-append, all_put_grows}
use Rattle.predictor.specs.declared.reached.Reached.{Reached}
use Rattle.predictor.specs.declared.spreading.Stop.{Stop}
use Rattle.predictor.specs.declared.spreading.Stop.TheVariants as stops
use Rattle.predictor.specs.Reaching.{same_values, values_in}
use Rattle.predictor.specs.Spread.{extended_state, next_of, nexts_from, next_states, Puts, Collects}

-- ---- loops

-- a list that is too long already
pub put_full : (new xs total : List Reached) → value_limit < length new → put_all same_values new xs ≡ total → value_limit < length total
put_full new xs total longer so_far = let g = all_put_grows same_values new xs in let e = ap length so_far in omega arith

pub put_variant : (bank : Bank) (pcrs : List ℕ) (cut : ℕ) (q : Reached) (list new total : List Reached) (variants : List Variant) (i : ℕ) (v : Variant) → i < length variants → v ≡ get_or variants i v
    → new ≡ put same_values list (next_of bank pcrs cut q i (plain_variant v).records)
    → put_all same_values list (nexts_from bank pcrs cut i (map plain_variant (drop i variants)) q) ≡ total → put_all same_values new (nexts_from bank pcrs cut (i + 1) (map plain_variant (drop (i + 1) variants)) q) ≡ total
put_variant bank pcrs cut q list new total variants i v lt is made so_far =
    ap (λ (l : List Reached). put_all same_values l (nexts_from bank pcrs cut (i + 1) (map plain_variant (drop (i + 1) variants)) q)) made
    ∙ sym (ap (λ (vs : List Variant). put_all same_values list (nexts_from bank pcrs cut i (map plain_variant vs) q)) (next variants i v lt is)) ∙ so_far

pub put_one : (list new total items : List Reached) (i : ℕ) (x : Reached) → i < length items → x ≡ get_or items i x → new ≡ put same_values list x
    → put_all same_values list (drop i items) ≡ total → put_all same_values new (drop (i + 1) items) ≡ total
put_one list new total items i x lt is made so_far =
    ap (λ (l : List Reached). put_all same_values l (drop (i + 1) items)) made ∙ sym (ap (λ (xs : List Reached). put_all same_values list xs) (next items i x lt is)) ∙ so_far

pub step_next : (bank : Bank) (pcrs : List ℕ) (cut : ℕ) (variants : List PlainVariant) (list new total states : List Reached) (i : ℕ) (q : Reached) → i < length states → q ≡ get_or states i q
    → new ≡ put_all same_values list (nexts_from bank pcrs cut 0 variants q)
    → put_all same_values list (next_states bank pcrs cut variants (drop i states)) ≡ total → put_all same_values new (next_states bank pcrs cut variants (drop (i + 1) states)) ≡ total
step_next bank pcrs cut variants list new total states i q lt is made so_far =
    ap (λ (l : List Reached). put_all same_values l (next_states bank pcrs cut variants (drop (i + 1) states))) made
    ∙ sym (all_put-append same_values list (nexts_from bank pcrs cut 0 variants q) (next_states bank pcrs cut variants (drop (i + 1) states)))
    ∙ sym (ap (λ (xs : List Reached). put_all same_values list (next_states bank pcrs cut variants xs)) (next states i q lt is)) ∙ so_far

pub step_stops : (bank : Bank) (pcrs : List ℕ) (cut : ℕ) (variants : List PlainVariant) (list new states : List Reached) (i : ℕ) (q : Reached) (stop : Stop) → i < length states → q ≡ get_or states i q
    → Puts {A = Unit {0}} (Err stop) list new (nexts_from bank pcrs cut 0 variants q)
    → put_all same_values list (next_states bank pcrs cut variants (drop i states)) ≡ distinct same_values (next_states bank pcrs cut variants states) → Collects (Err stop) (next_states bank pcrs cut variants states)
step_stops bank pcrs cut variants list new states i q stops.Full lt is h so_far =
    put_full (put_all same_values list (nexts_from bank pcrs cut 0 variants q)) (next_states bank pcrs cut variants (drop (i + 1) states)) (distinct same_values (next_states bank pcrs cut variants states)) h
    (step_next bank pcrs cut variants list (put_all same_values list (nexts_from bank pcrs cut 0 variants q)) (distinct same_values (next_states bank pcrs cut variants states)) states i q lt is refl so_far)
step_stops bank pcrs cut variants list new states i q stops.Memory lt is h so_far = tt

-- ---- their values

pub nexts_values : (bank : Bank) (pcrs : List ℕ) (cut n : ℕ) (variants : List PlainVariant) (q : Reached) → values_in (nexts_from bank pcrs cut n variants q) ≡ map (λ v. extended_state bank pcrs q.values v.records) variants
nexts_values bank pcrs cut n [] q = refl
nexts_values bank pcrs cut n (v ∷ variants) q = ap (λ (l : List (List (List ℕ))). extended_state bank pcrs q.values v.records ∷ l) (nexts_values bank pcrs cut (n + 1) variants q)
