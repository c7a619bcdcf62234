-- The order of states as keys of a set, and which keys stand beside a list.
use Rattle.std.specs.Prelude.{◌≡◌, ℕ, Bool, List}
use Rattle.std.specs.List.{list_any}
use Rattle.std.specs.declared.cmp.Ordering.{Ordering}
use Rattle.std.specs.Ordering.{nat_cmp}
use Rattle.std.specs.Cmp.{IsTotalOrder}
use Rattle.std.specs.Cmp.Lexicographic.{slice_cmp, nat_list_cmp_total, lists_total}
use Rattle.std.specs.BTreeMap.{is_at}
use Rattle.policy_digest.specs.Table.{values_eq}
use Rattle.predictor.specs.declared.reached.Reached.{Reached}

-- by the bytes of the digests, one digest after the other
abbrev pub state_cmp : List (List ℕ) → List (List ℕ) → Ordering
state_cmp = slice_cmp (slice_cmp nat_cmp)

pub state_total : IsTotalOrder state_cmp
state_total = lists_total nat_list_cmp_total

-- a state of the list has these values
abbrev pub has_values : List (List ℕ) → List Reached → Bool
has_values values list = list_any (λ s. values_eq values s.values) list

-- values are among the keys exactly where a state of the list has them
abbrev pub HasKeys : List (List (List ℕ)) → List Reached → Type 0
HasKeys keys list = (q : List (List ℕ)) → list_any (is_at (state_cmp q)) keys ≡ has_values q list
