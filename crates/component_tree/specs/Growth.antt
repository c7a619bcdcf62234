-- What holds of the components while files are added.
use Rattle.std.specs.Prelude.{◌≡◌, ℕ, ◌≤◌, true, false, List, length, map}
use Rattle.std.specs.Option.{MatchOption}
use Rattle.std.specs.Ordering.{nat_cmp, is_gt}
use Rattle.std.specs.Cmp.Lexicographic.{slice_cmp}
use Rattle.component_tree.specs.Ascending.{ascend}
use Rattle.component_tree.specs.Limits.{component_limit, total_limit}
use Rattle.component_tree.specs.PlainTree.{PlainComponent, records_in_all}
use Rattle.component_tree.specs.Reading.{last_of}

-- what every tree keeps
pub record IsWithin (components : List PlainComponent) : Type 0 where
  pub few : length components ≤ component_limit
  pub ascending : ascend (map (λ c. c.id) components) ≡ true
  pub total : records_in_all components ≤ total_limit

-- the last component's id isn't above this one
abbrev pub IsUpTo : List ℕ → List PlainComponent → Type 0
IsUpTo id components = MatchOption (last_of components) (Unit {0}) (λ c. is_gt (slice_cmp nat_cmp c.id id) ≡ false)
