-- The table by which a client walks: the newest one whose root the index holds.
use Rattle.std.specs.Prelude.{◌≡◌, ℕ, Bool, List, [], ◌∷◌, Option, Some, None, Result, Ok, Err, if◌then◌else◌}
use Rattle.std.specs.Option.{option_or}
use Rattle.std.specs.Str.{bytes_eq}
use Rattle.or_tree.specs.Plan.{plan_of}
use Rattle.policy_digest.specs.PlainTable.{PlainTable, root_of}
use Rattle.policy_walk.specs.declared.prepared.PrepareError.{PrepareError}
use Rattle.policy_walk.specs.declared.prepared.PrepareError.TheVariants as error
use Rattle.policy_walk.specs.Places.{Ready}

-- an index's content for a root: the hash's algorithm, SHA-256, and the root
abbrev pub content_of : List ℕ → List ℕ
content_of root = 0x00 ∷ 0x0B ∷ root

abbrev pub is_in_force : List ℕ → PlainTable → Bool
is_in_force content table = bytes_eq content (content_of (root_of table))

abbrev pub if_in_force : List ℕ → PlainTable → Option PlainTable
if_in_force content table = if is_in_force content table then Some table else None

-- the last one whose content it is
abbrev pub chosen_of : List ℕ → List PlainTable → Option PlainTable
chosen_of content [] = None
chosen_of content (table ∷ tables) = option_or (chosen_of content tables) (if_in_force content table)

-- the root of the last
abbrev pub newest_root : List PlainTable → List ℕ
newest_root [] = []
newest_root (table ∷ []) = root_of table
newest_root (table ∷ other ∷ tables) = newest_root (other ∷ tables)

abbrev pub prepared_by : ℕ → List ℕ → List ℕ → Option PlainTable → Result Ready PrepareError
prepared_by index content newest (Some table) = Ok (record { plan = plan_of table; index = index })
prepared_by index content newest None = Err (error.Outdated content newest)

-- a walk by that table, or that the content is of none
abbrev pub prepared_of : ℕ → List ℕ → List PlainTable → Result Ready PrepareError
prepared_of index content tables = prepared_by index content (newest_root tables) (chosen_of content tables)

-- the answer is that, unless memory ran out
abbrev pub Refuses : PrepareError → Result Ready PrepareError → Type 0
Refuses error.Memory given = Unit {0}
Refuses (error.Outdated content newest) given = given ≡ Err (error.Outdated content newest)

abbrev pub Answers : Result Ready PrepareError → Result Ready PrepareError → Type 0
Answers (Ok ready) given = given ≡ Ok ready
Answers (Err e) given = Refuses e given
