-- The component that lists what was measured.
use Rattle.std.specs.Prelude.{ℕ, Bool, true, false, ◌&&◌, ◌||◌, ◌==◌, List, Option, Some, None}
use Rattle.std.specs.List.{list_any, position_from}
use Rattle.std.specs.Str.{bytes_eq}
use Rattle.cel_record.specs.Listed.{Listed}
use Rattle.cel_record.specs.Spelled.{Spelled}
use Rattle.component_tree.specs.PlainTree.{PlainComponent}
use Rattle.pcr_replay.specs.Row.{Row}

-- both have a digest
abbrev pub both_have : Option (List ℕ) → Option (List ℕ) → Bool
both_have (Some d) (Some e) = true
both_have (Some d) None = false
both_have None e = false

-- where both have a digest, it is the same
abbrev pub agree_where_both : Option (List ℕ) → Option (List ℕ) → Bool
agree_where_both (Some d) (Some e) = bytes_eq d e
agree_where_both (Some d) None = true
agree_where_both None e = true

-- they share at least one bank
abbrev pub share : Listed → Listed → Bool
share a b = both_have a.sha1 b.sha1 || both_have a.sha256 b.sha256 || both_have a.sha384 b.sha384 || both_have a.sha512 b.sha512

-- they agree in every bank that they share
abbrev pub agree : Listed → Listed → Bool
agree a b = agree_where_both a.sha1 b.sha1 && agree_where_both a.sha256 b.sha256 && agree_where_both a.sha384 b.sha384 && agree_where_both a.sha512 b.sha512

-- a component's record says what was measured
abbrev pub tells : Row → Spelled → Bool
tells entry r = (r.pcr == entry.pcr) && share r.digests entry.digests && agree r.digests entry.digests

abbrev pub lists : Row → PlainComponent → Bool
lists entry c = list_any (λ v. list_any (tells entry) v.records) c.variants

-- the first component with such a record
abbrev pub listed_by_of : Row → List PlainComponent → Option ℕ
listed_by_of entry components = position_from (lists entry) 0 components
