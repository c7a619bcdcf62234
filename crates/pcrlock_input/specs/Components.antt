-- What a command takes as the tree of components.
use Rattle.std.specs.Prelude.{ℕ, List, codes, Result, Ok, Err}
use Rattle.pl_base.specs.FileMap.{FileMap}
use Rattle.cel_record.specs.declared.error.RecordsError.{RecordsError}
use Rattle.cel_record.specs.declared.error.RecordsError.TheVariants as records
use Rattle.component_tree.specs.declared.error.TreeLimit.{TreeLimit}
use Rattle.component_tree.specs.declared.error.TreeLimit.TheVariants as limit
use Rattle.component_tree.specs.declared.error.TreeError.{TreeError}
use Rattle.component_tree.specs.declared.error.TreeError.TheVariants as tree
use Rattle.component_tree.specs.PlainTree.{PlainComponent}
use Rattle.component_tree.specs.Reading.{tree_in}
use Rattle.pcrlock_answer.specs.declared.answer.Answer.{Answer}
use Rattle.pcrlock_answer.specs.declared.answer.Answer.TheVariants as said
use Rattle.pcrlock_answer.specs.declared.place.Place.{Place}
use Rattle.pcrlock_answer.specs.declared.place.Place.TheVariants as place

-- where a component file is malformed: its record of this number, or the whole. That it has too many
-- records is a limit, and no reading ends for want of memory
abbrev pub place_in : RecordsError → Place
place_in records.NotJson = place.Json
place_in records.NotRecords = place.Records
place_in (records.BadRecord number kind) = place.At number
place_in records.TooMany = place.Records
place_in records.Memory = place.Records

-- the limit that is passed, and its number and one, or the bytes of a file
abbrev pub limit_answer : TreeLimit → Answer
limit_answer limit.Entries = said.Limit (codes "entries") 4097
limit_answer (limit.FileBytes size) = said.Limit (codes "component-bytes") size
limit_answer limit.Components = said.Limit (codes "components") 257
limit_answer limit.Variants = said.Limit (codes "variants") 65
limit_answer limit.Records = said.Limit (codes "records") 257
limit_answer limit.Total = said.Limit (codes "total") 65537

-- why there is no tree. The folders of a map of files have no faults
abbrev pub tree_answer : TreeError → Answer
tree_answer (tree.BadName path) = said.Malformed path place.BadName
tree_answer (tree.Malformed path kind) = said.Malformed path (place_in kind)
tree_answer (tree.TooMany passed) = limit_answer passed
tree_answer tree.Failed = said.ReadFault
tree_answer tree.Memory = said.Memory

abbrev pub components_read : Result (List PlainComponent) TreeError → Result (List PlainComponent) Answer
components_read (Ok components) = Ok components
components_read (Err error) = Err (tree_answer error)

-- the components of the folders, of which the first hides what stands under the same names in those
-- behind it
abbrev pub components_of : FileMap → List (List ℕ) → Result (List PlainComponent) Answer
components_of files folders = components_read (tree_in files folders)
