-- Deeds that put no table in force: they write none into an index, and file none.
use Rattle.std.specs.Prelude.{◌≡◌, ℕ, List, None, Some}
use Rattle.std.specs.FinMap.{get}
use Rattle.std.specs.List.{AllByRecursion}
use Rattle.tpm_model.specs.declared.response.Response.{Response}
use Rattle.tpm_model.specs.Events.{Event, Update, Define, SealTo, SealPin, Other}
use Rattle.tpm_model.specs.World.{FiledPolicy, LiveIndex, World}
use Rattle.pcrlock_line.specs.Machine.{Live}
use Rattle.pcrlock_deeds.specs.Acts.{Act, FileStep, reckons, says, changes, works, filing_of}
use Rattle.pcrlock_deeds.specs.Deed.{Deed, Filing, keeps, files, ends, hashes, sends, sees, walks, boots, draws, writes, removes}

-- the program writes no table; what others write isn't the program's
abbrev pub WritesNone : Event → Type 0
WritesNone (Update handle pin table) = ⊥
WritesNone (Define public pin) = Unit {0}
WritesNone (SealTo binding secret) = Unit {0}
WritesNone (SealPin handle pin) = Unit {0}
WritesNone (Other command) = Unit {0}

-- what the policy file states stays, or no policy is filed from now on
abbrev pub FilesNone : Filing → Type 0
FilesNone keeps = Unit {0}
FilesNone (files None) = Unit {0}
FilesNone (files (Some filed)) = ⊥

-- so is each step of a deed, whatever it sees and whatever is answered
abbrev pub IsCalm : Deed → Type 0
IsCalm (ends last) = Unit {0}
IsCalm (hashes strings d) = IsCalm d
IsCalm (sends event next) = WritesNone event × ((response : Response) → IsCalm (next response))
IsCalm (sees next) = (live : Live) → IsCalm (next live)
IsCalm (walks d) = IsCalm d
IsCalm (boots s d) = IsCalm d
IsCalm (draws next none) = ((word : List ℕ) → IsCalm (next word)) × IsCalm none
IsCalm (writes path bytes filing d) = FilesNone filing × IsCalm d
IsCalm (removes path filing d) = FilesNone filing × IsCalm d

-- and each change of an act
abbrev pub IsCalmAct : Act → Type 0
IsCalmAct (says last) = Unit {0}
IsCalmAct (reckons strings last) = Unit {0}
IsCalmAct (changes steps last) = AllByRecursion (λ (step : FileStep). FilesNone (filing_of step)) steps
IsCalmAct (works deed) = IsCalm deed

-- what is filed afterwards was filed before, and each index that is live afterwards was so with the same pin and newest
-- table: a policy or an index may be gone, but none is new
pub record LeavesNewest (before later : World) : Type 0 where
  pub filed : (filed : FiledPolicy) → later.filed ≡ Some filed → before.filed ≡ Some filed
  pub live : (handle : ℕ) (live : LiveIndex) → get later.live handle ≡ Some live → get before.live handle ≡ Some live
