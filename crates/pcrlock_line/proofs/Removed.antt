-- What the removal of a file answers and leaves.
use Rattle.std.proofs.Common.{◌≡◌, ◌⊎◌, ℕ, List, inl, sym, ap, ◌∙◌, subst}
use Rattle.std.specs.Prelude.{Option, None, Some, Err}
use Rattle.std.specs.FinMap.{get, remove}
use Rattle.pl_base.specs.FileMap.{FileMap}
use Rattle.pl_base.specs.declared.files.RemoveError.{RemoveError}
use Rattle.pl_base.specs.declared.files.RemoveError.TheVariants as gone
use Rattle.pl_base.specs.FileAnswers.{RemoveLeaves}
use Rattle.pl_base.proofs.HeldFiles.{remove-absent}

-- no file stood there, and the files are those without it
pub missing : (files : FileMap) (path : List ℕ) (error : RemoveError) (now : Option FileMap) → error ≡ gone.Missing
    → RemoveLeaves files path (Err error) now → (get files path ≡ None) × (now ≡ Some (remove files path))
missing files path error now e h =
    let left = subst (λ (x : RemoveError). RemoveLeaves files path (Err x) now) e h in
    (left.0, left.1 ∙ ap Some (sym (remove-absent files path left.0)))

pub after_failure : (files : FileMap) (path : List ℕ) (error : RemoveError) (now : Option FileMap) → error ≡ gone.Failed
    → RemoveLeaves files path (Err error) now → (now ≡ Some files) ⊎ (now ≡ Some (remove files path))
after_failure files path error now e h = subst (λ (x : RemoveError). RemoveLeaves files path (Err x) now) e h

pub after_memory : (files : FileMap) (path : List ℕ) (error : RemoveError) (now : Option FileMap) → error ≡ gone.Memory
    → RemoveLeaves files path (Err error) now → (now ≡ Some files) ⊎ (now ≡ Some (remove files path))
after_memory files path error now e h = let same = subst (λ (x : RemoveError). RemoveLeaves files path (Err x) now) e h in inl same
