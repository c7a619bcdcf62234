-- What a replacement of a file leaves where it stops.
use Rattle.std.proofs.Common.{◌≡◌, ◌⊎◌, inl, subst}
use Rattle.std.specs.Prelude.{Option, Some, Err}
use Rattle.pl_base.specs.FileMap.{FileMap}
use Rattle.pl_base.specs.declared.files.ReplaceError.{ReplaceError}
use Rattle.pl_base.specs.declared.files.ReplaceError.TheVariants as replace
use Rattle.pl_base.specs.FileAnswers.{ReplaceLeaves}

pub after_failure : (files set : FileMap) (error : ReplaceError) (now : Option FileMap) → error ≡ replace.Failed → ReplaceLeaves files set (Err error) now → (now ≡ Some files) ⊎ (now ≡ Some set)
after_failure files set error now e h = subst (λ (x : ReplaceError). ReplaceLeaves files set (Err x) now) e h

pub after_memory : (files set : FileMap) (error : ReplaceError) (now : Option FileMap) → error ≡ replace.Memory → ReplaceLeaves files set (Err error) now → (now ≡ Some files) ⊎ (now ≡ Some set)
after_memory files set error now e h = let same = subst (λ (x : ReplaceError). ReplaceLeaves files set (Err x) now) e h in inl same
