-- What a write leaves of the bytes written so far.
use Rattle.std.specs.Prelude.{◌≡◌, ℕ, List, ◌++◌, Option, Some, Result, Ok, Err}
use Rattle.pl_base.specs.declared.sink.SinkError.{SinkError}
use Rattle.pl_base.specs.declared.sink.SinkError.TheVariants.{Failed, Memory}

-- all bytes stand behind those before; after a fault a front of them; after want of memory none
abbrev pub WriteLeaves : List ℕ → List ℕ → Result Unit SinkError → Option (List ℕ) → Type 0
WriteLeaves before bytes (Ok _) now = now ≡ Some (before ++ bytes)
WriteLeaves before bytes (Err Failed) now = (front : List ℕ) × (rest : List ℕ) × (bytes ≡ front ++ rest) × (now ≡ Some (before ++ front))
WriteLeaves before bytes (Err Memory) now = now ≡ Some before
