-- Which bytes spell a state: one text in version 2, and one in version 1 where all is of SHA-256.
use Rattle.std.specs.Prelude.{◌≡◌, ◌⊎◌, ℕ, List, length}
use Rattle.std.specs.List.{AllByRecursion}
use Rattle.hash_bank.specs.declared.bank.Bank.TheVariants.{Sha256}
use Rattle.tpm_model.specs.declared.sessions.Session.{Session}
use Rattle.tpm_model.specs.declared.object.Object.{Object}
use Rattle.tpm_model.specs.declared.parts.Parts.{Parts}
use Rattle.tpm_state.specs.declared.version.Version.TheVariants.{One, Two}
use Rattle.tpm_state.specs.Layout.{text_of}

-- all sessions and objects are of SHA-256
pub record IsOfSha256 (s : Parts) : Type 0 where
  pub sessions : AllByRecursion (λ (session : Session). session.hash ≡ Sha256) s.sessions
  pub objects : AllByRecursion (λ (object : Object). length object.policy ≡ 32) s.objects

abbrev pub IsSpelled : List ℕ → Parts → Type 0
IsSpelled bytes s = (bytes ≡ text_of Two s) ⊎ (IsOfSha256 s × (bytes ≡ text_of One s))
