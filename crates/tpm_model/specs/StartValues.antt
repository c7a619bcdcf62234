-- The values of PCRs after a restart.
use Rattle.std.specs.Prelude.{ℕ, zero, suc, ◌+◌, Bool, if◌then◌else◌, List, [], ◌∷◌, ◌++◌}
use Rattle.hash_bank.specs.declared.bank.Bank.{Bank}
use Rattle.hash_bank.specs.declared.bank.Bank.TheVariants.{Sha1, Sha256, Sha384, Sha512}
use Rattle.hash_bank.specs.declared.banks.Banks.{Banks}
use Rattle.hash_bank.specs.Extending.{start_of}

-- the start values of as many PCRs from this one on
unfoldable pub starts_from : Bank → ℕ → ℕ → ℕ → List (List ℕ)
starts_from bank locality pcr zero = []
starts_from bank locality pcr (suc more) = start_of bank pcr locality ∷ starts_from bank locality (pcr + 1) more

-- the start values of a bank's 24 PCRs, where it is present
abbrev pub starts_if : Bool → Bank → ℕ → List (List ℕ)
starts_if present bank locality = if present then starts_from bank locality 0 24 else []

-- the values of the present banks after a start at the locality
abbrev pub start_values : Banks → ℕ → List (List ℕ)
start_values banks locality =
    starts_if banks.sha1 Sha1 locality ++ starts_if banks.sha256 Sha256 locality
    ++ starts_if banks.sha384 Sha384 locality ++ starts_if banks.sha512 Sha512 locality
