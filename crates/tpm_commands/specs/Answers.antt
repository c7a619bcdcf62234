-- What a reader of commands answers, but for want of memory.
use Rattle.std.specs.Prelude.{◌≡◌, Result, Ok, Err}
use Rattle.tpm_commands.specs.declared.error.CommandsError.{CommandsError}
use Rattle.tpm_commands.specs.declared.error.CommandsError.TheVariants.{BadLine, TooMany, Memory}

-- the refusal is that of the definition, or want of memory
abbrev pub Refuses : {Y : Type 0} → CommandsError → Result Y CommandsError → Type 0
Refuses Memory given = Unit {0}
Refuses TooMany given = given ≡ Err TooMany
Refuses (BadLine place) given = given ≡ Err (BadLine place)

-- the answer is what the definition gives, its success seen by view
abbrev pub Gives : {X Y : Type 0} → (X → Y) → Result X CommandsError → Result Y CommandsError → Type 0
Gives view (Ok x) given = given ≡ Ok (view x)
Gives view (Err e) given = Refuses e given
