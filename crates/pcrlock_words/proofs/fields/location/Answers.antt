use Rattle.std.proofs.Common.{ℕ, List, Option, subst}
use Rattle.pcrlock_words.specs.Readings.{Gives}
use Rattle.pcrlock_words.specs.Windows.{location_in_force}
use Rattle.pcrlock_words.proofs.fields.location.Goals as goal

pub returns-in-None : goal.returns-in-None
returns-in-None c =
    subst (λ (value : Option (List ℕ)). Gives c.read_location-in-None.result (location_in_force value)) c.in-None.ensures c.read_location-in-None.ensures
