-- What each step of a deed does to the machine and to the world.
use Rattle.std.specs.Prelude.{ℕ, List, [], ◌∷◌}
use Rattle.std.specs.FinMap.{insert, remove}
use Rattle.tpm_model.specs.declared.parts.Parts.{Parts}
use Rattle.tpm_model.specs.declared.response.Response.{Response}
use Rattle.tpm_model.specs.Events.{Event, command_of, filed_world}
pub use Rattle.tpm_model.specs.OwnSession.{after_session}
use Rattle.tpm_model.specs.Respond.{respond}
use Rattle.tpm_model.specs.World.{World}
use Rattle.pcrlock_line.specs.Machine.{Live}
use Rattle.pcrlock_deeds.specs.Deed.{Filing, keeps, files}

-- one of two ways on, by whether a word is left
abbrev pub by_draws {ℓ} : {A : Type ℓ} → List (List ℕ) → (List ℕ → List (List ℕ) → A) → A → A
by_draws [] some none = none
by_draws (word ∷ rest) some none = some word rest

-- the TPM's answer to a command
abbrev pub answer_to : Event → Live → Response
answer_to event m = (respond (command_of event) m.state).0

-- the machine after it
abbrev pub sent_live : Event → Live → Live
sent_live event m = record m { state = (respond (command_of event) m.state).1 }

-- after a session of one's own
abbrev pub walked_live : Live → Live
walked_live m = record m { state = after_session m.state }

-- with another state
abbrev pub booted_live : Parts → Live → Live
booted_live s m = record m { state = s }

-- with these words to come
abbrev pub drawn_live : List (List ℕ) → Live → Live
drawn_live rest m = record m { draws = rest }

-- with the bytes at the path
abbrev pub written_live : List ℕ → List ℕ → Live → Live
written_live path bytes m = record m { files = insert m.files path bytes }

-- without the path
abbrev pub removed_live : List ℕ → Live → Live
removed_live path m = record m { files = remove m.files path }

-- the world after a change of a file
abbrev pub filing_world : Filing → World → World
filing_world keeps w = w
filing_world (files filed) w = filed_world filed w
