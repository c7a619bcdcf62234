-- A pin that is drawn.
use Rattle.std.proofs.Common.{◌≡◌, ℕ, Bool, List, [], ◌∷◌, ◌++◌, sym, subst}
use Rattle.std.specs.Prelude.{Option, None, Some, Result, IfOk, IfErr}
use Rattle.pl_base.specs.FileMap.{FileMap}
use Rattle.policy_digest.specs.declared.table.Table.{Table}
use Rattle.tpm_device.specs.Stored.{Stored}
use Rattle.pcrlock_line.specs.declared.reply.Reply.{Reply}
use Rattle.pcrlock_line.specs.declared.stop.Stop.{Stop}
use Rattle.pcrlock_line.specs.Machine.{Live}
use Rattle.pcrlock_line.specs.Outcome.{Outcome, Gives}
use Rattle.pcrlock_line.specs.Stopped.{StandsAmong}
use Rattle.pcrlock_answer.specs.Texts.{pin_text}
use Rattle.pcrlock_update.specs.NewPolicy.{new_with, new_line_from}

-- the next random word is the pin, and the rest is to come
drawn_by : (P : Outcome → Type 0) (text whole path : List ℕ) (old : Option ℕ) (stands : Bool) (index : ℕ) (table : Table) (pin : List ℕ) (draws rest : List (List ℕ)) (m : Live)
    → draws ≡ pin ∷ rest → whole ≡ text ++ pin_text pin → P (new_with whole path old stands index table pin (record m { draws = rest }))
    → P (new_line_from draws text path old stands index table None m)
drawn_by P text whole path old stands index table pin draws rest m e t h =
    subst (λ (ds : List (List ℕ)). P (new_line_from ds text path old stands index table None m)) (sym e)
    (subst (λ (x : List ℕ). P (new_with x path old stands index table pin (record m { draws = rest }))) t h)

pub drawn_told : (result : Result Reply Stop) (held : Option FileMap) (stored : Option Stored) (now : Option (List (List ℕ))) (text whole path : List ℕ) (old : Option ℕ) (stands : Bool) (index : ℕ) (table : Table) (pin : List ℕ) (draws rest : List (List ℕ)) (m : Live)
    → draws ≡ pin ∷ rest → whole ≡ text ++ pin_text pin
    → IfOk result (λ reply. Gives held stored now reply (new_with whole path old stands index table pin (record m { draws = rest })))
    → IfOk result (λ reply. Gives held stored now reply (new_line_from draws text path old stands index table None m))
drawn_told result held stored now text whole path old stands index table pin draws rest m e t h =
    drawn_by (λ (o : Outcome). IfOk result (λ reply. Gives held stored now reply o)) text whole path old stands index table pin draws rest m e t h

pub drawn_stops : (result : Result Reply Stop) (held : Option FileMap) (stored : Option Stored) (text whole path : List ℕ) (old : Option ℕ) (stands : Bool) (index : ℕ) (table : Table) (pin : List ℕ) (draws rest : List (List ℕ)) (m : Live)
    → draws ≡ pin ∷ rest → whole ≡ text ++ pin_text pin
    → IfErr result (λ _. StandsAmong held stored (new_with whole path old stands index table pin (record m { draws = rest })).stops)
    → IfErr result (λ _. StandsAmong held stored (new_line_from draws text path old stands index table None m).stops)
drawn_stops result held stored text whole path old stands index table pin draws rest m e t h =
    drawn_by (λ (o : Outcome). IfErr result (λ _. StandsAmong held stored o.stops)) text whole path old stands index table pin draws rest m e t h

-- the pin was given
pub given_by : (P : Outcome → Type 0) (text path : List ℕ) (old : Option ℕ) (stands : Bool) (index : ℕ) (table : Table) (pin : List ℕ) (given : Option (List ℕ)) (draws : List (List ℕ)) (m : Live)
    → given ≡ Some pin → P (new_with text path old stands index table pin m) → P (new_line_from draws text path old stands index table given m)
given_by P text path old stands index table pin given [] m e h = subst (λ (o : Option (List ℕ)). P (new_line_from [] text path old stands index table o m)) (sym e) h
given_by P text path old stands index table pin given (word ∷ rest) m e h = subst (λ (o : Option (List ℕ)). P (new_line_from (word ∷ rest) text path old stands index table o m)) (sym e) h
