-- The table that is foreseen is valid.
use Rattle.std.proofs.Common.{◌≡◌, ◌≢◌, ℕ, Bool, true, List, [], ◌∷◌, refl, ap, subst, ◌∙◌}
use Rattle.std.specs.Prelude.{Option, Result, Ok, Err}
use Rattle.pl_base.specs.FileMap.{FileMap}
use Rattle.component_tree.specs.declared.error.TreeError.{TreeError}
use Rattle.component_tree.specs.PlainTree.{PlainComponent}
use Rattle.component_tree.specs.Reading.{tree_in}
use Rattle.policy_digest.specs.declared.table.Row.{Row}
use Rattle.policy_digest.specs.Table.{valid_table}
use Rattle.policy_digest.specs.declared.table.Table.{Table}
use Rattle.predictor.specs.declared.error.ProtectError.{ProtectError}
use Rattle.predictor.specs.declared.protection.Protection.{Protection}
use Rattle.predictor.specs.Protected.{protected_of}
use Rattle.predictor.proofs.Sound.{HasVariants}
use Rattle.predictor.proofs.Valid.{plain_valid}
use Rattle.tpm_model.specs.declared.parts.Parts.{Parts}
use Rattle.pcrlock_answer.specs.declared.answer.Answer.{Answer}
use Rattle.pcrlock_words.specs.PredictText.{counts_text}
use Rattle.pcrlock_input.specs.Answering.{◌>>=◌}
use Rattle.pcrlock_input.specs.Components.{components_of, components_read}
use Rattle.pcrlock_input.specs.Logs.{PlainLogs, locality_in, logs_of, rows_of}
use Rattle.pcrlock_predict.specs.Inputs.{PlainInputs, inputs_of}
use Rattle.pcrlock_predict.specs.Present.{present_of, values_or_absent}
use Rattle.pcrlock_policy.specs.Asked.{Asked}
use Rattle.pcrlock_policy.specs.Foreseen.{Foreseen, foreseen_by, foreseen_now, foreseen_on, unless_empty}
use Rattle.pcrlock_policy.proofs.Trees.{tree_has}

pub input_ok : {A B : Type 0} (r : Result A Answer) (f : A → Result B Answer) (y : B) → (r >>= f) ≡ Ok y → (x : A) × (r ≡ Ok x) × (f x ≡ Ok y)
input_ok (Ok x) f y e = (x, refl, e)
input_ok (Err answer) f y e = absurd (cc e)

-- ---- the components

read_has : (files : FileMap) (folders : List (List ℕ)) (read : Result (List PlainComponent) TreeError) (all : List PlainComponent) → tree_in files folders ≡ read
    → components_read read ≡ Ok all → HasVariants all
read_has files folders (Ok components) all is e = tree_has files folders all (let same : components ≡ all = cc in is ∙ ap Ok same)
read_has files folders (Err error) all is e = absurd (cc e)

abbrev together : PlainLogs → List PlainComponent → Result PlainInputs Answer
together logs components = Ok (record { logs = logs; components = components })

pub inputs_have : (files : FileMap) (firmware user : Option (List ℕ)) (folders : List (List ℕ)) (inputs : PlainInputs) → inputs_of files firmware user folders ≡ Ok inputs
    → HasVariants inputs.components
inputs_have files firmware user folders inputs e =
    let logs = input_ok (logs_of files firmware user) (λ l. components_of files folders >>= together l) inputs e in
    let components = input_ok (components_of files folders) (together logs.0) inputs logs.2 in
    let same : components.0 ≡ inputs.components = cc in
    subst HasVariants same (read_has files folders (tree_in files folders) components.0 refl components.1)

-- ---- the table

-- what was asked for is foreseen with a row at least
some_rows : (rows : List Row) (given foreseen : Foreseen) → unless_empty rows given ≡ Ok foreseen → (rows ≢ []) × (given ≡ foreseen)
some_rows [] given foreseen e = absurd (cc e)
some_rows (row ∷ rows) given foreseen e = (λ none. cc, cc)

-- it is the table of what is protected, which has a row
pub foreseen_from : (components : List PlainComponent) (joint : Bool) (read : Result Protection ProtectError) (foreseen : Foreseen) → foreseen_by components joint read ≡ Ok foreseen
    → (p : Protection) × (read ≡ Ok p) × (p.table.rows ≢ []) × (p.table ≡ foreseen.table)
foreseen_from components joint (Ok p) foreseen e =
    let some = some_rows p.table.rows (record { table = p.table; text = counts_text p components joint }) foreseen e in
    (p, refl, some.0, ap (λ (f : Foreseen). f.table) some.1)
foreseen_from components joint (Err error) foreseen e = absurd (cc e)

pub foreseen_valid : (asked : Asked) (inputs : PlainInputs) (s : Parts) (foreseen : Foreseen) → HasVariants inputs.components → foreseen_on asked inputs s ≡ Ok foreseen
    → valid_table foreseen.table ≡ true
foreseen_valid asked inputs s foreseen has e =
    let values = input_ok (values_or_absent asked.bank (present_of asked.bank asked.pcrs s)) (foreseen_now asked inputs) foreseen e in
    let logs = rows_of inputs.logs in
    let locality = locality_in inputs.logs.firmware in
    let from = foreseen_from inputs.components asked.joint (protected_of asked.joint inputs.components asked.window asked.pcrs asked.bank logs locality values.0) foreseen values.2 in
    subst (λ (t : Table). valid_table t ≡ true) from.3
    (plain_valid asked.joint inputs.components asked.window asked.pcrs asked.bank logs locality values.0 from.0 has from.1 from.2)
