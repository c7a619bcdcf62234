-- The lines of `predict`: the values that are foreseen, and why a PCR is left out.
use Rattle.std.specs.Prelude.{ℕ, ◌==◌, Bool, if◌then◌else◌, List, ◌++◌, length, map, filter, flat_map, codes}
use Rattle.std.specs.List.{range_with_len}
use Rattle.std.specs.Fmt.{decimal}
use Rattle.hex.specs.Hex.{encode_lower}
use Rattle.component_tree.specs.PlainTree.{PlainComponent}
use Rattle.policy_digest.specs.Mask.{has_pcr}
use Rattle.policy_digest.specs.declared.table.Row.{Row}
use Rattle.predictor.specs.declared.protection.Cause.{Cause}
use Rattle.predictor.specs.declared.protection.Cause.TheVariants.{NoLogDigest, ValueDiffers, MissingComponent, Unrecognised}
use Rattle.predictor.specs.declared.protection.LeftOut.{LeftOut}
use Rattle.predictor.specs.declared.protection.Protection.{Protection}
use Rattle.pl_text.specs.Texts.{mask_text, with_commas}
use Rattle.pcrlock_answer.specs.Texts.{line_end}
use Rattle.pcrlock_words.specs.LogText.{id_at}

-- the values of some PCRs at once
abbrev pub values_text : List (List ℕ) → List ℕ
values_text values = with_commas (map encode_lower values)

-- why a PCR is left out
abbrev pub cause_text : List PlainComponent → Cause → List ℕ
cause_text components NoLogDigest = codes "no-digest"
cause_text components (ValueDiffers replayed now) = codes "value-differs"
cause_text components (MissingComponent number) = codes "missing " ++ id_at components number
cause_text components Unrecognised = codes "unrecognised"

-- a PCR that is left out
abbrev pub left_text : List PlainComponent → LeftOut → List ℕ
left_text components left = decimal left.pcr ++ codes " - " ++ cause_text components left.cause ++ line_end

-- a value of one PCR
abbrev pub value_text : ℕ → List (List ℕ) → List ℕ
value_text pcr values = decimal pcr ++ codes " " ++ values_text values ++ line_end

-- the values of a PCR in its row, or why it is left out
abbrev pub one_pcr_text : Protection → List PlainComponent → ℕ → List ℕ
one_pcr_text protection components pcr =
    flat_map (λ row. flat_map (value_text pcr) row.choices) (filter (λ row. has_pcr row.pcrs pcr) protection.table.rows)
    ++ flat_map (left_text components) (filter (λ left. left.pcr == pcr) protection.left)

-- each PCR for itself, ascending
abbrev pub each_text : Protection → List PlainComponent → List ℕ
each_text protection components = flat_map (one_pcr_text protection components) (range_with_len 0 24)

-- the values that the PCRs of a mask have together
abbrev pub together_text : ℕ → List (List ℕ) → List ℕ
together_text mask values = codes "joint " ++ mask_text mask ++ codes " " ++ values_text values ++ line_end

-- the protected PCRs together, and then why each other one is left out
abbrev pub joint_text : Protection → List PlainComponent → List ℕ
joint_text protection components =
    flat_map (λ row. flat_map (together_text row.pcrs) row.choices) protection.table.rows
    ++ flat_map (left_text components) protection.left

unfoldable pub predict_text : Protection → List PlainComponent → Bool → List ℕ
predict_text protection components joint =
    if joint then joint_text protection components else each_text protection components

-- ---- the lines of `make-policy`: how many values are foreseen

-- how many values a PCR has in a row
abbrev pub count_text : ℕ → Row → List ℕ
count_text pcr row = decimal pcr ++ codes " " ++ decimal (length row.choices) ++ line_end

-- how many values a PCR has in its row, or why it is left out
abbrev pub one_pcr_count : Protection → List PlainComponent → ℕ → List ℕ
one_pcr_count protection components pcr =
    flat_map (count_text pcr) (filter (λ row. has_pcr row.pcrs pcr) protection.table.rows)
    ++ flat_map (left_text components) (filter (λ left. left.pcr == pcr) protection.left)

-- each PCR for itself, ascending
abbrev pub each_count : Protection → List PlainComponent → List ℕ
each_count protection components = flat_map (one_pcr_count protection components) (range_with_len 0 24)

-- how many lists of values the PCRs of a row have together
abbrev pub together_count : Row → List ℕ
together_count row = codes "joint " ++ mask_text row.pcrs ++ codes " " ++ decimal (length row.choices) ++ line_end

-- the protected PCRs together, and then why each other one is left out
abbrev pub joint_counts : Protection → List PlainComponent → List ℕ
joint_counts protection components =
    flat_map together_count protection.table.rows ++ flat_map (left_text components) protection.left

unfoldable pub counts_text : Protection → List PlainComponent → Bool → List ℕ
counts_text protection components joint =
    if joint then joint_counts protection components else each_count protection components
