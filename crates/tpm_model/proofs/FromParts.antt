-- A state from outside: it has the rules where none is broken, and its PCR values find room.
use Rattle.std.proofs.Common.{◌≡◌, ℕ, ◌≤◌, Bool, true, false, cond, not, List, ◌++◌, length, refl, sym, ap, ◌∙◌, arith}
use Rattle.std.specs.Prelude.{Option, None, Some}
use Rattle.std.proofs.Math.ListN.{length-append}
use Rattle.std.proofs.lemmas.List.{length-map, length-replicate}
use Rattle.hash_bank.specs.declared.banks.Banks.{Banks}
use Rattle.tpm_model.specs.declared.parts.Parts.{Parts}
use Rattle.tpm_model.specs.declared.rules.StateRule.{StateRule}
use Rattle.tpm_model.specs.Pcrs.{HasValues, sizes_if, sizes_of}
use Rattle.tpm_model.specs.Rules.{HasRules, broken_rule}
use Rattle.tpm_model.specs.Shape.{HasShape}

length-sizes : (present : Bool) (size : ℕ) → length (sizes_if present size) ≤ 24
length-sizes true size = omega (arith, length-replicate 24 size)
length-sizes false size = omega arith

-- there are at most 96 values
pub values_bound : (banks : Banks) (pcrs : List (List ℕ)) → HasValues banks pcrs → length pcrs ≤ 96
values_bound banks pcrs h =
    let a = sizes_if banks.sha1 20 in let b = sizes_if banks.sha256 32 in let c = sizes_if banks.sha384 48 in let d = sizes_if banks.sha512 64 in
    let whole : length pcrs ≡ length (sizes_of banks) = sym (length-map pcrs length) ∙ ap length h in
    omega (
      arith,
      length-append ((a ++ b) ++ c) d,
      length-append (a ++ b) c,
      length-append a b,
      length-sizes banks.sha1 20,
      length-sizes banks.sha256 32,
      length-sizes banks.sha384 48,
      length-sizes banks.sha512 64,
    )

-- a rule that isn't the first that is broken holds
kept_then : (b : Bool) (rule : StateRule) (rest : Option StateRule) → cond (not b) (Some rule) rest ≡ None → (b ≡ true) × (rest ≡ None)
kept_then true rule rest e = (refl, e)
kept_then false rule rest e = cc

-- where no rule is broken, all hold
pub none_broken : (s : Parts) → HasShape s → broken_rule s ≡ None → HasRules s
none_broken s h e =
    let a = kept_then _ _ _ e in
    let b = kept_then _ _ _ a.1 in
    let c = kept_then _ _ _ b.1 in
    let d = kept_then _ _ _ c.1 in
    let f = kept_then _ _ _ d.1 in
    let g = kept_then _ _ _ f.1 in
    let i = kept_then _ _ _ g.1 in
    let j = kept_then _ _ _ i.1 in
    let k = kept_then _ _ _ j.1 in
    let l = kept_then _ _ _ k.1 in
    let m = kept_then _ _ _ l.1 in
    let n = kept_then _ _ _ m.1 in
    record {
      shape = h;
      banks = a.0;
      counters = b.0;
      session_order = c.0;
      fold = d.0;
      or_member = f.0;
      noted = g.0;
      pcr_now = i.0;
      nv_now = j.0;
      index_order = k.0;
      index_attributes = l.0;
      object_order = m.0;
      secret = n.0;
    }
