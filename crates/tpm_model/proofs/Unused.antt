-- The world in which nothing was done is tied to a TPM that was never used.
use Rattle.std.proofs.Common.{◌≡◌, [], refl, arith}
use Rattle.std.specs.Prelude.{Contains, Option, Some, None}
use Rattle.std.specs.Ordering.{nat_cmp}
use Rattle.std.specs.FinMap.{empty, get, get-empty}
use Rattle.hash_bank.specs.declared.banks.Banks.{Banks}
use Rattle.tpm_model.specs.Fresh.{fresh_parts}
use Rattle.tpm_model.specs.StartValues.{start_values}
use Rattle.tpm_model.specs.Tied.{Tied}
use Rattle.tpm_model.specs.World.{unused_world}

is_none : {X : Type 0} (o : Option X) (x : X) → o ≡ None → o ≡ Some x → ⊥
is_none o x none some = absurd (cc (none, some))

no_member : {X : Type 0} (x : X) → Contains [] x → ⊥
no_member x h = absurd (omega (arith, h.1))

pub fresh_tied : (banks : Banks) → Tied (fresh_parts banks) (unused_world banks (start_values banks 0))
fresh_tied banks = record {
  banks = refl;
  pcrs = refl;
  objects = λ handle bound e. absurd (is_none (get {R = nat_cmp} empty handle) bound (get-empty nat_cmp handle) e);
  updates = λ update h. absurd (no_member update h);
  update_bindings = λ update h. absurd (no_member update h);
  pins = λ pin h. absurd (no_member pin h);
  strange = λ pin h. absurd (no_member pin h);
}
