-- What the program and all others have done to a TPM, as data.
use Rattle.std.specs.Prelude.{ℕ, List, [], ◌++◌, Contains, Option, None}
use Rattle.std.specs.Ordering.{nat_cmp}
use Rattle.std.specs.FinMap.{FinMap, empty, insert}
use Rattle.hash_bank.specs.declared.banks.Banks.{Banks}
use Rattle.hash_bank.specs.HashedString.{HashedString}
use Rattle.policy_digest.specs.PlainTable.{PlainTable}
use Rattle.tpm_model.specs.declared.parts.Parts.{Parts}
use Rattle.tpm_model.specs.Binding.{Binding, binding_strings}

-- the pin of an index and the newest table under it
pub record LiveIndex : Type 0 where
  pub pin : List ℕ
  pub table : PlainTable

-- one policy update: a write of a table's root, with its number
pub record PolicyUpdate : Type 0 where
  pub number : ℕ
  pub handle : ℕ
  pub pin : List ℕ
  pub table : PlainTable

-- a sealed object of the program: its bytes, and what it is bound to
pub record BoundObject : Type 0 where
  pub secret : List ℕ
  pub binding : Binding

-- what the policy file states
pub record FiledPolicy : Type 0 where
  pub handle : ℕ
  pub pin : List ℕ
  pub pin_object : ℕ
  pub tables : List PlainTable

-- the present banks and their values; the indices with their newest tables; all policy updates; the
-- pins that policies were made with, and those that others presented; the program's objects; the
-- policy file; and the strings that were hashed
pub record World : Type 0 where
  pub banks : Banks
  pub pcrs : List (List ℕ)
  pub live : FinMap nat_cmp LiveIndex
  pub writes : List PolicyUpdate
  pub pins : List (List ℕ)
  pub strange : List (List ℕ)
  pub objects : FinMap nat_cmp BoundObject
  pub filed : Option FiledPolicy
  pub hashed : List HashedString

-- nothing was done yet to a TPM with these banks and values
abbrev pub unused_world : Banks → List (List ℕ) → World
unused_world banks pcrs = record {
  banks = banks;
  pcrs = pcrs;
  live = empty;
  writes = [];
  pins = [];
  strange = [];
  objects = empty;
  filed = None;
  hashed = [];
}

-- a PCR was extended: the world follows the state
abbrev pub extended_world : Parts → World → World
extended_world s w = record w { banks = s.banks; pcrs = s.pcrs }

-- the program sealed bytes to a binding, under this handle
abbrev pub sealed_world : ℕ → List ℕ → Binding → World → World
sealed_world handle secret binding w = record w {
  objects = insert w.objects handle (record { secret = secret; binding = binding });
  hashed = w.hashed ++ binding_strings binding;
}

-- strings were hashed
abbrev pub hashed_world : List HashedString → World → World
hashed_world strings w = record w { hashed = w.hashed ++ strings }

-- the strings all stand among those of the world
abbrev pub AreHashed : World → List HashedString → Type 0
AreHashed w strings = (s : HashedString) → Contains strings s → Contains w.hashed s

-- no string is lost from the one world to the other
abbrev pub Grows : World → World → Type 0
Grows w v = (s : HashedString) → Contains w.hashed s → Contains v.hashed s
