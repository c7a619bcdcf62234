-- The least PCR of a kind that lacks its separator.
use Rattle.std.proofs.Common.{◌≡◌, ◌<◌, ◌≤◌, ◌⊎◌, ◌^◌, ℕ, Bool, true, false, cond, eqb, List, [], ◌∷◌, inl, inr, refl, ap, sym, ◌∙◌, subst, arith, lit<}
use Rattle.std.specs.Prelude.{Option, Some, None, Err, find}
use Rattle.std.proofs.lemmas.Bool.{and_parts, cases_lt}
use Rattle.std.proofs.lemmas.Nat.Bits.{bit_at_above}
use Rattle.policy_digest.specs.Mask.{has_pcr}
use Rattle.pcr_replay.specs.Row.{Row}
use Rattle.component_make.specs.Lock.{IsAnswer, IsFirstLacking, lacks_separator}
use Rattle.component_make.specs.declared.error.LockError.{LockError}
use Rattle.component_make.specs.declared.error.LockError.TheVariants as lock
use Rattle.pcrlock_answer.specs.declared.answer.Answer.TheVariants as said
use Rattle.component_make.specs.declared.kind.FirmwareKind.{FirmwareKind}
use Rattle.component_make.specs.declared.kind.FirmwareKind.TheVariants.{Code, Config}
use Rattle.component_make.specs.FirmwareFiles.{mask_in, pcrs_in}
use Rattle.pcrlock_lock.specs.LockFirmware.{halves_by, halves_of, locked_of}

clash : (b : Bool) → b ≡ false → b ≡ true → ⊥
clash false n h = cc h
clash true n h = cc n

-- a mask has no PCR above its bits
none_above : (mask bits pcr : ℕ) → mask < 2 ^ bits → bits ≤ pcr → has_pcr mask pcr ≡ true → ⊥
none_above mask bits pcr small above h = let n : has_pcr mask pcr ≡ false = ap (λ x. eqb x 1) (bit_at_above mask bits pcr small above) in clash (has_pcr mask pcr) n h

none_at : (mask pcr at : ℕ) → pcr ≡ at → has_pcr mask at ≡ false → has_pcr mask pcr ≡ true → ⊥
none_at mask pcr at e n h = let there : has_pcr mask at ≡ true = subst (λ p. has_pcr mask p ≡ true) e h in clash (has_pcr mask at) n there

code_pcr : (pcr : ℕ) → has_pcr 5 pcr ≡ true → (pcr ≡ 0) ⊎ (pcr ≡ 2)
code_pcr pcr h =
    elim (cases_lt pcr 3) [
      | inl below ↦ elim (cases_lt pcr 1) [
        | inl first ↦ inl (omega arith)
        | inr above ↦ elim (cases_lt pcr 2) [
          | inl second ↦ absurd (none_at 5 pcr 1 (omega arith) refl h)
          | inr third ↦ inr (omega arith)
        ]
      ]
      | inr above ↦ absurd (none_above 5 3 pcr (lit< tt) above h)
    ]

config_pcr : (pcr : ℕ) → has_pcr 10 pcr ≡ true → (pcr ≡ 1) ⊎ (pcr ≡ 3)
config_pcr pcr h =
    elim (cases_lt pcr 4) [
      | inl below ↦ elim (cases_lt pcr 1) [
        | inl first ↦ absurd (none_at 10 pcr 0 (omega arith) refl h)
        | inr above ↦ elim (cases_lt pcr 2) [
          | inl second ↦ inl (omega arith)
          | inr third ↦ elim (cases_lt pcr 3) [
            | inl two ↦ absurd (none_at 10 pcr 2 (omega arith) refl h)
            | inr three ↦ inr (omega arith)
          ]
        ]
      ]
      | inr above ↦ absurd (none_above 10 4 pcr (lit< tt) above h)
    ]

-- the first of two that passes
first_found : (test : ℕ → Bool) (a b pcr : ℕ) → pcr ≡ a → test pcr ≡ true → find test (a ∷ b ∷ []) ≡ Some pcr
first_found test a b pcr e h =
    let there : test a ≡ true = subst (λ p. test p ≡ true) e h in
    ap (λ t. cond t (Some a) (find test (b ∷ []))) there ∙ ap Some (sym e)

second_found : (test : ℕ → Bool) (a b pcr : ℕ) → pcr ≡ b → test a ≡ false → test pcr ≡ true → find test (a ∷ b ∷ []) ≡ Some pcr
second_found test a b pcr e n h =
    let there : test b ≡ true = subst (λ p. test p ≡ true) e h in
    ap (λ t. cond t (Some a) (find test (b ∷ []))) n ∙ ap (λ t. cond t (Some b) None) there ∙ ap Some (sym e)

pub first_lacking : (kind : FirmwareKind) (rows : List Row) (pcr : ℕ) → IsFirstLacking (mask_in kind) rows pcr → find (lacks_separator (mask_in kind) rows) (pcrs_in kind) ≡ Some pcr
first_lacking Code rows pcr h =
    elim (code_pcr pcr (and_parts _ _ h.lacks).0) [
      | inl e ↦ first_found (lacks_separator 5 rows) 0 2 pcr e h.lacks
      | inr e ↦ second_found (lacks_separator 5 rows) 0 2 pcr e (h.least 0 (omega arith)) h.lacks
    ]
first_lacking Config rows pcr h =
    elim (config_pcr pcr (and_parts _ _ h.lacks).0) [
      | inl e ↦ first_found (lacks_separator 10 rows) 1 3 pcr e h.lacks
      | inr e ↦ second_found (lacks_separator 10 rows) 1 3 pcr e (h.least 1 (omega arith)) h.lacks
    ]

lacking : (kind : FirmwareKind) (rows : List Row) (pcr : ℕ) → IsFirstLacking (mask_in kind) rows pcr → locked_of kind rows ≡ Err (said.NoSeparator pcr)
lacking kind rows pcr h = ap (λ (o : Option ℕ). halves_by o (halves_of kind rows)) (first_lacking kind rows pcr h)

-- a lock that is refused for want of a separator
pub lacking_told : (kind : FirmwareKind) (rows : List Row) (pcr mask : ℕ) (error : LockError) → mask ≡ mask_in kind → error ≡ lock.NoSeparator pcr
    → IsAnswer mask rows (Err error) → locked_of kind rows ≡ Err (said.NoSeparator pcr)
lacking_told kind rows pcr mask error m e h =
    lacking kind rows pcr (subst (λ k. IsFirstLacking k rows pcr) m (subst (λ (x : LockError). IsAnswer mask rows (Err x)) e h))
