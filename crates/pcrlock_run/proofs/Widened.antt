-- The causes of a step that uses some of the objects are causes beside the others.
use Rattle.std.proofs.Common.{◌≡◌, ◌⊎◌, ℕ, inl, inr, sym, ◌∙◌, subst, arith}
use Rattle.std.specs.Prelude.{Result, Ok, Err}
use Rattle.pl_base.specs.Faults.{Rose}
use Rattle.pcrlock_line.specs.declared.stop.Stop.{Stop}
use Rattle.pcrlock_line.specs.declared.stop.Stop.TheVariants.{ReadFault, WriteFault, EntropyFault, TpmFault, Memory}
use Rattle.pcrlock_line.specs.Causes.{Counts, IsCaused, HasCauses}
use Rattle.pcrlock_run.specs.Status.{stop_number}
use Rattle.pcrlock_line.proofs.Composed.{stops, then_stops}

-- a count of 0 that stays 0 didn't rise
unmoved : {X : Type 0} → Rose 0 0 → X
unmoved r = absurd (omega (arith, r))

caused_by : (a b c d : Counts) (stop : Stop) → (Rose a.0 b.0 → Rose c.0 d.0) → (Rose a.1 b.1 → Rose c.1 d.1)
    → (Rose a.2 b.2 → Rose c.2 d.2) → (Rose a.3 b.3 → Rose c.3 d.3) → IsCaused a b stop → IsCaused c d stop
caused_by a b c d ReadFault f e t o r = f r
caused_by a b c d WriteFault f e t o (inl r) = inl (f r)
caused_by a b c d WriteFault f e t o (inr r) = inr (o r)
caused_by a b c d EntropyFault f e t o r = e r
caused_by a b c d TpmFault f e t o r = t r
caused_by a b c d Memory f e t o r = tt

-- beside the counts of files, entropy and output
pub beside_tpm : {A : Type 0} (f e o t now : ℕ) (result : Result A Stop) → HasCauses (0, 0, t, 0) (0, 0, now, 0) result → HasCauses (f, e, t, o) (f, e, now, o) result
beside_tpm f e o t now result h = record {
  files = omega arith;
  entropy = omega arith;
  tpm = h.tpm;
  out = omega arith;
  cause = λ stop is. caused_by (0, 0, t, 0) (0, 0, now, 0) (f, e, t, o) (f, e, now, o) stop unmoved unmoved (λ r. r) unmoved (h.cause stop is);
}

-- beside the count of the output
pub beside_out : {A : Type 0} (f e t f2 e2 t2 o : ℕ) (result : Result A Stop) → HasCauses (f, e, t, 0) (f2, e2, t2, 0) result → HasCauses (f, e, t, o) (f2, e2, t2, o) result
beside_out f e t f2 e2 t2 o result h = record {
  files = h.files;
  entropy = h.entropy;
  tpm = h.tpm;
  out = omega arith;
  cause = λ stop is. caused_by (f, e, t, 0) (f2, e2, t2, 0) (f, e, t, o) (f2, e2, t2, o) stop (λ r. r) (λ r. r) (λ r. r) unmoved (h.cause stop is);
}

-- beside the counts of files, entropy and TPM
pub beside_others : {A : Type 0} (f e t o now : ℕ) (result : Result A Stop) → HasCauses (0, 0, 0, o) (0, 0, 0, now) result → HasCauses (f, e, t, o) (f, e, t, now) result
beside_others f e t o now result h = record {
  files = omega arith;
  entropy = omega arith;
  tpm = omega arith;
  out = h.out;
  cause = λ stop is. caused_by (0, 0, 0, o) (0, 0, 0, now) (f, e, t, o) (f, e, t, now) stop unmoved unmoved unmoved (λ r. r) (h.cause stop is);
}

-- beside the counts of entropy, TPM and output
pub beside_files : {A : Type 0} (f now e t o : ℕ) (result : Result A Stop) → HasCauses (f, 0, 0, 0) (now, 0, 0, 0) result → HasCauses (f, e, t, o) (now, e, t, o) result
beside_files f now e t o result h = record {
  files = h.files;
  entropy = omega arith;
  tpm = omega arith;
  out = omega arith;
  cause = λ stop is. caused_by (f, 0, 0, 0) (now, 0, 0, 0) (f, e, t, o) (now, e, t, o) stop (λ r. r) unmoved unmoved unmoved (h.cause stop is);
}

-- the same stop, in another result
pub same_stop : {A D : Type 0} (a b : Counts) (first : Result A Stop) (last : Result D Stop) (stop : Stop)
    → HasCauses a b first → first ≡ Err stop → last ≡ Err stop → HasCauses a b last
same_stop a b first last stop h e is = subst (λ (r : Result _ Stop). HasCauses a b r) (sym is) (stops a b first stop h e)

pub then_same_stop : {A B D : Type 0} (a b c : Counts) (first : Result A Stop) (second : Result B Stop) (last : Result D Stop) (stop : Stop)
    → HasCauses a b first → HasCauses b c second → second ≡ Err stop → last ≡ Err stop → HasCauses a c last
then_same_stop a b c first second last stop h k e is = subst (λ (r : Result _ Stop). HasCauses a c r) (sym is) (then_stops a b c first second stop h k e)

-- the same counts, where nothing stops
pub no_stop : {A D : Type 0} (a b : Counts) (x : A) (y : D) → HasCauses a b (Ok x) → HasCauses a b (Ok y)
no_stop a b x y h = record {
  files = h.files;
  entropy = h.entropy;
  tpm = h.tpm;
  out = h.out;
  cause = λ other same. absurd (cc same);
}

-- what caused a stop of status 5
cause_of : (a b : Counts) (stop : Stop) → IsCaused a b stop → stop_number stop ≡ 5 → Rose a.0 b.0 ⊎ (Rose a.1 b.1 ⊎ (Rose a.2 b.2 ⊎ Rose a.3 b.3))
cause_of a b ReadFault r five = inl r
cause_of a b WriteFault (inl r) five = inl r
cause_of a b WriteFault (inr r) five = inr (inr (inr r))
cause_of a b EntropyFault r five = inr (inl r)
cause_of a b TpmFault r five = inr (inr (inl r))
cause_of a b Memory r five = absurd (omega (arith, five))

pub fault_cause : {A : Type 0} (a b : Counts) (result : Result A Stop) (stop : Stop) (number : ℕ) → HasCauses a b result → result ≡ Err stop
    → (number ≡ stop_number stop) ⊎ (number ≡ 6) → number ≡ 5 → Rose a.0 b.0 ⊎ (Rose a.1 b.1 ⊎ (Rose a.2 b.2 ⊎ Rose a.3 b.3))
fault_cause a b result stop number h is (inl same) five = cause_of a b stop (h.cause stop is) (sym same ∙ five)
fault_cause a b result stop number h is (inr six) five = absurd (omega (arith, six, five))

-- beside the count of the entropy
pub beside_entropy : {A : Type 0} (f t f2 t2 e : ℕ) (result : Result A Stop) → HasCauses (f, 0, t, 0) (f2, 0, t2, 0) result → HasCauses (f, e, t, 0) (f2, e, t2, 0) result
beside_entropy f t f2 t2 e result h = record {
  files = h.files;
  entropy = omega arith;
  tpm = h.tpm;
  out = omega arith;
  cause = λ stop is. caused_by (f, 0, t, 0) (f2, 0, t2, 0) (f, e, t, 0) (f2, e, t2, 0) stop (λ r. r) unmoved (λ r. r) unmoved (h.cause stop is);
}

-- a step that doesn't write on the output has no fault where no other count rose
no_cause : (f e t f2 e2 t2 : ℕ) (stop : Stop) → IsCaused (f, e, t, 0) (f2, e2, t2, 0) stop → stop_number stop ≡ 5 → ¬ Rose f f2 → ¬ Rose e e2 → ¬ Rose t t2 → ⊥
no_cause f e t f2 e2 t2 ReadFault r five files entropy tpm = files r
no_cause f e t f2 e2 t2 WriteFault (inl r) five files entropy tpm = files r
no_cause f e t f2 e2 t2 WriteFault (inr r) five files entropy tpm = unmoved r
no_cause f e t f2 e2 t2 EntropyFault r five files entropy tpm = entropy r
no_cause f e t f2 e2 t2 TpmFault r five files entropy tpm = tpm r
no_cause f e t f2 e2 t2 Memory r five files entropy tpm = omega (arith, five)

pub no_fault : {A : Type 0} (before now : Counts) (result : Result A Stop) (stop : Stop) → HasCauses (before.0, before.1, before.2, 0) (now.0, now.1, now.2, 0) result → result ≡ Err stop → stop_number stop ≡ 5
    → ¬ Rose before.0 now.0 → ¬ Rose before.1 now.1 → ¬ Rose before.2 now.2 → ⊥
no_fault before now result stop h is five files entropy tpm = no_cause before.0 before.1 before.2 now.0 now.1 now.2 stop (h.cause stop is) five files entropy tpm
