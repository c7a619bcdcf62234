-- The causes of two steps, one after the other, are causes of the whole.
use Rattle.std.proofs.Common.{◌≡◌, ℕ, ◌≤◌, inl, inr, subst, arith}
use Rattle.std.specs.Prelude.{Result, Ok, Err, IfOk, IfErr}
use Rattle.pl_base.specs.Faults.{Rose}
use Rattle.pcrlock_line.specs.declared.stop.Stop.{Stop}
use Rattle.pcrlock_line.specs.declared.stop.Stop.TheVariants.{ReadFault, WriteFault, EntropyFault, TpmFault, Memory}
use Rattle.pcrlock_line.specs.Causes.{Counts, IsCaused, HasCauses}

rose_since : (a b c : ℕ) → a ≤ b → Rose b c → Rose a c
rose_since a b c h r = omega (arith, h, r)

rose_until : (a b c : ℕ) → b ≤ c → Rose a b → Rose a c
rose_until a b c h r = omega (arith, h, r)

-- a cause in a later step
caused_since : (a b c : Counts) (stop : Stop) → a.0 ≤ b.0 → a.1 ≤ b.1 → a.2 ≤ b.2 → a.3 ≤ b.3 → IsCaused b c stop → IsCaused a c stop
caused_since a b c ReadFault h0 h1 h2 h3 r = rose_since a.0 b.0 c.0 h0 r
caused_since a b c WriteFault h0 h1 h2 h3 (inl r) = inl (rose_since a.0 b.0 c.0 h0 r)
caused_since a b c WriteFault h0 h1 h2 h3 (inr r) = inr (rose_since a.3 b.3 c.3 h3 r)
caused_since a b c EntropyFault h0 h1 h2 h3 r = rose_since a.1 b.1 c.1 h1 r
caused_since a b c TpmFault h0 h1 h2 h3 r = rose_since a.2 b.2 c.2 h2 r
caused_since a b c Memory h0 h1 h2 h3 r = tt

-- the second step stops
pub then_stops : {A B D : Type 0} (a b c : Counts) (first : Result A Stop) (second : Result B Stop) (stop : Stop)
    → HasCauses a b first → HasCauses b c second → second ≡ Err stop → HasCauses {A = D} a c (Err stop)
then_stops a b c first second stop h k e = record {
  files = omega (arith, h.files, k.files);
  entropy = omega (arith, h.entropy, k.entropy);
  tpm = omega (arith, h.tpm, k.tpm);
  out = omega (arith, h.out, k.out);
  cause = λ other same. caused_since a b c other h.files h.entropy h.tpm h.out
      (k.cause other (let same_stop : stop ≡ other = cc in cc));
}

-- the first step stops
pub stops : {A D : Type 0} (a b : Counts) (first : Result A Stop) (stop : Stop)
    → HasCauses a b first → first ≡ Err stop → HasCauses {A = D} a b (Err stop)
stops a b first stop h e = record {
  files = h.files;
  entropy = h.entropy;
  tpm = h.tpm;
  out = h.out;
  cause = λ other same. h.cause other (let same_stop : stop ≡ other = cc in cc);
}

-- neither step stops
pub then_ends : {A B D : Type 0} (a b c : Counts) (first : Result A Stop) (second : Result B Stop) (x : D)
    → HasCauses a b first → HasCauses b c second → HasCauses a c (Ok x)
then_ends a b c first second x h k = record {
  files = omega (arith, h.files, k.files);
  entropy = omega (arith, h.entropy, k.entropy);
  tpm = omega (arith, h.tpm, k.tpm);
  out = omega (arith, h.out, k.out);
  cause = λ other same. absurd (cc same);
}

-- no count rises from 0 to 0
none_rose : {X : Type 0} → Rose 0 0 → X
none_rose r = absurd (omega (arith, r))

-- a step of the TPM alone, seen beside the counts of all objects
pub on_tpm : {A : Type 0} (files entropy out before now : ℕ) (result : Result A Stop) → HasCauses (0, 0, before, 0) (0, 0, now, 0) result
    → HasCauses (files, entropy, before, out) (files, entropy, now, out) result
on_tpm files entropy out before now result h = record {
  files = omega arith;
  entropy = omega arith;
  tpm = h.tpm;
  out = omega arith;
  cause = λ stop e. on stop (h.cause stop e);
}
  where
    on : (stop : Stop) → IsCaused (0, 0, before, 0) (0, 0, now, 0) stop → IsCaused (files, entropy, before, out) (files, entropy, now, out) stop
    on ReadFault r = none_rose r
    on WriteFault (inl r) = none_rose r
    on WriteFault (inr r) = none_rose r
    on EntropyFault r = none_rose r
    on TpmFault r = r
    on Memory r = tt

-- a step of the files alone
pub on_files : {A : Type 0} (entropy tpm out before now : ℕ) (result : Result A Stop) → HasCauses (before, 0, 0, 0) (now, 0, 0, 0) result
    → HasCauses (before, entropy, tpm, out) (now, entropy, tpm, out) result
on_files entropy tpm out before now result h = record {
  files = h.files;
  entropy = omega arith;
  tpm = omega arith;
  out = omega arith;
  cause = λ stop e. on stop (h.cause stop e);
}
  where
    on : (stop : Stop) → IsCaused (before, 0, 0, 0) (now, 0, 0, 0) stop → IsCaused (before, entropy, tpm, out) (now, entropy, tpm, out) stop
    on ReadFault r = r
    on WriteFault (inl r) = inl r
    on WriteFault (inr r) = none_rose r
    on EntropyFault r = none_rose r
    on TpmFault r = none_rose r
    on Memory r = tt

-- a step of the entropy alone
pub on_entropy : {A : Type 0} (files tpm out before now : ℕ) (result : Result A Stop) → HasCauses (0, before, 0, 0) (0, now, 0, 0) result
    → HasCauses (files, before, tpm, out) (files, now, tpm, out) result
on_entropy files tpm out before now result h = record {
  files = omega arith;
  entropy = h.entropy;
  tpm = omega arith;
  out = omega arith;
  cause = λ stop e. on stop (h.cause stop e);
}
  where
    on : (stop : Stop) → IsCaused (0, before, 0, 0) (0, now, 0, 0) stop → IsCaused (files, before, tpm, out) (files, now, tpm, out) stop
    on ReadFault r = none_rose r
    on WriteFault (inl r) = none_rose r
    on WriteFault (inr r) = none_rose r
    on EntropyFault r = r
    on TpmFault r = none_rose r
    on Memory r = tt

-- a step without the entropy
pub on_files_tpm : {A : Type 0} (entropy out f g t u : ℕ) (result : Result A Stop) → HasCauses (f, 0, t, 0) (g, 0, u, 0) result
    → HasCauses (f, entropy, t, out) (g, entropy, u, out) result
on_files_tpm entropy out f g t u result h = record {
  files = h.files;
  entropy = omega arith;
  tpm = h.tpm;
  out = omega arith;
  cause = λ stop e. on stop (h.cause stop e);
}
  where
    on : (stop : Stop) → IsCaused (f, 0, t, 0) (g, 0, u, 0) stop → IsCaused (f, entropy, t, out) (g, entropy, u, out) stop
    on ReadFault r = r
    on WriteFault (inl r) = inl r
    on WriteFault (inr r) = none_rose r
    on EntropyFault r = none_rose r
    on TpmFault r = r
    on Memory r = tt

-- the step after one that ended well has the causes of both
pub then : {A B : Type 0} (a b c : Counts) (first : Result A Stop) (second : Result B Stop) → HasCauses a b first → HasCauses b c second → HasCauses a c second
then a b c first second h k = record {
  files = omega (arith, h.files, k.files);
  entropy = omega (arith, h.entropy, k.entropy);
  tpm = omega (arith, h.tpm, k.tpm);
  out = omega (arith, h.out, k.out);
  cause = λ stop e. caused_since a b c stop h.files h.entropy h.tpm h.out (k.cause stop e);
}

-- want of memory needs no cause
pub memory : {A D : Type 0} (a b : Counts) (first : Result A Stop) → HasCauses a b first → HasCauses {A = D} a b (Err Memory)
memory a b first h = record {
  files = h.files;
  entropy = h.entropy;
  tpm = h.tpm;
  out = h.out;
  cause = λ other same. let same_stop : Memory ≡ other = cc in subst (IsCaused a b) same_stop tt;
}

-- what is made of an earlier step's result has its causes, if it stops for want of memory alone
pub without_fault : {A B : Type 0} (a b : Counts) (first : Result A Stop) (second : Result B Stop) → HasCauses a b first → IfErr second (λ s. s ≡ Memory) → HasCauses a b second
without_fault {B = B} a b first second h k = record {
  files = h.files;
  entropy = h.entropy;
  tpm = h.tpm;
  out = h.out;
  cause = by second k;
}
  where
    by : (r : Result B Stop) → IfErr r (λ s. s ≡ Memory) → (s : Stop) → r ≡ Err s → IsCaused a b s
    by (Ok x) none s e = absurd (cc e)
    by (Err given) is s e = let same : Memory ≡ s = cc in subst (IsCaused a b) same tt

-- a stop behind steps of the TPM that went well
pub later_stops : {B D : Type 0} (t u v : ℕ) (second : Result B Stop) (s : Stop) → t ≤ u → HasCauses (0, 0, u, 0) (0, 0, v, 0) second → second ≡ Err s
    → HasCauses {A = D} (0, 0, t, 0) (0, 0, v, 0) (Err s)
later_stops t u v second s le h e = then_stops (0, 0, t, 0) (0, 0, u, 0) (0, 0, v, 0) fine second s (record {
  files = omega arith;
  entropy = omega arith;
  tpm = le;
  out = omega arith;
  cause = λ other is. absurd (cc is);
}) h e
  where
    fine : Result Unit Stop
    fine = Ok tt

-- what holds anyway holds of each result
pub if_ok : {A E : Type 0} (P : Type 0) (result : Result A E) → P → IfOk result (λ _. P)
if_ok P (Ok x) h = h
if_ok P (Err e) h = tt

pub if_err : {A E : Type 0} (P : Type 0) (result : Result A E) → P → IfErr result (λ _. P)
if_err P (Ok x) h = tt
if_err P (Err e) h = h
