-- A script's lines, taken in two parts.
use Rattle.std.proofs.Common.{◌≡◌, ◌≢◌, ◌⊎◌, ℕ, Bool, true, false, cond, List, [], ◌∷◌, ◌++◌, inl, inr, refl, sym, ap, ◌∙◌, subst, append_assoc, arith}
use Rattle.std.specs.Prelude.{Option, Some}
use Rattle.std.proofs.lemmas.List.{append-nil}
use Rattle.std.proofs.lemmas.List.Elements.{Contains-append_left, Contains-append_right}
use Rattle.pl_base.specs.FileMap.{FileMap}
use Rattle.hash_bank.specs.HashedString.{HashedString}
use Rattle.tpm_device.specs.Stored.{Stored}
use Rattle.pcrlock_words.specs.Lines.{words_of}
use Rattle.pcrlock_line.specs.declared.stop.Stop.{Stop}
use Rattle.pcrlock_line.specs.declared.stop.Stop.TheVariants as stops
use Rattle.pcrlock_line.specs.Machine.{Machine, Tells}
use Rattle.pcrlock_line.specs.Outcome.{Ending, Fine, Refused, Stops, Outcome, is_stop}
use Rattle.pcrlock_line.specs.Stopped.{StandsAmong}
use Rattle.pcrlock_run.specs.declared.status.Status.{Status}
use Rattle.pcrlock_run.specs.declared.status.Status.TheVariants as statuses
use Rattle.pcrlock_answer.specs.Texts.{status_text}
use Rattle.pcrlock_run.specs.Status.{number_of, stop_number, status_of, out_of, err_of}
use Rattle.pcrlock_run.specs.Says.{Says}
use Rattle.pcrlock_run.specs.Setting.{Setting}
use Rattle.pcrlock_run.specs.Script.{Whole, line, marked_before, stopped_at, line_before, at_rest, marked, script_from}
use Rattle.pcrlock_run.specs.Leaves.{Safe, Leaves}
use Rattle.pcrlock_run.proofs.Said.{says_nothing, says_then, says_same}
use Rattle.pcrlock_run.proofs.Marks.{among_right}

-- one whole is what another does before a third; whatever stands among the stops of these stands among its own
pub record IsBoth (whole a b : Whole) : Type 0 where
  pub out : whole.out ≡ a.out ++ b.out
  pub err : whole.err ≡ a.err ++ b.err
  pub status : whole.status ≡ b.status
  pub after : whole.after ≡ b.after
  pub hashed : whole.hashed ≡ a.hashed ++ b.hashed
  pub first : (held : Option FileMap) (stored : Option Stored) → StandsAmong held stored a.stops → StandsAmong held stored whole.stops
  pub second : (held : Option FileMap) (stored : Option Stored) → StandsAmong held stored b.stops → StandsAmong held stored whole.stops

-- a status that no stop has
abbrev pub Goes : ℕ → Type 0
Goes number = (number ≢ 5) × (number ≢ 6)

pub number_goes : (status : Status) → Goes (number_of status)
number_goes statuses.Fine = (λ e. omega (arith, e), λ e. omega (arith, e))
number_goes statuses.Unmet = (λ e. omega (arith, e), λ e. omega (arith, e))
number_goes statuses.BadWords = (λ e. omega (arith, e), λ e. omega (arith, e))
number_goes statuses.BadFile = (λ e. omega (arith, e), λ e. omega (arith, e))
number_goes statuses.Limit = (λ e. omega (arith, e), λ e. omega (arith, e))
number_goes statuses.Other = (λ e. omega (arith, e), λ e. omega (arith, e))

-- so no status stops
pub never_stops : (status : Status) → (number_of status ≡ 5) ⊎ (number_of status ≡ 6) → ⊥
never_stops status (inl five) = (number_goes status).0 five
never_stops status (inr six) = (number_goes status).1 six

number_stops : (stop : Stop) → ¬ Goes (stop_number stop)
number_stops stops.ReadFault goes = goes.0 refl
number_stops stops.WriteFault goes = goes.0 refl
number_stops stops.EntropyFault goes = goes.0 refl
number_stops stops.TpmFault goes = goes.0 refl
number_stops stops.Memory goes = goes.1 refl

pub status_stops : (ending : Ending) → is_stop ending ≡ true → ¬ Goes (status_of ending)
status_stops (Fine text) e = absurd (cc e)
status_stops (Refused answer) e = absurd (cc e)
status_stops (Stops stop) e = number_stops stop

-- the machine at which a script begins stands among its stops
begins_line : (held : Option FileMap) (stored : Option Stored) (test : Bool) (m : Machine) (o : Outcome) (rest : Whole)
    → StandsAmong held stored (m ∷ []) → StandsAmong held stored (cond test (stopped_at m o) (marked_before m o rest)).stops
begins_line held stored true m o rest (inl at) = inl at
begins_line held stored true m o rest (inr none) = absurd none
begins_line held stored false m o rest (inl at) = inl at
begins_line held stored false m o rest (inr none) = absurd none

pub begins_at : (held : Option FileMap) (stored : Option Stored) (setting : Setting) (lines : List (List ℕ)) (status : ℕ) (m : Machine)
    → StandsAmong held stored (m ∷ []) → StandsAmong held stored (script_from setting lines status m).stops
begins_at held stored setting [] status m h = h
begins_at held stored setting (text ∷ texts) status m h =
    let o : Outcome = line setting (words_of text) m in
    begins_line held stored (is_stop o.ending) m o (script_from setting texts (status_of o.ending) o.after) h

both_line : (m : Machine) (o : Outcome) (whole a b : Whole) → IsBoth whole a b → IsBoth (marked_before m o whole) (marked_before m o a) b
both_line m o whole a b h = record {
  out = ap (λ (t : List ℕ). (out_of o.ending ++ status_text (status_of o.ending)) ++ t) h.out ∙ sym (append_assoc (out_of o.ending ++ status_text (status_of o.ending)) a.out b.out);
  err = ap (λ (t : List ℕ). err_of o.ending ++ t) h.err ∙ sym (append_assoc (err_of o.ending) a.err b.err);
  status = h.status;
  after = h.after;
  hashed = ap (λ (t : List HashedString). o.hashed ++ t) h.hashed ∙ sym (append_assoc o.hashed a.hashed b.hashed);
  first = λ held stored k. into held stored k (h.first held stored);
  second = λ held stored k. inr (among_right held stored o.stops whole.stops (h.second held stored k));
}
  where
    inside : (held : Option FileMap) (stored : Option Stored) (xs ys zs : List Machine) → (StandsAmong held stored ys → StandsAmong held stored zs) → StandsAmong held stored (xs ++ ys) → StandsAmong held stored (xs ++ zs)
    inside held stored [] ys zs f k = f k
    inside held stored (x ∷ xs) ys zs f (inl at) = inl at
    inside held stored (x ∷ xs) ys zs f (inr more) = inr (inside held stored xs ys zs f more)

    into : (held : Option FileMap) (stored : Option Stored) → StandsAmong held stored (m ∷ (o.stops ++ a.stops)) → (StandsAmong held stored a.stops → StandsAmong held stored whole.stops) → StandsAmong held stored (m ∷ (o.stops ++ whole.stops))
    into held stored (inl at) f = inl at
    into held stored (inr more) f = inr (inside held stored o.stops a.stops whole.stops f more)

-- one whole is another, which stops
pub record IsCut (whole a : Whole) : Type 0 where
  pub same : whole ≡ a
  pub stopped : ¬ Goes a.status

-- the second part goes on where the first left, unless that stops
abbrev pub IsSplit : Whole → Whole → (Whole → Whole) → Type 0
IsSplit whole a rest = IsBoth whole a (rest a) ⊎ IsCut whole a

split_line : (m : Machine) (o : Outcome) (whole a : Whole) (behind : ℕ → Machine → Whole) → IsSplit whole a (λ (x : Whole). behind x.status x.after)
    → IsSplit (line_before m o whole) (line_before m o a) (λ (x : Whole). behind x.status x.after)
split_line m o whole a behind = by (is_stop o.ending) (status_stops o.ending)
  where
    by : (test : Bool) → (test ≡ true → ¬ Goes (status_of o.ending)) → IsSplit whole a (λ (x : Whole). behind x.status x.after)
        → IsSplit (cond test (stopped_at m o) (marked_before m o whole)) (cond test (stopped_at m o) (marked_before m o a)) (λ (x : Whole). behind x.status x.after)
    by true stops split = inr (record { same = refl; stopped = stops refl })
    by false stops (inl both) = inl (both_line m o whole a (behind a.status a.after) both)
    by false stops (inr cut) = inr (record { same = ap (marked_before m o) cut.same; stopped = cut.stopped })

pub script_split : (setting : Setting) (first rest : List (List ℕ)) (number : ℕ) (m : Machine)
    → IsSplit (script_from setting (first ++ rest) number m) (script_from setting first number m) (λ (x : Whole). script_from setting rest x.status x.after)
script_split setting [] rest number m = inl (record {
  out = refl;
  err = refl;
  status = refl;
  after = refl;
  hashed = refl;
  first = λ held stored h. begins_at held stored setting rest number m h;
  second = λ held stored h. h;
})
script_split setting (text ∷ first) rest number m =
    let o : Outcome = line setting (words_of text) m in
    split_line m o (script_from setting (first ++ rest) (status_of o.ending) o.after) (script_from setting first (status_of o.ending) o.after) (script_from setting rest)
    (script_split setting first rest (status_of o.ending) o.after)

-- parts of safe strings are safe
pub safe_left : (xs ys : List HashedString) → Safe (xs ++ ys) → Safe xs
safe_left xs ys h = record {
  distinct = λ s t a b. h.distinct s t (Contains-append_left xs ys s a) (Contains-append_left xs ys t b);
  nonzero = λ s a. h.nonzero s (Contains-append_left xs ys s a);
}

pub safe_right : (xs ys : List HashedString) → Safe (xs ++ ys) → Safe ys
safe_right xs ys h = record {
  distinct = λ s t a b. h.distinct s t (Contains-append_right xs ys s a) (Contains-append_right xs ys t b);
  nonzero = λ s a. h.nonzero s (Contains-append_right xs ys s a);
}

-- the strings and the stops of the first part are among those of the whole
pub split_safe : (whole a : Whole) (rest : Whole → Whole) → IsSplit whole a rest → Safe whole.hashed → Safe a.hashed
split_safe whole a rest (inl both) safe = safe_left a.hashed (rest a).hashed (subst Safe both.hashed safe)
split_safe whole a rest (inr cut) safe = subst (λ (x : Whole). Safe x.hashed) cut.same safe

split_stops : (held : Option FileMap) (stored : Option Stored) (whole a : Whole) (rest : Whole → Whole) → IsSplit whole a rest → StandsAmong held stored a.stops → StandsAmong held stored whole.stops
split_stops held stored whole a rest (inl both) h = both.first held stored h
split_stops held stored whole a rest (inr cut) h = subst (λ (x : Whole). StandsAmong held stored x.stops) (sym cut.same) h

-- behind a part that doesn't stop the second one goes on
pub split_goes : (whole a : Whole) (rest : Whole → Whole) → IsSplit whole a rest → Goes a.status → IsBoth whole a (rest a)
split_goes whole a rest (inl both) goes = both
split_goes whole a rest (inr cut) goes = absurd (cut.stopped goes)

-- a script is under way: what was said, and the machine that is told now, from which the lines that are left
-- make the whole
pub record Underway (held : Option FileMap) (stored : Option Stored) (draws : Option (List (List ℕ))) (u v : Option (List ℕ)) (f : ℕ) (x : Option (List ℕ)) (g : ℕ) (y : Option (List ℕ)) (setting : Setting) (lines : List (List ℕ)) (number : ℕ) (goal : Whole) : Type 0 where
  pub middle : Machine
  pub printed : List ℕ
  pub spoken : List ℕ
  pub tells : Tells held stored draws middle
  pub out : (before : List ℕ) → u ≡ Some before → v ≡ Some (before ++ printed)
  pub said : Says f x g y spoken
  pub text : printed ++ (script_from setting lines number middle).out ≡ goal.out
  pub errors : spoken ++ (script_from setting lines number middle).err ≡ goal.err
  pub status : (script_from setting lines number middle).status ≡ goal.status
  pub after : (script_from setting lines number middle).after ≡ goal.after
  pub safe : Safe (script_from setting lines number middle).hashed
  pub stops : (h : Option FileMap) (k : Option Stored) → StandsAmong h k (script_from setting lines number middle).stops → StandsAmong h k goal.stops

pub begins : (held : Option FileMap) (stored : Option Stored) (draws : Option (List (List ℕ))) (u : Option (List ℕ)) (f : ℕ) (x : Option (List ℕ)) (setting : Setting) (lines : List (List ℕ)) (number : ℕ) (m : Machine)
    → Tells held stored draws m → Safe (script_from setting lines number m).hashed
    → Underway held stored draws u u f x f x setting lines number (script_from setting lines number m)
begins held stored draws u f x setting lines number m tells safe = record {
  middle = m;
  printed = [];
  spoken = [];
  tells = tells;
  out = λ before e. e ∙ ap Some (sym (append-nil before));
  said = says_nothing f x;
  text = refl;
  errors = refl;
  status = refl;
  after = refl;
  safe = safe;
  stops = λ h k s. s;
}

pub ends : (held : Option FileMap) (stored : Option Stored) (draws : Option (List (List ℕ))) (u v : Option (List ℕ)) (f : ℕ) (x : Option (List ℕ)) (g : ℕ) (y : Option (List ℕ)) (setting : Setting) (lines : List (List ℕ)) (number : ℕ) (goal : Whole)
    → lines ≡ [] → Underway held stored draws u v f x g y setting lines number goal → Leaves held stored draws u v f x g y number goal
ends held stored draws u v f x g y setting lines number goal none start =
    let w : Underway held stored draws u v f x g y setting [] number goal = subst (λ (l : List (List ℕ)). Underway held stored draws u v f x g y setting l number goal) none start in
    record {
      status = w.status;
      out = λ before e. w.out before e ∙ ap (λ t. Some (before ++ t)) (sym (append-nil w.printed) ∙ w.text);
      err = says_same f x g y w.spoken goal.err (sym (append-nil w.spoken) ∙ w.errors) w.said;
      tells = subst (Tells held stored draws) w.after w.tells;
    }

-- what one part left goes on with the other
goes_on : (held held2 : Option FileMap) (stored stored2 : Option Stored) (draws draws2 : Option (List (List ℕ))) (u v v2 : Option (List ℕ)) (f : ℕ) (x : Option (List ℕ)) (g : ℕ) (y : Option (List ℕ)) (g2 : ℕ) (y2 : Option (List ℕ)) (setting : Setting) (first rest : List (List ℕ)) (number number2 : ℕ) (goal part : Whole)
    → (w : Underway held stored draws u v f x g y setting (first ++ rest) number goal)
    → IsBoth (script_from setting (first ++ rest) number w.middle) part (script_from setting rest part.status part.after)
    → Leaves held2 stored2 draws2 v v2 g y g2 y2 number2 part
    → Underway held2 stored2 draws2 u v2 f x g2 y2 setting rest number2 goal
goes_on held held2 stored stored2 draws draws2 u v v2 f x g y g2 y2 setting first rest number number2 goal part w both leaves =
    subst (λ (n : ℕ). Underway held2 stored2 draws2 u v2 f x g2 y2 setting rest n goal) (sym leaves.status) (record {
      middle = part.after;
      printed = w.printed ++ part.out;
      spoken = w.spoken ++ part.err;
      tells = leaves.tells;
      out = λ before e. leaves.out (before ++ w.printed) (w.out before e) ∙ ap Some (append_assoc before w.printed part.out);
      said = says_then f x g y g2 y2 w.spoken part.err w.said leaves.err;
      text = append_assoc w.printed part.out (script_from setting rest part.status part.after).out ∙ ap (λ (t : List ℕ). w.printed ++ t) (sym both.out) ∙ w.text;
      errors = append_assoc w.spoken part.err (script_from setting rest part.status part.after).err ∙ ap (λ (t : List ℕ). w.spoken ++ t) (sym both.err) ∙ w.errors;
      status = sym both.status ∙ w.status;
      after = sym both.after ∙ w.after;
      safe = safe_right part.hashed (script_from setting rest part.status part.after).hashed (subst Safe both.hashed w.safe);
      stops = λ h k s. w.stops h k (both.second h k s);
    })

pub continues : (held held2 : Option FileMap) (stored stored2 : Option Stored) (draws draws2 : Option (List (List ℕ))) (u v v2 : Option (List ℕ)) (f : ℕ) (x : Option (List ℕ)) (g : ℕ) (y : Option (List ℕ)) (g2 : ℕ) (y2 : Option (List ℕ)) (setting : Setting) (lines first rest : List (List ℕ)) (number : ℕ) (next : Status) (goal : Whole)
    → lines ≡ first ++ rest
    → Underway held stored draws u v f x g y setting lines number goal
    → ((m : Machine) → Tells held stored draws m → Safe (script_from setting first number m).hashed → Leaves held2 stored2 draws2 v v2 g y g2 y2 (number_of next) (script_from setting first number m))
    → Underway held2 stored2 draws2 u v2 f x g2 y2 setting rest (number_of next) goal
continues held held2 stored stored2 draws draws2 u v v2 f x g y g2 y2 setting lines first rest number next goal split start does =
    let w : Underway held stored draws u v f x g y setting (first ++ rest) number goal = subst (λ (l : List (List ℕ)). Underway held stored draws u v f x g y setting l number goal) split start in
    let whole : Whole = script_from setting (first ++ rest) number w.middle in
    let part : Whole = script_from setting first number w.middle in
    let behind : Whole → Whole = λ x. script_from setting rest x.status x.after in
    let parts : IsSplit whole part behind = script_split setting first rest number w.middle in
    let leaves : Leaves held2 stored2 draws2 v v2 g y g2 y2 (number_of next) part = does w.middle w.tells (split_safe whole part behind parts w.safe) in
    goes_on held held2 stored stored2 draws draws2 u v v2 f x g y g2 y2 setting first rest number (number_of next) goal part w
    (split_goes whole part behind parts (subst Goes leaves.status (number_goes next))) leaves

-- a stop in one part is one of the whole
pub halts : (held held2 : Option FileMap) (stored stored2 : Option Stored) (draws : Option (List (List ℕ))) (u v : Option (List ℕ)) (f : ℕ) (x : Option (List ℕ)) (g : ℕ) (y : Option (List ℕ)) (setting : Setting) (lines first rest : List (List ℕ)) (number : ℕ) (goal : Whole)
    → lines ≡ first ++ rest
    → Underway held stored draws u v f x g y setting lines number goal
    → ((m : Machine) → Tells held stored draws m → Safe (script_from setting first number m).hashed → StandsAmong held2 stored2 (script_from setting first number m).stops)
    → StandsAmong held2 stored2 goal.stops
halts held held2 stored stored2 draws u v f x g y setting lines first rest number goal split start does =
    let w : Underway held stored draws u v f x g y setting (first ++ rest) number goal = subst (λ (l : List (List ℕ)). Underway held stored draws u v f x g y setting l number goal) split start in
    let whole : Whole = script_from setting (first ++ rest) number w.middle in
    let part : Whole = script_from setting first number w.middle in
    let behind : Whole → Whole = λ x. script_from setting rest x.status x.after in
    let parts : IsSplit whole part behind = script_split setting first rest number w.middle in
    w.stops held2 stored2 (split_stops held2 stored2 whole part behind parts (does w.middle w.tells (split_safe whole part behind parts w.safe)))

-- the strings of a line that stands alone
safe_line : (test : Bool) (m : Machine) (o : Outcome) (number : ℕ) → Safe (cond test (stopped_at m o) (marked_before m o (at_rest number o.after))).hashed → Safe o.hashed
safe_line true m o number h = h
safe_line false m o number h = safe_left o.hashed [] h

pub safe_marked : (m : Machine) (o : Outcome) → Safe (marked m o).hashed → Safe o.hashed
safe_marked m o h = safe_line (is_stop o.ending) m o (status_of o.ending) h
