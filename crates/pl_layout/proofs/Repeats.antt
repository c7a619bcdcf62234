-- Items that are read one after another, each behind those before it.
use Rattle.std.proofs.Common.{◌≡◌, ℕ, zero, suc, ◌<◌, ◌≤◌, leb, Bool, true, ◌&&◌, List, [], ◌∷◌, ◌++◌, length, refl, sym, ap, subst, ◌∙◌, append_assoc, arith}
use Rattle.std.specs.Prelude.{Result, Ok}
use Rattle.std.specs.List.{flat_map, AllByRecursion}
use Rattle.std.proofs.lemmas.Bool.{and_from, and_parts, leb-true, le-leb}
use Rattle.std.proofs.lemmas.List.{append-nil}
use Rattle.pl_layout.specs.Reading.{byte_at, repeat_at, counted_at, counted_text}
use Rattle.pl_layout.proofs.Steps.{bind_ok, bind_eq, passed, take_test, ok_is}
use Rattle.pl_layout.proofs.Fields.{IsBytes, Takes, Takes-then, Takes-nothing, Taken, Grammar, byte_text, byte_grammar}

-- each item fits behind those before it
abbrev pub FitBehind : {A : Type 0} → (List A → A → Type 0) → List A → List A → Type 0
FitBehind Fits before [] = Unit {0}
FitBehind Fits before (a ∷ more) = Fits before a × FitBehind Fits (before ++ a ∷ []) more

-- a reader of items that takes, behind any items, exactly the texts of those that fit there
abbrev pub GrammarBehind : {E A : Type 0} → (List A → List ℕ → Result (A × List ℕ) E) → (A → List ℕ) → (List A → A → Type 0) → Type 0
GrammarBehind {A = A} item text Fits = (before : List A) → Grammar (item before) text (Fits before)

pub record Repeated {A : Type 0} (text : A → List ℕ) (Fits : List A → A → Type 0) (n : ℕ) (before : List A) (bytes : List ℕ) (x : List A × List ℕ) : Type 0 where
  pub more : List A
  pub whole : x.0 ≡ before ++ more
  pub count : length more ≡ n
  pub takes : Takes bytes (flat_map text more) x.1
  pub fits : FitBehind Fits before more

pub nothing_more : {A : Type 0} (text : A → List ℕ) (Fits : List A → A → Type 0) (before : List A) (bytes : List ℕ) → IsBytes bytes → Repeated text Fits 0 before bytes (before, bytes)
nothing_more text Fits before bytes fits = record { more = []; whole = sym (append-nil before); count = refl; takes = Takes-nothing bytes fits; fits = tt }

pub repeat_take : {E A : Type 0} {item : List A → List ℕ → Result (A × List ℕ) E} {text : A → List ℕ} {Fits : List A → A → Type 0} → GrammarBehind item text Fits → (n : ℕ) (before : List A) (bytes : List ℕ) (x : List A × List ℕ)
    → IsBytes bytes → repeat_at item n before bytes ≡ Ok x → Repeated text Fits n before bytes x
unfolding repeat_at
repeat_take {A = A} {text = text} {Fits = Fits} g zero before bytes x fits e =
    subst (λ (y : List A × List ℕ). Repeated text Fits 0 before bytes y) (ok_is (before, bytes) x e) (nothing_more text Fits before bytes fits)
repeat_take {text = text} {Fits = Fits} g (suc n) before bytes x fits e =
    let a = bind_ok e in
    let first = (g before).takes bytes a.value fits a.first in
    let others = repeat_take g n (before ++ a.value.0 ∷ []) a.value.1 x first.takes.rest_fits a.second in
    record {
      more = a.value.0 ∷ others.more;
      whole = others.whole ∙ append_assoc before (a.value.0 ∷ []) others.more;
      count = ap suc others.count;
      takes = Takes-then first.takes others.takes;
      fits = (first.fits, others.fits);
    }

pub repeat_again : {E A : Type 0} {item : List A → List ℕ → Result (A × List ℕ) E} {text : A → List ℕ} {Fits : List A → A → Type 0} → GrammarBehind item text Fits → (before more : List A) (rest : List ℕ)
    → FitBehind Fits before more → repeat_at item (length more) before (flat_map text more ++ rest) ≡ Ok (before ++ more, rest)
unfolding repeat_at
repeat_again g before [] rest fits = ap (λ (read : List _). Ok (read, rest)) (sym (append-nil before))
repeat_again {item = item} {text = text} g before (a ∷ more) rest fits =
    ap (repeat_at item (suc (length more)) before) (append_assoc (text a) (flat_map text more) rest)
    ∙ bind_eq _ (a, flat_map text more ++ rest) ((g before).again a (flat_map text more ++ rest) fits.0)
    (repeat_again g (before ++ a ∷ []) more rest fits.1 ∙ ap (λ (read : List _). Ok (read, rest)) (append_assoc before (a ∷ []) more))

-- items that need not look at those before them
pub each_fits : {A : Type 0} (Fits : A → Type 0) (before more : List A) → FitBehind (λ b. Fits) before more → AllByRecursion Fits more
each_fits Fits before [] h = tt
each_fits Fits before (a ∷ more) h = (h.0, each_fits Fits (before ++ a ∷ []) more h.1)

pub fits_each : {A : Type 0} (Fits : A → Type 0) (before more : List A) → AllByRecursion Fits more → FitBehind (λ b. Fits) before more
fits_each Fits before [] h = tt
fits_each Fits before (a ∷ more) h = (h.0, fits_each Fits (before ++ a ∷ []) more h.1)

-- ---- items behind their number

-- what has a text: the number is within the range and fits its field
pub record CountedFits {A : Type 0} (low high limit : ℕ) (Fits : List A → A → Type 0) (items : List A) : Type 0 where
  pub some : low ≤ length items
  pub few : length items ≤ high
  pub below : length items < limit
  pub fit : FitBehind Fits [] items

counted_takes : {E A : Type 0} {number : List ℕ → Result (ℕ × List ℕ) E} {to : ℕ → List ℕ} {limit : ℕ} {item : List A → List ℕ → Result (A × List ℕ) E} {text : A → List ℕ} {Fits : List A → A → Type 0}
    → Grammar number to (λ n. n < limit) → GrammarBehind item text Fits → (low high : ℕ) (fault : List ℕ → E) (bytes : List ℕ) (x : List A × List ℕ) → IsBytes bytes → counted_at number low high fault item bytes ≡ Ok x
    → Taken (counted_text to text) (CountedFits low high limit Fits) bytes x
unfolding counted_at
counted_takes {A = A} {to = to} {limit = limit} {text = text} {Fits = Fits} n g low high fault bytes x fits e =
    let a = bind_ok e in
    let t = passed _ a.second in
    let range = and_parts (leb low a.value.0) (leb a.value.0 high) t.0 in
    let count = n.takes bytes a.value fits a.first in
    let items = repeat_take g a.value.0 [] a.value.1 x count.takes.rest_fits t.1 in
    let one : Takes bytes (to (length items.more) ++ flat_map text items.more) x.1 = subst (λ (n : ℕ). Takes bytes (to n ++ flat_map text items.more) x.1) (sym items.count) (Takes-then count.takes items.takes) in
    let fit : CountedFits low high limit Fits items.more = record {
      some = subst (λ (n : ℕ). low ≤ n) (sym items.count) (leb-true _ _ range.0);
      few = subst (λ (n : ℕ). n ≤ high) (sym items.count) (leb-true _ _ range.1);
      below = subst (λ (n : ℕ). n < limit) (sym items.count) count.fits;
      fit = items.fits;
    } in
    record {
      takes = subst (λ (read : List A). Takes bytes (counted_text to text read) x.1) (sym items.whole) one;
      fits = subst (λ (read : List A). CountedFits low high limit Fits read) (sym items.whole) fit;
    }

counted_again : {E A : Type 0} {number : List ℕ → Result (ℕ × List ℕ) E} {to : ℕ → List ℕ} {limit : ℕ} {item : List A → List ℕ → Result (A × List ℕ) E} {text : A → List ℕ} {Fits : List A → A → Type 0}
    → Grammar number to (λ n. n < limit) → GrammarBehind item text Fits → (low high : ℕ) (fault : List ℕ → E) (items : List A) (rest : List ℕ) → CountedFits low high limit Fits items
    → counted_at number low high fault item (counted_text to text items ++ rest) ≡ Ok (items, rest)
unfolding counted_at
counted_again {number = number} {to = to} {item = item} {text = text} n g low high fault items rest fits =
    ap (counted_at number low high fault item) (append_assoc (to (length items)) (flat_map text items) rest)
    ∙ bind_eq _ (length items, flat_map text items ++ rest) (n.again (length items) (flat_map text items ++ rest) fits.below)
    (take_test (leb low (length items) && leb (length items) high) _ (and_from _ _ (le-leb _ _ fits.some) (le-leb _ _ fits.few)) (repeat_again g [] items rest fits.fit))

pub counted_grammar : {E A : Type 0} {number : List ℕ → Result (ℕ × List ℕ) E} {to : ℕ → List ℕ} {limit : ℕ} {item : List A → List ℕ → Result (A × List ℕ) E} {text : A → List ℕ} {Fits : List A → A → Type 0}
    → Grammar number to (λ n. n < limit) → GrammarBehind item text Fits → (low high : ℕ) (fault : List ℕ → E)
    → Grammar (counted_at number low high fault item) (counted_text to text) (CountedFits low high limit Fits)
counted_grammar n g low high fault = record {
  takes = λ bytes x fits e. counted_takes n g low high fault bytes x fits e;
  again = λ items rest fits. counted_again n g low high fault items rest fits;
}

-- a few items that need not look at those before them, behind their number of one byte
abbrev pub ListFits : {A : Type 0} → ℕ → ℕ → (A → Type 0) → List A → Type 0
ListFits low high Fits items = (low ≤ length items) × (length items ≤ high) × AllByRecursion Fits items

pub list_grammar : {E A : Type 0} {item : List ℕ → Result (A × List ℕ) E} {text : A → List ℕ} {Fits : A → Type 0} → Grammar item text Fits → (low high : ℕ) (fault : List ℕ → E) → high < 256
    → Grammar (counted_at (byte_at fault) low high fault (λ before. item)) (counted_text byte_text text) (ListFits low high Fits)
list_grammar {Fits = Fits} g low high fault short =
    let all = counted_grammar (byte_grammar fault) (λ before. g) low high fault in
    record {
      takes = λ bytes x fits e. (
          let t = all.takes bytes x fits e in
          record { takes = t.takes; fits = (t.fits.some, t.fits.few, each_fits Fits [] x.0 t.fits.fit) }
          );
      again = λ items rest fits.
          all.again items rest (record { some = fits.0; few = fits.1; below = omega (arith, fits.1, short); fit = fits_each Fits [] items fits.2 });
    }

-- ---- items of which a test asks each behind those before it

-- the test of an item, and what else holds of it
abbrev pub Passes : {A : Type 0} → (List A → A → Bool) → (A → Type 0) → List A → A → Type 0
Passes test Fits before a = (test before a ≡ true) × Fits a

-- a test of all items is that of each behind those before it
pub record AsksEach {A : Type 0} (test : List A → A → Bool) (tests : List A → List A → Bool) : Type 0 where
  pub none : (before : List A) → tests before [] ≡ true
  pub one : (before : List A) (a : A) (more : List A) → tests before (a ∷ more) ≡ (test before a && tests (before ++ a ∷ []) more)

pub record Passed {A : Type 0} (tests : List A → List A → Bool) (Fits : A → Type 0) (before more : List A) : Type 0 where
  pub allowed : tests before more ≡ true
  pub fits : AllByRecursion Fits more

pub each_passes : {A : Type 0} {test : List A → A → Bool} {tests : List A → List A → Bool} (Fits : A → Type 0) → AsksEach test tests → (before more : List A) → FitBehind (Passes test Fits) before more → Passed tests Fits before more
each_passes Fits asks before [] h = record { allowed = asks.none before; fits = tt }
each_passes Fits asks before (a ∷ more) h =
    let others = each_passes Fits asks (before ++ a ∷ []) more h.1 in
    record { allowed = asks.one before a more ∙ rw (h.0.0, others.allowed) refl; fits = (h.0.1, others.fits) }

pub passes_each : {A : Type 0} {test : List A → A → Bool} {tests : List A → List A → Bool} (Fits : A → Type 0) → AsksEach test tests → (before more : List A) → tests before more ≡ true → AllByRecursion Fits more → FitBehind (Passes test Fits) before more
passes_each Fits asks before [] allowed fits = tt
passes_each {test = test} {tests = tests} Fits asks before (a ∷ more) allowed fits =
    let h = and_parts (test before a) (tests (before ++ a ∷ []) more) (sym (asks.one before a more) ∙ allowed) in
    ((h.0, fits.0), passes_each Fits asks (before ++ a ∷ []) more h.1 fits.1)
