-- The Spec ID record that is read is spelled so, and what is spelled so is read.
use Rattle.std.proofs.Common.{◌≡◌, ℕ, ◌^◌, ◌<◌, ◌≤◌, Bool, true, ltb, leb, eqb, ◌&&◌, not, List, [], ◌∷◌, ◌++◌, length, replicate, Ok, refl, sym, ap, subst, ◌∙◌, append_assoc, arith, eq-eqb}
use Rattle.std.specs.Int.{w16, w32, to_le_bytes}
use Rattle.std.proofs.lemmas.Bool.{and_from, and_parts, not_from_false, not-true, eqb-true, lt-ltb, ltb-true, leb-true, le-leb}
use Rattle.pl_layout.proofs.Steps.{bind_ok, bind_eq, skip_test, take_test, passed, passed_over, ok_is}
use Rattle.pl_layout.proofs.Fields.{IsBytes, Takes, Takes-then, Taken, Grammar, bytes_take, bytes_again}
use Rattle.pl_layout.proofs.Repeats.{GrammarBehind, CountedFits, counted_grammar, Passes, AsksEach, each_passes, passes_each}
use Rattle.tcg_log.specs.declared.error.LogKind.TheVariants.{Algorithms}
use Rattle.tcg_log.specs.declared.spec_id.Algorithm.{Algorithm}
use Rattle.tcg_log.specs.declared.spec_id.SpecId.{SpecId}
use Rattle.tcg_log.specs.Text.{algorithm_text, algorithms_text, vendor_text, class_text, head_text, signature, event_size, spec_text}
use Rattle.tcg_log.specs.Allowed.{size_fits, is_named, are_algorithms, is_spec, AlgorithmFits, SpecFits}
use Rattle.tcg_log.specs.Reading.{cut, fault, head_at, algorithm_at, named_at, vendor_at, class_at, spec_at}
use Rattle.tcg_log.proofs.Fields.{one, two, four, constant_takes, constant_again}

-- ---- algorithms

-- an algorithm may stand behind others
abbrev pub is_next : List Algorithm → Algorithm → Bool
is_next before a = not (is_named before a.number) && size_fits a.number a.size

algorithm_takes : (all : ℕ) (before : List Algorithm) (bytes : List ℕ) (x : Algorithm × List ℕ) → IsBytes bytes → algorithm_at all before bytes ≡ Ok x → Taken algorithm_text (Passes is_next AlgorithmFits before) bytes x
unfolding algorithm_at
algorithm_takes all before bytes x fits e =
    let a = bind_ok e in
    let new' = passed_over _ a.second in
    let b = bind_ok new'.1 in
    let sized = passed _ b.second in
    let number = (two all).takes bytes a.value fits a.first in
    let size = (two all).takes a.value.1 b.value number.takes.rest_fits b.first in
    let made : Algorithm × List ℕ = (record { number = a.value.0; size = b.value.0 }, b.value.1) in
    subst (λ (y : Algorithm × List ℕ). Taken algorithm_text (Passes is_next AlgorithmFits before) bytes y) (ok_is made x sized.1) (record {
      takes = Takes-then number.takes size.takes;
      fits = (and_from _ _ (not_from_false _ new'.0) sized.0, record { number = number.fits; size = size.fits });
    })

algorithm_again : (all : ℕ) (before : List Algorithm) (a : Algorithm) (rest : List ℕ) → Passes is_next AlgorithmFits before a → algorithm_at all before (algorithm_text a ++ rest) ≡ Ok (a, rest)
unfolding algorithm_at
algorithm_again all before a rest fits =
    let h = and_parts (not (is_named before a.number)) (size_fits a.number a.size) fits.0 in
    let regrouped : algorithm_text a ++ rest ≡ to_le_bytes w16 a.number ++ (to_le_bytes w16 a.size ++ rest) = append_assoc (to_le_bytes w16 a.number) (to_le_bytes w16 a.size) rest in
    ap (algorithm_at all before) regrouped
    ∙ bind_eq _ (a.number, to_le_bytes w16 a.size ++ rest) ((two all).again a.number (to_le_bytes w16 a.size ++ rest) fits.1.number)
    (skip_test (is_named before a.number) _ (not-true _ h.0)
    (bind_eq _ (a.size, rest) ((two all).again a.size rest fits.1.size) (take_test (size_fits a.number a.size) _ h.1 refl)))

algorithm_grammar : (all : ℕ) → GrammarBehind (algorithm_at all) algorithm_text (Passes is_next AlgorithmFits)
algorithm_grammar all before = record {
  takes = λ bytes x fits e. algorithm_takes all before bytes x fits e;
  again = λ a rest fits. algorithm_again all before a rest fits;
}

pub asks_algorithms : AsksEach is_next are_algorithms
asks_algorithms = record { none = λ before. refl; one = λ before a more. refl }

pub named_grammar : (all : ℕ) → Grammar (named_at all) algorithms_text (CountedFits 1 16 (2 ^ 32) (Passes is_next AlgorithmFits))
unfolding named_at
named_grammar all = counted_grammar (four all) (algorithm_grammar all) 1 16 (fault all Algorithms)

-- ---- the vendor's bytes

pub record VendorTaken (size n : ℕ) (bytes vendor rest : List ℕ) : Type 0 where
  pub takes : Takes bytes (vendor_text vendor) rest
  pub sized : size ≡ event_size n (length vendor)
  pub short : ltb (length vendor) 256 ≡ true
  pub fits : IsBytes vendor

pub vendor_takes : (all size n : ℕ) (bytes vendor rest : List ℕ) → IsBytes bytes → vendor_at all size n bytes ≡ Ok (vendor, rest) → VendorTaken size n bytes vendor rest
unfolding vendor_at
vendor_takes all size n bytes vendor rest fits e =
    let a = bind_ok e in
    let g = passed _ a.second in
    let count = (one all).takes bytes a.value fits a.first in
    let t = bytes_take (cut all) a.value.0 a.value.1 (vendor, rest) count.takes.rest_fits g.1 in
    record {
      takes = subst (λ (k : ℕ). Takes bytes (k ∷ vendor) rest) (sym t.count) (Takes-then count.takes t.takes);
      sized = eqb-true _ _ g.0 ∙ ap (λ (k : ℕ). event_size n k) (sym t.count);
      short = lt-ltb _ _ (omega (arith, t.count, count.fits));
      fits = t.fits;
    }

vendor_again : (all n : ℕ) (vendor rest : List ℕ) → vendor_at all (event_size n (length vendor)) n (vendor_text vendor ++ rest) ≡ Ok (vendor, rest)
unfolding vendor_at
vendor_again all n vendor rest = take_test (eqb (event_size n (length vendor)) (event_size n (length vendor))) _ (eq-eqb _ _ refl) (bytes_again (cut all) (length vendor) vendor rest refl)

-- ---- the head and the class

pub record HeadTaken (bytes : List ℕ) (x : ℕ × List ℕ) : Type 0 where
  pub takes : Takes bytes (head_text x.0) x.1
  pub below : x.0 < 2 ^ 32

pub head_takes : (all : ℕ) (bytes : List ℕ) (x : ℕ × List ℕ) → IsBytes bytes → head_at all bytes ≡ Ok x → HeadTaken bytes x
unfolding head_at
head_takes all bytes x fits e =
    let a = bind_ok e in
    let b = bind_ok a.second in
    let c = bind_ok b.second in
    let pcr = constant_takes all (to_le_bytes w32 0) bytes a.value fits a.first in
    let kind = constant_takes all (to_le_bytes w32 3) a.value b.value pcr.rest_fits b.first in
    let digest = constant_takes all (replicate 20 0) b.value c.value kind.rest_fits c.first in
    let size = (four all).takes c.value x digest.rest_fits c.second in
    record { takes = Takes-then pcr (Takes-then kind (Takes-then digest size.takes)); below = size.fits }

head_again : (all size : ℕ) (rest : List ℕ) → size < 2 ^ 32 → head_at all (head_text size ++ rest) ≡ Ok (size, rest)
unfolding head_at
head_again all size rest lt =
    let last = to_le_bytes w32 size ++ rest in
    bind_eq _ (to_le_bytes w32 3 ++ (replicate 20 0 ++ last)) (constant_again all (to_le_bytes w32 0) (to_le_bytes w32 3 ++ (replicate 20 0 ++ last)))
    (bind_eq _ (replicate 20 0 ++ last) (constant_again all (to_le_bytes w32 3) (replicate 20 0 ++ last))
    (bind_eq _ last (constant_again all (replicate 20 0) last) ((four all).again size rest lt)))

pub record ClassTaken (bytes : List ℕ) (s : SpecId) (rest : List ℕ) : Type 0 where
  pub takes : Takes bytes (class_text s) rest
  pub platform : s.platform < 2 ^ 32
  pub minor : s.minor < 256
  pub major : s.major < 256
  pub errata : s.errata < 256
  pub uintn : s.uintn < 256

pub class_takes : (all : ℕ) (bytes : List ℕ) (x : SpecId × List ℕ) → IsBytes bytes → class_at all bytes ≡ Ok x → ClassTaken bytes x.0 x.1
unfolding class_at
class_takes all bytes x fits e =
    let a = bind_ok e in
    let b = bind_ok a.second in
    let c = bind_ok b.second in
    let d = bind_ok c.second in
    let f = bind_ok d.second in
    let platform = (four all).takes bytes a.value fits a.first in
    let minor = (one all).takes a.value.1 b.value platform.takes.rest_fits b.first in
    let major = (one all).takes b.value.1 c.value minor.takes.rest_fits c.first in
    let errata = (one all).takes c.value.1 d.value major.takes.rest_fits d.first in
    let uintn = (one all).takes d.value.1 f.value errata.takes.rest_fits f.first in
    let made : SpecId × List ℕ = (record { platform = a.value.0; minor = b.value.0; major = c.value.0; errata = d.value.0; uintn = f.value.0; algorithms = []; vendor = [] }, f.value.1) in
    subst (λ (y : SpecId × List ℕ). ClassTaken bytes y.0 y.1) (ok_is made x f.second) (record {
      takes = Takes-then platform.takes (Takes-then minor.takes (Takes-then major.takes (Takes-then errata.takes uintn.takes)));
      platform = platform.fits;
      minor = minor.fits;
      major = major.fits;
      errata = errata.fits;
      uintn = uintn.fits;
    })

class_again : (all : ℕ) (s : SpecId) (rest : List ℕ) → s.platform < 2 ^ 32 → class_at all (class_text s ++ rest) ≡ Ok (record s { algorithms = []; vendor = [] }, rest)
unfolding class_at
class_again all s rest lt =
    let versions : List ℕ = s.minor ∷ s.major ∷ s.errata ∷ s.uintn ∷ rest in
    bind_eq _ (s.platform, versions) ((four all).again s.platform versions lt) refl

-- ---- the record

pub record SpecTaken (bytes : List ℕ) (s : SpecId) (rest : List ℕ) : Type 0 where
  pub takes : Takes bytes (spec_text s) rest
  pub allowed : is_spec s ≡ true
  pub fits : SpecFits s

pub spec_takes : (all : ℕ) (bytes : List ℕ) (x : SpecId × List ℕ) → IsBytes bytes → spec_at all bytes ≡ Ok x → SpecTaken bytes x.0 x.1
unfolding spec_at
spec_takes all bytes x fits e =
    let a = bind_ok e in
    let b = bind_ok a.second in
    let c = bind_ok b.second in
    let d = bind_ok c.second in
    let f = bind_ok d.second in
    let head = head_takes all bytes a.value fits a.first in
    let event = constant_takes all signature a.value.1 b.value head.takes.rest_fits b.first in
    let class = class_takes all b.value c.value event.rest_fits c.first in
    let named = (named_grammar all).takes c.value.1 d.value class.takes.rest_fits d.first in
    let each = each_passes AlgorithmFits asks_algorithms [] d.value.0 named.fits.fit in
    let vendor = vendor_takes all a.value.0 (length d.value.0) d.value.1 f.value.0 f.value.1 named.takes.rest_fits f.first in
    let made : SpecId × List ℕ = (record c.value.0 { algorithms = d.value.0; vendor = f.value.0 }, f.value.1) in
    let others = Takes-then event (Takes-then class.takes (Takes-then named.takes vendor.takes)) in
    subst (λ (y : SpecId × List ℕ). SpecTaken bytes y.0 y.1) (ok_is made x f.second) (record {
      takes = Takes-then (subst (λ (k : ℕ). Takes bytes (head_text k) a.value.1) vendor.sized head.takes) others;
      allowed = and_from _ _ (and_from _ _ (le-leb _ _ named.fits.some) (le-leb _ _ named.fits.few)) (and_from _ _ each.allowed vendor.short);
      fits = record { platform = class.platform; minor = class.minor; major = class.major; errata = class.errata; uintn = class.uintn; algorithms = each.fits; vendor = vendor.fits };
    })

regroup : (h s c a v rest : List ℕ) → (h ++ (s ++ (c ++ (a ++ v)))) ++ rest ≡ h ++ (s ++ (c ++ (a ++ (v ++ rest))))
regroup h s c a v rest = simp append_assoc

-- at most 16 algorithms and 255 bytes
pub size_below : (s : SpecId) → is_spec s ≡ true → (length s.algorithms < 2 ^ 32) × (event_size (length s.algorithms) (length s.vendor) < 2 ^ 32)
size_below s allowed =
    let h = and_parts (leb 1 (length s.algorithms) && leb (length s.algorithms) 16) (are_algorithms [] s.algorithms && ltb (length s.vendor) 256) allowed in
    let few : length s.algorithms ≤ 16 = leb-true _ _ (and_parts (leb 1 (length s.algorithms)) (leb (length s.algorithms) 16) h.0).1 in
    let short : length s.vendor < 256 = ltb-true _ _ (and_parts (are_algorithms [] s.algorithms) (ltb (length s.vendor) 256) h.1).1 in
    (omega arith, omega arith)

pub spec_again : (all : ℕ) (s : SpecId) (rest : List ℕ) → is_spec s ≡ true → SpecFits s → spec_at all (spec_text s ++ rest) ≡ Ok (s, rest)
unfolding spec_at
spec_again all s rest allowed fits =
    let h = and_parts (leb 1 (length s.algorithms) && leb (length s.algorithms) 16) (are_algorithms [] s.algorithms && ltb (length s.vendor) 256) allowed in
    let k = and_parts (are_algorithms [] s.algorithms) (ltb (length s.vendor) 256) h.1 in
    let below = size_below s allowed in
    let some = and_parts (leb 1 (length s.algorithms)) (leb (length s.algorithms) 16) h.0 in
    let named : CountedFits 1 16 (2 ^ 32) (Passes is_next AlgorithmFits) s.algorithms = record {
      some = leb-true _ _ some.0;
      few = leb-true _ _ some.1;
      below = below.0;
      fit = passes_each AlgorithmFits asks_algorithms [] s.algorithms k.0 fits.algorithms;
    } in
    let size = event_size (length s.algorithms) (length s.vendor) in
    let vendor = vendor_text s.vendor ++ rest in
    let algorithms = algorithms_text s.algorithms ++ vendor in
    let class = class_text s ++ algorithms in
    ap (spec_at all) (regroup (head_text size) signature (class_text s) (algorithms_text s.algorithms) (vendor_text s.vendor) rest)
    ∙ bind_eq _ (size, signature ++ class) (head_again all size (signature ++ class) below.1)
    (bind_eq _ class (constant_again all signature class)
    (bind_eq _ (record s { algorithms = []; vendor = [] }, algorithms) (class_again all s algorithms fits.platform)
    (bind_eq _ (s.algorithms, vendor) ((named_grammar all).again s.algorithms vendor named)
    (bind_eq _ (s.vendor, rest) (vendor_again all (length s.algorithms) s.vendor rest) refl))))
