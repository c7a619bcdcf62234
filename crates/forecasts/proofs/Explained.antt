-- A PCR has no cause to be left out exactly where its value is explained.
use Rattle.std.proofs.Common.{◌≡◌, ℕ, Bool, true, false, cond, List, [], Option, Some, None, Result, Ok, Err, refl, ap, ◌∙◌}
use Rattle.std.specs.Prelude.{slice_index_or}
use Rattle.std.specs.List.{Contains}
use Rattle.std.specs.Str.{bytes_eq}
use Rattle.hash_bank.specs.declared.bank.Bank.{Bank}
use Rattle.component_tree.specs.PlainTree.{PlainComponent}
use Rattle.pcr_replay.specs.Measured.{measured_in, replayed_in}
use Rattle.record_match.specs.Choices.{choices}
use Rattle.record_match.specs.Extends.{variants_of, extends_of}
use Rattle.record_match.specs.Lacking.{lacking_of}
use Rattle.record_match.specs.Recognition.{first_case, first_explaining, missing_of, recognised}
use Rattle.record_match.specs.Subsequence.{digests_eq}
use Rattle.record_match.specs.declared.error.MatchError.{MatchError}
use Rattle.record_match.specs.declared.error.MatchError.TheVariants as matching
use Rattle.record_match.specs.declared.lacking.RecordPlace.{RecordPlace}
use Rattle.predictor.specs.declared.error.ProtectError.{ProtectError}
use Rattle.predictor.specs.declared.protection.Cause.{Cause}
use Rattle.predictor.specs.declared.protection.Cause.TheVariants as causes
use Rattle.predictor.specs.Protected.{by_recognition, by_measured, by_replayed, standing_of, standing_in}
use Rattle.predictor.proofs.Repeats.{bytes_tell, values_tell}
use Rattle.forecasts.specs.Forecast.{Forecast, inside, IsExplained}
use Rattle.forecasts.proofs.Found.{find_some, find_member}

abbrev protected : Result (Option Cause) ProtectError
protected = Ok None

recognition_ok : (r : Result (List ℕ) MatchError) → by_recognition r ≡ protected → (c : List ℕ) × (r ≡ Ok c)
recognition_ok (Ok c) e = (c, refl)
recognition_ok (Err (matching.NoDigest i v n)) e = absurd cc
recognition_ok (Err (matching.MissingComponent i)) e = absurd cc
recognition_ok (Err matching.Unrecognised) e = absurd cc
recognition_ok (Err matching.Memory) e = absurd cc

case_ok : (at : Option RecordPlace) (explaining : Option (List ℕ)) (missing : Option ℕ) (c : List ℕ) → first_case at explaining missing ≡ Ok c → (at ≡ None) × (explaining ≡ Some c)
case_ok (Some at) explaining missing c e = absurd cc
case_ok None (Some d) missing c e = let is : d ≡ c = cc in (refl, ap Some is)
case_ok None None (Some i) c e = absurd cc
case_ok None None None c e = absurd cc

measured_ok : (bank : Bank) (pcr : ℕ) (components : List PlainComponent) (o : Option (List (List ℕ))) → by_measured bank pcr components o ≡ protected → (list : List (List ℕ)) × (o ≡ Some list) × (by_recognition (recognised bank pcr components list) ≡ protected)
measured_ok bank pcr components None e = absurd cc
measured_ok bank pcr components (Some list) e = (list, refl, e)

replayed_ok : (now : List ℕ) (o : Option (List ℕ)) (matched : Result (Option Cause) ProtectError) → by_replayed now o matched ≡ protected → (o ≡ Some now) × (matched ≡ protected)
replayed_ok now None matched e = absurd cc
replayed_ok now (Some value) matched e =
    elim (bytes_eq value now) as (λ b. bytes_eq value now ≡ b → cond b matched (Ok (Some (causes.ValueDiffers value now))) ≡ protected → (Some value ≡ Some now) × (matched ≡ protected)) [
      | true ↦ λ on h. (ap Some (bytes_tell.equal value now on), h)
      | false ↦ λ off h. absurd cc
    ] refl e

module _ (f : Forecast) (p : ℕ) where
  abbrev explaining : List (List ℕ) → List ℕ → Bool
  explaining list c = digests_eq (extends_of f.bank p (inside f) c) list

  abbrev standing : Result (Option Cause) ProtectError
  standing = standing_in f.components f.window f.bank f.log f.locality f.now p

  recognised_by : (list : List (List ℕ)) → by_recognition (recognised f.bank p (inside f) list) ≡ protected
      → (lacking_of f.bank p (inside f) ≡ None) × ((c : List ℕ) × Contains (choices (variants_of (inside f))) c × (extends_of f.bank p (inside f) c ≡ list))
  unfolding recognised
  recognised_by list e =
      let r = recognition_ok (first_case (lacking_of f.bank p (inside f)) (first_explaining f.bank p (inside f) list) (missing_of f.bank p (inside f) list)) e in
      let c = case_ok (lacking_of f.bank p (inside f)) (first_explaining f.bank p (inside f) list) (missing_of f.bank p (inside f) list) r.0 r.1 in
      let found = find_some (explaining list) (choices (variants_of (inside f))) r.0 c.1 in
      (c.0, (r.0, found.0, values_tell.equal (extends_of f.bank p (inside f) r.0) list found.1))

  recognised_back : (list : List (List ℕ)) (c : List ℕ) → lacking_of f.bank p (inside f) ≡ None → Contains (choices (variants_of (inside f))) c → extends_of f.bank p (inside f) c ≡ list
      → by_recognition (recognised f.bank p (inside f) list) ≡ protected
  unfolding recognised
  recognised_back list c complete chosen explains =
      let on : explaining list c ≡ true = ap (λ ds. digests_eq ds list) explains ∙ values_tell.itself list in
      let found = find_member (explaining list) (choices (variants_of (inside f))) c chosen on in
      ap (λ (at : Option RecordPlace). by_recognition (first_case at (first_explaining f.bank p (inside f) list) (missing_of f.bank p (inside f) list))) complete
      ∙ ap (λ (o : Option (List ℕ)). by_recognition (first_case None o (missing_of f.bank p (inside f) list))) found.1

  pub explained : standing ≡ protected → IsExplained f p
  unfolding standing_of
  explained e =
      let now = slice_index_or f.now p [] in
      let r = replayed_ok now (replayed_in f.bank p f.locality f.log) (by_measured f.bank p (inside f) (measured_in f.bank p f.log)) e in
      let m = measured_ok f.bank p (inside f) (measured_in f.bank p f.log) r.1 in
      let c = recognised_by m.0 m.2 in
      record { list = m.0; measured = m.1; replayed = r.0; complete = c.0; choice = c.1.0; chosen = c.1.1; explains = c.1.2 }

  pub stands : IsExplained f p → standing ≡ protected
  unfolding standing_of
  stands x =
      let now = slice_index_or f.now p [] in
      let matched = by_measured f.bank p (inside f) (measured_in f.bank p f.log) in
      ap (λ (o : Option (List ℕ)). by_replayed now o matched) x.replayed
      ∙ ap (λ b. cond b matched (Ok (Some (causes.ValueDiffers now now)))) (bytes_tell.itself now)
      ∙ ap (by_measured f.bank p (inside f)) x.measured
      ∙ recognised_back x.list x.choice x.complete x.chosen x.explains
