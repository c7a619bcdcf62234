-- A state file that is read is spelled so, and what is spelled so is read.
use Rattle.std.proofs.Common.{◌≡◌, ℕ, ◌<◌, ◌≤◌, List, [], ◌∷◌, ◌++◌, length, Ok, refl, sym, ap, subst, ◌∙◌, arith, lit<}
use Rattle.std.proofs.lemmas.Bool.{eqb-true}
use Rattle.std.proofs.lemmas.List.{append-nil, nil_from_length}
use Rattle.hash_bank.specs.declared.banks.Banks.{Banks}
use Rattle.pl_layout.proofs.Steps.{bind_ok, bind_eq, passed, ok_is}
use Rattle.pl_layout.proofs.Fields.{IsBytes, Takes, Takes-then, byte_takes}
use Rattle.pl_layout.proofs.Repeats.{ListFits}
use Rattle.tpm_model.specs.declared.parts.Parts.{Parts}
use Rattle.tpm_model.specs.Pcrs.{HasValues}
use Rattle.tpm_state.specs.declared.version.Version.{Version}
use Rattle.tpm_state.specs.Field.{fault, counted_text}
use Rattle.tpm_state.specs.Header.{magic_text, banks_byte, values_text, counters_text, banks_of}
use Rattle.tpm_state.specs.Sessions.{SessionFits, session_text}
use Rattle.tpm_state.specs.Indices.{IndexFits, index_text}
use Rattle.tpm_state.specs.Objects.{ObjectFits, object_text}
use Rattle.tpm_state.specs.Layout.{counters_of, lists_text, text_of, HasLayout, lists_at, ended, layout_at}
use Rattle.tpm_state.proofs.Appends.{regroup_four}
use Rattle.tpm_state.proofs.Counted.{counted_grammar}
use Rattle.tpm_state.proofs.HeaderLaws.{version_takes, version_again, banks_back, byte_back, values_takes, values_again, CountersFit, counters_takes, counters_again}
use Rattle.tpm_state.proofs.SessionLaws.{session_grammar}
use Rattle.tpm_state.proofs.IndexLaws.{index_grammar}
use Rattle.tpm_state.proofs.ObjectLaws.{object_grammar}

-- ---- the counters and the lists

record ListsTaken (version : Version) (present : Banks) (values : List (List ℕ)) (bytes : List ℕ) (x : Parts × List ℕ) : Type 0 where
  takes : Takes bytes (counters_text (counters_of x.0) ++ lists_text version x.0.sessions x.0.indices x.0.objects) x.1
  banks : x.0.banks ≡ present
  pcrs : x.0.pcrs ≡ values
  counters : CountersFit (counters_of x.0)
  sessions : ListFits 0 64 (SessionFits version) x.0.sessions
  indices : ListFits 0 16 IndexFits x.0.indices
  objects : ListFits 0 64 (ObjectFits version) x.0.objects

lists_takes : (all : ℕ) (version : Version) (byte : ℕ) (pcrs : List (List ℕ)) (bytes : List ℕ) (x : Parts × List ℕ) → IsBytes bytes → lists_at all version byte pcrs bytes ≡ Ok x → ListsTaken version (banks_of byte) pcrs bytes x
unfolding lists_at
lists_takes all version byte pcrs bytes x fits e =
    let a = bind_ok e in
    let b = bind_ok a.second in
    let c = bind_ok b.second in
    let d = bind_ok c.second in
    let counters = counters_takes all bytes a.value fits a.first in
    let sessions = (counted_grammar (session_grammar all version) all 0 64 (lit< tt)).takes a.value.1 b.value counters.takes.rest_fits b.first in
    let indices = (counted_grammar (index_grammar all) all 0 16 (lit< tt)).takes b.value.1 c.value sessions.takes.rest_fits c.first in
    let objects = (counted_grammar (object_grammar all version) all 0 64 (lit< tt)).takes c.value.1 d.value indices.takes.rest_fits d.first in
    let made : Parts × List ℕ = (
      record {
        banks = banks_of byte;
        pcrs = pcrs;
        update_counter = a.value.0.update_counter;
        next_session = a.value.0.next_session;
        write_counter = a.value.0.write_counter;
        next_object = a.value.0.next_object;
        sessions = b.value.0;
        indices = c.value.0;
        objects = d.value.0;
      },
      d.value.1,
    ) in
    subst (λ (y : Parts × List ℕ). ListsTaken version (banks_of byte) pcrs bytes y) (ok_is made x d.second) (record {
      takes = Takes-then counters.takes (Takes-then sessions.takes (Takes-then indices.takes objects.takes));
      banks = refl;
      pcrs = refl;
      counters = counters.fits;
      sessions = sessions.fits;
      indices = indices.fits;
      objects = objects.fits;
    })

lists_again : (all : ℕ) (version : Version) (s : Parts) (rest : List ℕ) → HasLayout version s → lists_at all version (banks_byte s.banks) s.pcrs ((counters_text (counters_of s) ++ lists_text version s.sessions s.indices s.objects) ++ rest) ≡ Ok (s, rest)
unfolding lists_at
lists_again all version s rest fits =
    let objects = counted_text (object_text version) s.objects ++ rest in
    let indices = counted_text index_text s.indices ++ objects in
    let sessions = counted_text (session_text version) s.sessions ++ indices in
    let numbers : CountersFit (counters_of s) = record { update_counter = fits.update_counter; next_session = fits.next_session; write_counter = fits.write_counter; next_object = fits.next_object } in
    ap (lists_at all version (banks_byte s.banks) s.pcrs) (regroup_four (counters_text (counters_of s)) (counted_text (session_text version) s.sessions) (counted_text index_text s.indices) (counted_text (object_text version) s.objects) rest)
    ∙ bind_eq _ (counters_of s, sessions) (counters_again all (counters_of s) sessions numbers)
    (bind_eq _ (s.sessions, indices) ((counted_grammar (session_grammar all version) all 0 64 (lit< tt)).again s.sessions indices (omega arith, fits.session_count, fits.sessions))
    (bind_eq _ (s.indices, objects) ((counted_grammar (index_grammar all) all 0 16 (lit< tt)).again s.indices objects (omega arith, fits.index_count, fits.indices))
    (bind_eq _ (s.objects, rest) ((counted_grammar (object_grammar all version) all 0 64 (lit< tt)).again s.objects rest (omega arith, fits.object_count, fits.objects))
    (ap (λ (banks : Banks). Ok (record s { banks = banks }, rest)) (banks_back s.banks)))))

-- ---- the whole

pub record LayoutTaken (bytes : List ℕ) (x : ℕ × Parts) : Type 0 where
  pub version : Version
  pub parts : bytes ≡ magic_text version ++ ((x.0 ∷ []) ++ (values_text x.1.pcrs ++ (counters_text (counters_of x.1) ++ lists_text version x.1.sessions x.1.indices x.1.objects)))
  pub banks : x.1.banks ≡ banks_of x.0
  pub fits : HasLayout version x.1

pub layout_takes : (bytes : List ℕ) (x : ℕ × Parts) → IsBytes bytes → layout_at bytes ≡ Ok x → LayoutTaken bytes x
unfolding layout_at
layout_takes bytes x fits e =
    let all = length bytes in
    let a = bind_ok e in
    let b = bind_ok a.second in
    let c = bind_ok b.second in
    let d = bind_ok c.second in
    let p = passed _ d.second in
    let version = version_takes all bytes a.value fits a.first in
    let byte = byte_takes (fault all) a.value.1 b.value version.rest_fits b.first in
    let values = values_takes all (banks_of b.value.0) b.value.1 c.value byte.rest_fits c.first in
    let lists = lists_takes all a.value.0 b.value.0 c.value.0 c.value.1 d.value values.takes.rest_fits d.first in
    let s = d.value.0 in
    let ended : d.value.1 ≡ [] = nil_from_length d.value.1 (eqb-true _ _ p.0) in
    let same_values : Takes b.value.1 (values_text s.pcrs) c.value.1 = subst (λ (pcrs : List (List ℕ)). Takes b.value.1 (values_text pcrs) c.value.1) (sym lists.pcrs) values.takes in
    let taken = Takes-then version (Takes-then byte (Takes-then same_values lists.takes)) in
    let made : ℕ × Parts = (b.value.0, s) in
    let fit_values : HasValues s.banks s.pcrs = subst (λ (banks : Banks). HasValues banks s.pcrs) (sym lists.banks) (subst (λ (pcrs : List (List ℕ)). HasValues (banks_of b.value.0) pcrs) (sym lists.pcrs) values.fits) in
    subst (λ (y : ℕ × Parts). LayoutTaken bytes y) (ok_is made x p.1) (record {
      version = a.value.0;
      parts = taken.parts ∙ ap (λ (rest : List ℕ). (magic_text a.value.0 ++ ((b.value.0 ∷ []) ++ (values_text s.pcrs ++ (counters_text (counters_of s) ++ lists_text a.value.0 s.sessions s.indices s.objects)))) ++ rest) ended ∙ append-nil _;
      banks = lists.banks;
      fits = record {
        values = fit_values;
        update_counter = lists.counters.update_counter;
        next_session = lists.counters.next_session;
        write_counter = lists.counters.write_counter;
        next_object = lists.counters.next_object;
        session_count = lists.sessions.1;
        sessions = lists.sessions.2;
        index_count = lists.indices.1;
        indices = lists.indices.2;
        object_count = lists.objects.1;
        objects = lists.objects.2;
      };
    })

-- a byte of 1 to 15 is that of its banks
pub layout_is_text : (bytes : List ℕ) (x : ℕ × Parts) (t : LayoutTaken bytes x) → x.0 ≤ 15 → bytes ≡ text_of t.version x.1
layout_is_text bytes x t few =
    let byte : x.0 ≡ banks_byte x.1.banks = sym (ap banks_byte t.banks ∙ byte_back x.0 few) in
    t.parts ∙ ap (λ (n : ℕ). magic_text t.version ++ ((n ∷ []) ++ (values_text x.1.pcrs ++ (counters_text (counters_of x.1) ++ lists_text t.version x.1.sessions x.1.indices x.1.objects)))) byte

pub layout_again : (version : Version) (s : Parts) → HasLayout version s → layout_at (text_of version s) ≡ Ok (banks_byte s.banks, s)
unfolding layout_at
layout_again version s fits =
    let all = length (text_of version s) in
    let lists = counters_text (counters_of s) ++ lists_text version s.sessions s.indices s.objects in
    let values = values_text s.pcrs ++ lists in
    let body = banks_byte s.banks ∷ values in
    let there : HasValues (banks_of (banks_byte s.banks)) s.pcrs = subst (λ (banks : Banks). HasValues banks s.pcrs) (sym (banks_back s.banks)) fits.values in
    let read : lists_at all version (banks_byte s.banks) s.pcrs lists ≡ Ok (s, []) = ap (lists_at all version (banks_byte s.banks) s.pcrs) (sym (append-nil lists)) ∙ lists_again all version s [] fits in
    bind_eq _ (version, body) (version_again all version body)
    (bind_eq _ (s.pcrs, lists) (values_again all (banks_of (banks_byte s.banks)) s.pcrs lists there)
    (bind_eq _ (s, []) read refl))
