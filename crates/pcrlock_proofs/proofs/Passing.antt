-- What `prove` has written passes `check-proof`.
use Rattle.std.proofs.Common.{◌≡◌, ℕ, ◌+◌, ◌*◌, ◌^◌, ◌≤◌, true, cond, List, [], ◌∷◌, ◌++◌, length, sym, ap, ◌∙◌, subst, arith, length-append}
use Rattle.std.specs.Prelude.{IfOk, Option, None, Some, Result, Ok, Err}
use Rattle.std.specs.List.{All}
use Rattle.std.specs.Cmp.{eq_by_cmp_equiv}
use Rattle.std.specs.Cmp.Lexicographic.{nat_list_cmp_total}
use Rattle.std.specs.FinMap.{get, get-insert, insert}
use Rattle.std.proofs.lemmas.Bool.{le-ltb}
use Rattle.std.proofs.lemmas.Nat.{pow_pos}
use Rattle.std.proofs.lemmas.List.Elements.{All-append, All-cons, All-head, All-nil, All-tail, All-weaker}
use Rattle.pl_base.specs.FileMap.{FileMap}
use Rattle.component_tree.specs.PlainTree.{PlainComponent}
use Rattle.policy_digest.specs.Mask.{pcrs_of}
use Rattle.predictor.specs.declared.window.Window.{Window}
use Rattle.predict_proof.specs.declared.file.ProofFile.{ProofFile}
use Rattle.predict_proof.specs.declared.proof.Proof.{Proof}
use Rattle.predict_proof.specs.Fault.{first_fault}
use Rattle.predict_proof.specs.Proved.{Proved}
use Rattle.predict_proof.specs.ProofsIn.{proofs_in}
use Rattle.predict_proof.specs.ProofText.{file_text, head_text, line, proof_text, proofs_text}
use Rattle.predict_proof.specs.ReadsAs.{IsLine}
use Rattle.predict_proof.specs.Words.{is_locality}
use Rattle.predict_proof.proofs.MaskTexts.{few_pcrs, no_pcrs, pcrs_more}
use Rattle.predict_proof.proofs.NoFault.{no_fault}
use Rattle.predict_proof.proofs.ProofsRead.{file_back}
use Rattle.predict_proof.proofs.Sizes.{few_choices, head_short, line_short, lines_short}
use Rattle.pcrlock_answer.specs.declared.answer.Answer.{Answer}
use Rattle.pcrlock_answer.specs.Texts.{checked_text}
use Rattle.pcrlock_line.specs.declared.reply.Reply.{Reply}
use Rattle.pcrlock_line.specs.declared.stop.Stop.{Stop}
use Rattle.pcrlock_line.specs.declared.reply.Reply.TheVariants as reply
use Rattle.pcrlock_line.specs.Content.{Bytes, TooLarge, content_at}
use Rattle.pcrlock_line.specs.Outcome.{Ending, Fine}
use Rattle.pcrlock_input.specs.Answering.{◌>>=◌}
use Rattle.pcrlock_input.specs.declared.error.InputError.{InputError}
use Rattle.pcrlock_input.specs.Components.{components_of}
use Rattle.pcrlock_lock.specs.Changing.{IsDone}
use Rattle.pcrlock_proofs.specs.declared.asked.Asked.{Asked}
use Rattle.pcrlock_proofs.specs.CheckProof.{checked_of, file_by, file_of, proof_byte_limit, text_read, verdict_by}
use Rattle.pcrlock_proofs.specs.Passes.{AreOf, Fit, Passes}
use Rattle.pcrlock_proofs.specs.Prove.{written}

-- ---- how many PCRs a proof has

pub one_pcr : (pcr : ℕ) → pcr ≤ 23 → length (pcrs_of (2 ^ pcr)) ≤ 1
one_pcr pcr le = omega (arith, ap length (pcrs_more 0 pcr (omega arith) (pow_pos pcr) ∙ ap (λ (ps : List ℕ). ps ++ pcr ∷ []) no_pcrs))

module _ (asked : Asked) (window : Window) (components : List PlainComponent) where
  pub of_mask : (mask : ℕ) (list : List Proof) → All (IsLine asked.bank) list → All (Proved asked.bank asked.locality window components) list → All (λ q. q.pcrs ≡ mask) list → AreOf (length (pcrs_of mask)) asked window components list
  of_mask mask list lines proved same = record {
    lines = lines;
    proved = proved;
    few = All-weaker (λ (q : Proof). q.pcrs ≡ mask) (λ q. length (pcrs_of q.pcrs) ≤ length (pcrs_of mask)) (λ q is. omega (arith, ap (λ m. length (pcrs_of m)) is)) list same;
  }

  pub of_more : (count more : ℕ) (list : List Proof) → count ≤ more → AreOf count asked window components list → AreOf more asked window components list
  of_more count more list le are = record {
    lines = are.lines;
    proved = are.proved;
    few = All-weaker (λ (q : Proof). length (pcrs_of q.pcrs) ≤ count) (λ q. length (pcrs_of q.pcrs) ≤ more) (λ q h. omega arith) list are.few;
  }

  pub of_none : (count : ℕ) (list : List Proof) → list ≡ [] → AreOf count asked window components list
  of_none count list none = subst (AreOf count asked window components) (sym none) (record { lines = All-nil (IsLine asked.bank); proved = All-nil (Proved asked.bank asked.locality window components); few = All-nil (λ q. length (pcrs_of q.pcrs) ≤ count) })

  pub of_both : (count : ℕ) (list others : List Proof) → AreOf count asked window components list → AreOf count asked window components others → AreOf count asked window components (list ++ others)
  of_both count list others are also = record {
    lines = All-append (IsLine asked.bank) list others are.lines also.lines;
    proved = All-append (Proved asked.bank asked.locality window components) list others are.proved also.proved;
    few = All-append (λ q. length (pcrs_of q.pcrs) ≤ count) list others are.few also.few;
  }

  -- ---- their lines fit a file

  each_short : (count size : ℕ) (list : List Proof) → count * 132 + 777 ≤ size → AreOf count asked window components list → All (λ q. length (line (proof_text q)) ≤ size) list
  each_short count size [] le are = All-nil (λ q. length (line (proof_text q)) ≤ size)
  each_short count size (q ∷ list) le are =
      let fits : IsLine asked.bank q = All-head (IsLine asked.bank) q list are.lines in
      let proved : Proved asked.bank asked.locality window components q = All-head (Proved asked.bank asked.locality window components) q list are.proved in
      let few : length (pcrs_of q.pcrs) ≤ count = All-head (λ (p : Proof). length (pcrs_of p.pcrs) ≤ count) q list are.few in
      let choice = few_choices asked.bank asked.locality window components q proved in
      let here = line_short asked.bank q fits (omega (arith, choice, fits.cut)) in
      All-cons (λ (p : Proof). length (line (proof_text p)) ≤ size) q list (omega (arith, here, few, le))
      (each_short count size list le (record {
        lines = All-tail (IsLine asked.bank) q list are.lines;
        proved = All-tail (Proved asked.bank asked.locality window components) q list are.proved;
        few = All-tail (λ (p : Proof). length (pcrs_of p.pcrs) ≤ count) q list are.few;
      }))

  fit_each : (list : List Proof) → length list ≤ 12288 → AreOf 1 asked window components list → Fit asked window components list
  fit_each list count are = record {
    lines = are.lines;
    proved = are.proved;
    count = count;
    short = omega (arith, count, lines_short 909 list (each_short 1 909 list (omega arith) are));
  }

  fit_joint : (mask : ℕ) (list : List Proof) → length list ≤ 512 → AreOf (length (pcrs_of mask)) asked window components list → Fit asked window components list
  fit_joint mask list count are = record {
    lines = are.lines;
    proved = are.proved;
    count = omega arith;
    short = omega (arith, count, lines_short 3945 list (each_short 24 3945 list (omega arith) (of_more (length (pcrs_of mask)) 24 list (few_pcrs mask) are)));
  }

  pub result_each : (result : Result (List Proof) InputError) → IfOk result (λ list. length list ≤ 12288) → IfOk result (AreOf 1 asked window components) → IfOk result (Fit asked window components)
  result_each (Ok list) few are = fit_each list few are
  result_each (Err error) few are = tt

  pub result_joint : (mask : ℕ) (result : Result (List Proof) InputError) → IfOk result (λ list. length list ≤ 512) → IfOk result (AreOf (length (pcrs_of mask)) asked window components) → IfOk result (Fit asked window components)
  result_joint mask (Ok list) few are = fit_joint mask list few are
  result_joint mask (Err error) few are = tt

-- ---- the file that was written, read and checked

abbrev fine_text : Ending → List ℕ
fine_text (Fine text) = text
fine_text other = []

abbrev given_map : FileMap → Option FileMap → FileMap
given_map other None = other
given_map other (Some files) = files

module _ (asked : Asked) (window : Window) (components : List PlainComponent) (list : List Proof) (local : is_locality asked.locality ≡ true) (fit : Fit asked window components list) where
  abbrev file : ProofFile
  file = record { bank = asked.bank; locality = asked.locality; proofs = list }

  reads_back : proofs_in (file_text file) ≡ Ok file
  reads_back = file_back file (record { locality = local; few = fit.count; lines = fit.lines })

  fits : content_at (Some (file_text file)) proof_byte_limit ≡ Bytes (file_text file)
  fits =
      let text = file_text file in
      let head = head_short asked.bank asked.locality local in
      ap (λ b. cond b (TooLarge (length text)) (Bytes text))
      (le-ltb proof_byte_limit (length text) (omega (arith, head, fit.short, length-append (line (head_text asked.bank asked.locality)) (proofs_text list))))

  found : (later : FileMap) (output : List ℕ) → get later output ≡ Some (file_text file) → file_of later output ≡ Ok file
  found later output is =
      ap (λ o. file_by output (content_at o proof_byte_limit)) is ∙ ap (file_by output) fits ∙ ap (text_read output) reads_back

  checked : (later : FileMap) (output : List ℕ) (folders : List (List ℕ)) → get later output ≡ Some (file_text file) → components_of later folders ≡ Ok components
      → checked_of later output folders window ≡ Ok (checked_text (length list))
  checked later output folders is same =
      ap (λ (f : Result ProofFile Answer). f >>= λ held. components_of later folders >>= λ tree. verdict_by (length held.proofs) (first_fault held.bank held.locality window tree held.proofs)) (found later output is)
      ∙ ap (λ (cs : Result (List PlainComponent) Answer). cs >>= λ tree. verdict_by (length list) (first_fault asked.bank asked.locality window tree list)) same
      ∙ ap (verdict_by (length list)) (no_fault asked.bank asked.locality window components list fit.proved)

  -- what was written there
  stands : (before files : FileMap) (output : List ℕ) → files ≡ insert before output (file_text file) → get files output ≡ Some (file_text file)
  stands before files output is =
      ap (λ (f : FileMap). get f output) is ∙ get-insert nat_list_cmp_total before output (file_text file) output
      ∙ ap (λ same. cond same (Some (file_text file)) (get before output)) ((eq_by_cmp_equiv nat_list_cmp_total).refl output)

  passes : (reply : Reply) (before files : FileMap) (output : List ℕ) (folders : List (List ℕ)) → components_of before folders ≡ Ok components
      → IsDone before (Some files) reply (Ok (written output asked list)) → Passes output folders window before files reply
  passes (reply.Fine text) before files output folders same done = λ later still. record {
    count = length list;
    printed = ap fine_text done.ending;
    checked = checked later output folders (still.output_is ∙ stands before files output (ap (given_map before) done.files)) (still.components_are ∙ same);
  }
  passes (reply.Refused answer) before files output folders same done = tt

  pub result_passes : (result : Result Reply Stop) (before files : FileMap) (now : Option FileMap) (output : List ℕ) (folders : List (List ℕ)) → components_of before folders ≡ Ok components → now ≡ Some files
      → IfOk result (λ reply. IsDone before now reply (Ok (written output asked list))) → IfOk result (Passes output folders window before files)
  result_passes (Ok reply) before files now output folders same is done =
      passes reply before files output folders same (subst (λ (n : Option FileMap). IsDone before n reply (Ok (written output asked list))) is done)
  result_passes (Err stop) before files now output folders same is done = tt
