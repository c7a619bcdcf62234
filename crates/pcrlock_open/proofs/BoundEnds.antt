-- What the walk of a bound object came to is the end that the values of PCRs give.
use Rattle.std.proofs.Common.{◌≡◌, ℕ, Bool, true, false, cond, List, [], ◌∷◌, ◌++◌, map, length, drop, refl, sym, ap, ◌∙◌, Contains}
use Rattle.std.specs.Prelude.{nat_le, codes, Option, None, Some, Result, Ok, Err}
use Rattle.std.specs.List.{AllByRecursion}
use Rattle.std.specs.Option.{option_or}
use Rattle.std.specs.Str.{bytes_eq}
use Rattle.std.proofs.lemmas.List.Elements.{All-contains_itself, All-weaker, Contains-append_left, Contains-append_right}
use Rattle.std.proofs.lemmas.Slice.Eq.{bytes_eq-Decides}
use Rattle.hash_bank.specs.declared.bank.Bank.{Bank}
use Rattle.hash_bank.specs.declared.bank.Bank.TheVariants.{Sha256}
use Rattle.hash_bank.specs.Banks.{has_bank}
use Rattle.nv_index.specs.IndexName.{index_name_of}
use Rattle.nv_index.specs.Table.{index_at}
use Rattle.nv_index.specs.declared.index.Index.{Index}
use Rattle.nv_index.specs.declared.index.NvPublic.{NvPublic}
use Rattle.nv_index.specs.declared.index.Written.{Written}
use Rattle.or_tree.specs.Plan.{plan_of}
use Rattle.policy_digest.specs.BindingStrings.{name_strings_in}
use Rattle.policy_digest.specs.declared.table.Table.{Table}
use Rattle.policy_digest.specs.Plain.{plain_table}
use Rattle.policy_digest.specs.PlainTable.{PlainTable, root_of}
use Rattle.policy_digest.specs.Policies.{policy_authorize_nv_of}
use Rattle.policy_digest.specs.Table.{valid_table}
use Rattle.policy_digest.specs.TableStrings.{table_strings}
use Rattle.policy_file.specs.declared.policy.Policy.{Policy}
use Rattle.policy_file.specs.PolicyText.{IsPolicy}
use Rattle.pcrlock_answer.specs.declared.answer.Answer.{Answer}
use Rattle.policy_walk.specs.declared.prepared.PrepareError.{PrepareError}
use Rattle.policy_walk.specs.declared.prepared.PrepareError.TheVariants as why
use Rattle.policy_walk.specs.Choosing.{chosen_of, content_of, Answers, if_in_force, is_in_force, newest_root, prepared_by, prepared_of}
use Rattle.policy_walk.specs.Ends.{End, past_rows, at_row}
use Rattle.policy_walk.specs.Places.{Ready}
use Rattle.tpm_model.specs.declared.object.Object.{Object}
use Rattle.tpm_model.specs.declared.parts.Parts.{Parts}
use Rattle.tpm_model.specs.Sessions.{object_at}
use Rattle.policy_session.specs.declared.error.UnsealError.TheVariants as error
use Rattle.policy_session.specs.declared.index.IndexError.{IndexError}
use Rattle.policy_session.specs.BoundUnseal.{AreAmong, IsPrepared, bound_strings, opened_behind, opened_bound}
use Rattle.policy_session.specs.IndexReads.{read_found, read_written}
use Rattle.policy_session.specs.LiteralUnseal.{opened_by}
use Rattle.pcrlock_answer.specs.declared.answer.Answer.TheVariants as said
use Rattle.pcrlock_open.specs.Bound.{bound_by, chosen_strings, held_by, object_opened, plain_tables, walk_opened}
use Rattle.pcrlock_open.specs.BoundEndings.{IsBy, IsChoice, IsOutdated}
use Rattle.pcrlock_open.specs.UnsealAnswers.{result_answer}

-- ---- the client's result

by_object : (policy : List ℕ) (handle : ℕ) (o : Option Object) → result_answer None (opened_by policy handle o) ≡ object_opened policy handle o
by_object policy handle None = refl
by_object policy handle (Some object) = by_test (bytes_eq policy object.policy)
  where
    by_test : (same : Bool) → result_answer None (cond same (Ok object.secret) (Err (error.WrongBinding policy object.policy)))
        ≡ cond same (Ok object.secret) (Err (said.WrongBinding policy object.policy))
    by_test true = refl
    by_test false = refl

by_end : (bank : Bank) (public : NvPublic) (handle : ℕ) (s : Parts) (end : End) → result_answer None (opened_behind bank public handle s end) ≡ walk_opened bank public handle s end
by_end bank public handle s (past_rows digest) = by_object (policy_authorize_nv_of Sha256 (index_name_of public)) handle (object_at handle s.objects)
by_end bank public handle s (at_row pcrs) = refl

pub same_bound : (bank : Bank) (public : NvPublic) (handle : ℕ) (end : End) (s : Parts) → result_answer None (opened_bound bank public handle end s) ≡ bound_by bank public handle s end
same_bound bank public handle end s = by_tests (nat_le 64 (length s.sessions)) (nat_le 0x01000000 s.next_session) (has_bank s.banks bank)
  where
    by_tests : (full ended present : Bool)
        → result_answer None (cond full (Err error.SessionsFull) (cond ended (Err error.HandlesEnd) (cond present (opened_behind bank public handle s end) (Err (error.BankAbsent bank)))))
        ≡ cond full (Err said.SessionsFull) (cond ended (Err (said.Limit (codes "handles") 0x01000000)) (cond present (walk_opened bank public handle s end) (Err (said.BankAbsent bank))))
    by_tests true ended present = refl
    by_tests false true present = refl
    by_tests false false true = by_end bank public handle s end
    by_tests false false false = refl

-- ---- the table that was chosen

-- it is one of the valid tables, and the content is that of its root
pub record IsChosen (tables : List Table) (content : List ℕ) (plain : PlainTable) : Type 0 where
  pub table : Table
  pub is : plain_table table ≡ plain
  pub valid : valid_table table ≡ true
  pub content_is : content ≡ content_of (root_of plain)

pub picked : (content : List ℕ) (tables : List Table) (plain : PlainTable) → AllByRecursion (λ (t : Table). valid_table t ≡ true) tables
    → chosen_of content (map plain_table tables) ≡ Some plain → IsChosen tables content plain
picked content [] plain valid e = cc
picked content (table ∷ tables) plain valid e =
    by_later (chosen_of content (map plain_table tables)) refl e (λ f. picked content tables plain valid.1 f)
  where
    by_here : (b : Bool) → is_in_force content (plain_table table) ≡ b → cond b (Some (plain_table table)) None ≡ Some plain → IsChosen (table ∷ tables) content plain
    by_here true t f =
        let same : plain_table table ≡ plain = cc in
        record { table = table; is = same; valid = valid.0; content_is = (bytes_eq-Decides content (content_of (root_of (plain_table table)))).0 t ∙ ap (λ p. content_of (root_of p)) same }
    by_here false t f = cc

    by_later : (o : Option PlainTable) → chosen_of content (map plain_table tables) ≡ o → option_or o (if_in_force content (plain_table table)) ≡ Some plain
        → (chosen_of content (map plain_table tables) ≡ Some plain → IsChosen tables content plain) → IsChosen (table ∷ tables) content plain
    by_later (Some other) t f further =
        let same : other ≡ plain = cc in
        let later = further (t ∙ ap Some same) in
        record { table = later.table; is = later.is; valid = later.valid; content_is = later.content_is }
    by_later None t f further = by_here (is_in_force content (plain_table table)) refl f

-- ---- what the index holds

pub record IsHeld (handle : ℕ) (s : Parts) (public : NvPublic) (content : List ℕ) : Type 0 where
  pub written : Written
  pub found : index_at handle s.indices ≡ Some (record { public = public; written = Some written })
  pub value : written.value ≡ content

abbrev pub reads : NvPublic × List ℕ → Result (NvPublic × List ℕ) IndexError
reads v = Ok v

ok_inside : {v w : NvPublic × List ℕ} → reads v ≡ reads w → v ≡ w
ok_inside e = cc

held_in : (handle : ℕ) (s : Parts) (public : NvPublic) (content : List ℕ) (o : Option Index) → index_at handle s.indices ≡ o → read_found o ≡ Ok (public, content) → IsHeld handle s public content
held_in handle s public content None found e = absurd (cc e)
held_in handle s public content (Some i) found e = by_written i.public i.written found e
  where
    by_written : (p : NvPublic) (w : Option Written) → index_at handle s.indices ≡ Some (record { public = p; written = w }) → read_written p w ≡ Ok (public, content) → IsHeld handle s public content
    by_written p None f g = absurd (cc g)
    by_written p (Some w) f g =
        let parts : (p, w.value) ≡ (public, content) = ok_inside g in
        let same : p ≡ public = ap (λ (q : NvPublic × List ℕ). q.0) parts in
        let value : w.value ≡ content = ap (λ (q : NvPublic × List ℕ). q.1) parts in
        record { written = w; found = f ∙ ap (λ (q : NvPublic). Some (record { public = q; written = Some w })) same; value = value }

pub held : (policy : Policy) (s : Parts) (public : NvPublic) (content : List ℕ) → held_by policy s ≡ Ok (public, content) → IsHeld policy.handle s public content
held policy s public content e = held_in policy.handle s public content (index_at policy.handle s.indices) refl e

-- ---- a walk that was prepared

abbrev pub ready_for : Ready → Result Ready PrepareError
ready_for ready = Ok ready

pub prepared_for : (policy : Policy) (content : List ℕ) (ready : Ready) → AllByRecursion (λ (t : Table). valid_table t ≡ true) policy.tables
    → prepared_by policy.handle content (newest_root (plain_tables policy)) (chosen_of content (plain_tables policy)) ≡ ready_for ready → IsBy policy content ready
prepared_for policy content ready valid e = by_choice (chosen_of content (plain_tables policy)) refl e
  where
    by_choice : (o : Option PlainTable) → chosen_of content (plain_tables policy) ≡ o → prepared_by policy.handle content (newest_root (plain_tables policy)) o ≡ ready_for ready → IsBy policy content ready
    by_choice None t f = cc
    by_choice (Some plain) t f =
        let c = picked content policy.tables plain valid t in
        let first : Ready = record { plan = plan_of plain; index = policy.handle } in
        let same : first ≡ ready = cc in
        record {
          table = c.table;
          valid = c.valid;
          chosen = t ∙ ap Some (sym c.is);
          plan = sym (ap (λ (r : Ready). r.plan) same) ∙ ap plan_of (sym c.is);
          index = sym (ap (λ (r : Ready). r.index) same);
          content_is = c.content_is ∙ ap (λ p. content_of (root_of p)) (sym c.is);
        }

-- where none was, the content is that of no table
pub none_chosen : (policy : Policy) (content held newest : List ℕ) → prepared_by policy.handle content (newest_root (plain_tables policy)) (chosen_of content (plain_tables policy)) ≡ Err (why.Outdated held newest)
    → (chosen_of content (plain_tables policy) ≡ None) × (held ≡ content) × (newest ≡ newest_root (plain_tables policy))
none_chosen policy content held newest e = by_choice (chosen_of content (plain_tables policy)) refl e
  where
    by_choice : (o : Option PlainTable) → chosen_of content (plain_tables policy) ≡ o → prepared_by policy.handle content (newest_root (plain_tables policy)) o ≡ Err (why.Outdated held newest)
        → (chosen_of content (plain_tables policy) ≡ None) × (held ≡ content) × (newest ≡ newest_root (plain_tables policy))
    by_choice None t f = (t, cc, cc)
    by_choice (Some plain) t f = absurd (cc f)

-- the walk that was prepared is by what the index holds
pub is_prepared : (policy : Policy) (content : List ℕ) (ready : Ready) (public : NvPublic) (s : Parts) (b : IsBy policy content ready) → IsHeld policy.handle s public content → IsPrepared ready b.table public s
is_prepared policy content ready public s b h = record {
  valid = b.valid;
  plan = b.plan;
  written = h.written;
  found = ap (λ n. index_at n s.indices) b.index ∙ h.found;
  content = h.value ∙ b.content_is;
}

-- ---- the strings

pub own_among : (public : NvPublic) (s : Parts) (table : PlainTable) → AreAmong (chosen_strings public s (Some table)) (table_strings table)
own_among public s table =
    let t = table_strings table in
    let w = bound_strings table s in
    let n = name_strings_in Sha256 public in
    All-weaker (Contains t) (Contains ((t ++ w) ++ n)) (λ x h. Contains-append_left (t ++ w) n x (Contains-append_left t w x h)) t (All-contains_itself t)

pub walked_among : (public : NvPublic) (s : Parts) (table : PlainTable) → AreAmong (chosen_strings public s (Some table)) (bound_strings table s)
walked_among public s table =
    let t = table_strings table in
    let w = bound_strings table s in
    let n = name_strings_in Sha256 public in
    All-weaker (Contains w) (Contains ((t ++ w) ++ n)) (λ x h. Contains-append_left (t ++ w) n x (Contains-append_right t w x h)) w (All-contains_itself w)

-- ---- the choice
pub chosen_walk : (policy : Policy) (content : List ℕ) (ready : Ready) → IsPolicy policy → Answers (ready_for ready) (prepared_of policy.handle content (plain_tables policy)) → IsChoice policy content (Ok ready)
chosen_walk policy content ready p e = prepared_for policy content ready p.tables e

pub chosen_none : (policy : Policy) (content : List ℕ) (error : PrepareError) (answer : Answer) → Answers (Err error) (prepared_of policy.handle content (plain_tables policy)) → IsOutdated error answer
    → IsChoice policy content (Err answer)
chosen_none policy content (why.Outdated held newest) answer e is =
    let n = none_chosen policy content held newest e in
    (n.0, is ∙ ap (λ h. said.Outdated (drop 2 h) newest) n.1 ∙ ap (said.Outdated (drop 2 content)) n.2)
chosen_none policy content why.Memory answer e is = absurd is
