-- A session that gives an object bound to the newest policy of an index is authorised by one table, which is open.
use Rattle.std.proofs.Common.{◌≡◌, ℕ, ◌^◌, ◌<◌, List, [], ◌∷◌, ◌++◌, inl, inr, refl, sym, subst, ◌∙◌, Contains}
use Rattle.std.specs.Prelude.{None, Some}
use Rattle.std.specs.List.{AllByRecursion}
use Rattle.std.proofs.lemmas.List.Elements.{Contains-append_left, Contains-push, Contains-push_cases}
use Rattle.hash_bank.specs.declared.bank.Bank.{Bank}
use Rattle.hash_bank.specs.declared.bank.Bank.TheVariants.{Sha256}
use Rattle.nv_index.proofs.Lists.{all_at}
use Rattle.policy_digest.specs.BindingStrings.{bind_strings}
use Rattle.policy_digest.specs.PlainTable.{root_of}
use Rattle.tpm_model.specs.declared.parts.Parts.{Parts}
use Rattle.tpm_model.specs.declared.sessions.Session.{Session}
use Rattle.tpm_model.specs.declared.trail.TrailEntry.{TrailEntry}
use Rattle.tpm_model.specs.declared.trail.TrailEntry.TheVariants.{AuthorizeNv}
use Rattle.tpm_model.specs.Binding.{index_policy}
use Rattle.tpm_model.specs.Events.{Clean}
use Rattle.tpm_model.specs.Opening.{Open}
use Rattle.tpm_model.specs.SessionCommands.{noted_before}
use Rattle.tpm_model.specs.Sessions.{session_at, session_place}
use Rattle.tpm_model.specs.World.{World, AreHashed}
use Rattle.tpm_walks.specs.Walks.{ReadsNot}
use Rattle.tpm_walks.proofs.Inside.{walk_reads_not}
use Rattle.tpm_walks.proofs.Tied.{valid_rows}
use Rattle.tpm_worlds.specs.EventLists.{Safe}
use Rattle.tpm_worlds.specs.SteadySessions.{HasReads, IsGood, SeesNow, SteadySessions}
use Rattle.tpm_worlds.specs.WholeEvents.{OwnTie}
use Rattle.tpm_worlds.proofs.Members.{member}
use Rattle.tpm_worlds.proofs.Sessions.{saw_so_far}
use Rattle.tpm_unseals.specs.ByPolicy.{IsAuthorized, written_name}
use Rattle.tpm_unseals.proofs.Authorized.{session_authorized, sha256}
use Rattle.tpm_unseals.proofs.Opens.{walk_opens}

-- the session is authorised by a table that is open
pub record IsOpened (s : Parts) (w : World) (x : Session) (index : ℕ) (pin : List ℕ) : Type 0 where
  pub by : IsAuthorized w x.trail index pin
  pub opens : Open by.update.table s.banks s.pcrs

module _ (s : Parts) (w : World) (own : OwnTie s w) (sessions : SteadySessions s w) (clean : Clean w) (safe : Safe w) (index : ℕ) (pin : List ℕ)
    (range : index < 2 ^ 32) (known : Contains w.pins pin) (strings : AreHashed w (bind_strings index pin)) where
  pub opened : (h : ℕ) (x : Session) → session_at h s.sessions ≡ Some x → noted_before x.noted s.update_counter ≡ None → x.digest ≡ index_policy index pin → IsOpened s w x index pin
  opened h x found free digest =
      let good : IsGood s w x = all_at (IsGood s w) s.sessions (session_place h s.sessions) x sessions.good found in
      let reads : HasReads w x = all_at (HasReads w) s.sessions (session_place h s.sessions) x sessions.reads found in
      let by = session_authorized s w index pin own safe clean range known strings x good reads digest in
      let entry = AuthorizeNv (written_name index pin) (root_of by.update.table) by.update.number in
      let all : AllByRecursion (SeesNow s w Sha256) x.trail =
      subst (λ (hash : Bank). AllByRecursion (SeesNow s w hash) x.trail) (sha256 s w index pin own safe clean range known strings x good digest) (saw_so_far s w x good free) in
      let saw = λ (e : TrailEntry) (at : Contains by.walk e). member (SeesNow s w Sha256) (by.walk ++ entry ∷ []) e (subst (AllByRecursion (SeesNow s w Sha256)) by.authorized all)
      (Contains-append_left by.walk (entry ∷ []) e at) in
      record {
        by = by;
        opens = walk_opens s w safe by.walk saw by.update.table (own.base.updates by.update by.wrote) (valid_rows by.update.table (own.indices.updates by.update by.wrote).table) by.walks;
      }

-- ---- one PolicyAuthorizeNV stands in such a trail

-- the name and the root
pub record IsItsRead (w : World) (trail : List TrailEntry) (index : ℕ) (pin name digest : List ℕ) (by : IsAuthorized w trail index pin) : Type 0 where
  pub name_is : name ≡ written_name index pin
  pub root_is : digest ≡ root_of by.update.table

same_reads : (a b : TrailEntry) (name other digest second : List ℕ) (number third : ℕ) → a ≡ b → a ≡ AuthorizeNv name digest number → b ≡ AuthorizeNv other second third → (name ≡ other) × (digest ≡ second)
same_reads a b name other digest second number third same e f =
    let whole : AuthorizeNv name digest number ≡ AuthorizeNv other second third = sym e ∙ same ∙ f in
    let one : name ≡ other = cc in
    let two : digest ≡ second = cc in
    (one, two)

-- a PolicyAuthorizeNV in the trail is the one at its end
pub its_read : (w : World) (trail : List TrailEntry) (index : ℕ) (pin name digest : List ℕ) (number : ℕ) (by : IsAuthorized w trail index pin) → Contains trail (AuthorizeNv name digest number)
    → IsItsRead w trail index pin name digest by
its_read w trail index pin name digest number by there =
    let last = AuthorizeNv (written_name index pin) (root_of by.update.table) by.update.number in
    elim (Contains-push_cases by.walk last (AuthorizeNv name digest number) (subst (λ (t : List TrailEntry). Contains t (AuthorizeNv name digest number)) by.authorized there)) [
      | inl inside ↦ absurd (member ReadsNot by.walk (AuthorizeNv name digest number) (walk_reads_not by.update.table by.walk by.walks) inside)
      | inr same ↦
          let both = same_reads (AuthorizeNv name digest number) last name (written_name index pin) digest (root_of by.update.table) number by.update.number (sym same) refl refl in
          record { name_is = both.0; root_is = both.1 }
    ]

-- the table's strings and rows, where the world of the update grew
pub entry_there : (w : World) (trail : List TrailEntry) (index : ℕ) (pin : List ℕ) (by : IsAuthorized w trail index pin)
    → Contains trail (AuthorizeNv (written_name index pin) (root_of by.update.table) by.update.number)
entry_there w trail index pin by =
    let last = AuthorizeNv (written_name index pin) (root_of by.update.table) by.update.number in
    subst (λ (t : List TrailEntry). Contains t last) (sym by.authorized) (Contains-push by.walk last)
