-- What is kept of each session, every command keeps.
use Rattle.std.proofs.Common.{◌≡◌, ℕ, ◌^◌, ◌<◌, true, cond, List, [], ◌∷◌, refl, subst, lit<, Contains}
use Rattle.std.specs.Prelude.{Some}
use Rattle.std.specs.List.{AllByRecursion}
use Rattle.std.proofs.lemmas.Bool.{lt-leb}
use Rattle.hash_bank.specs.declared.bank.Bank.{Bank}
use Rattle.hash_bank.specs.Banks.{has_bank}
use Rattle.nv_index.specs.IndexName.{index_name_of}
use Rattle.nv_index.specs.Table.{index_at}
use Rattle.nv_index.specs.declared.index.Index.{Index}
use Rattle.nv_index.proofs.Lists.{all_at, all_push, all_remove, all_set}
use Rattle.policy_digest.specs.BindingStrings.{name_strings_in}
use Rattle.policy_digest.specs.Strings.{or_string_in, pcr_string_in}
use Rattle.tpm_model.specs.declared.command.Command.{Command}
use Rattle.tpm_model.specs.declared.command.Command.TheVariants as command
use Rattle.tpm_model.specs.declared.parts.Parts.{Parts}
use Rattle.tpm_model.specs.declared.response.Response.{Response}
use Rattle.tpm_model.specs.declared.sessions.Session.{Session}
use Rattle.tpm_model.specs.declared.trail.TrailEntry.TheVariants as entry
use Rattle.tpm_model.specs.Pcrs.{present_digest_in}
use Rattle.tpm_model.specs.Respond.{respond}
use Rattle.tpm_model.specs.SessionCommands.{session_handle}
use Rattle.tpm_model.specs.Sessions.{fresh_session, session_at, session_place}
use Rattle.tpm_model.specs.Strings.{command_strings, joined_values, nv_strings, or_strings, pcr_strings}
use Rattle.tpm_model.specs.World.{World, AreHashed}
use Rattle.tpm_model.proofs.KeepsPolicies.{sizes_from}
use Rattle.tpm_worlds.proofs.Cases.{by_evict, by_flush_session, by_nv_define, by_nv_read, by_nv_read_public, by_nv_undefine, by_nv_write, by_pcr_extend, by_pcr_read, by_policy_authorize_nv, by_policy_get_digest, by_policy_or, by_policy_pcr, by_restart, by_seal, by_start_session, by_unseal}
pub use Rattle.tpm_worlds.specs.SteadySessions.{AreGood}
use Rattle.tpm_worlds.proofs.Sessions.{IsGood, fresh_good, grown_good, looked_good, passed_good, same_good}
use Rattle.tpm_worlds.proofs.Trails.{all_map}

-- each of the state that is left is
abbrev Goes : World → Response × Parts → Type 0
Goes v r = AreGood v r.1

-- sessions in a state with the same counter and the same PCRs
pub like : (s t : Parts) (v : World) (xs : List Session) → t.update_counter ≡ s.update_counter → t.banks ≡ s.banks → t.pcrs ≡ s.pcrs → AllByRecursion (IsGood s v) xs → AllByRecursion (IsGood t v) xs
like s t v xs counter banks pcrs all = all_map (IsGood s v) (IsGood t v) (same_good s t v counter banks pcrs) xs all

-- the strings of each policy command, where its session is there
pcr_hashed : (handle : ℕ) (bank : Bank) (pcrs : ℕ) (s : Parts) (v : World) (x : Session) → session_at handle s.sessions ≡ Some x → pcrs < 2 ^ 24 → has_bank s.banks bank ≡ true
    → AreHashed v (pcr_strings (session_at handle s.sessions) bank pcrs s)
    → AreHashed v (record { hash = x.hash; bytes = joined_values bank pcrs s }
    ∷ record { hash = x.hash; bytes = pcr_string_in x.hash x.digest bank pcrs (present_digest_in x.hash bank pcrs s.banks s.pcrs) } ∷ [])
pcr_hashed handle bank pcrs s v x e small present h =
    subst (λ b. AreHashed v (cond b (record { hash = x.hash; bytes = joined_values bank pcrs s }
    ∷ record { hash = x.hash; bytes = pcr_string_in x.hash x.digest bank pcrs (present_digest_in x.hash bank pcrs s.banks s.pcrs) } ∷ []) [])) present
    (subst (λ b. AreHashed v (cond b [] (cond (has_bank s.banks bank) (record { hash = x.hash; bytes = joined_values bank pcrs s }
    ∷ record { hash = x.hash; bytes = pcr_string_in x.hash x.digest bank pcrs (present_digest_in x.hash bank pcrs s.banks s.pcrs) } ∷ []) []))) (lt-leb (2 ^ 24) pcrs small)
    (subst (λ o. AreHashed v (pcr_strings o bank pcrs s)) e h))

or_hashed : (handle : ℕ) (list : List (List ℕ)) (s : Parts) (v : World) (x : Session) → session_at handle s.sessions ≡ Some x
    → AreHashed v (or_strings (session_at handle s.sessions) list) → Contains v.hashed (record { hash = x.hash; bytes = or_string_in x.hash list })
or_hashed handle list s v x e h = subst (λ o. AreHashed v (or_strings o list)) e h _ (0, lit< tt, refl)

pub nv_hashed : (handle index : ℕ) (s : Parts) (v : World) (x : Session) (i : Index) → session_at handle s.sessions ≡ Some x → index_at index s.indices ≡ Some i
    → AreHashed v (nv_strings (session_at handle s.sessions) (index_at index s.indices)) → AreHashed v (name_strings_in x.hash i.public)
nv_hashed handle index s v x i e f h =
    subst (λ o. AreHashed v (nv_strings (Some x) o)) f (subst (λ o. AreHashed v (nv_strings o (index_at index s.indices))) e h)

-- a session at its place, and another in its place
module _ (s : Parts) (v : World) (all : AreGood v s) where
  found : (handle : ℕ) (x : Session) → session_at handle s.sessions ≡ Some x → IsGood s v x
  found handle x e = all_at (IsGood s v) s.sessions (session_place handle s.sessions) x all e

-- every command keeps what is kept of each session, in a world that has its strings
pub sessions_after : (c : Command) (s : Parts) (v : World) → AreHashed v (command_strings c s) → AreGood v s → AreGood v (respond c s).1
sessions_after (command.Restart locality banks) s v h all = by_restart (Goes v) locality banks s (λ _. all) tt
sessions_after (command.PcrExtend pcr digests) s v h all =
    by_pcr_extend (Goes v) pcr digests s (λ _. all) (all_map (IsGood s v) (IsGood _ v) (passed_good s _ v refl) s.sessions all)
sessions_after (command.PcrRead bank pcr) s v h all = by_pcr_read (Goes v) bank pcr s (λ _. all)
sessions_after (command.StartSession hash) s v h all =
    by_start_session (Goes v) hash s (λ _. all) (λ allowed.
    like s _ v _ refl refl refl (all_push (IsGood s v) s.sessions (fresh_session hash (session_handle s.next_session)) all (fresh_good s v hash (session_handle s.next_session) allowed)))
sessions_after (command.PolicyPcr handle bank pcrs) s v h all =
    by_policy_pcr (Goes v) handle bank pcrs s (λ _. all) (λ x e small present free.
    let strings = pcr_hashed handle bank pcrs s v x e small present h in
    like s _ v _ refl refl refl (all_set (IsGood s v) s.sessions (session_place handle s.sessions) _ all
    (looked_good s v x bank pcrs (found s v all handle x e) small present free (strings _ (0, lit< tt, refl)) (strings _ (1, lit< tt, refl)))))
sessions_after (command.PolicyOr handle list) s v h all =
    by_policy_or (Goes v) handle list s (λ _. all) (λ x e good.
    like s _ v _ refl refl refl (all_set (IsGood s v) s.sessions (session_place handle s.sessions) _ all
    (grown_good s v x (entry.Or list) (found s v all handle x e)
    (record { other = tt; listed = good.listed; sized = sizes_from x.hash list good.sizes; read = tt; one = tt; string = or_hashed handle list s v x e h }))))
sessions_after (command.PolicyAuthorizeNv handle index) s v h all =
    by_policy_authorize_nv (Goes v) handle index s (λ _. all) (λ x i written e f was met.
    let strings = nv_hashed handle index s v x i e f h in
    like s _ v _ refl refl refl (all_set (IsGood s v) s.sessions (session_place handle s.sessions) _ all
    (grown_good s v x (entry.AuthorizeNv (index_name_of i.public) x.digest written.number) (found s v all handle x e)
    (record {
      other = tt;
      listed = refl;
      sized = tt;
      read = refl;
      one = record { area = i.public; same = refl; string = strings _ (0, lit< tt, refl) };
      string = strings _ (1, lit< tt, refl);
    }))))
sessions_after (command.PolicyGetDigest handle) s v h all = by_policy_get_digest (Goes v) handle s (λ _. all)
sessions_after (command.FlushSession handle) s v h all =
    by_flush_session (Goes v) handle s (λ _. all) (like s _ v _ refl refl refl (all_remove (IsGood s v) s.sessions (session_place handle s.sessions) all))
sessions_after (command.NvDefine public) s v h all = by_nv_define (Goes v) public s (λ _. all) (λ _. like s _ v _ refl refl refl all)
sessions_after (command.NvUndefine index) s v h all = by_nv_undefine (Goes v) index s (λ _. all) (λ _ _. like s _ v _ refl refl refl all)
sessions_after (command.NvWrite index pin value) s v h all = by_nv_write (Goes v) index pin value s (λ _. all) (λ _ _ _ _. like s _ v _ refl refl refl all)
sessions_after (command.NvRead index) s v h all = by_nv_read (Goes v) index s (λ _. all)
sessions_after (command.NvReadPublic index) s v h all = by_nv_read_public (Goes v) index s (λ _. all)
sessions_after (command.Seal policy secret) s v h all = by_seal (Goes v) policy secret s (λ _. all) (like s _ v _ refl refl refl all)
sessions_after (command.Evict handle) s v h all = by_evict (Goes v) handle s (λ _. all) (like s _ v _ refl refl refl all)
sessions_after (command.Unseal session handle) s v h all = by_unseal (Goes v) session handle s (λ _. all) (λ _ _ _ _ _ _. all)
