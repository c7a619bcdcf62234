-- Commands that only look at a state leave it.
use Rattle.std.proofs.Common.{◌≡◌, ℕ, Bool, true, false, cond, List, refl, sym, ap, ◌∙◌, subst}
use Rattle.std.specs.Prelude.{Option, None, Some, Result, Ok, Err, IfOk, IfErr, OnErr, is_some, nat_lt}
use Rattle.pl_base.specs.declared.memory.Memory.{Memory}
use Rattle.std.specs.Str.{bytes_eq}
use Rattle.hash_bank.specs.declared.bank.Bank.{Bank}
use Rattle.nv_index.specs.declared.index.NvPublic.{NvPublic}
use Rattle.nv_index.specs.declared.refusal.NvRefusal.{NvRefusal}
use Rattle.nv_index.specs.Table.{read_index, read_public}
use Rattle.tpm_model.specs.declared.command.Command.{Command}
use Rattle.tpm_model.specs.declared.command.Command.TheVariants as command
use Rattle.tpm_model.specs.declared.object.Object.{Object}
use Rattle.tpm_model.specs.declared.parts.Parts.{Parts}
use Rattle.tpm_model.specs.declared.response.Response.{Response}
use Rattle.tpm_model.specs.declared.sessions.Session.{Session}
use Rattle.tpm_model.specs.IndexCommands.{content_answer, public_answer}
use Rattle.tpm_model.specs.ObjectCommands.{unseal_now, unseal_noted, unseal_of, unseal_on}
use Rattle.tpm_model.specs.PcrCommands.{pcr_read, value_or_absent}
use Rattle.tpm_model.specs.Pcrs.{pcr_of}
use Rattle.tpm_model.specs.Respond.{respond}
use Rattle.tpm_model.specs.SessionCommands.{digest_on, noted_before}
use Rattle.tpm_model.specs.Sessions.{object_at, session_at}
use Rattle.tpm_device.specs.declared.device.ExecError.{ExecError}
use Rattle.tpm_device.specs.declared.device.ExecError.TheVariants as exec
use Rattle.tpm_device.specs.Stored.{ExecuteGives}
use Rattle.tpm_state.specs.Looking.{looks_only}

either : (b : Bool) (x y : Response × Parts) (s : Parts) → x.1 ≡ s → y.1 ≡ s → (cond b x y).1 ≡ s
either true x y s p q = p
either false x y s p q = q

value_left : (bank : Bank) (o : Option (List ℕ)) (s : Parts) → (value_or_absent bank o s).1 ≡ s
value_left bank None s = refl
value_left bank (Some value) s = refl

digest_left : (o : Option Session) (handle : ℕ) (s : Parts) → (digest_on o handle s).1 ≡ s
digest_left None handle s = refl
digest_left (Some session) handle s = refl

content_left : (r : Result (List ℕ) NvRefusal) (handle : ℕ) (s : Parts) → (content_answer r handle s).1 ≡ s
content_left (Ok value) handle s = refl
content_left (Err why) handle s = refl

public_left : (r : Result NvPublic NvRefusal) (handle : ℕ) (s : Parts) → (public_answer r handle s).1 ≡ s
public_left (Ok public) handle s = refl
public_left (Err why) handle s = refl

noted_left : (noted : Option ℕ) (session : Session) (object : Object) (s : Parts) → (unseal_noted noted session object s).1 ≡ s
noted_left (Some noted) session object s = refl
noted_left None session object s = either (bytes_eq session.digest object.policy) _ _ s refl refl

object_left : (o : Option Object) (session : Session) (handle : ℕ) (s : Parts) → (unseal_of o session handle s).1 ≡ s
object_left None session handle s = refl
object_left (Some object) session handle s = noted_left (noted_before session.noted s.update_counter) session object s

unseal_left : (o : Option Session) (number handle : ℕ) (s : Parts) → (unseal_on o number handle s).1 ≡ s
unseal_left None number handle s = refl
unseal_left (Some session) number handle s = object_left (object_at handle s.objects) session handle s

pub looks_leave : (c : Command) (s : Parts) → looks_only c ≡ true → (respond c s).1 ≡ s
looks_leave (command.PcrRead bank pcr) s e = either (nat_lt 23 pcr) _ _ s refl (value_left bank (pcr_of s.banks s.pcrs bank pcr) s)
looks_leave (command.PolicyGetDigest session) s e = digest_left (session_at session s.sessions) session s
looks_leave (command.NvRead index) s e = content_left (read_index index s.indices) index s
looks_leave (command.NvReadPublic index) s e = public_left (read_public index s.indices) index s
looks_leave (command.Unseal session handle) s e = unseal_left (session_at session s.sessions) session handle s
looks_leave (command.Restart locality banks) s e = absurd (cc e)
looks_leave (command.PcrExtend pcr digests) s e = absurd (cc e)
looks_leave (command.StartSession hash) s e = absurd (cc e)
looks_leave (command.PolicyPcr session bank pcrs) s e = absurd (cc e)
looks_leave (command.PolicyOr session list) s e = absurd (cc e)
looks_leave (command.PolicyAuthorizeNv session index) s e = absurd (cc e)
looks_leave (command.FlushSession session) s e = absurd (cc e)
looks_leave (command.NvDefine public) s e = absurd (cc e)
looks_leave (command.NvUndefine index) s e = absurd (cc e)
looks_leave (command.NvWrite index pin value) s e = absurd (cc e)
looks_leave (command.Seal policy secret) s e = absurd (cc e)
looks_leave (command.Evict handle) s e = absurd (cc e)

-- the state that such a command leaves
pub look_same : (c : Command) (s next : Parts) (r : Result Response Memory) → looks_only c ≡ true → IfOk r (λ answer. (answer, next) ≡ respond c s) → OnErr r (next ≡ s) → next ≡ s
look_same c s next (Ok answer) e is same = ap (λ (x : Response × Parts). x.1) is ∙ looks_leave c s e
look_same c s next (Err stop) e is same = same

-- what it gives, where nothing is copied
pub look_gives : (c : Command) (s : Parts) (r : Result Response ExecError) → looks_only c ≡ true → IfOk r (λ answer. answer ≡ (respond c s).0) → IfErr r (λ error. error ≡ exec.Memory)
    → ExecuteGives c s r true (Some s)
look_gives c s (Ok answer) e is memory = (is, ap Some (sym (looks_leave c s e)), refl)
look_gives c s (Err exec.Memory) e is memory = (refl, refl)
look_gives c s (Err exec.Failed) e is memory = absurd (cc memory)

pub look_told : (c : Command) (s : Parts) (r : Result Response ExecError) (now : Option Parts) → looks_only c ≡ true → now ≡ Some s → IfOk r (λ answer. answer ≡ (respond c s).0) → IfErr r (λ error. error ≡ exec.Memory)
    → ExecuteGives c s r (is_some now) now
look_told c s r now e here is memory = subst (λ (n : Option Parts). ExecuteGives c s r (is_some n) n) (sym here) (look_gives c s r e is memory)
