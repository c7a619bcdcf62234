-- What was opened by a token's literal is the outcome of the command.
use Rattle.std.proofs.Common.{◌≡◌, ℕ, List, refl, sym, ◌∙◌, subst, Contains}
use Rattle.std.specs.Prelude.{Option, Result, Ok, Err, IfOk}
use Rattle.pl_base.specs.FileMap.{FileMap}
use Rattle.hash_bank.specs.HashedString.{NoClash}
use Rattle.policy_file.specs.declared.token.Literal.{Literal}
use Rattle.tpm_device.specs.Stored.{Stored}
use Rattle.pcrlock_line.specs.declared.reply.Reply.{Reply}
use Rattle.pcrlock_line.specs.declared.stop.Stop.{Stop}
use Rattle.pcrlock_answer.specs.declared.answer.Answer.{Answer}
use Rattle.pcrlock_line.specs.declared.reply.Reply.TheVariants as reply
use Rattle.pcrlock_line.specs.Machine.{Machine, Live, Tells, machine}
use Rattle.pcrlock_line.specs.Outcome.{Outcome, Gives, refused_line}
use Rattle.pcrlock_open.specs.Unseal.{unsealed_line}
use Rattle.pcrlock_open.specs.Endings.{IsOpened}
use Rattle.pcrlock_open.proofs.Endings.{same_ending}

pub gives_opened : (held : Option FileMap) (stored now : Option Stored) (words : Option (List (List ℕ))) (m : Live) (handle : ℕ) (literal : Literal) (result : Result Reply Stop)
    → Tells held stored words (machine m)
    → IfOk result (λ reply. IsOpened literal handle m.state reply now)
    → NoClash (Contains (unsealed_line literal handle m).hashed)
    → IfOk result (λ reply. Gives held now words reply (unsealed_line literal handle m))
gives_opened held stored now words m handle literal (Ok reply) tells opened safe = record {
  ending = opened.ending ∙ same_ending literal handle m.state safe;
  tells = record { files = tells.files; state = opened.stored; draws = tells.draws };
}
gives_opened held stored now words m handle literal (Err stop) tells opened safe = tt

-- the outcome of another definition of the same, over files that are as before
pub gives_same : (held kept : Option FileMap) (now : Option Stored) (words : Option (List (List ℕ))) (result : Result Reply Stop) (a b : Outcome) → a ≡ b → kept ≡ held
    → (NoClash (Contains b.hashed) → IfOk result (λ reply. Gives held now words reply b))
    → NoClash (Contains a.hashed) → IfOk result (λ reply. Gives kept now words reply a)
gives_same held kept now words result a b is same h =
    subst (λ (f : Option FileMap). NoClash (Contains a.hashed) → IfOk result (λ reply. Gives f now words reply a)) (sym same)
    (subst (λ (o : Outcome). NoClash (Contains o.hashed) → IfOk result (λ reply. Gives held now words reply o)) (sym is) h)

-- a refusal, over files that are as before
pub refused_same : (held kept : Option FileMap) (stored : Option Stored) (words : Option (List (List ℕ))) (m : Machine) (answer : Answer) (a : Outcome) → a ≡ refused_line answer m → kept ≡ held
    → Tells held stored words m → Gives kept stored words (reply.Refused answer) a
refused_same held kept stored words m answer a is same tells =
    subst (λ (o : Outcome). Gives kept stored words (reply.Refused answer) o) (sym is)
    (record { ending = refl; tells = record { files = same ∙ tells.files; state = tells.state; draws = tells.draws } })
