-- What a client is told of an answer that isn't about its session.
use Rattle.std.proofs.Common.{◌≡◌, ℕ, true, List, refl, ap}
use Rattle.tpm_model.specs.declared.command.Command.{Command}
use Rattle.tpm_model.specs.declared.response.Response.{Response}
use Rattle.tpm_model.specs.declared.response.Response.TheVariants as answer
use Rattle.tpm_model.specs.declared.response.Refusal.{Refusal}
use Rattle.tpm_model.specs.declared.response.Refusal.TheVariants as refusal
use Rattle.tpm_broker.specs.Clients.{Client}
use Rattle.tpm_broker.specs.Served.{clients_after, clients_done, handle_told, refusal_told, told}
use Rattle.tpm_broker.proofs.Alike.{is_plain, is_plain_refusal}
use Rattle.tpm_broker.proofs.Plain.{is_other}

plain_refusal : (c : Command) (why : Refusal) → is_plain_refusal why ≡ true → refusal_told c why ≡ why
plain_refusal c refusal.Value e = refl
plain_refusal c (refusal.PolicyFail session object) e = refl
plain_refusal c (refusal.PcrChanged noted now) e = refl
plain_refusal c (refusal.Handle handle) e = cc
plain_refusal c refusal.SessionsFull e = refl
plain_refusal c refusal.TrailFull e = refl
plain_refusal c (refusal.CounterEnd counter) e = refl
plain_refusal c (refusal.BankAbsent bank) e = refl
plain_refusal c refusal.ObjectsFull e = refl
plain_refusal c refusal.HandlesEnd e = refl
plain_refusal c refusal.SealSize e = refl
plain_refusal c refusal.Attributes e = refl
plain_refusal c refusal.Size e = refl
plain_refusal c refusal.Defined e = refl
plain_refusal c refusal.TableFull e = refl
plain_refusal c refusal.NotDefined e = refl
plain_refusal c (refusal.PinRefused given index) e = refl
plain_refusal c refusal.Uninitialized e = refl

pub told_plain : (c : Command) (client : Client) (r : Response) → is_plain r ≡ true → told c client r ≡ r
told_plain c client answer.Done e = cc
told_plain c client (answer.Pcr value) e = refl
told_plain c client (answer.Session handle) e = cc
told_plain c client (answer.PolicyDigest digest) e = refl
told_plain c client (answer.Content value) e = refl
told_plain c client (answer.Public public) e = refl
told_plain c client (answer.Object handle) e = refl
told_plain c client (answer.Secret secret) e = refl
told_plain c client (answer.Refused why) e = ap (λ w. answer.Refused w) (plain_refusal c why e)

pub after_plain : (m : ℕ) (c : Command) (r : Response) (clients : List Client) → is_plain r ≡ true → clients_after m c r clients ≡ clients
after_plain m c answer.Done clients e = cc
after_plain m c (answer.Pcr value) clients e = refl
after_plain m c (answer.Session handle) clients e = cc
after_plain m c (answer.PolicyDigest digest) clients e = refl
after_plain m c (answer.Content value) clients e = refl
after_plain m c (answer.Public public) clients e = refl
after_plain m c (answer.Object handle) clients e = refl
after_plain m c (answer.Secret secret) clients e = refl
after_plain m c (answer.Refused why) clients e = refl

-- of a command that names no session
other_refusal : (c : Command) (why : Refusal) → ((handle : ℕ) → handle_told c handle ≡ handle) → refusal_told c why ≡ why
other_refusal c refusal.Value h = refl
other_refusal c (refusal.PolicyFail session object) h = refl
other_refusal c (refusal.PcrChanged noted now) h = refl
other_refusal c (refusal.Handle handle) h = ap (λ g. refusal.Handle g) (h handle)
other_refusal c refusal.SessionsFull h = refl
other_refusal c refusal.TrailFull h = refl
other_refusal c (refusal.CounterEnd counter) h = refl
other_refusal c (refusal.BankAbsent bank) h = refl
other_refusal c refusal.ObjectsFull h = refl
other_refusal c refusal.HandlesEnd h = refl
other_refusal c refusal.SealSize h = refl
other_refusal c refusal.Attributes h = refl
other_refusal c refusal.Size h = refl
other_refusal c refusal.Defined h = refl
other_refusal c refusal.TableFull h = refl
other_refusal c refusal.NotDefined h = refl
other_refusal c (refusal.PinRefused given index) h = refl
other_refusal c refusal.Uninitialized h = refl

pub told_other : (c : Command) (client : Client) (r : Response) → ((handle : ℕ) → handle_told c handle ≡ handle) → is_other r ≡ true → told c client r ≡ r
told_other c client answer.Done h e = refl
told_other c client (answer.Pcr value) h e = refl
told_other c client (answer.Session handle) h e = cc
told_other c client (answer.PolicyDigest digest) h e = refl
told_other c client (answer.Content value) h e = refl
told_other c client (answer.Public public) h e = refl
told_other c client (answer.Object handle) h e = refl
told_other c client (answer.Secret secret) h e = refl
told_other c client (answer.Refused why) h e = ap (λ w. answer.Refused w) (other_refusal c why h)

pub after_other : (m : ℕ) (c : Command) (r : Response) (clients : List Client) → clients_done m c clients ≡ clients → is_other r ≡ true → clients_after m c r clients ≡ clients
after_other m c answer.Done clients h e = h
after_other m c (answer.Pcr value) clients h e = refl
after_other m c (answer.Session handle) clients h e = cc
after_other m c (answer.PolicyDigest digest) clients h e = refl
after_other m c (answer.Content value) clients h e = refl
after_other m c (answer.Public public) clients h e = refl
after_other m c (answer.Object handle) clients h e = refl
after_other m c (answer.Secret secret) clients h e = refl
after_other m c (answer.Refused why) clients h e = refl
