-- What the commands on sealed objects answer and leave.
use Rattle.std.specs.Prelude.{ℕ, ◌+◌, nat_le, ◌==◌, Bool, not, ◌||◌, if◌then◌else◌, List, [], ◌∷◌, ◌++◌, length, remove, slice_get, Option, None, Some}
use Rattle.std.specs.Str.{bytes_eq}
use Rattle.tpm_model.specs.declared.response.Response.{Response}
use Rattle.tpm_model.specs.declared.response.Response.TheVariants as answer
use Rattle.tpm_model.specs.declared.response.Refusal.TheVariants as refusal
use Rattle.tpm_model.specs.declared.sessions.Session.{Session}
use Rattle.tpm_model.specs.declared.object.Object.{Object}
use Rattle.tpm_model.specs.declared.parts.Parts.{Parts}
use Rattle.tpm_model.specs.Sessions.{session_at, object_at, object_place}
use Rattle.tpm_model.specs.SessionCommands.{noted_before}
use Rattle.tpm_model.specs.Refusing.{refused}

-- the handle of the object with this number
abbrev pub object_handle : ℕ → ℕ
object_handle number = 0x81000000 + number

-- whether a digest has the size that a session's may have
abbrev pub is_policy_size : ℕ → Bool
is_policy_size size = size == 32 || size == 48

-- seals a secret to a policy (TPM 2.0 Library Part 3, TPM2_Create)
abbrev pub seal : List ℕ → List ℕ → Parts → Response × Parts
seal policy secret s =
    if length secret == 0 then refused refusal.SealSize s
    else if not (is_policy_size (length policy)) then refused refusal.Value s
    else if nat_le 64 (length s.objects) then refused refusal.ObjectsFull s
    else if nat_le 0x00800000 s.next_object then refused refusal.HandlesEnd s
    else (
      answer.Object (object_handle s.next_object),
      record s {
        next_object = s.next_object + 1;
        objects = s.objects ++ record { handle = object_handle s.next_object; policy = policy; secret = secret } ∷ [];
      },
    )

-- an unseal where the session's noted counter is the present one or none
abbrev pub unseal_now : Session → Object → Parts → Response × Parts
unseal_now session object s =
    if bytes_eq session.digest object.policy then (answer.Secret object.secret, s)
    else refused (refusal.PolicyFail session.digest object.policy) s

-- an unseal where the session noted that other counter, or none
abbrev pub unseal_noted : Option ℕ → Session → Object → Parts → Response × Parts
unseal_noted (Some noted) session object s = refused (refusal.PcrChanged noted s.update_counter) s
unseal_noted None session object s = unseal_now session object s

-- an unseal of the object that was found
abbrev pub unseal_of : Option Object → Session → ℕ → Parts → Response × Parts
unseal_of None session handle s = refused (refusal.Handle handle) s
unseal_of (Some object) session handle s = unseal_noted (noted_before session.noted s.update_counter) session object s

-- an unseal on the session that was found
abbrev pub unseal_on : Option Session → ℕ → ℕ → Parts → Response × Parts
unseal_on None number handle s = refused (refusal.Handle number) s
unseal_on (Some session) number handle s = unseal_of (object_at handle s.objects) session handle s

-- the secret of an object whose policy is the session's digest (TPM 2.0 Library Part 3, TPM2_Unseal)
abbrev pub unseal : ℕ → ℕ → Parts → Response × Parts
unseal number handle s = unseal_on (session_at number s.sessions) number handle s

-- the object that was found is taken away
abbrev pub evict_on : Option Object → ℕ → Parts → Response × Parts
evict_on None handle s = refused (refusal.Handle handle) s
evict_on (Some object) handle s = (answer.Done, record s { objects = remove s.objects (object_place handle s.objects) })

-- takes an object away (TPM 2.0 Library Part 3, TPM2_EvictControl)
abbrev pub evict : ℕ → Parts → Response × Parts
evict handle s = evict_on (slice_get s.objects (object_place handle s.objects)) handle s
