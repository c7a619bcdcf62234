-- The first word of a command's line.
use Rattle.std.specs.Prelude.{ℕ, List, [], ◌∷◌, find, codes, Option}
use Rattle.std.specs.Str.{bytes_eq}
use Rattle.tpm_commands.specs.declared.verb.Verb.{Verb}
use Rattle.tpm_commands.specs.declared.verb.Verb.TheVariants as verb

abbrev pub name_of : Verb → List ℕ
name_of verb.Restart = codes "restart"
name_of verb.PcrExtend = codes "pcr-extend"
name_of verb.PcrRead = codes "pcr-read"
name_of verb.StartSession = codes "start-session"
name_of verb.PolicyPcr = codes "policy-pcr"
name_of verb.PolicyOr = codes "policy-or"
name_of verb.PolicyAuthorizeNv = codes "policy-authorize-nv"
name_of verb.PolicyGetDigest = codes "policy-get-digest"
name_of verb.FlushSession = codes "flush-session"
name_of verb.NvDefine = codes "nv-define"
name_of verb.NvUndefine = codes "nv-undefine"
name_of verb.NvWrite = codes "nv-write"
name_of verb.NvRead = codes "nv-read"
name_of verb.NvReadPublic = codes "nv-read-public"
name_of verb.Seal = codes "seal"
name_of verb.Evict = codes "evict"
name_of verb.Unseal = codes "unseal"

-- every verb
abbrev pub verbs : List Verb
verbs =
    verb.Restart
    ∷ verb.PcrExtend
    ∷ verb.PcrRead
    ∷ verb.StartSession
    ∷ verb.PolicyPcr
    ∷ verb.PolicyOr
    ∷ verb.PolicyAuthorizeNv
    ∷ verb.PolicyGetDigest
    ∷ verb.FlushSession
    ∷ verb.NvDefine
    ∷ verb.NvUndefine
    ∷ verb.NvWrite
    ∷ verb.NvRead
    ∷ verb.NvReadPublic
    ∷ verb.Seal
    ∷ verb.Evict
    ∷ verb.Unseal
    ∷ []

-- the verb of this name
abbrev pub verb_of : List ℕ → Option Verb
verb_of word = find (λ v. bytes_eq (name_of v) word) verbs
