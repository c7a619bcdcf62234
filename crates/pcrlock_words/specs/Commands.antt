-- The commands and the options of each.
use Rattle.std.specs.Prelude.{ℕ, Bool, true, false, ◌||◌, ◌&&◌, not, List, [], ◌∷◌, codes, find, filter, Option}
use Rattle.std.specs.Str.{bytes_eq}
use Rattle.pcrlock_words.specs.Options.{Entry, Given, given, accepted}
use Rattle.pcrlock_words.specs.declared.command.Command.{Command}
use Rattle.pcrlock_words.specs.declared.command.Command.TheVariants.{Script, Log, Cel, ListComponents, Predict, MakePolicy, RemovePolicy, Enroll, Unseal, TpmBoot, TpmExtend, TpmExec, Race, Gen, LockFirmwareCode, LockFirmwareConfig, UnlockFirmwareCode, UnlockFirmwareConfig, LockRaw, Broker, Prove, CheckProof}

-- the commands
abbrev pub commands : List Command
commands =
    Script ∷ Log ∷ Cel ∷ ListComponents ∷ Predict ∷ MakePolicy ∷ RemovePolicy ∷ Enroll ∷ Unseal ∷ TpmBoot ∷
    TpmExtend ∷ TpmExec ∷ Race ∷ Gen ∷ LockFirmwareCode ∷ LockFirmwareConfig ∷ UnlockFirmwareCode ∷
    UnlockFirmwareConfig ∷ LockRaw ∷ Broker ∷ Prove ∷ CheckProof ∷ []

-- the word that names a command
abbrev pub name_of : Command → List ℕ
name_of Script = codes "script"
name_of Log = codes "log"
name_of Cel = codes "cel"
name_of ListComponents = codes "list-components"
name_of Predict = codes "predict"
name_of MakePolicy = codes "make-policy"
name_of RemovePolicy = codes "remove-policy"
name_of Enroll = codes "enroll"
name_of Unseal = codes "unseal"
name_of TpmBoot = codes "tpm-boot"
name_of TpmExtend = codes "tpm-extend"
name_of TpmExec = codes "tpm-exec"
name_of Race = codes "race"
name_of Gen = codes "gen"
name_of LockFirmwareCode = codes "lock-firmware-code"
name_of LockFirmwareConfig = codes "lock-firmware-config"
name_of UnlockFirmwareCode = codes "unlock-firmware-code"
name_of UnlockFirmwareConfig = codes "unlock-firmware-config"
name_of LockRaw = codes "lock-raw"
name_of Broker = codes "broker"
name_of Prove = codes "prove"
name_of CheckProof = codes "check-proof"

-- whether a command may stand there: inside a script all but `script`, and outside each
abbrev pub may_stand : Bool → Command → Bool
may_stand within Script = not within
may_stand within command = true

-- whether a word is the name of a command that may stand there
abbrev pub is_named : Bool → List ℕ → Command → Bool
is_named within name command = may_stand within command && bytes_eq (name_of command) name

-- the command that a word names, inside a script or outside
abbrev pub command_named : Bool → List ℕ → Option Command
command_named within name = find (is_named within name) commands

-- an option that has to be given, one that may be left out, and a flag
abbrev pub needed : List ℕ → Entry
needed name = record { name = name; is_needed = true; is_flag = false }

abbrev pub free : List ℕ → Entry
free name = record { name = name; is_needed = false; is_flag = false }

abbrev pub flag : List ℕ → Entry
flag name = record { name = name; is_needed = false; is_flag = true }

-- the options of a lock of the firmware, and of its unlock
abbrev pub locking : List Entry
locking = free (codes "firmware-log") ∷ needed (codes "folder") ∷ free (codes "variant") ∷ []

abbrev pub unlocking : List Entry
unlocking = needed (codes "folder") ∷ free (codes "variant") ∷ []

-- the table of each command's options
abbrev pub table : Command → List Entry
table Script = needed (codes "file") ∷ free (codes "policy") ∷ free (codes "index") ∷ []
table Log =
    free (codes "firmware-log") ∷ free (codes "userspace-log") ∷ free (codes "components") ∷ free (codes "bank") ∷ []
table Cel = free (codes "firmware-log") ∷ free (codes "userspace-log") ∷ []
table ListComponents = free (codes "components") ∷ []
table Predict =
    free (codes "firmware-log") ∷ free (codes "userspace-log") ∷ free (codes "components")
    ∷ free (codes "location") ∷ free (codes "pcr") ∷ free (codes "bank") ∷ flag (codes "joint") ∷ []
table MakePolicy =
    free (codes "firmware-log") ∷ free (codes "userspace-log") ∷ free (codes "components")
    ∷ free (codes "location") ∷ free (codes "pcr") ∷ free (codes "bank") ∷ flag (codes "joint")
    ∷ free (codes "policy") ∷ free (codes "index") ∷ free (codes "pin") ∷ flag (codes "force") ∷ []
table RemovePolicy = free (codes "policy") ∷ []
table Enroll =
    needed (codes "token") ∷ free (codes "policy") ∷ free (codes "key") ∷ free (codes "literal")
    ∷ free (codes "bank") ∷ []
table Unseal = needed (codes "token") ∷ free (codes "policy") ∷ []
table TpmBoot =
    free (codes "firmware-log") ∷ free (codes "userspace-log") ∷ free (codes "locality") ∷ free (codes "banks") ∷ []
table TpmExtend = needed (codes "pcr") ∷ free (codes "text") ∷ free (codes "hex") ∷ []
table TpmExec = needed (codes "commands") ∷ []
table Race =
    needed (codes "events") ∷ needed (codes "token") ∷ needed (codes "clients") ∷ free (codes "policy")
    ∷ flag (codes "broker") ∷ []
table Gen = needed (codes "number") ∷ []
table LockFirmwareCode = locking
table LockFirmwareConfig = locking
table UnlockFirmwareCode = unlocking
table UnlockFirmwareConfig = unlocking
table LockRaw = needed (codes "file") ∷ needed (codes "pcr") ∷ needed (codes "output") ∷ []
table Broker = needed (codes "commands") ∷ needed (codes "clients") ∷ []
table Prove =
    needed (codes "output") ∷ free (codes "components") ∷ free (codes "location") ∷ free (codes "pcr")
    ∷ free (codes "bank") ∷ free (codes "locality") ∷ flag (codes "joint") ∷ []
table CheckProof = needed (codes "proof") ∷ free (codes "components") ∷ free (codes "location") ∷ []

-- the options that the command `script` gives for each of its lines
abbrev pub is_of_script : Entry → Bool
is_of_script entry = bytes_eq entry.name (codes "policy") || bytes_eq entry.name (codes "index")

-- whether an option stands with its command: outside a script each does
abbrev pub stands : Bool → Entry → Bool
stands within entry = not within || not (is_of_script entry)

-- the options of a command, inside a script or outside
abbrev pub options_of : Bool → Command → List Entry
options_of within command = filter (stands within) (table command)

-- the options that words give, where a command takes them
abbrev pub options_for : Bool → Command → List (List ℕ) → Option (List Given)
options_for within command words =
    let entries = options_of within command in
    accepted entries (given entries words)
