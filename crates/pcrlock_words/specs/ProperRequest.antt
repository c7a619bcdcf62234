-- What holds of each request that words spell, so that no command tests it again.
use Rattle.std.specs.Prelude.{ℕ, ◌≢◌, ◌≡◌, ◌==◌, ◌||◌, ◌≤◌, ◌<◌, ◌^◌, List, length, Bool, IfSome, IsTrue}
use Rattle.hash_bank.specs.declared.banks.Banks.{Banks}
use Rattle.component_make.specs.declared.kind.FirmwareKind.{FirmwareKind}
use Rattle.component_make.specs.declared.kind.FirmwareKind.TheVariants.{Code, Config}
use Rattle.component_make.specs.FirmwareFiles.{early_path, late_path}
use Rattle.pcrlock_words.specs.Fields.{client_limit}
use Rattle.pcrlock_words.specs.declared.request.Request.{Request}
use Rattle.pcrlock_words.specs.declared.request.Request.TheVariants.{Script, Log, Cel, ListComponents, Predict, MakePolicy, RemovePolicy, Enroll, Unseal, TpmBoot, TpmExtend, TpmExec, Race, Gen, LockFirmwareCode, LockFirmwareConfig, UnlockFirmwareCode, UnlockFirmwareConfig, LockRaw, Broker, Prove, CheckProof}

-- the number of a PCR
abbrev pub IsPcr : ℕ → Type 0
IsPcr pcr = pcr ≤ 23

-- a mask of some of the 24 PCRs
abbrev pub IsMask : ℕ → Type 0
IsMask mask = (1 ≤ mask) × (mask < 2 ^ 24)

-- a handle of an NV index (TPM 2.0 Library Part 2, TPM_HT_NV_INDEX)
abbrev pub IsIndex : ℕ → Type 0
IsIndex handle = (0x01000000 ≤ handle) × (handle ≤ 0x01ffffff)

-- a locality at which a TPM is started
abbrev pub IsLocality : ℕ → Type 0
IsLocality locality = IsTrue (locality == 0 || locality == 3 || locality == 4)

-- a number of clients up to a limit
abbrev pub AreClients : ℕ → ℕ → Type 0
AreClients limit clients = (1 ≤ clients) × (clients ≤ limit)

-- the bytes of a key, and of a pin
abbrev pub IsKey : List ℕ → Type 0
IsKey key = (1 ≤ length key) × (length key ≤ 128)

abbrev pub IsPin : List ℕ → Type 0
IsPin pin = length pin ≡ 32

-- whether there is a bank
abbrev pub has_some_bank : Banks → Bool
has_some_bank banks = banks.sha1 || banks.sha256 || banks.sha384 || banks.sha512

-- each number is within its bounds, and a token isn't the policy file
abbrev pub IsProperRequest : Request → Type 0
IsProperRequest (Script file policy index) = IsIndex index
IsProperRequest (Log firmware_log userspace_log components bank) = Unit {0}
IsProperRequest (Cel firmware_log userspace_log) = Unit {0}
IsProperRequest (ListComponents components) = Unit {0}
IsProperRequest (Predict firmware_log userspace_log components location pcr bank joint) = IsMask pcr
IsProperRequest (MakePolicy firmware_log userspace_log components location pcr bank policy index pin force joint) =
    IsMask pcr × IfSome index IsIndex × IfSome pin IsPin
IsProperRequest (RemovePolicy policy) = Unit {0}
IsProperRequest (Enroll token policy key literal bank) = (token ≢ policy) × IfSome key IsKey × IfSome literal IsPcr
IsProperRequest (Unseal token policy) = token ≢ policy
IsProperRequest (TpmBoot firmware_log userspace_log locality banks) =
    IfSome locality IsLocality × IsTrue (has_some_bank banks)
IsProperRequest (TpmExtend pcr bytes) = IsPcr pcr
IsProperRequest (TpmExec commands) = Unit {0}
IsProperRequest (Race events token clients policy broker) =
    (token ≢ policy) × AreClients (client_limit broker) clients
IsProperRequest (Gen number) = number ≤ 511
IsProperRequest (LockFirmwareCode firmware_log folder variant) = Unit {0}
IsProperRequest (LockFirmwareConfig firmware_log folder variant) = Unit {0}
IsProperRequest (UnlockFirmwareCode folder variant) = Unit {0}
IsProperRequest (UnlockFirmwareConfig folder variant) = Unit {0}
IsProperRequest (LockRaw file pcr output) = IsPcr pcr
IsProperRequest (Broker commands clients) = AreClients 16 clients
IsProperRequest (Prove output components location pcr bank locality joint) = IsMask pcr × IsLocality locality
IsProperRequest (CheckProof proof components location) = Unit {0}

-- neither file of a lock of the firmware stands at a path
abbrev pub MakesNoneAt : FirmwareKind → List ℕ → List ℕ → List ℕ → Type 0
MakesNoneAt kind folder variant path = (early_path kind folder variant ≢ path) × (late_path kind folder variant ≢ path)

-- no file that the request makes or takes out without a look at the policy is the policy file
abbrev pub SparesPolicy : List ℕ → Request → Type 0
SparesPolicy policy (LockFirmwareCode firmware_log folder variant) = MakesNoneAt Code folder variant policy
SparesPolicy policy (LockFirmwareConfig firmware_log folder variant) = MakesNoneAt Config folder variant policy
SparesPolicy policy (UnlockFirmwareCode folder variant) = MakesNoneAt Code folder variant policy
SparesPolicy policy (UnlockFirmwareConfig folder variant) = MakesNoneAt Config folder variant policy
SparesPolicy policy (LockRaw file pcr output) = output ≢ policy
SparesPolicy policy (Prove output components location pcr bank locality joint) = output ≢ policy
SparesPolicy policy request = Unit {0}

-- a request whose words have a policy path has this one
abbrev pub NamesPolicy : List ℕ → Request → Type 0
NamesPolicy path (MakePolicy firmware_log userspace_log components location pcr bank policy index pin force joint) = policy ≡ path
NamesPolicy path (RemovePolicy policy) = policy ≡ path
NamesPolicy path (Enroll token policy key literal bank) = policy ≡ path
NamesPolicy path (Unseal token policy) = policy ≡ path
NamesPolicy path (Race events token clients policy broker) = policy ≡ path
NamesPolicy path request = Unit {0}
