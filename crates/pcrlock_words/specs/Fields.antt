-- The fields of requests: the option that gives each, how its value is read, and what stands where it is left out.
use Rattle.std.specs.Prelude.{ℕ, Bool, ◌||◌, if◌then◌else◌, List, [], ◌∷◌, fold, codes, Option, Some, None, unwrap_or}
use Rattle.std.specs.Str.{bytes_eq}
use Rattle.hash_bank.specs.declared.bank.Bank.{Bank}
use Rattle.hash_bank.specs.declared.bank.Bank.TheVariants.{Sha256}
use Rattle.hash_bank.specs.declared.banks.Banks.{Banks}
use Rattle.predictor.specs.declared.window.Window.{Window}
use Rattle.component_make.specs.declared.kind.FirmwareKind.{FirmwareKind}
use Rattle.component_make.specs.FirmwareFiles.{early_path, late_path}
use Rattle.pcrlock_words.specs.declared.fields.MadeFiles.{MadeFiles}
use Rattle.pcrlock_words.specs.Options.{Given, is_given, value_of}
use Rattle.pl_text.specs.Words.{◌>>=◌, pcr_of, pcr_mask_of, with_pcr, bank_of, banks_of}
use Rattle.pcrlock_words.specs.Values.{required, optional, defaulted, path_of, all_banks, key_of, hex_of, pin_of, index_of, folders_of, locality_of, clients_up_to, machine_of, variant_of}
use Rattle.pcrlock_words.specs.Windows.{location_in_force}

-- a path that has to be given, and one that may be left out
abbrev pub path_in : List ℕ → List Given → Option (List ℕ)
path_in name options = required path_of (value_of name options)

abbrev pub optional_path_in : List ℕ → List Given → Option (Option (List ℕ))
optional_path_in name options = optional path_of (value_of name options)

abbrev pub firmware_log_in : List Given → Option (Option (List ℕ))
firmware_log_in options = optional_path_in (codes "firmware-log") options

abbrev pub userspace_log_in : List Given → Option (Option (List ℕ))
userspace_log_in options = optional_path_in (codes "userspace-log") options

-- the folders of components where no option gives them, the first on top (systemd.pcrlock(5))
abbrev pub default_folders : List (List ℕ)
default_folders =
    codes "/etc/pcrlock.d" ∷ codes "/run/pcrlock.d" ∷ codes "/var/lib/pcrlock.d" ∷ codes "/usr/local/lib/pcrlock.d"
    ∷ codes "/usr/lib/pcrlock.d" ∷ []

abbrev pub components_in : List Given → Option (List (List ℕ))
components_in options = defaulted folders_of default_folders (value_of (codes "components") options)

abbrev pub location_in : List Given → Option Window
location_in options = location_in_force (value_of (codes "location") options)

-- the PCRs where no option gives them, 0 to 5, 7, and 11 to 15 (systemd-pcrlock(8))
abbrev pub default_pcrs : ℕ
default_pcrs = fold with_pcr 0 (0 ∷ 1 ∷ 2 ∷ 3 ∷ 4 ∷ 5 ∷ 7 ∷ 11 ∷ 12 ∷ 13 ∷ 14 ∷ 15 ∷ [])

-- the mask of the asked PCRs
abbrev pub pcrs_in : List Given → Option ℕ
pcrs_in options = defaulted pcr_mask_of default_pcrs (value_of (codes "pcr") options)

-- the one PCR that has to be given
abbrev pub pcr_in : List Given → Option ℕ
pcr_in options = required pcr_of (value_of (codes "pcr") options)

abbrev pub bank_in : List Given → Option Bank
bank_in options = defaulted bank_of Sha256 (value_of (codes "bank") options)

abbrev pub banks_in : List Given → Option Banks
banks_in options = defaulted banks_of all_banks (value_of (codes "banks") options)

-- the NV index of a script, and that of a policy, which may be the script's
abbrev pub index_in : List Given → Option ℕ
index_in options = defaulted index_of 0x01800100 (value_of (codes "index") options)

abbrev pub optional_index_in : List Given → Option (Option ℕ)
optional_index_in options = optional index_of (value_of (codes "index") options)

abbrev pub pin_in : List Given → Option (Option (List ℕ))
pin_in options = optional pin_of (value_of (codes "pin") options)

abbrev pub key_in : List Given → Option (Option (List ℕ))
key_in options = optional key_of (value_of (codes "key") options)

abbrev pub literal_in : List Given → Option (Option ℕ)
literal_in options = optional pcr_of (value_of (codes "literal") options)

-- the bank of a literal value; --bank stands only beside --literal
abbrev pub literal_bank_in : Option ℕ → List Given → Option Bank
literal_bank_in (Some pcr) options = bank_in options
literal_bank_in None options = if is_given (codes "bank") options then None else bank_in options

-- the locality of a start, which may be the log's, and that of a proof
abbrev pub optional_locality_in : List Given → Option (Option ℕ)
optional_locality_in options = optional locality_of (value_of (codes "locality") options)

abbrev pub locality_in : List Given → Option ℕ
locality_in options = defaulted locality_of 0 (value_of (codes "locality") options)

-- at most so many clients
abbrev pub clients_in : ℕ → List Given → Option ℕ
clients_in limit options = required (clients_up_to limit) (value_of (codes "clients") options)

-- a broker between the clients and the TPM is one of 16 clients itself
abbrev pub client_limit : Bool → ℕ
client_limit broker = if broker then 15 else 16

abbrev pub number_in : List Given → Option ℕ
number_in options = required machine_of (value_of (codes "number") options)

abbrev pub variant_in : List Given → Option (List ℕ)
variant_in options = defaulted variant_of (codes "generated") (value_of (codes "variant") options)

-- the bytes of --text or of --hex, of which exactly one is given
abbrev pub extended_bytes : Option (List ℕ) → Option (List ℕ) → Option (List ℕ)
extended_bytes (Some text) None = Some text
extended_bytes None (Some digits) = hex_of digits
extended_bytes (Some text) (Some digits) = None
extended_bytes None None = None

-- ---- the policy path in force, and paths beside it

-- where no option gives it: the script's inside a script, else the default
abbrev pub standing_policy : Option (List ℕ) → List ℕ
standing_policy script_policy = unwrap_or script_policy (codes "pcrlock.policy")

-- that of --policy, which no line of a script has, or else the one that stands
abbrev pub policy_in : Option (List ℕ) → List Given → Option (List ℕ)
policy_in script_policy options = defaulted path_of (standing_policy script_policy) (value_of (codes "policy") options)

-- a path that has to be given, and is not the policy path in force
abbrev pub path_beside : List ℕ → List ℕ → List Given → Option (List ℕ)
path_beside policy name options = do
  path ← path_in name options
  if bytes_eq path policy then None else Some path

-- whether one of the two files of a lock of the firmware stands at a path
abbrev pub makes_at : FirmwareKind → MadeFiles → List ℕ → Bool
makes_at kind made path =
    bytes_eq (early_path kind made.folder made.variant) path || bytes_eq (late_path kind made.folder made.variant) path

-- the two files of a lock, neither of which is the policy file
abbrev pub made_beside : List ℕ → FirmwareKind → List Given → Option MadeFiles
made_beside policy kind options = do
  folder ← path_in (codes "folder") options
  variant ← variant_in options
  if makes_at kind (record { folder = folder; variant = variant }) policy
      then None
      else Some (record { folder = folder; variant = variant })
