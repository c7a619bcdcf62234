-- The command that a line spells: a verb and its arguments, parted by single spaces.
use Rattle.std.specs.Prelude.{ℕ, List, [], ◌∷◌, if◌then◌else◌, codes, Option, Some, None, option_map}
use Rattle.std.specs.Str.{bytes_eq}
use Rattle.hash_bank.specs.declared.bank.Bank.TheVariants.{Sha256, Sha384}
use Rattle.tpm_model.specs.declared.command.Command.{Command}
use Rattle.tpm_model.specs.declared.command.Command.TheVariants as command
use Rattle.tpm_commands.specs.declared.verb.Verb.{Verb}
use Rattle.tpm_commands.specs.declared.verb.Verb.TheVariants as verb
use Rattle.tpm_commands.specs.Digests.{digests_of}
use Rattle.pl_text.specs.Parts.{parts_of, one_of, two_of, three_of, four_of}
use Rattle.pl_text.specs.Words.{◌>>=◌, bank_of, banks_of, bytes_of, handle_of, number_up_to}
use Rattle.tpm_commands.specs.Values.{group_of, pcrs_of, policy_of, small_of}
use Rattle.tpm_commands.specs.Verbs.{verb_of}

-- the one argument, a handle
abbrev pub one_handle : List (List ℕ) → Option ℕ
one_handle words = do
  word ← one_of words
  handle_of word

-- both arguments, handles
abbrev pub two_handles : List (List ℕ) → Option (ℕ × ℕ)
two_handles words = do
  word ← two_of words
  first ← handle_of word.0
  second ← handle_of word.1
  Some (first, second)

-- `restart LOCALITY BANKS`
abbrev pub restart_of : List (List ℕ) → Option Command
restart_of words = do
  word ← two_of words
  locality ← number_up_to 255 word.0
  banks ← banks_of word.1
  Some (command.Restart locality banks)

-- `pcr-extend PCR BANK:HEX,..`
abbrev pub pcr_extend_of : List (List ℕ) → Option Command
pcr_extend_of words = do
  word ← two_of words
  pcr ← number_up_to 255 word.0
  digests ← digests_of word.1
  Some (command.PcrExtend pcr digests)

-- `pcr-read BANK PCR`
abbrev pub pcr_read_of : List (List ℕ) → Option Command
pcr_read_of words = do
  word ← two_of words
  bank ← bank_of word.0
  pcr ← number_up_to 255 word.1
  Some (command.PcrRead bank pcr)

-- `start-session` is of SHA-256, and `start-session sha384` of SHA-384
abbrev pub start_session_of : List (List ℕ) → Option Command
start_session_of [] = Some (command.StartSession Sha256)
start_session_of (first ∷ words) = do
  hash ← one_of (first ∷ words)
  if bytes_eq hash (codes "sha384") then Some (command.StartSession Sha384) else None

-- `policy-pcr SESSION BANK PCRS`
abbrev pub policy_pcr_of : List (List ℕ) → Option Command
policy_pcr_of words = do
  word ← three_of words
  session ← handle_of word.0
  bank ← bank_of word.1
  pcrs ← pcrs_of word.2
  Some (command.PolicyPcr session bank pcrs)

-- `policy-or SESSION HEX,..`
abbrev pub policy_or_of : List (List ℕ) → Option Command
policy_or_of words = do
  word ← two_of words
  session ← handle_of word.0
  list ← group_of word.1
  Some (command.PolicyOr session list)

-- `nv-define INDEX ATTRIBUTES POLICY SIZE`, with a policy of 32 bytes
abbrev pub nv_define_of : List (List ℕ) → Option Command
nv_define_of words = do
  word ← four_of words
  index ← handle_of word.0
  attributes ← handle_of word.1
  policy ← bytes_of 32 word.2
  size ← number_up_to 65535 word.3
  Some (command.NvDefine (record { handle = index; attributes = attributes; policy = policy; size = size }))

-- `nv-write INDEX PIN HEX`, with a pin of 32 bytes
abbrev pub nv_write_of : List (List ℕ) → Option Command
nv_write_of words = do
  word ← three_of words
  index ← handle_of word.0
  pin ← bytes_of 32 word.1
  value ← small_of word.2
  Some (command.NvWrite index pin value)

-- `seal POLICY HEX`
abbrev pub seal_of : List (List ℕ) → Option Command
seal_of words = do
  word ← two_of words
  policy ← policy_of word.0
  secret ← small_of word.1
  Some (command.Seal policy secret)

-- the command of a verb and its arguments
abbrev pub command_with : Verb → List (List ℕ) → Option Command
command_with verb.Restart words = restart_of words
command_with verb.PcrExtend words = pcr_extend_of words
command_with verb.PcrRead words = pcr_read_of words
command_with verb.StartSession words = start_session_of words
command_with verb.PolicyPcr words = policy_pcr_of words
command_with verb.PolicyOr words = policy_or_of words
command_with verb.PolicyAuthorizeNv words = option_map (λ handles. command.PolicyAuthorizeNv handles.0 handles.1) (two_handles words)
command_with verb.PolicyGetDigest words = option_map (λ session. command.PolicyGetDigest session) (one_handle words)
command_with verb.FlushSession words = option_map (λ session. command.FlushSession session) (one_handle words)
command_with verb.NvDefine words = nv_define_of words
command_with verb.NvUndefine words = option_map (λ index. command.NvUndefine index) (one_handle words)
command_with verb.NvWrite words = nv_write_of words
command_with verb.NvRead words = option_map (λ index. command.NvRead index) (one_handle words)
command_with verb.NvReadPublic words = option_map (λ index. command.NvReadPublic index) (one_handle words)
command_with verb.Seal words = seal_of words
command_with verb.Evict words = option_map (λ handle. command.Evict handle) (one_handle words)
command_with verb.Unseal words = option_map (λ handles. command.Unseal handles.0 handles.1) (two_handles words)

-- the command of a line's words
abbrev pub command_of_words : List (List ℕ) → Option Command
command_of_words [] = None
command_of_words (first ∷ words) = do
  v ← verb_of first
  command_with v words

-- the command that a line spells, given without its line feed
unfoldable pub command_of : List ℕ → Option Command
command_of line = command_of_words (parts_of 32 line)
