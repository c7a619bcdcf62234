-- The lines that are printed for the TPM's answers. Numbers are decimal, and all else is in hexadecimal
-- digits of lower case.
use Rattle.std.specs.Prelude.{ℕ, List, [], ◌∷◌, ◌++◌, codes}
use Rattle.std.specs.Fmt.{decimal}
use Rattle.std.specs.Int.{to_be_bytes, w32}
use Rattle.hex.specs.Hex.{encode_lower}
use Rattle.hash_bank.specs.declared.bank.Bank.{Bank}
use Rattle.hash_bank.specs.Hash.{name_in}
use Rattle.nv_index.specs.declared.index.NvPublic.{NvPublic}
use Rattle.pl_text.specs.Texts.{handle_text}
use Rattle.tpm_model.specs.declared.response.Counter.TheVariants as counter
use Rattle.tpm_model.specs.declared.response.Refusal.{Refusal}
use Rattle.tpm_model.specs.declared.response.Refusal.TheVariants as refusal
use Rattle.tpm_model.specs.declared.response.Response.{Response}
use Rattle.tpm_model.specs.declared.response.Response.TheVariants as answer

-- the line feed at the end of each line
abbrev pub line_end : List ℕ
line_end = 10 ∷ []

-- a word, and bytes
abbrev pub bytes_text : List ℕ → List ℕ → List ℕ
bytes_text word bytes = word ++ codes " " ++ encode_lower bytes ++ line_end

-- a word, and twice bytes
abbrev pub two_bytes_text : List ℕ → List ℕ → List ℕ → List ℕ
two_bytes_text word first second = word ++ codes " " ++ encode_lower first ++ codes " " ++ encode_lower second ++ line_end

-- the public area of an index
abbrev pub public_text : NvPublic → List ℕ
public_text public =
    codes "public " ++ handle_text public.handle ++ codes " " ++ handle_text public.attributes ++ codes " "
    ++ encode_lower public.policy ++ codes " " ++ decimal public.size ++ line_end

-- the update counter that a session noted, and the present one
abbrev pub pcr_changed_text : ℕ → ℕ → List ℕ
pcr_changed_text noted now = codes "refused pcr-changed " ++ decimal noted ++ codes " " ++ decimal now ++ line_end

-- a bank that isn't present
abbrev pub bank_absent_text : Bank → List ℕ
bank_absent_text bank = codes "refused bank-absent " ++ name_in bank ++ line_end

-- a refusal and its name
abbrev pub refusal_text : Refusal → List ℕ
refusal_text refusal.Value = codes "refused value" ++ line_end
refusal_text (refusal.PolicyFail session object) = two_bytes_text (codes "refused policy-fail") session object
refusal_text (refusal.PcrChanged noted now) = pcr_changed_text noted now
refusal_text (refusal.Handle handle) = bytes_text (codes "refused handle") (to_be_bytes w32 handle)
refusal_text refusal.SessionsFull = codes "refused sessions-full" ++ line_end
refusal_text refusal.TrailFull = codes "refused trail-full" ++ line_end
refusal_text (refusal.CounterEnd counter.Update) = codes "refused counter-end update" ++ line_end
refusal_text (refusal.CounterEnd counter.Writes) = codes "refused counter-end writes" ++ line_end
refusal_text (refusal.BankAbsent bank) = bank_absent_text bank
refusal_text refusal.ObjectsFull = codes "refused objects-full" ++ line_end
refusal_text refusal.HandlesEnd = codes "refused handles-end" ++ line_end
refusal_text refusal.SealSize = codes "refused seal-size" ++ line_end
refusal_text refusal.Attributes = codes "refused attributes" ++ line_end
refusal_text refusal.Size = codes "refused size" ++ line_end
refusal_text refusal.Defined = codes "refused defined" ++ line_end
refusal_text refusal.TableFull = codes "refused table-full" ++ line_end
refusal_text refusal.NotDefined = codes "refused not-defined" ++ line_end
refusal_text (refusal.PinRefused given index) = two_bytes_text (codes "refused pin-refused") given index
refusal_text refusal.Uninitialized = codes "refused uninitialized" ++ line_end

-- the line of an answer
unfoldable pub response_text : Response → List ℕ
response_text answer.Done = codes "done" ++ line_end
response_text (answer.Pcr value) = bytes_text (codes "pcr") value
response_text (answer.Session handle) = bytes_text (codes "session") (to_be_bytes w32 handle)
response_text (answer.PolicyDigest digest) = bytes_text (codes "digest") digest
response_text (answer.Content content) = bytes_text (codes "content") content
response_text (answer.Public public) = public_text public
response_text (answer.Object handle) = bytes_text (codes "object") (to_be_bytes w32 handle)
response_text (answer.Secret secret) = bytes_text (codes "secret") secret
response_text (answer.Refused why) = refusal_text why
