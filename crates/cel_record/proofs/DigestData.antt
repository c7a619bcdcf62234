-- A digest as a JSON value: its text, and what the value says.
use Rattle.std.proofs.Common.{◌≡◌, ℕ, List, [], ◌∷◌, ◌++◌, length, codes, Some, Ok, refl, ap, ◌∙◌, append_assoc}
use Rattle.hex.specs.Hex.{IsBytes, encode_lower}
use Rattle.json.specs.Print.{escape, escape_byte}
use Rattle.json.specs.Tree as tree
use Rattle.json.specs.Tree.{HasNumbers}
use Rattle.serde_json.specs.Data.{Data, string, object, no_members, member}
use Rattle.serde_json.specs.Read.{of_json}
use Rattle.serde_json.specs.Written.{outline, compact_text}
use Rattle.hash_bank.specs.declared.bank.Bank.{Bank}
use Rattle.hash_bank.specs.declared.bank.Bank.TheVariants.{Sha1, Sha256, Sha384, Sha512}
use Rattle.hash_bank.specs.Hash.{size_in, name_in}
use Rattle.cel_record.specs.Member.{bank_named, digest_text as spelled_digest, digest_under, member_of}
use Rattle.cel_record.specs.Step.{◌>>=◌}
use Rattle.cel_record.specs.Written.{digest_text}
use Rattle.cel_record.proofs.HexTexts.{escape-encode_lower, digest_of_hex-encode_lower}

-- the value that is written for a bank's digest
abbrev pub digest_data : Bank → List ℕ → Data
digest_data b x = object (member (codes "digest") (string (encode_lower x)) (member (codes "hashAlg") (string (name_in b)) no_members))

-- a name needs no escape
escape-name_in : (b : Bank) → escape (name_in b) ≡ name_in b
unfolding escape_byte
escape-name_in Sha1 = refl
escape-name_in Sha256 = refl
escape-name_in Sha384 = refl
escape-name_in Sha512 = refl

regrouped : (digits name : List ℕ) → (digits ++ 34 ∷ []) ++ (codes ",\"hashAlg\":\"" ++ ((name ++ 34 ∷ []) ++ 125 ∷ [])) ≡ ((digits ++ codes "\",\"hashAlg\":\"") ++ name) ++ codes "\"}"
regrouped digits name = simp append_assoc

pub compact_text-digest_data : (b : Bank) (x : List ℕ) → IsBytes x → compact_text (digest_data b x) ≡ digest_text b x
unfolding digest_text escape_byte
compact_text-digest_data b x h = rw (escape-encode_lower x h, escape-name_in b) (ap (λ s. codes "{\"digest\":\"" ++ s) (regrouped (encode_lower x) (name_in b)))

pub digest_data-HasNumbers : (b : Bank) (x : List ℕ) → HasNumbers (outline (digest_data b x))
digest_data-HasNumbers b x = (tt, (tt, tt))

pub digest_data-depth : (b : Bank) (x : List ℕ) → tree.depth (outline (digest_data b x)) ≡ 1
digest_data-depth b x = refl

pub of_json-digest_data : (b : Bank) (x : List ℕ) → of_json (outline (digest_data b x)) ≡ Some (digest_data b x)
of_json-digest_data b x = refl

-- the four names are read
bank_named-name_in : (b : Bank) → bank_named (name_in b) ≡ Some b
bank_named-name_in Sha1 = refl
bank_named-name_in Sha256 = refl
bank_named-name_in Sha384 = refl
bank_named-name_in Sha512 = refl

pub member_of-digest_data : (b : Bank) (x : List ℕ) → length x ≡ size_in b → IsBytes x → member_of (digest_data b x) ≡ Ok (Some (b, x))
member_of-digest_data b x len bytes =
    ap (λ o. digest_under o (encode_lower x)) (bank_named-name_in b)
    ∙ ap (λ r. spelled_digest b r >>= λ d. Ok (Some d)) (digest_of_hex-encode_lower b x len bytes)
