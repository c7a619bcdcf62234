-- The two laws of the token file: what is read is spelled so, and what is spelled so is read.
use Rattle.std.proofs.Common.{◌≡◌, ℕ, ◌+◌, ◌-◌, ◌≤◌, Bool, true, false, cond, eqb, ltb, leb, ◌&&◌, List, [], ◌∷◌, ◌++◌, length, take, drop, Some, None, Result, Ok, Err, refl, sym, ap, subst, ◌∙◌, ◌⊎◌, arith, inl, inr}
use Rattle.std.specs.Prelude.{IfOk}
use Rattle.std.specs.Global.{Vec}
use Rattle.pl_base.specs.declared.memory.Memory.{Memory}
use Rattle.std.specs.Int.{w8, w16, w32, from_be_bytes, to_be_bytes}
use Rattle.std.specs.Str.{bytes_eq}
use Rattle.std.proofs.lemmas.Slice.Eq.{bytes_eq-Decides}
use Rattle.std.proofs.lemmas.Bool.{le-ltb, leb-true, le-leb, eqb-true}
use Rattle.std.proofs.lemmas.Bool.Decides.{Decides-eqb}
use Rattle.std.proofs.lemmas.List.{nil_from_length, take_all}
use Rattle.std.proofs.Math.ListN.{length-drop}
use Rattle.std.proofs.lemmas.Nat.{from_be_bytes-to_be_bytes_4}
use Rattle.hash_bank.specs.declared.bank.Bank.{Bank}
use Rattle.hash_bank.specs.declared.bank.Bank.TheVariants.{Sha1, Sha256, Sha384, Sha512}
use Rattle.hash_bank.specs.Hash.{size_in, algorithm_in, bank_of_algorithm}
use Rattle.policy_file.specs.declared.error.FileKind.TheVariants.{Magic, Value, Trailing}
use Rattle.policy_file.specs.declared.error.FileError.{FileError}
use Rattle.policy_file.specs.declared.token.Kind.{Kind}
use Rattle.policy_file.specs.declared.token.Kind.TheVariants as kinds
use Rattle.policy_file.specs.declared.token.Literal.{Literal}
use Rattle.policy_file.specs.declared.token.Token.{Token}
use Rattle.policy_file.specs.declared.token.Token.TheVariants as token
use Rattle.policy_file.specs.Field.{◌>>=◌, field_at, number_at, tested, found}
use Rattle.policy_file.specs.TokenText.{token_magic, IsObject, IsLiteral, IsToken, literal_kind, literal_text, token_text}
use Rattle.policy_file.specs.TokenReading.{kind_of, magic_in, object_in, kind_in, bank_in, pcr_in, value_in, literal_in, said_in, token_in}
use Rattle.policy_file.proofs.Fields.{IsBytes, bind_ok, tested_ok, found_ok, ok_is, HasField, HasField-then, field_has, length-field, number_8_has, number_16_has, number_32_has}

-- ---- what is read is spelled so

both_of : (a b : Bool) → (a && b) ≡ true → (a ≡ true) × (b ≡ true)
both_of true b e = (refl, e)
both_of false b e = absurd cc

split_range : (low n high : ℕ) → (leb low n && leb n high) ≡ true → (low ≤ n) × (n ≤ high)
split_range low n high e = let b = both_of (leb low n) (leb n high) e in (leb-true low n b.0, leb-true n high b.1)

magic_takes : (bytes : List ℕ) (done : Unit {0}) → magic_in bytes ≡ Ok done → HasField bytes 0 8 token_magic
unfolding magic_in
magic_takes bytes done e =
    let b = bind_ok (field_at bytes 0 8) (λ magic. tested 0 Magic (bytes_eq magic token_magic) tt) done e in
    let f = field_has bytes 0 8 b.0 b.1 in
    let t = tested_ok 0 Magic (bytes_eq b.0 token_magic) tt done b.2 in
    record { whole = f.whole; is = f.is ∙ (bytes_eq-Decides b.0 token_magic).0 t.0 }

object_takes : (bytes : List ℕ) (object : ℕ) → IsBytes bytes → object_in bytes ≡ Ok object → HasField bytes 8 4 (to_be_bytes w32 object) × IsObject object
unfolding object_in
object_takes bytes object fits e =
    let b = bind_ok (number_at w32 bytes 8) (λ n. tested 8 Value (leb 0x81000000 n && leb n 0x817FFFFF) n) object e in
    let t = tested_ok 8 Value (leb 0x81000000 b.0 && leb b.0 0x817FFFFF) b.0 object b.2 in
    let f = number_32_has bytes 8 b.0 fits b.1 in
    subst (λ (n : ℕ). HasField bytes 8 4 (to_be_bytes w32 n) × IsObject n) t.1 (f, split_range 0x81000000 b.0 0x817FFFFF t.0)

-- a hash that a literal may have
abbrev IsSessionHash : Bank → Type 0
IsSessionHash hash = (hash ≡ Sha256) ⊎ (hash ≡ Sha384)

chosen : {A : Type 0} (b : Bool) (x y z : A) → cond b x y ≡ z → ((b ≡ true) × (x ≡ z)) ⊎ ((b ≡ false) × (y ≡ z))
chosen true x y z e = inl (refl, e)
chosen false x y z e = inr (refl, e)

-- a kind of the token file
abbrev IsKind : Kind → Type 0
IsKind kinds.Bound = Unit {0}
IsKind (kinds.Literal hash) = IsSessionHash hash

-- its number
abbrev number_of : Kind → ℕ
number_of kinds.Bound = 0
number_of (kinds.Literal hash) = literal_kind hash

numbered_kind : (number n : ℕ) (k known : Kind) → number_of known ≡ n → IsKind known → eqb number n ≡ true → Some known ≡ Some k → (number ≡ number_of k) × IsKind k
numbered_kind number n k known has fits is same =
    let e : known ≡ k = cc in
    (eqb-true number n is ∙ sym has ∙ ap number_of e, subst IsKind e fits)

kind_is : (number : ℕ) (k : Kind) → kind_of number ≡ Some k → (number ≡ number_of k) × IsKind k
kind_is number k e =
    elim (chosen (eqb number 0) (Some kinds.Bound) (cond (eqb number 1) (Some (kinds.Literal Sha256)) (cond (eqb number 2) (Some (kinds.Literal Sha384)) None)) (Some k) e) [
      | inl t ↦ numbered_kind number 0 k kinds.Bound refl tt t.0 t.1
      | inr f ↦ elim (chosen (eqb number 1) (Some (kinds.Literal Sha256)) (cond (eqb number 2) (Some (kinds.Literal Sha384)) None) (Some k) f.1) [
        | inl t ↦ numbered_kind number 1 k (kinds.Literal Sha256) refl (inl refl) t.0 t.1
        | inr f ↦ elim (chosen (eqb number 2) (Some (kinds.Literal Sha384)) None (Some k) f.1) [
          | inl t ↦ numbered_kind number 2 k (kinds.Literal Sha384) refl (inr refl) t.0 t.1
          | inr g ↦ absurd cc
        ]
      ]
    ]

kind_takes : (bytes : List ℕ) (k : Kind) → kind_in bytes ≡ Ok k → HasField bytes 12 1 (number_of k ∷ []) × IsKind k
unfolding kind_in
kind_takes bytes k e =
    let b = bind_ok (number_at w8 bytes 12) (λ number. found 12 Value (kind_of number)) k e in
    let h = kind_is b.0 k (found_ok 12 Value (kind_of b.0) k b.2) in
    (subst (λ (n : ℕ). HasField bytes 12 1 (n ∷ [])) h.0 (number_8_has bytes 12 b.0 b.1), h.1)

numbered : (number n : ℕ) (bank known : Bank) → algorithm_in known ≡ n → eqb number n ≡ true → Some known ≡ Some bank → number ≡ algorithm_in bank
numbered number n bank known has is same = let k : known ≡ bank = cc in eqb-true number n is ∙ sym has ∙ ap algorithm_in k

pub bank_is : (number : ℕ) (bank : Bank) → bank_of_algorithm number ≡ Some bank → number ≡ algorithm_in bank
bank_is number bank e =
    elim (chosen (eqb number 4) (Some Sha1) (cond (eqb number 11) (Some Sha256) (cond (eqb number 12) (Some Sha384) (cond (eqb number 13) (Some Sha512) None))) (Some bank) e) [
      | inl t ↦ numbered number 4 bank Sha1 refl t.0 t.1
      | inr f ↦ elim (chosen (eqb number 11) (Some Sha256) (cond (eqb number 12) (Some Sha384) (cond (eqb number 13) (Some Sha512) None)) (Some bank) f.1) [
        | inl t ↦ numbered number 11 bank Sha256 refl t.0 t.1
        | inr f ↦ elim (chosen (eqb number 12) (Some Sha384) (cond (eqb number 13) (Some Sha512) None) (Some bank) f.1) [
          | inl t ↦ numbered number 12 bank Sha384 refl t.0 t.1
          | inr f ↦ elim (chosen (eqb number 13) (Some Sha512) None (Some bank) f.1) [
            | inl t ↦ numbered number 13 bank Sha512 refl t.0 t.1
            | inr f ↦ absurd cc
          ]
        ]
      ]
    ]

bank_takes : (bytes : List ℕ) (bank : Bank) → IsBytes bytes → bank_in bytes ≡ Ok bank → HasField bytes 13 2 (to_be_bytes w16 (algorithm_in bank))
unfolding bank_in
bank_takes bytes bank fits e =
    let b = bind_ok (number_at w16 bytes 13) (λ number. found 13 Value (bank_of_algorithm number)) bank e in
    let is = bank_is b.0 bank (found_ok 13 Value (bank_of_algorithm b.0) bank b.2) in
    subst (λ (n : ℕ). HasField bytes 13 2 (to_be_bytes w16 n)) is (number_16_has bytes 13 b.0 fits b.1)

pcr_takes : (bytes : List ℕ) (pcr : ℕ) → pcr_in bytes ≡ Ok pcr → HasField bytes 15 1 (pcr ∷ []) × (pcr ≤ 23)
unfolding pcr_in
pcr_takes bytes pcr e =
    let b = bind_ok (number_at w8 bytes 15) (λ n. tested 15 Value (leb n 23) n) pcr e in
    let t = tested_ok 15 Value (leb b.0 23) b.0 pcr b.2 in
    subst (λ (n : ℕ). HasField bytes 15 1 (n ∷ []) × (n ≤ 23)) t.1 (number_8_has bytes 15 b.0 b.1, leb-true b.0 23 t.0)

-- the value is all that is left
value_takes : (bytes : List ℕ) (bank : Bank) (value : List ℕ) → value_in bytes bank ≡ Ok value → (drop 16 bytes ≡ value) × (length value ≡ size_in bank)
unfolding value_in
value_takes bytes bank value e =
    let b = bind_ok (field_at bytes 16 (size_in bank)) (λ v. tested (16 + size_in bank) Trailing (eqb (length bytes) (16 + size_in bank)) v) value e in
    let f = field_has bytes 16 (size_in bank) b.0 b.1 in
    let t = tested_ok (16 + size_in bank) Trailing (eqb (length bytes) (16 + size_in bank)) b.0 value b.2 in
    let ends = eqb-true (length bytes) (16 + size_in bank) t.0 in
    let left : length (drop 16 bytes) ≤ size_in bank = omega (arith, length-drop 16 bytes) in
    let all : take (size_in bank) (drop 16 bytes) ≡ drop 16 bytes = take_all (size_in bank) (drop 16 bytes) left in
    (sym all ∙ f.is ∙ t.1, subst (λ (v : List ℕ). length v ≡ size_in bank) t.1 (length-field bytes 16 (size_in bank) b.0 f))

literal_takes : (bytes : List ℕ) (hash : Bank) (l : Literal) → IsBytes bytes → IsSessionHash hash → literal_in bytes hash ≡ Ok l
    → (l.hash ≡ hash) × IsLiteral l × (drop 13 bytes ≡ literal_text l)
unfolding literal_in
literal_takes bytes hash l fits known e =
    let a = bind_ok (bank_in bytes) (λ bank. pcr_in bytes >>= λ pcr. value_in bytes bank >>= λ value. Ok (record { hash = hash; bank = bank; pcr = pcr; value = value })) l e in
    let b = bind_ok (pcr_in bytes) (λ pcr. value_in bytes a.0 >>= λ value. Ok (record { hash = hash; bank = a.0; pcr = pcr; value = value })) l a.2 in
    let c = bind_ok (value_in bytes a.0) (λ value. Ok (record { hash = hash; bank = a.0; pcr = b.0; value = value })) l b.2 in
    let number = bank_takes bytes a.0 fits a.1 in
    let pcr = pcr_takes bytes b.0 b.1 in
    let value = value_takes bytes a.0 c.0 c.1 in
    let made : Literal = record { hash = hash; bank = a.0; pcr = b.0; value = c.0 } in
    let text : drop 13 bytes ≡ literal_text made =
    HasField-then bytes 13 2 (to_be_bytes w16 (algorithm_in a.0)) number
    ∙ ap (λ (x : List ℕ). to_be_bytes w16 (algorithm_in a.0) ++ x) (HasField-then bytes 15 1 (b.0 ∷ []) pcr.0 ∙ ap (λ (x : List ℕ). b.0 ∷ x) value.0) in
    subst (λ (k : Literal). (k.hash ≡ hash) × IsLiteral k × (drop 13 bytes ≡ literal_text k)) (ok_is made l c.2)
    (refl, record { hash = known; pcr = pcr.1; value = value.1 }, text)

-- the magic and the handle stand before the kind
abbrev behind_front : List ℕ → ℕ → Type 0
behind_front bytes object = bytes ≡ token_magic ++ (to_be_bytes w32 object ++ drop 12 bytes)

bound_takes : (bytes : List ℕ) (object : ℕ) (t : Token) → IsObject object → behind_front bytes object → HasField bytes 12 1 (0 ∷ [])
    → said_in bytes object kinds.Bound ≡ Ok t → IsToken t × (bytes ≡ token_text t)
unfolding said_in
bound_takes bytes object t is front kind e =
    let ends = tested_ok 13 Trailing (eqb (length bytes) 13) (token.Bound object) t e in
    let none : drop 13 bytes ≡ [] = nil_from_length (drop 13 bytes) (length-drop 13 bytes ∙ ap (λ (n : ℕ). n - 13) (eqb-true (length bytes) 13 ends.0)) in
    let text : bytes ≡ token_text (token.Bound object) =
    front ∙ ap (λ (x : List ℕ). token_magic ++ (to_be_bytes w32 object ++ x)) (HasField-then bytes 12 1 (0 ∷ []) kind ∙ ap (λ (x : List ℕ). 0 ∷ x) none) in
    subst (λ (k : Token). IsToken k × (bytes ≡ token_text k)) ends.1 (is, text)

named_takes : (bytes : List ℕ) (object : ℕ) (hash : Bank) (t : Token) → IsBytes bytes → IsObject object → IsSessionHash hash → behind_front bytes object
    → HasField bytes 12 1 (literal_kind hash ∷ []) → said_in bytes object (kinds.Literal hash) ≡ Ok t → IsToken t × (bytes ≡ token_text t)
unfolding said_in
named_takes bytes object hash t fits is known front kind e =
    let d = bind_ok (literal_in bytes hash) (λ literal. Ok (token.Literal object literal)) t e in
    let literal = literal_takes bytes hash d.0 fits known d.1 in
    let rest : drop 12 bytes ≡ literal_kind d.0.hash ∷ literal_text d.0 =
    HasField-then bytes 12 1 (literal_kind hash ∷ []) kind
    ∙ ap (λ (x : List ℕ). literal_kind hash ∷ x) literal.2 ∙ ap (λ (h : Bank). literal_kind h ∷ literal_text d.0) (sym literal.0) in
    let text : bytes ≡ token_text (token.Literal object d.0) = front ∙ ap (λ (x : List ℕ). token_magic ++ (to_be_bytes w32 object ++ x)) rest in
    subst (λ (k : Token). IsToken k × (bytes ≡ token_text k)) (ok_is (token.Literal object d.0) t d.2) ((is, literal.1), text)

said_takes : (bytes : List ℕ) (object : ℕ) (k : Kind) (t : Token) → IsBytes bytes → IsObject object → IsKind k → behind_front bytes object
    → HasField bytes 12 1 (number_of k ∷ []) → said_in bytes object k ≡ Ok t → IsToken t × (bytes ≡ token_text t)
said_takes bytes object kinds.Bound t fits is known front kind e = bound_takes bytes object t is front kind e
said_takes bytes object (kinds.Literal hash) t fits is known front kind e = named_takes bytes object hash t fits is known front kind e

pub token_takes : (bytes : List ℕ) (t : Token) → IsBytes bytes → token_in bytes ≡ Ok t → IsToken t × (bytes ≡ token_text t)
unfolding token_in
token_takes bytes t fits e =
    let a = bind_ok (magic_in bytes) (λ checked. object_in bytes >>= λ object. kind_in bytes >>= λ k. said_in bytes object k) t e in
    let b = bind_ok (object_in bytes) (λ object. kind_in bytes >>= λ k. said_in bytes object k) t a.2 in
    let c = bind_ok (kind_in bytes) (λ k. said_in bytes b.0 k) t b.2 in
    let magic = magic_takes bytes a.0 a.1 in
    let object = object_takes bytes b.0 fits b.1 in
    let kind = kind_takes bytes c.0 c.1 in
    let front : behind_front bytes b.0 =
    HasField-then bytes 0 8 token_magic magic ∙ ap (λ (x : List ℕ). token_magic ++ x) (HasField-then bytes 8 4 (to_be_bytes w32 b.0) object.0) in
    said_takes bytes b.0 c.0 t fits object.1 kind.1 front kind.0 c.2

pub is_spelled : (bytes : List ℕ) (r : Result Token FileError) → IsBytes bytes → r ≡ token_in bytes → IfOk r (λ t. IsToken t × (bytes ≡ token_text t))
is_spelled bytes (Ok t) fits is = token_takes bytes t fits (sym is)
is_spelled bytes (Err e) fits is = tt

-- ---- what is spelled so is read

range_holds : (low n high : ℕ) → low ≤ n → n ≤ high → (leb low n && leb n high) ≡ true
range_holds low n high above below = rw (le-leb low n above, le-leb n high below) refl

-- the text of a token behind its magic
abbrev behind : ℕ → List ℕ → List ℕ
behind object rest = token_magic ++ (to_be_bytes w32 object ++ rest)

magic_again : (rest : List ℕ) → magic_in (token_magic ++ rest) ≡ Ok tt
unfolding magic_in
magic_again rest = let long : ltb (length (token_magic ++ rest)) 8 ≡ false = le-ltb _ _ (omega arith) in rw long refl

object_again : (object : ℕ) (rest : List ℕ) → IsObject object → object_in (behind object rest) ≡ Ok object
unfolding object_in
object_again object rest is =
    let long : ltb (length (behind object rest)) 12 ≡ false = le-ltb _ _ (omega arith) in
    rw (long, from_be_bytes-to_be_bytes_4 object (omega arith), range_holds 0x81000000 object 0x817FFFFF is.0 is.1) refl

bound_again : (object : ℕ) → kind_in (behind object (0 ∷ [])) ≡ Ok kinds.Bound
unfolding kind_in
bound_again object = refl

hash_again : (object : ℕ) (hash : Bank) (rest : List ℕ) → IsSessionHash hash → kind_in (behind object (literal_kind hash ∷ rest)) ≡ Ok (kinds.Literal hash)
unfolding kind_in
hash_again object hash rest (inl is) =
    let long : ltb (length (behind object (1 ∷ rest))) 13 ≡ false = le-ltb _ _ (omega arith) in
    let at : kind_in (behind object (1 ∷ rest)) ≡ Ok (kinds.Literal Sha256) = rw long refl in
    rw is at
hash_again object hash rest (inr is) =
    let long : ltb (length (behind object (2 ∷ rest))) 13 ≡ false = le-ltb _ _ (omega arith) in
    let at : kind_in (behind object (2 ∷ rest)) ≡ Ok (kinds.Literal Sha384) = rw long refl in
    rw is at

-- each bank is found by its number, wherever the number stands
bank_again : (object kind : ℕ) (bank : Bank) (rest : List ℕ) → bank_in (behind object (kind ∷ (to_be_bytes w16 (algorithm_in bank) ++ rest))) ≡ Ok bank
unfolding bank_in
bank_again object kind bank rest =
    let long : ltb (length (behind object (kind ∷ (to_be_bytes w16 (algorithm_in bank) ++ rest)))) 15 ≡ false = le-ltb _ _ (omega arith) in
    rw long (elim bank as (λ b. found 13 Value (bank_of_algorithm (from_be_bytes w16 (to_be_bytes w16 (algorithm_in b)))) ≡ Ok b) [ Sha1 ↦ refl | Sha256 ↦ refl | Sha384 ↦ refl | Sha512 ↦ refl ])

pcr_again : (object kind number pcr : ℕ) (value : List ℕ) → pcr ≤ 23 → pcr_in (behind object (kind ∷ (to_be_bytes w16 number ++ pcr ∷ value))) ≡ Ok pcr
unfolding pcr_in
pcr_again object kind number pcr value is =
    let long : ltb (length (behind object (kind ∷ (to_be_bytes w16 number ++ pcr ∷ value)))) 16 ≡ false = le-ltb _ _ (omega arith) in
    rw (long, le-leb pcr 23 is) refl

value_again : (object kind number pcr : ℕ) (bank : Bank) (value : List ℕ) → length value ≡ size_in bank
    → value_in (behind object (kind ∷ (to_be_bytes w16 number ++ pcr ∷ value))) bank ≡ Ok value
unfolding value_in
value_again object kind number pcr bank value is =
    let len : length (behind object (kind ∷ (to_be_bytes w16 number ++ pcr ∷ value))) ≡ 16 + size_in bank = omega arith in
    let long : ltb (length (behind object (kind ∷ (to_be_bytes w16 number ++ pcr ∷ value)))) (16 + size_in bank) ≡ false = le-ltb _ _ (omega arith) in
    let ends : eqb (length (behind object (kind ∷ (to_be_bytes w16 number ++ pcr ∷ value)))) (16 + size_in bank) ≡ true = (Decides-eqb _ _).1 len in
    rw (long, ends, take_all (size_in bank) value (omega arith)) refl

literal_again : (object : ℕ) (l : Literal) → IsLiteral l → literal_in (behind object (literal_kind l.hash ∷ literal_text l)) l.hash ≡ Ok l
unfolding literal_in
literal_again object l is =
    let text = behind object (literal_kind l.hash ∷ literal_text l) in
    let bank : bank_in text ≡ Ok l.bank = bank_again object (literal_kind l.hash) l.bank (l.pcr ∷ l.value) in
    let pcr : pcr_in text ≡ Ok l.pcr = pcr_again object (literal_kind l.hash) (algorithm_in l.bank) l.pcr l.value is.pcr in
    let value : value_in text l.bank ≡ Ok l.value = value_again object (literal_kind l.hash) (algorithm_in l.bank) l.pcr l.bank l.value is.value in
    rw (bank, pcr, value) refl

pub token_again : (t : Token) → IsToken t → token_in (token_text t) ≡ Ok t
unfolding token_in said_in
token_again (token.Bound object) is =
    let magic : magic_in (token_text (token.Bound object)) ≡ Ok tt = magic_again (to_be_bytes w32 object ++ 0 ∷ []) in
    let handle : object_in (token_text (token.Bound object)) ≡ Ok object = object_again object (0 ∷ []) is in
    let kind : kind_in (token_text (token.Bound object)) ≡ Ok kinds.Bound = bound_again object in
    rw (magic, handle, kind) refl
token_again (token.Literal object l) is =
    let rest = literal_kind l.hash ∷ literal_text l in
    let magic : magic_in (token_text (token.Literal object l)) ≡ Ok tt = magic_again (to_be_bytes w32 object ++ rest) in
    let handle : object_in (token_text (token.Literal object l)) ≡ Ok object = object_again object rest is.0 in
    let kind : kind_in (token_text (token.Literal object l)) ≡ Ok (kinds.Literal l.hash) = hash_again object l.hash (literal_text l) is.1.hash in
    let literal : literal_in (token_text (token.Literal object l)) l.hash ≡ Ok l = literal_again object l is.1 in
    rw (magic, handle, kind, literal) refl

pub is_read_back : (t : Token) (r : Result (Vec ℕ) Memory) → IsToken t → IfOk r (λ bytes. bytes.items ≡ token_text t) → IfOk r (λ bytes. token_in bytes.items ≡ Ok t)
is_read_back t (Ok bytes) is text = ap token_in text ∙ token_again t is
is_read_back t (Err e) is text = tt
