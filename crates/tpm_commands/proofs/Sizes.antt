-- Digests and their lengths.
use Rattle.std.proofs.Common.{◌≡◌, ℕ, Bool, true, false, List, [], ◌∷◌, length, Option, Some, refl, sym, ap, subst, ◌∙◌}
use Rattle.std.specs.Prelude.{◌==◌, is_some, slice_set}
use Rattle.std.specs.Option.{ForSome}
use Rattle.hash_bank.specs.declared.digests.Digests.{Digests}
use Rattle.std.proofs.Math.Nat.{ℕ_set}
use Rattle.std.proofs.lemmas.Bool.{eqb-true, eq-eqb}
use Rattle.hash_bank.specs.declared.bank.Bank.{Bank}
use Rattle.hash_bank.specs.declared.bank.Bank.TheVariants.{Sha1, Sha256, Sha384, Sha512}
use Rattle.hash_bank.specs.Digests.{digest_at}
use Rattle.hash_bank.specs.Hash.{size_in}
use Rattle.tpm_commands.specs.Digests.{Sized, listed, place_in, sized, sized_by, with_digest, with_spelled}
use Rattle.pl_text.specs.Parts.{parts_of, two_of}
use Rattle.pl_text.specs.Words.{bank_of, bytes_of}

-- a length has one proof
same_fit : (n : ℕ) (bytes : List ℕ) (f g : length bytes ≡ n) → f ≡ g
same_fit n bytes f g = ℕ_set (length bytes) n f g

sized_is : (n : ℕ) (bytes : List ℕ) (fits : length bytes ≡ n) (test : Bool) (is : (length bytes == n) ≡ test) → test ≡ true
    → sized_by n bytes test is ≡ Some (bytes, fits)
sized_is n bytes fits true is e = ap (λ (f : length bytes ≡ n). Some (bytes, f)) (same_fit n bytes (eqb-true (length bytes) n is) fits)
sized_is n bytes fits false is e = absurd (cc e)

-- bytes of the length have it
pub sized-fits : (n : ℕ) (bytes : List ℕ) (fits : length bytes ≡ n) → sized n bytes ≡ Some (bytes, fits)
sized-fits n bytes fits = sized_is n bytes fits (length bytes == n) refl (eq-eqb (length bytes) n fits)

same_size : (n : ℕ) (digest : Option (List ℕ)) (f g : ForSome digest (λ d. length d ≡ n)) → f ≡ g
same_size n digest f g = λ i bytes e. ℕ_set (length bytes) n (f bytes e) (g bytes e) i

-- digests of the same parts are the same
pub same_digests : (a b c d : Option (List ℕ)) (fa ga : ForSome a (λ x. length x ≡ 20)) (fb gb : ForSome b (λ x. length x ≡ 32)) (fc gc : ForSome c (λ x. length x ≡ 48)) (fd gd : ForSome d (λ x. length x ≡ 64))
    → (let left : Digests = record { sha1 = a; sha256 = b; sha384 = c; sha512 = d; sha1_size = fa; sha256_size = fb; sha384_size = fc; sha512_size = fd } in
    let right : Digests = record { sha1 = a; sha256 = b; sha384 = c; sha512 = d; sha1_size = ga; sha256_size = gb; sha384_size = gc; sha512_size = gd } in left ≡ right)
same_digests a b c d fa ga fb gb fc gc fd gd = λ i. record {
  sha1 = a;
  sha256 = b;
  sha384 = c;
  sha512 = d;
  sha1_size = same_size 20 a fa ga i;
  sha256_size = same_size 32 b fb gb i;
  sha384_size = same_size 48 c fc gc i;
  sha512_size = same_size 64 d fd gd i;
}

-- so are digests with equal parts
same_parts : (x : Digests) (a b c d : Option (List ℕ)) (fa : ForSome a (λ x. length x ≡ 20)) (fb : ForSome b (λ x. length x ≡ 32)) (fc : ForSome c (λ x. length x ≡ 48)) (fd : ForSome d (λ x. length x ≡ 64))
    → a ≡ x.sha1 → b ≡ x.sha256 → c ≡ x.sha384 → d ≡ x.sha512
    → (let given : Digests = record { sha1 = a; sha256 = b; sha384 = c; sha512 = d; sha1_size = fa; sha256_size = fb; sha384_size = fc; sha512_size = fd } in given ≡ x)
same_parts x a b c d fa fb fc fd ea eb ec ed =
    subst (λ (a : Option (List ℕ)). (fa : ForSome a (λ x. length x ≡ 20)) → (let given : Digests = record { sha1 = a; sha256 = b; sha384 = c; sha512 = d; sha1_size = fa; sha256_size = fb; sha384_size = fc; sha512_size = fd } in given ≡ x)) (sym ea)
    (λ fa. subst (λ (b : Option (List ℕ)). (fb : ForSome b (λ x. length x ≡ 32)) → (let given : Digests = record { sha1 = x.sha1; sha256 = b; sha384 = c; sha512 = d; sha1_size = fa; sha256_size = fb; sha384_size = fc; sha512_size = fd } in given ≡ x)) (sym eb)
    (λ fb. subst (λ (c : Option (List ℕ)). (fc : ForSome c (λ x. length x ≡ 48)) → (let given : Digests = record { sha1 = x.sha1; sha256 = x.sha256; sha384 = c; sha512 = d; sha1_size = fa; sha256_size = fb; sha384_size = fc; sha512_size = fd } in given ≡ x)) (sym ec)
    (λ fc. subst (λ (d : Option (List ℕ)). (fd : ForSome d (λ x. length x ≡ 64)) → (let given : Digests = record { sha1 = x.sha1; sha256 = x.sha256; sha384 = x.sha384; sha512 = d; sha1_size = fa; sha256_size = fb; sha384_size = fc; sha512_size = fd } in given ≡ x)) (sym ed)
    (λ fd. same_digests x.sha1 x.sha256 x.sha384 x.sha512 fa x.sha1_size fb x.sha256_size fc x.sha384_size fd x.sha512_size) fd) fc) fb) fa

same_four : (a b c d e f g h : Option (List ℕ)) → a ∷ b ∷ c ∷ d ∷ [] ≡ e ∷ f ∷ g ∷ h ∷ [] → (a ≡ e) × (b ≡ f) × (c ≡ g) × (d ≡ h)
same_four a b c d e f g h is = ((cc), (cc), (cc), (cc))

same_listed : (x y : Digests) → listed x ≡ listed y → x ≡ y
same_listed x y is =
    let each = same_four x.sha1 x.sha256 x.sha384 x.sha512 y.sha1 y.sha256 y.sha384 y.sha512 is in
    same_parts y x.sha1 x.sha256 x.sha384 x.sha512 x.sha1_size x.sha256_size x.sha384_size x.sha512_size each.0 each.1 each.2 each.3

listed_with : (bank : Bank) (digest : Sized (size_in bank)) (others : Digests) → listed (with_digest bank digest others) ≡ slice_set (listed others) (place_in bank) (Some digest.0)
listed_with Sha1 digest others = refl
listed_with Sha256 digest others = refl
listed_with Sha384 digest others = refl
listed_with Sha512 digest others = refl

-- a digest that is read in its words
pub spelled_is : (digests new : Digests) (text name hex bytes : List ℕ) (bank : Bank)
    → two_of (parts_of 58 text) ≡ Some (name, hex) → bank_of name ≡ Some bank → is_some (digest_at digests bank) ≡ false → bytes_of (size_in bank) hex ≡ Some bytes
    → length bytes ≡ size_in bank → listed new ≡ slice_set (listed digests) (place_in bank) (Some bytes) → Some new ≡ with_spelled digests text
spelled_is digests new text name hex bytes bank parts found free read fits is =
    let digest : Sized (size_in bank) = (bytes, fits) in
    let same : new ≡ with_digest bank digest digests = same_listed new (with_digest bank digest digests) (is ∙ sym (listed_with bank digest digests)) in
    rw (parts, found, free, read, sized-fits (size_in bank) bytes fits) (ap Some same)
