-- The tests of a record in their order pass exactly where the value is the record.
use Rattle.std.proofs.Common.{◌≡◌, ◌≤◌, ◌⊎◌, ◌↔◌, ℕ, Bool, true, false, List, [], codes, nat_le, Option, Some, None, is_some, option_and_then, Result, Ok, Err, IsOk, if◌then◌else◌, inl, inr, refl, sym, ap, subst, ◌∙◌, le-leb}
use Rattle.std.proofs.lemmas.Bool.{leb-true}
use Rattle.std.specs.Option.{ok_or}
use Rattle.serde_json.specs.Data.{Data, null, boolean, number, string, array, object, Items, no_items, item, Members}
use Rattle.serde_json.specs.Find.{as_object}
use Rattle.hash_bank.specs.declared.bank.Bank.{Bank}
use Rattle.hash_bank.specs.declared.bank.Bank.TheVariants.{Sha1, Sha256, Sha384, Sha512}
use Rattle.cel_record.specs.declared.kind.RecordKind.{RecordKind}
use Rattle.cel_record.specs.declared.kind.RecordKind.TheVariants as kinds
use Rattle.cel_record.specs.IsRecord.{States, AreGood, AreDistinct, AreDigestsOf, IsRecord}
use Rattle.cel_record.specs.JsonValue.{unsigned_at, array_at}
use Rattle.cel_record.specs.Listed.{Listed, listed_in, with_digest, none_listed}
use Rattle.cel_record.specs.Member.{member_of}
use Rattle.cel_record.specs.RecordText.{digests_after, pcr_number, record_of, with_member}
use Rattle.cel_record.specs.Spelled.{Spelled}
use Rattle.cel_record.specs.Step.{◌>>=◌}

-- ---- one bank set

-- the banks are told apart
same_or_other : (a b : Bank) → (a ≡ b) ⊎ (a ≡ b → ⊥)
same_or_other Sha1 Sha1 = inl refl
same_or_other Sha1 Sha256 = inr (λ e. cc)
same_or_other Sha1 Sha384 = inr (λ e. cc)
same_or_other Sha1 Sha512 = inr (λ e. cc)
same_or_other Sha256 Sha1 = inr (λ e. cc)
same_or_other Sha256 Sha256 = inl refl
same_or_other Sha256 Sha384 = inr (λ e. cc)
same_or_other Sha256 Sha512 = inr (λ e. cc)
same_or_other Sha384 Sha1 = inr (λ e. cc)
same_or_other Sha384 Sha256 = inr (λ e. cc)
same_or_other Sha384 Sha384 = inl refl
same_or_other Sha384 Sha512 = inr (λ e. cc)
same_or_other Sha512 Sha1 = inr (λ e. cc)
same_or_other Sha512 Sha256 = inr (λ e. cc)
same_or_other Sha512 Sha384 = inr (λ e. cc)
same_or_other Sha512 Sha512 = inl refl

listed_in-same : (b : Bank) (x : List ℕ) (l : Listed) → listed_in b (with_digest b x l) ≡ Some x
listed_in-same Sha1 x l = refl
listed_in-same Sha256 x l = refl
listed_in-same Sha384 x l = refl
listed_in-same Sha512 x l = refl

listed_in-other : (b c : Bank) (x : List ℕ) (l : Listed) → (b ≡ c → ⊥) → listed_in b (with_digest c x l) ≡ listed_in b l
listed_in-other Sha1 Sha1 x l n = absurd (n refl)
listed_in-other Sha1 Sha256 x l n = refl
listed_in-other Sha1 Sha384 x l n = refl
listed_in-other Sha1 Sha512 x l n = refl
listed_in-other Sha256 Sha1 x l n = refl
listed_in-other Sha256 Sha256 x l n = absurd (n refl)
listed_in-other Sha256 Sha384 x l n = refl
listed_in-other Sha256 Sha512 x l n = refl
listed_in-other Sha384 Sha1 x l n = refl
listed_in-other Sha384 Sha256 x l n = refl
listed_in-other Sha384 Sha384 x l n = absurd (n refl)
listed_in-other Sha384 Sha512 x l n = refl
listed_in-other Sha512 Sha1 x l n = refl
listed_in-other Sha512 Sha256 x l n = refl
listed_in-other Sha512 Sha384 x l n = refl
listed_in-other Sha512 Sha512 x l n = absurd (n refl)

-- ---- the members, behind digests that are listed already

-- l with the digests that the members state is r
record Lists (l : Listed) (ms : Items) (r : Listed) : Type 0 where
  good : AreGood ms
  distinct : AreDistinct ms
  apart : (b : Bank) (x y : List ℕ) → listed_in b l ≡ Some x → States ms b y → ⊥
  stated : (b : Bank) (x : List ℕ) → listed_in b r ≡ Some x ↔ ((listed_in b l ≡ Some x) ⊎ States ms b x)

lists_none : (l r : Listed) → l ≡ r → Lists l no_items r
lists_none l r e = record {
  good = λ m h. absurd h;
  distinct = tt;
  apart = λ b x y h s. absurd s.1;
  stated = λ b x. (λ h. inl (ap (listed_in b) e ∙ h), λ h. elim h [ inl p ↦ ap (listed_in b) (sym e) ∙ p | inr s ↦ absurd s.1 ]);
}

-- what a member says is one thing
bank_said : Result (Option (Bank × List ℕ)) RecordKind → Bank
bank_said (Ok (Some d)) = d.0
bank_said (Ok None) = Sha1
bank_said (Err e) = Sha1

digest_said : Result (Option (Bank × List ℕ)) RecordKind → List ℕ
digest_said (Ok (Some d)) = d.1
digest_said (Ok None) = []
digest_said (Err e) = []

one_bank : (m : Data) (b c : Bank) (x z : List ℕ) → member_of m ≡ Ok (Some (b, x)) → member_of m ≡ Ok (Some (c, z)) → b ≡ c
unfolding bank_said
one_bank m b c x z p q = ap bank_said (sym p ∙ q)

one_digest : (m : Data) (b c : Bank) (x z : List ℕ) → member_of m ≡ Ok (Some (b, x)) → member_of m ≡ Ok (Some (c, z)) → x ≡ z
unfolding digest_said
one_digest m b c x z p q = ap digest_said (sym p ∙ q)

-- a member that is passed over
states_on : (m : Data) (ms : Items) (b : Bank) (x : List ℕ) → States ms b x → States (item m ms) b x
states_on m ms b x s = (s.0, inr s.1, s.2)

-- who states a digest: the first member, or a later one
who_states : (m : Data) (ms : Items) (b : Bank) (x : List ℕ) → States (item m ms) b x → (member_of m ≡ Ok (Some (b, x))) ⊎ States ms b x
who_states m ms b x s = elim s.1 [ inl e ↦ inl (ap member_of (sym e) ∙ s.2) | inr later ↦ inr (s.0, later, s.2) ]

ok_said : (m : Data) (said : Option (Bank × List ℕ)) → member_of m ≡ Ok said → IsOk (member_of m)
ok_said m said e = subst IsOk (sym e) refl

good_on : (m : Data) (ms : Items) → IsOk (member_of m) → AreGood ms → AreGood (item m ms)
good_on m ms h rest d among = elim among [ inl e ↦ subst (λ x. IsOk (member_of x)) (sym e) h | inr later ↦ rest d later ]

lists_passed : (l : Listed) (m : Data) (ms : Items) (r : Listed) → member_of m ≡ Ok None → Lists l ms r → Lists l (item m ms) r
lists_passed l m ms r e h = record {
  good = good_on m ms (ok_said m None e) h.good;
  distinct = ((λ b x y s _. cc), h.distinct);
  apart = λ b x y in_l s. elim (who_states m ms b y s) [ inl first ↦ cc | inr later ↦ h.apart b x y in_l later ];
  stated = λ b x. (
    λ in_r. elim ((h.stated b x).0 in_r) [ inl in_l ↦ inl in_l | inr s ↦ inr (states_on m ms b x s) ],
    λ either. elim either [
      | inl in_l ↦ (h.stated b x).1 (inl in_l)
      | inr s ↦ elim (who_states m ms b x s) [ inl first ↦ cc | inr later ↦ (h.stated b x).1 (inr later) ]
    ],
  );
}

-- a member that states a digest of a bank that has none yet
lists_stated : (l : Listed) (m : Data) (ms : Items) (r : Listed) (c : Bank) (z : List ℕ)
    → member_of m ≡ Ok (Some (c, z)) → listed_in c l ≡ None → Lists (with_digest c z l) ms r → Lists l (item m ms) r
lists_stated l m ms r c z e none h = record {
  good = good_on m ms (ok_said m (Some (c, z)) e) h.good;
  distinct = (
    (λ b x y s later.
        let same : b ≡ c = one_bank m b c x z s e in
        h.apart b z y (subst (λ k. listed_in k (with_digest c z l) ≡ Some z) (sym same) (listed_in-same c z l)) later),
    h.distinct,
  );
  apart = λ b x y in_l s. elim (same_or_other b c) [
    | inl same ↦ let gone : listed_in b l ≡ None = ap (λ k. listed_in k l) same ∙ none in cc
    | inr other ↦
        elim (who_states m ms b y s) [
          | inl first ↦ absurd (other (one_bank m b c y z first e))
          | inr later ↦ h.apart b x y (listed_in-other b c z l other ∙ in_l) later
        ]
  ];
  stated = λ b x. (
    λ in_r. elim ((h.stated b x).0 in_r) [
      | inl in_more ↦
          elim (same_or_other b c) [
            | inl same ↦
                let now : listed_in b (with_digest c z l) ≡ Some z = subst (λ k. listed_in k (with_digest c z l) ≡ Some z) (sym same) (listed_in-same c z l) in
                let digest : z ≡ x = cc in
                inr (m, inl refl, e ∙ ap (λ p. Ok (Some p)) (ap (λ k. (k, z)) (sym same) ∙ ap (λ y. (b, y)) digest))
            | inr other ↦ inl (sym (listed_in-other b c z l other) ∙ in_more)
          ]
      | inr s ↦ inr (states_on m ms b x s)
    ],
    λ either. elim either [
      | inl in_l ↦
          elim (same_or_other b c) [
            | inl same ↦ let gone : listed_in b l ≡ None = ap (λ k. listed_in k l) same ∙ none in cc
            | inr other ↦ (h.stated b x).1 (inl (listed_in-other b c z l other ∙ in_l))
          ]
      | inr s ↦
          elim (who_states m ms b x s) [
            | inl first ↦
                let same : b ≡ c = one_bank m b c x z first e in
                let digest : x ≡ z = one_digest m b c x z first e in
                (h.stated b x).1 (inl (subst (λ k. listed_in k (with_digest c z l) ≡ Some x) (sym same) (listed_in-same c z l ∙ ap Some (sym digest))))
            | inr later ↦ (h.stated b x).1 (inr later)
          ]
    ],
  );
}

-- ---- from the tests to the lists

-- what the members behind m give from any digests, they list
abbrev ReadsOn : Items → Listed → Type 0
ReadsOn ms r = (l : Listed) → digests_after l ms ≡ Ok r → Lists l ms r

lists_by_bank : (l : Listed) (m : Data) (ms : Items) (r : Listed) (c : Bank) (z : List ℕ) (o : Option (List ℕ))
    → member_of m ≡ Ok (Some (c, z)) → listed_in c l ≡ o → ReadsOn ms r
    → ((if is_some o then Err kinds.DigestTwice else Ok (with_digest c z l)) >>= λ more. digests_after more ms) ≡ Ok r → Lists l (item m ms) r
lists_by_bank l m ms r c z (Some y) e at_c rest h = cc
lists_by_bank l m ms r c z None e at_c rest h = lists_stated l m ms r c z e at_c (rest (with_digest c z l) h)

lists_by_member : (l : Listed) (m : Data) (ms : Items) (r : Listed) (said : Result (Option (Bank × List ℕ)) RecordKind)
    → member_of m ≡ said → ReadsOn ms r → ((said >>= with_member l) >>= λ more. digests_after more ms) ≡ Ok r → Lists l (item m ms) r
lists_by_member l m ms r (Err e) is rest h = cc
lists_by_member l m ms r (Ok None) is rest h = lists_passed l m ms r is (rest l h)
lists_by_member l m ms r (Ok (Some d)) is rest h = lists_by_bank l m ms r d.0 d.1 (listed_in d.0 l) is refl rest h

lists_read : (ms : Items) (r : Listed) → ReadsOn ms r
lists_read no_items r l h = let same : l ≡ r = cc in lists_none l r same
lists_read (item m ms) r l h = lists_by_member l m ms r (member_of m) refl (lists_read ms r) h

-- ---- from the lists to the tests

-- the members can be read behind l
abbrev Reads : Listed → Items → Type 0
Reads l ms = (r : Listed) × (digests_after l ms ≡ Ok r)

-- no member states a digest of a bank that l has
abbrev AreApart : Listed → Items → Type 0
AreApart l ms = (b : Bank) (x y : List ℕ) → listed_in b l ≡ Some x → States ms b y → ⊥

-- good and distinct members can be read behind digests of other banks
abbrev CanRead : Items → Type 0
CanRead ms = (l : Listed) → AreApart l ms → Reads l ms

reads_by_bank : (l : Listed) (m : Data) (ms : Items) (c : Bank) (z : List ℕ) (o : Option (List ℕ))
    → member_of m ≡ Ok (Some (c, z)) → listed_in c l ≡ o → CanRead ms → AreDistinct (item m ms) → AreApart l (item m ms)
    → (r : Listed) × (((if is_some o then Err kinds.DigestTwice else Ok (with_digest c z l)) >>= λ more. digests_after more ms) ≡ Ok r)
reads_by_bank l m ms c z (Some y) e at_c rest distinct apart = absurd (apart c y z at_c (m, inl refl, e))
reads_by_bank l m ms c z None e at_c rest distinct apart =
    rest (with_digest c z l) (λ b x y in_more s. elim (same_or_other b c) [
      | inl same ↦ distinct.0 c z y e (subst (λ k. States ms k y) same s)
      | inr other ↦ apart b x y (sym (listed_in-other b c z l other) ∙ in_more) (states_on m ms b y s)
    ])

reads_by_member : (l : Listed) (m : Data) (ms : Items) (said : Result (Option (Bank × List ℕ)) RecordKind)
    → member_of m ≡ said → CanRead ms → AreGood (item m ms) → AreDistinct (item m ms) → AreApart l (item m ms)
    → (r : Listed) × (((said >>= with_member l) >>= λ more. digests_after more ms) ≡ Ok r)
reads_by_member l m ms (Err e) is rest good distinct apart =
    let ok : IsOk (member_of m) = good m (inl refl) in
    let bad : IsOk {T = Option (Bank × List ℕ)} {E = RecordKind} (Err e) = subst IsOk is ok in cc
reads_by_member l m ms (Ok None) is rest good distinct apart = rest l (λ b x y in_l s. apart b x y in_l (states_on m ms b y s))
reads_by_member l m ms (Ok (Some d)) is rest good distinct apart = reads_by_bank l m ms d.0 d.1 (listed_in d.0 l) is refl rest distinct apart

can_read : (ms : Items) → AreGood ms → AreDistinct ms → CanRead ms
can_read no_items good distinct l apart = (l, refl)
can_read (item m ms) good distinct l apart =
    reads_by_member l m ms (member_of m) refl (can_read ms (λ d among. good d (inr among)) distinct.1) good distinct apart

-- ---- one list of digests

option_same : (o p : Option (List ℕ)) → ((x : List ℕ) → o ≡ Some x → p ≡ Some x) → ((x : List ℕ) → p ≡ Some x → o ≡ Some x) → o ≡ p
option_same None None h k = refl
option_same None (Some y) h k = k y refl
option_same (Some x) p h k = sym (h x refl)

listed_same : (r q : Listed) → ((b : Bank) → listed_in b r ≡ listed_in b q) → r ≡ q
listed_same r q h = λ i. record { sha1 = h Sha1 i; sha256 = h Sha256 i; sha384 = h Sha384 i; sha512 = h Sha512 i }

none_in : (b : Bank) (x : List ℕ) → listed_in b none_listed ≡ Some x → ⊥
none_in Sha1 x e = cc
none_in Sha256 x e = cc
none_in Sha384 x e = cc
none_in Sha512 x e = cc

-- behind no digests the members state all of them
stated_alone : (ms : Items) (r : Listed) → Lists none_listed ms r → (b : Bank) (x : List ℕ) → listed_in b r ≡ Some x ↔ States ms b x
stated_alone ms r h b x = (
  λ in_r. elim ((h.stated b x).0 in_r) [ inl e ↦ absurd (none_in b x e) | inr s ↦ s ],
  λ s. (h.stated b x).1 (inr s),
)

digests_after-listed : (ms : Items) (r : Spelled) → AreDigestsOf ms r → digests_after none_listed ms ≡ Ok r.digests
digests_after-listed ms r h =
    let read = can_read ms h.good h.distinct none_listed (λ b x y e s. none_in b x e) in
    let lists = stated_alone ms read.0 (lists_read ms read.0 none_listed read.1) in
    let same : read.0 ≡ r.digests = listed_same read.0 r.digests (λ b. option_same (listed_in b read.0) (listed_in b r.digests)
    (λ x e. (h.stated b x).1 ((lists b x).0 e)) (λ x e. (lists b x).1 ((h.stated b x).0 e))) in
    read.1 ∙ ap Ok same

-- ---- the record

abbrev together : ℕ → Listed → Result Spelled RecordKind
together n digests = Ok (record { pcr = n; digests = digests })

by_digests : (d : Data) (n : ℕ) (items : Items) (r : Spelled) (found : Result Listed RecordKind)
    → unsigned_at (codes "pcr") d ≡ Some n → n ≤ 23 → array_at (codes "digests") d ≡ Some items → digests_after none_listed items ≡ found
    → (found >>= together n) ≡ Ok r → IsRecord d r
by_digests d n items r (Err e) pcr in_range at_key is h = cc
by_digests d n items r (Ok digests) pcr in_range at_key is h =
    let all : Spelled = record { pcr = n; digests = digests } in
    let same : all ≡ r = cc in
    let lists = lists_read items digests none_listed is in
    subst (IsRecord d) same (record {
      pcr = pcr;
      in_range = in_range;
      members = items;
      digests = at_key;
      listed = record { good = lists.good; distinct = lists.distinct; stated = stated_alone items digests lists };
    })

by_array : (d : Data) (n : ℕ) (a : Option Items) (r : Spelled)
    → unsigned_at (codes "pcr") d ≡ Some n → n ≤ 23 → array_at (codes "digests") d ≡ a
    → (ok_or a kinds.Digests >>= λ items. digests_after none_listed items >>= together n) ≡ Ok r → IsRecord d r
by_array d n None r pcr in_range is h = cc
by_array d n (Some items) r pcr in_range is h = by_digests d n items r (digests_after none_listed items) pcr in_range is refl h

by_range : (d : Data) (n : ℕ) (t : Bool) (r : Spelled)
    → unsigned_at (codes "pcr") d ≡ Some n → nat_le n 23 ≡ t
    → (ok_or (if t then Some n else None) kinds.Pcr >>= λ pcr. ok_or (array_at (codes "digests") d) kinds.Digests >>= λ items. digests_after none_listed items
    >>= together pcr) ≡ Ok r → IsRecord d r
by_range d n false r pcr is h = cc
by_range d n true r pcr is h = by_array d n (array_at (codes "digests") d) r pcr (leb-true n 23 is) refl h

by_number : (d : Data) (u : Option ℕ) (r : Spelled)
    → unsigned_at (codes "pcr") d ≡ u
    → (ok_or (option_and_then pcr_number u) kinds.Pcr >>= λ pcr. ok_or (array_at (codes "digests") d) kinds.Digests >>= λ items. digests_after none_listed items
    >>= together pcr) ≡ Ok r → IsRecord d r
by_number d None r is h = cc
by_number d (Some n) r is h = by_range d n (nat_le n 23) r is refl h

by_object : (d : Data) (o : Option Members) (r : Spelled)
    → (ok_or o kinds.NotObject >>= λ ms. ok_or (option_and_then pcr_number (unsigned_at (codes "pcr") d)) kinds.Pcr >>= λ pcr. ok_or (array_at (codes "digests") d) kinds.Digests
    >>= λ items. digests_after none_listed items >>= together pcr) ≡ Ok r → IsRecord d r
by_object d None r h = cc
by_object d (Some ms) r h = by_number d (unsigned_at (codes "pcr") d) r refl h

record_of-is : (d : Data) (r : Spelled) → record_of d ≡ Ok r → IsRecord d r
record_of-is d r h = by_object d (as_object d) r h

-- only an object has a member
an_object : (d : Data) (n : ℕ) → unsigned_at (codes "pcr") d ≡ Some n → (ms : Members) × (as_object d ≡ Some ms)
an_object null n h = cc
an_object (boolean b) n h = cc
an_object (number x) n h = cc
an_object (string s) n h = cc
an_object (array ds) n h = cc
an_object (object ms) n h = (ms, refl)

is-record_of : (d : Data) (r : Spelled) → IsRecord d r → record_of d ≡ Ok r
is-record_of d r h =
    let ms = an_object d r.pcr h.pcr in
    rw (ms.1, h.pcr) (rw (le-leb r.pcr 23 h.in_range) (rw h.digests (rw (digests_after-listed h.members r h.listed) refl)))

pub record_of_exactly : (d : Data) (r : Spelled) → record_of d ≡ Ok r ↔ IsRecord d r
record_of_exactly d r = (record_of-is d r, is-record_of d r)
