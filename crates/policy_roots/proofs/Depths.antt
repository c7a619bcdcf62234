-- A digest has one depth.
use Rattle.std.proofs.Common.{◌≡◌, ◌≢◌, ℕ, zero, suc, List, [], ◌∷◌, length, drop, refl, sym, ap, subst, ◌∙◌, le_refl, arith}
use Rattle.std.specs.List.{All}
use Rattle.std.proofs.lemmas.List.Elements.{All-cons, All-nil}
use Rattle.hash_bank.specs.declared.bank.Bank.TheVariants.{Sha256}
use Rattle.hash_bank.specs.Hash.{sha256_of, zeros_in}
use Rattle.hash_bank.specs.HashedString.{HashedString, NoClash}
use Rattle.hash_bank.proofs.Sizes.{length-digest_in}
use Rattle.policy_digest.specs.Levels.{first_of}
use Rattle.policy_digest.specs.Strings.{or_string_in, pcr_string_in}
use Rattle.policy_digest.specs.TableStrings.{under_sha256}
use Rattle.policy_roots.specs.Depth.{HasDepth, IsJoined, IsLeaf, IsLevel, IsPlaced, IsWithin}
use Rattle.policy_roots.proofs.Parsed.{or_is_no_pcr, same_or_string}

module _ (S : HashedString → Type 0) where
  -- ---- sizes

  pub depth_size : (digest : List ℕ) (depth : ℕ) → HasDepth S digest depth → length digest ≡ 32
  depth_size digest zero h = ap length h.same ∙ length-digest_in Sha256 (pcr_string_in Sha256 h.before h.bank h.pcrs h.values)
  depth_size digest (suc depth) h = ap length h.1.same ∙ length-digest_in Sha256 (or_string_in Sha256 h.0)

  pub within_size : (digest : List ℕ) (most : ℕ) → IsWithin S digest most → length digest ≡ 32
  within_size digest most h = depth_size digest h.depth h.has

  -- ---- places in a level

  pub exactly : (digest : List ℕ) (rest : List (List ℕ)) (number : ℕ) → HasDepth S digest number → IsPlaced S number digest rest
  exactly digest [] number h = record { depth = number; few = le_refl number; has = h }
  exactly digest (next ∷ rest) number h = h

  pub placed_within : (digest : List ℕ) (rest : List (List ℕ)) (number : ℕ) → IsPlaced S number digest rest → IsWithin S digest number
  placed_within digest [] number h = h
  placed_within digest (next ∷ rest) number h = record { depth = number; few = le_refl number; has = h }

  pub one_more : (digest : List ℕ) (number : ℕ) → IsWithin S digest number → IsWithin S digest (suc number)
  one_more digest number h = record { depth = h.depth; few = omega (arith, h.few); has = h.has }

  pub level_sizes : (level : List (List ℕ)) (number : ℕ) → IsLevel S number level → All (λ (d : List ℕ). length d ≡ 32) level
  level_sizes [] number h = All-nil (λ (d : List ℕ). length d ≡ 32)
  level_sizes (digest ∷ rest) number h =
      All-cons (λ (d : List ℕ). length d ≡ 32) digest rest (within_size digest number (placed_within digest rest number h.0)) (level_sizes rest number h.1)

  pub level_drop : (count : ℕ) (level : List (List ℕ)) (number : ℕ) → IsLevel S number level → IsLevel S number (drop count level)
  level_drop zero level number h = h
  level_drop (suc count) [] number h = tt
  level_drop (suc count) (digest ∷ rest) number h = level_drop count rest number h.1

  module _ (safe : NoClash S) where
    -- ---- one depth

    pub same_bytes : (a b : List ℕ) → S (under_sha256 a) → S (under_sha256 b) → sha256_of a ≡ sha256_of b → a ≡ b
    same_bytes a b h k e = let same : under_sha256 a ≡ under_sha256 b = safe.distinct (under_sha256 a) (under_sha256 b) h k refl e in ap (λ (s : HashedString). s.bytes) same

    leaf_or_joined : (digest : List ℕ) (list : List (List ℕ)) → IsLeaf S digest → IsJoined S list digest → ⊥
    leaf_or_joined digest list leaf joined =
        or_is_no_pcr Sha256 leaf.before list leaf.bank leaf.pcrs leaf.values leaf.size
        (same_bytes (or_string_in Sha256 list) (pcr_string_in Sha256 leaf.before leaf.bank leaf.pcrs leaf.values) joined.string leaf.string (sym joined.same ∙ leaf.same))

    pub same_list : (digest : List ℕ) (some others : List (List ℕ)) → IsJoined S some digest → IsJoined S others digest → some ≡ others
    same_list digest some others a b =
        same_or_string Sha256 some others a.sizes b.sizes
        (same_bytes (or_string_in Sha256 some) (or_string_in Sha256 others) a.string b.string (sym a.same ∙ b.same))

    pub one_depth : (digest : List ℕ) (m n : ℕ) → HasDepth S digest m → HasDepth S digest n → m ≡ n
    one_depth digest zero zero h k = refl
    one_depth digest zero (suc n) h k = absurd (leaf_or_joined digest k.0 h k.1)
    one_depth digest (suc m) zero h k = absurd (leaf_or_joined digest h.0 k h.1)
    one_depth digest (suc m) (suc n) h k =
        let same = same_list digest k.0 h.0 k.1 h.1 in
        ap suc (one_depth (first_of h.0) m n h.2 (subst (λ (list : List (List ℕ)). HasDepth S (first_of list) n) same k.2))

    -- ---- no digest is of zeros alone

    depth_nonzero : (digest : List ℕ) (depth : ℕ) → HasDepth S digest depth → digest ≢ zeros_in Sha256
    depth_nonzero digest zero h e = safe.nonzero (under_sha256 (pcr_string_in Sha256 h.before h.bank h.pcrs h.values)) h.string (sym h.same ∙ e)
    depth_nonzero digest (suc depth) h e = safe.nonzero (under_sha256 (or_string_in Sha256 h.0)) h.1.string (sym h.1.same ∙ e)

    pub within_nonzero : (digest : List ℕ) (most : ℕ) → IsWithin S digest most → digest ≢ zeros_in Sha256
    within_nonzero digest most h = depth_nonzero digest h.depth h.has
