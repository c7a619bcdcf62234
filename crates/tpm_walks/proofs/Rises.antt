-- A trail that leads to what stands for a group came from one of its digests.
use Rattle.std.proofs.Common.{◌≡◌, ℕ, zero, suc, ◌+◌, ◌*◌, ◌/◌, ◌<◌, ◌≤◌, List, [], ◌∷◌, ◌++◌, map, length, drop, get_or, Contains, sym, ap, subst, ◌∙◌, append-nil, arith}
use Rattle.std.specs.Prelude.{reverse}
use Rattle.std.specs.List.{All, flat_map}
use Rattle.std.proofs.lemmas.List.{get_or-take, get_or-drop, get_or_default, length-take, length-drop, map-append, reverse-append}
use Rattle.std.proofs.lemmas.List.FromFn.{get_or-map-range_with_len, length-map-range_with_len}
use Rattle.hash_bank.specs.declared.bank.Bank.TheVariants.{Sha256}
use Rattle.hash_bank.specs.HashedString.{HashedString, NoClash}
use Rattle.policy_digest.specs.Levels.{group, group_count, groups, listed, next_level, up}
use Rattle.policy_digest.specs.Strings.{or_string_in}
use Rattle.policy_digest.specs.TableStrings.{level_strings, or_string}
use Rattle.or_tree.proofs.Groups.{group_sizes, next_length}
use Rattle.or_tree.proofs.Leading.{raised_at}
use Rattle.policy_roots.specs.Depth.{IsLevel}
use Rattle.policy_roots.specs.Held.{AreHeld}
use Rattle.policy_roots.proofs.Depths.{level_sizes, same_bytes}
use Rattle.policy_roots.proofs.Levels.{held_head, held_left, held_right}
use Rattle.policy_roots.proofs.Parsed.{nv_is_no_or, or_is_no_pcr, same_or_string}
use Rattle.tpm_model.specs.declared.trail.TrailEntry.{TrailEntry}
use Rattle.tpm_model.specs.declared.trail.TrailEntry.TheVariants.{Pcr, Or, AuthorizeNv}
use Rattle.tpm_model.specs.Trails.{digest_of_in, entry_string_in}
use Rattle.tpm_walks.proofs.Sound.{AreSound, HasSize, entries_size}

module _ (S : HashedString → Type 0) where
  -- the strings of one of the groups
  group_held : (gs : List (List (List ℕ))) (number : ℕ) → number < length gs → AreHeld S (map or_string (flat_map listed gs)) → AreHeld S (map or_string (listed (get_or gs number [])))
  group_held [] number inside held = absurd (omega (arith, inside))
  group_held (g ∷ gs) zero inside held = held_left S (map or_string (listed g)) (map or_string (flat_map listed gs)) (subst (AreHeld S) (map-append or_string (listed g) (flat_map listed gs)) held)
  group_held (g ∷ gs) (suc number) inside held =
      let fewer : number < length gs = omega (arith, inside) in
      group_held gs number fewer (held_right S (map or_string (listed g)) (map or_string (flat_map listed gs)) (subst (AreHeld S) (map-append or_string (listed g) (flat_map listed gs)) held))

  held_at : (level : List (List ℕ)) (number : ℕ) → number < group_count level → AreHeld S (level_strings level) → AreHeld S (map or_string (listed (group level number)))
  unfolding level_strings
  held_at level number inside held =
      subst (λ (g : List (List ℕ)). AreHeld S (map or_string (listed g))) (get_or-map-range_with_len (group level) 0 (group_count level) number number [] inside (omega arith))
      (group_held (groups level) number (omega (arith, inside, length-map-range_with_len (group level) 0 (group_count level))) held)

  -- the entries, newest first, came from a digest of the group
  record FromGroup (g : List (List ℕ)) (entries : List TrailEntry) : Type 0 where
    place : ℕ
    inside : place < length g
    earlier : List TrailEntry
    way : reverse entries ≡ reverse earlier ++ map Or (listed g)
    led : digest_of_in Sha256 earlier ≡ get_or g place []
    sound : AreSound S earlier

  -- the entries came from a digest of the level, by the group of this number
  pub record FromLevel (level : List (List ℕ)) (number : ℕ) (entries : List TrailEntry) : Type 0 where
    pub place : ℕ
    pub inside : place < length level
    pub above : place / 8 ≡ number
    pub earlier : List TrailEntry
    pub way : reverse entries ≡ reverse earlier ++ map Or (listed (group level number))
    pub led : digest_of_in Sha256 earlier ≡ get_or level place []
    pub sound : AreSound S earlier

  -- an entry whose string is that of a PolicyOR
  by_or : (g : List (List ℕ)) → All HasSize g → (entry : TrailEntry) (entries : List TrailEntry) → AreSound S (entry ∷ entries)
      → entry_string_in Sha256 (digest_of_in Sha256 entries) entry ≡ or_string_in Sha256 g → (entry ≡ Or g) × Contains g (digest_of_in Sha256 entries)
  by_or g sizes (Pcr bank pcrs values) entries sound same = absurd (or_is_no_pcr Sha256 (digest_of_in Sha256 entries) g bank pcrs values (entries_size entries) (sym same))
  by_or g sizes (Or list) entries sound same =
      let alike = same_or_string Sha256 list g sound.1.1 sizes same in
      (ap Or alike, subst (λ (l : List (List ℕ)). Contains l (digest_of_in Sha256 entries)) alike sound.1.0)
  by_or g sizes (AuthorizeNv name digest written) entries sound same = absurd (nv_is_no_or Sha256 name g same)

  module _ (safe : NoClash S) where
    from_group : (g : List (List ℕ)) → 1 ≤ length g → All HasSize g → AreHeld S (map or_string (listed g)) → (entries : List TrailEntry) → AreSound S entries
        → digest_of_in Sha256 entries ≡ up g → FromGroup g entries
    from_group [] some sizes held entries sound e = absurd (omega (arith, some))
    from_group (d ∷ []) some sizes held entries sound e = record { place = 0; inside = omega arith; earlier = entries; way = sym (append-nil (reverse entries)); led = e; sound = sound }
    from_group (d ∷ f ∷ ds) some sizes held [] sound e = absurd (safe.nonzero (or_string (d ∷ f ∷ ds)) (held_head S _ [] held) (sym e))
    from_group (d ∷ f ∷ ds) some sizes held (entry ∷ entries) sound e =
        let g = d ∷ f ∷ ds in
        let before = digest_of_in Sha256 entries in
        let joined = by_or g sizes entry entries sound (same_bytes S safe (entry_string_in Sha256 before entry) (or_string_in Sha256 g) sound.0 (held_head S _ [] held) e) in
        record {
          place = joined.1.0;
          inside = joined.1.1;
          earlier = entries;
          way = reverse-append (entry ∷ []) entries ∙ ap (λ (x : TrailEntry). reverse entries ++ x ∷ []) joined.0;
          led = sym joined.1.2 ∙ get_or_default g joined.1.0 before [] joined.1.1;
          sound = sound.2;
        }

    -- one level down
    pub rise : (depth : ℕ) (level : List (List ℕ)) (number : ℕ) (entries : List TrailEntry) → number < length (next_level level) → IsLevel S depth level → AreHeld S (level_strings level)
        → AreSound S entries → digest_of_in Sha256 entries ≡ get_or (next_level level) number [] → FromLevel level number entries
    rise depth level number entries inside is held sound e =
        let count = next_length level in
        let within : number < group_count level = omega (arith, inside, count) in
        let start = 8 * number in
        let g = group level number in
        let long = length-take 8 (drop start level) in
        let left = length-drop start level in
        let some : 1 ≤ length g = omega (arith, within, long, left) in
        let from = from_group g some (group_sizes level number (level_sizes S level depth is)) (held_at level number within held) entries sound (e ∙ raised_at level number within) in
        let few : from.place < 8 = omega (arith, from.inside, long) in
        let one : get_or g from.place [] ≡ get_or (drop start level) from.place [] = get_or-take 8 (drop start level) from.place [] few in
        let same : get_or g from.place [] ≡ get_or level (start + from.place) [] = one ∙ get_or-drop start level from.place [] in
        record {
          place = start + from.place;
          inside = omega (arith, from.inside, long, left);
          above = omega (arith, few);
          earlier = from.earlier;
          way = from.way;
          led = from.led ∙ same;
          sound = from.sound;
        }
