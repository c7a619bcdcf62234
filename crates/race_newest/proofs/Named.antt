-- The one session of a handle, and the one object, in lists by rising handles.
use Rattle.std.proofs.Common.{◌≡◌, ℕ, suc, ◌+◌, ◌<◌, ◌==◌, Bool, true, false, cond, not, List, [], ◌∷◌, map, set, refl, sym, ap, subst, ◌∙◌, arith}
use Rattle.std.specs.Prelude.{Some, slice_get}
use Rattle.std.specs.List.{AllByRecursion, find}
use Rattle.std.proofs.lemmas.Bool.{eq-eqb, eqb-true}
use Rattle.tpm_model.specs.declared.object.Object.{Object}
use Rattle.tpm_model.specs.declared.sessions.Session.{Session}
use Rattle.tpm_model.specs.Sessions.{is_object, session_at, session_place}
use Rattle.tpm_model.proofs.Handles.{AreHandles}

-- ---- sessions

abbrev pub handles : List Session → List ℕ
handles xs = map (λ (x : Session). x.handle) xs

head_place : (h : ℕ) (y : Session) (ys : List Session) → (y.handle == h) ≡ true → session_place h (y ∷ ys) ≡ 0
head_place h y ys e = ap (λ b. cond (not b) (1 + session_place h ys) 0) e

one_more : (n : ℕ) → 1 + n ≡ suc n
one_more n = omega arith

tail_place : (h : ℕ) (y : Session) (ys : List Session) → (y.handle == h) ≡ false → session_place h (y ∷ ys) ≡ suc (session_place h ys)
tail_place h y ys e = ap (λ b. cond (not b) (1 + session_place h ys) 0) e ∙ one_more (session_place h ys)

same_session : (a b : Session) → Some a ≡ Some b → a ≡ b
same_session a b e = cc

named_by : (h : ℕ) (y : Session) (ys : List Session) (x : Session) (b : Bool) → (y.handle == h) ≡ b → session_at h (y ∷ ys) ≡ Some x → (session_at h ys ≡ Some x → x.handle ≡ h) → x.handle ≡ h
named_by h y ys x true t e rest =
    let here : y ≡ x = same_session y x (sym (ap (λ i. slice_get (y ∷ ys) i) (head_place h y ys t)) ∙ e) in
    sym (ap (λ (z : Session). z.handle) here) ∙ eqb-true y.handle h t
named_by h y ys x false t e rest = rest (sym (ap (λ i. slice_get (y ∷ ys) i) (tail_place h y ys t)) ∙ e)

-- what is found under a handle has the handle
pub named : (h : ℕ) (xs : List Session) (x : Session) → session_at h xs ≡ Some x → x.handle ≡ h
named h [] x e = cc
named h (y ∷ ys) x e = named_by h y ys x (y.handle == h) refl e (λ f. named h ys x f)

-- every handle is below the end
pub below : (first end : ℕ) (xs : List Session) → AreHandles first end (handles xs) → AllByRecursion (λ (x : Session). x.handle < end) xs
below first end [] rising = tt
below first end (x ∷ xs) rising = (rising.1, below (x.handle + 1) end xs rising.2)

module _ (P : Session → Type 0) where
  -- none has a handle that is below the first
  none_named : (h first end : ℕ) (xs : List Session) → AreHandles first end (handles xs) → h < first → AllByRecursion (λ (x : Session). x.handle ≡ h → P x) xs
  none_named h first end [] rising low = tt
  none_named h first end (x ∷ xs) rising low =
      ((λ e. absurd (omega (arith, rising.0, low, e))), none_named h (x.handle + 1) end xs rising.2 (omega (arith, rising.0, low)))

  abbrev AtPlace : ℕ → List Session → Session → ℕ → Type 0
  AtPlace h xs new place = AllByRecursion (λ (z : Session). z.handle ≡ h → P z) (set xs place new)

  put_by : (h end : ℕ) (y : Session) (ys : List Session) (x new : Session) (b : Bool) → (y.handle == h) ≡ b → AreHandles (y.handle + 1) end (handles ys)
      → session_at h (y ∷ ys) ≡ Some x → P new → (session_at h ys ≡ Some x → AtPlace h ys new (session_place h ys)) → AtPlace h (y ∷ ys) new (session_place h (y ∷ ys))
  put_by h end y ys x new true t rising e p rest =
      let same : y.handle ≡ h = eqb-true y.handle h t in
      subst (AtPlace h (y ∷ ys) new) (sym (head_place h y ys t)) ((λ _. p), none_named h (y.handle + 1) end ys rising (omega (arith, same)))
  put_by h end y ys x new false t rising e p rest =
      subst (AtPlace h (y ∷ ys) new) (sym (tail_place h y ys t)) (
        (λ same. let wrong : (y.handle == h) ≡ true = eq-eqb y.handle h same in let no : true ≡ false = sym wrong ∙ t in cc),
        rest (sym (ap (λ i. slice_get (y ∷ ys) i) (tail_place h y ys t)) ∙ e),
      )

  -- another session in place of the one of a handle: what holds of it holds of all that have the handle
  pub put_named : (h first end : ℕ) (xs : List Session) (x new : Session) → AreHandles first end (handles xs) → session_at h xs ≡ Some x → P new
      → AllByRecursion (λ (y : Session). y.handle ≡ h → P y) (set xs (session_place h xs) new)
  put_named h first end [] x new rising e p = cc
  put_named h first end (y ∷ ys) x new rising e p =
      put_by h end y ys x new (y.handle == h) refl rising.2 e p (λ f. put_named h (y.handle + 1) end ys x new rising.2 f p)

-- ---- objects

abbrev pub object_handles : List Object → List ℕ
object_handles xs = map (λ (x : Object). x.handle) xs

same_object : (a b : Object) → Some a ≡ Some b → a ≡ b
same_object a b e = cc

named_object_by : (h : ℕ) (y : Object) (ys : List Object) (x : Object) (b : Bool) → (y.handle == h) ≡ b → find (is_object h) (y ∷ ys) ≡ Some x → (find (is_object h) ys ≡ Some x → x.handle ≡ h) → x.handle ≡ h
named_object_by h y ys x true t e rest =
    let here : y ≡ x = same_object y x (sym (ap (λ b. cond b (Some y) (find (is_object h) ys)) t) ∙ e) in
    sym (ap (λ (z : Object). z.handle) here) ∙ eqb-true y.handle h t
named_object_by h y ys x false t e rest = rest (sym (ap (λ b. cond b (Some y) (find (is_object h) ys)) t) ∙ e)

-- what is found under a handle has the handle
pub named_object : (h : ℕ) (xs : List Object) (x : Object) → find (is_object h) xs ≡ Some x → x.handle ≡ h
named_object h [] x e = cc
named_object h (y ∷ ys) x e = named_object_by h y ys x (y.handle == h) refl e (λ f. named_object h ys x f)

pub below_object : (first end : ℕ) (xs : List Object) → AreHandles first end (object_handles xs) → AllByRecursion (λ (x : Object). x.handle < end) xs
below_object first end [] rising = tt
below_object first end (x ∷ xs) rising = (rising.1, below_object (x.handle + 1) end xs rising.2)

module _ (P : Object → Type 0) where
  no_object : (h first end : ℕ) (xs : List Object) → AreHandles first end (object_handles xs) → h < first → AllByRecursion (λ (x : Object). x.handle ≡ h → P x) xs
  no_object h first end [] rising low = tt
  no_object h first end (x ∷ xs) rising low =
      ((λ e. absurd (omega (arith, rising.0, low, e))), no_object h (x.handle + 1) end xs rising.2 (omega (arith, rising.0, low)))

  abbrev Each : ℕ → List Object → Type 0
  Each h xs = AllByRecursion (λ (z : Object). z.handle ≡ h → P z) xs

  one_by : (h end : ℕ) (y : Object) (ys : List Object) (x : Object) (b : Bool) → (y.handle == h) ≡ b → AreHandles (y.handle + 1) end (object_handles ys)
      → find (is_object h) (y ∷ ys) ≡ Some x → P x → (find (is_object h) ys ≡ Some x → Each h ys) → Each h (y ∷ ys)
  one_by h end y ys x true t rising e p rest =
      let same : y.handle ≡ h = eqb-true y.handle h t in
      let here : x ≡ y = sym (same_object y x (sym (ap (λ b. cond b (Some y) (find (is_object h) ys)) t) ∙ e)) in
      ((λ _. subst P here p), no_object h (y.handle + 1) end ys rising (omega (arith, same)))
  one_by h end y ys x false t rising e p rest = (
    (λ same. let wrong : (y.handle == h) ≡ true = eq-eqb y.handle h same in let no : true ≡ false = sym wrong ∙ t in cc),
    rest (sym (ap (λ b. cond b (Some y) (find (is_object h) ys)) t) ∙ e),
  )

  -- what holds of the object of a handle holds of all that have the handle
  pub one_object : (h first end : ℕ) (xs : List Object) (x : Object) → AreHandles first end (object_handles xs) → find (is_object h) xs ≡ Some x → P x
      → AllByRecursion (λ (y : Object). y.handle ≡ h → P y) xs
  one_object h first end [] x rising e p = tt
  one_object h first end (y ∷ ys) x rising e p = one_by h end y ys x (y.handle == h) refl rising.2 e p (λ f. one_object h (y.handle + 1) end ys x rising.2 f p)
