-- Matching says yes exactly if the selector fits the path, by steps, by places and by Level 3. Assumes nothing.
use mathlib.Core.Path.{◌≡◌, refl, sym, ap, ◌∙◌}
use mathlib.Core.Logic.Iff
use mathlib.Core.Logic.{◌↔◌}
use mathlib.Core.Bool.{Bool, true, false, cond}
use mathlib.Core.List.{List, [], ◌∷◌}
use Prim.Native.Nat.{ℕ, zero, suc, ◌+◌, ◌-◌, ◌*◌, ◌<◌}
use native.Mathlib.Nat.{add-zero, zero-add, add_assoc}
use native.Mathlib.Numerals.{add-one}
use native.Mathlib.Omega.{arith}
use lib.ListN.{get_or, drop}
use lib.Seq.{get_or-drop, drop-drop}
use lib.Dec.{T, eqb}
use borrow.Author.Tests.{lt-ltb, le-ltb, eqb-true, eq-eqb}
use Rattle.std.specs.Prelude.{Ok}
use Rattle.theory.specs.Lists.{spread}
use Rattle.theory.specs.Paths.{Comb, child, descendant, Part, Selector, Goes, done, here, skip, Fits, Places}
use Rattle.theory.specs.States.{descends}
use Rattle.theory.specs.Level3.{Chain, Element, Represents}
use Rattle.theory.specs.Reading.{chain_of, element_of}
use Rattle.theory.proofs.Spreads.{spread_same, spread_shift, drop_spread}
use Rattle.theory.proofs.Places as places
use Rattle.theory.proofs.Level3.{represents_tail}
use Rattle.selector.specs.Tags.{Tags, step_matches}
use Rattle.selector.specs.Rows.{row_at, step_at, subject_at, comb_of, comb_before, selector_of, path_of}
use Rattle.selector.specs.Checks.{path_verdict}
use Rattle.selector.specs.Matching.{any_from, fits_from, far_at, fits, matching_told, matching_of}
use Rattle.matching.proofs.Answers.{told_is}

no_true : {A : Type 0} → false ≡ true → A
no_true e = absurd (let z : ◌≡◌ {A = ℕ} 0 1 = cc in omega arith)

-- how a test came out
by_test : {A : Type 0} (b : Bool) → (b ≡ true → A) → (b ≡ false → A) → A
by_test true p q = p refl
by_test false p q = q refl

-- a subject that is there: the step matches and the rest goes
and_then : (b rest : Bool) {G : Type 0} → (rest ≡ true) ↔ G → (cond b rest false ≡ true) ↔ (T b × G)
and_then true rest f = (λ e. (tt, f.0 e), λ h. f.1 h.1)
and_then false rest f = (λ e. no_true e, λ h. absurd h.0)

module _ {Step Subject : Type 0} (ok : Step → Subject → Bool) (part : ℕ → Part Step) (subject : ℕ → Subject) (far : ℕ → Bool) (m n : ℕ)
    (tied : (k : ℕ) → suc k < n → (part (suc k)).comb ≡ cond (far k) descendant child) where
  abbrev hit : ℕ → ℕ → Bool
  hit k i = ok (part k).step (subject i)

  -- no step is left
  goes_none : (i r : ℕ) → i + 1 + r ≡ m → (eqb (i + 1) m ≡ true) ↔ Goes ok [] (spread subject (suc i) r)
  goes_none i zero e = (λ _. done, λ _. eq-eqb (i + 1) m (omega arith))
  goes_none i (suc r) e = (λ h. absurd (let q = eqb-true (i + 1) m h in omega arith), λ g. elim g [ ])

  module _ (p : Part Step) (sel : Selector Step) where
    -- a child stands at the first place
    goes_child : (path : List Subject) → p.comb ≡ child → Fits ok (p ∷ sel) path ↔ Goes ok (p ∷ sel) path
    goes_child [] c = (λ f. absurd f, λ g. elim g [ ])
    goes_child (x ∷ path) c = (λ f. here f.0 f.1, λ g. elim g [ here t g ↦ (t, g) | skip d g ↦ absurd (let z : ◌≡◌ {A = ℕ} 0 1 = cc in omega arith) ])

    -- a descendant at one of the places left
    goes_far : (f : ℕ → Bool) → p.comb ≡ descendant → ((i r : ℕ) → i + r ≡ m → (f i ≡ true) ↔ Fits ok (p ∷ sel) (spread subject i r))
        → (r i : ℕ) → i + r ≡ m → (any_from f r i ≡ true) ↔ Goes ok (p ∷ sel) (spread subject i r)
    unfolding any_from
    goes_far f c at zero i e = (λ h. no_true h, λ g. elim g [ ])
    goes_far f c at (suc r) i e =
        let l = goes_far f c at r (suc i) (omega arith) in
        let here-is = at i (suc r) e in
        rw add-one (by_test (f i)
        (λ t. (λ _. let h = here-is.0 t in here h.0 h.1, λ _. rw t))
        (λ t. (
          λ h. skip c (l.0 (rw t at h)),
          λ g. elim g [ here a b ↦ no_true (sym t ∙ here-is.1 (a, b)) | skip d b ↦ rw t (l.1 b) ],
        )))

  -- The steps from k on fit with step k at place i
  from_is : (after k i r : ℕ) → k + suc after ≡ n → i + r ≡ m → (fits_from hit far m after k i ≡ true) ↔ Fits ok (spread part k (suc after)) (spread subject i r)
  unfolding fits_from
  from_is zero k i zero s e = rw (le-ltb i m (omega arith)) (λ h. no_true h, λ f. absurd f)
  from_is zero k i (suc r) s e = rw (lt-ltb i m (omega arith)) (and_then (hit k i) _ (goes_none i r (omega arith)))
  from_is (suc after) k i zero s e = rw (le-ltb i m (omega arith)) (λ h. no_true h, λ f. absurd f)
  from_is (suc after) k i (suc r) s e =
      let next : m - (i + 1) ≡ r = omega arith in
      let at : (j q : ℕ) → j + q ≡ m → (fits_from hit far m after (suc k) j ≡ true) ↔ Fits ok (spread part (suc k) (suc after)) (spread subject j q) = λ j q. from_is after (suc k) j q (omega arith) in
      rw (lt-ltb i m (omega arith), next, add-one k, add-one i)
      (and_then (hit k i) _
      (by_test (far k)
      (λ t. rw t (goes_far (part (suc k)) (spread part (suc (suc k)) after) (λ j. fits_from hit far m after (suc k) j) (tied k (omega arith) ∙ ap (λ (b : Bool). cond b descendant child) t) at r (suc i) (omega arith)))
      (λ t. rw t (Iff.trans (at (suc i) r (omega arith)) (goes_child (part (suc k)) (spread part (suc (suc k)) after) (spread subject (suc i) r) (tied k (omega arith) ∙ ap (λ (b : Bool). cond b descendant child) t))))))

-- ---- rows

comb_is : (c : Comb) → c ≡ cond (descends c) descendant child
comb_is child = refl
comb_is descendant = refl

abbrev part_at : List ℕ → List ℕ → ℕ → Part Tags
part_at steps combinators k = record { comb = comb_before combinators k; step = step_at steps k }

-- Matching says yes exactly if the selector fits the path,
pub fits_is : (steps : List ℕ) (n : ℕ) (combinators path : List ℕ) (m : ℕ)
    → (fits steps n combinators path m ≡ true) ↔ Fits step_matches (selector_of steps combinators n) (path_of path m)
unfolding fits selector_of path_of
fits_is steps zero combinators path zero = (λ _. tt, λ _. refl)
fits_is steps zero combinators path (suc m) = (λ e. absurd (let z = eqb-true (suc m) 0 e in omega arith), λ f. absurd f)
fits_is steps (suc n) combinators path m =
    from_is step_matches (part_at steps combinators) (subject_at path) (far_at combinators) m (suc n) (λ k l. comb_is (comb_of (get_or combinators k 0))) n 0 0 m (omega arith) (omega arith)

-- that is, if its steps can be given places as 01 says,
pub fits_places : (steps : List ℕ) (n : ℕ) (combinators path : List ℕ) (m : ℕ)
    → (fits steps n combinators path m ≡ true) ↔ Places step_matches (selector_of steps combinators n) (path_of path m)
fits_places steps n combinators path m = Iff.trans (fits_is steps n combinators path m) (places.fits_places step_matches _ _)

yes_is : (b : Bool) → (matching_told (Ok b) ≡ 0 ∷ 1 ∷ []) ↔ (b ≡ true)
yes_is true = (λ _. refl, λ _. refl)
yes_is false = (λ e. absurd (let z : ◌≡◌ {A = ℕ} 0 1 = cc in omega arith), λ e. no_true e)

-- and so is the answer of a call that is not refused;
pub matching_places : (steps : List ℕ) (n : ℕ) (combinators : List ℕ) (c : ℕ) (path : List ℕ) (m : ℕ) → path_verdict steps n combinators c path m ≡ 0
    → (matching_of steps n combinators c path m ≡ 0 ∷ 1 ∷ []) ↔ Places step_matches (selector_of steps combinators n) (path_of path m)
unfolding matching_of
matching_places steps n combinators c path m z =
    rw (told_is steps n combinators c path m (sym z))
    (Iff.trans (yes_is (fits steps n combinators path m)) (fits_places steps n combinators path m))

-- ---- tails

pub subject_drop : (path : List ℕ) (j i : ℕ) → subject_at (drop (38 * j) path) i ≡ subject_at path (j + i)
unfolding row_at
subject_drop path j i =
    let a : 38 * (j + i) ≡ 38 * j + 38 * i = omega arith in
    simp (get_or-drop, drop-drop, a, ← add_assoc)

-- the rows after the first j are the path's tail
path_drop : (path : List ℕ) (j m : ℕ) → path_of (drop (38 * j) path) (m - j) ≡ drop j (path_of path m)
unfolding path_of
path_drop path j m =
    spread_same (subject_at (drop (38 * j) path)) (λ i. subject_at path (j + i)) 0 (m - j) (λ i p q. subject_drop path j i)
    ∙ spread_shift (subject_at path) j 0 (m - j)
    ∙ rw (add-zero, drop_spread (subject_at path) j 0 m, zero-add)

-- The selector of n + 1 steps as a chain, and the last element of a path of m + 1 subjects
abbrev pub chain_at : List ℕ → List ℕ → ℕ → Chain Tags
chain_at steps combinators n = chain_of (part_at steps combinators 0) (spread (part_at steps combinators) 1 n)

abbrev pub element_at : List ℕ → ℕ → Element Tags
element_at path m = element_of (subject_at path 0) (spread (subject_at path) 1 m)

-- and it says yes of some tail of the path, the first j subjects left out, exactly if Level 3 says that the selector represents the path's last element.
-- (That the first step stands at the first place is 01's own.)
pub fits_level3 : (steps : List ℕ) (n : ℕ) (combinators path : List ℕ) (m : ℕ)
    → ((j : ℕ) × (fits steps (suc n) combinators (drop (38 * j) path) (suc m - j) ≡ true)) ↔ Represents step_matches (chain_at steps combinators n) (element_at path m)
unfolding selector_of path_of
fits_level3 steps n combinators path m =
    let tail = represents_tail step_matches (part_at steps combinators 0) (spread (part_at steps combinators) 1 n) (subject_at path 0) (spread (subject_at path) 1 m) in
    let at : (j : ℕ) → (fits steps (suc n) combinators (drop (38 * j) path) (suc m - j) ≡ true) ↔ Fits step_matches (selector_of steps combinators (suc n)) (drop j (path_of path (suc m))) =
    λ j. rw (path_drop path j (suc m)) at (fits_is steps (suc n) combinators (drop (38 * j) path) (suc m - j)) in
    (λ t. tail.1 (t.0, (at t.0).0 t.1), λ r. let t = tail.0 r in (t.0, (at t.0).1 t.1))
