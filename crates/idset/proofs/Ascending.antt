-- Laws of ascending lists from an index on, and of the loop that tests for one. Assumes nothing.
use mathlib.Core.Path.{◌≡◌, refl, sym, ◌∙◌}
use mathlib.Core.Bool.{true, false}
use mathlib.Core.List.{List, [], ◌∷◌}
use Prim.Native.Nat.{ℕ, zero, suc, ◌+◌, ◌≤◌, ◌<◌}
use native.Mathlib.Numerals.{add-one}
use native.Mathlib.Omega.{arith}
use lib.ListN.{length, get_or, drop, drop_of_length-le}
use lib.Seq.{drop-cons}
use borrow.Author.Tests.{le-leb, lt-leb, ne_eqb}
use Rattle.theory.specs.Lists.{ascends_from, ascends, member}
use Rattle.theory.proofs.Lists.{ascends_head, ascends_tail, ascends_cons}

-- each element is at least the bound
pub ascends_above : (l : List ℕ) (low k : ℕ) → ascends_from low l ≡ true → k < length l → low ≤ get_or l k 0
ascends_above [] low k e h = absurd (omega arith)
ascends_above (a ∷ l) low zero e h = ascends_head low a l e
ascends_above (a ∷ l) low (suc k) e h =
    omega (arith, ascends_head low a l e, ascends_above l (suc a) k (ascends_tail low a l e) (omega arith))

-- what is below the bound is no member
pub member_below : (x low : ℕ) (l : List ℕ) → ascends_from low l ≡ true → x < low → member x l ≡ false
unfolding member
member_below x low [] e h = refl
member_below x low (a ∷ l) e h =
    let g = ascends_head low a l e in
    rw (ne_eqb a x (omega arith)) (member_below x (suc a) l (ascends_tail low a l e) (omega arith))

weaken : (low low' : ℕ) (l : List ℕ) → low ≤ low' → ascends_from low' l ≡ true → ascends_from low l ≡ true
weaken low low' [] h e = unfold ascends_from in refl
weaken low low' (a ∷ l) h e = let g = ascends_head low' a l e in ascends_cons low a l (omega arith) (ascends_tail low' a l e)

pub ascends_drop : (low i : ℕ) (l : List ℕ) → ascends_from low l ≡ true → ascends_from low (drop i l) ≡ true
ascends_drop low zero l e = e
ascends_drop low (suc i) [] e = e
ascends_drop low (suc i) (a ∷ l) e =
    let g = ascends_head low a l e in
    weaken low (suc a) (drop i l) (omega arith) (ascends_drop (suc a) i l (ascends_tail low a l e))

-- a test of the list at i: what is left decides the whole
pub record Ascent (l : List ℕ) (low i : ℕ) : Type 0 where
  pub within : i ≤ length l
  pub left : ascends l ≡ ascends_from low (drop i l)

pub ascent_start : {l : List ℕ} → Ascent l 0 0
ascent_start = record { within = omega arith; left = refl }

module _ {l : List ℕ} {low i : ℕ} (a : Ascent l low i) where
  pub ascent_stop : i < length l → get_or l i 0 < low → false ≡ ascends l
  unfolding ascends_from
  ascent_stop h g = sym (a.left ∙ rw (drop-cons l i 0 h, lt-leb low (get_or l i 0) g))

  pub ascent_next : i < length l → low ≤ get_or l i 0 → Ascent l (get_or l i 0 + 1) (i + 1)
  unfolding ascends_from
  ascent_next h g = record {
    within = omega arith;
    left = rw (add-one (get_or l i 0), add-one i) (a.left ∙ rw (drop-cons l i 0 h, le-leb low (get_or l i 0) g));
  }

  pub ascent_end : length l ≤ i → true ≡ ascends l
  unfolding ascends_from
  ascent_end h = sym (a.left ∙ rw (drop_of_length-le l h))
