-- Laws of the comparison of two lists of numbers: it is a total order, and what a loop that compares from the left knows. Assumes nothing.
use mathlib.Core.Path.{◌≡◌, refl, sym, ap, ap₂, ◌∙◌}
use mathlib.Core.Logic.{◌⊎◌, inl, inr, ⊎_elim}
use mathlib.Core.List.{List, [], ◌∷◌}
use Prim.Native.Nat.{ℕ, suc, ◌<◌, ◌≤◌}
use native.Mathlib.Omega.{arith}
use lib.ListN.{length, get_or, drop, drop_of_length-le}
use lib.Seq.{drop-cons}
use lib.IntN.{pos, negsuc, neg_ℤ, nat_abs, pos-ne-negsuc}
use borrow.Author.Tests.{lt-ltb, le-ltb}
use Rattle.theory.specs.Lists.{compare}
use Rattle.theory.proofs.Lists.{le_or_lt}

-- ---- by the first numbers

module _ (x y : ℕ) (a b : List ℕ) where
  -- a lesser first number: before
  pub compare_less : x < y → compare (x ∷ a) (y ∷ b) ≡ negsuc 0
  unfolding compare
  compare_less h = rw (lt-ltb x y h)

  -- a greater one: after
  pub compare_more : y < x → compare (x ∷ a) (y ∷ b) ≡ pos 1
  unfolding compare
  compare_more h = rw (le-ltb x y (omega arith), lt-ltb y x h)

  -- the same one: the rest decides
  pub compare_same : x ≡ y → compare (x ∷ a) (y ∷ b) ≡ compare a b
  unfolding compare
  compare_same h = rw (le-ltb x y (omega arith), le-ltb y x (omega arith))

-- a list stands after its own beginning
pub compare_longer : (x : ℕ) (a : List ℕ) → compare (x ∷ a) [] ≡ pos 1
unfolding compare
compare_longer x a = refl

-- and a beginning before
pub compare_shorter : (y : ℕ) (b : List ℕ) → compare [] (y ∷ b) ≡ negsuc 0
unfolding compare
compare_shorter y b = refl

-- ---- a total order

-- exchanging the sides negates: -1 and 1 change places, and 0 stays
pub compare_sign : (a b : List ℕ) → compare b a ≡ neg_ℤ (compare a b)
compare_sign [] [] = unfold compare in refl
compare_sign [] (y ∷ b) = unfold compare in refl
compare_sign (x ∷ a) [] = unfold compare in refl
compare_sign (x ∷ a) (y ∷ b) =
    ⊎_elim
    (λ p. ⊎_elim (λ q. rw (compare_same y x b a (omega arith), compare_same x y a b (omega arith)) (compare_sign a b))
    (λ q. rw (compare_more y x b a q, compare_less x y a b q)) (le_or_lt y x))
    (λ p. rw (compare_less y x b a p, compare_more x y a b p))
    (le_or_lt x y)

-- a list and itself: 0
pub compare_refl : (a : List ℕ) → compare a a ≡ pos 0
compare_refl [] = unfold compare in refl
compare_refl (x ∷ a) = compare_same x x a a refl ∙ compare_refl a

-- 0 only where the lists are the same
pub compare_zero : (a b : List ℕ) → compare a b ≡ pos 0 → a ≡ b
compare_zero [] [] e = refl
compare_zero [] (y ∷ b) e = absurd (pos-ne-negsuc 0 0 (sym e ∙ compare_shorter y b))
compare_zero (x ∷ a) [] e = let z : ◌≡◌ {A = ℕ} 0 1 = ap nat_abs (sym e ∙ compare_longer x a) in absurd (omega arith)
compare_zero (x ∷ a) (y ∷ b) e =
    ⊎_elim
    (λ p. ⊎_elim (λ q. let s : x ≡ y = omega arith in ap₂ ◌∷◌ s (compare_zero a b (sym (compare_same x y a b s) ∙ e)))
    (λ q. absurd (pos-ne-negsuc 0 0 (sym e ∙ compare_less x y a b q))) (le_or_lt y x))
    (λ p. let z : ◌≡◌ {A = ℕ} 0 1 = ap nat_abs (sym e ∙ compare_more x y a b p) in absurd (omega arith))
    (le_or_lt x y)

-- no answer but -1, 0 and 1
pub compare_cases : (a b : List ℕ) → (compare a b ≡ negsuc 0) ⊎ ((compare a b ≡ pos 0) ⊎ (compare a b ≡ pos 1))
compare_cases [] [] = inr (inl (unfold compare in refl))
compare_cases [] (y ∷ b) = inl (compare_shorter y b)
compare_cases (x ∷ a) [] = inr (inr (compare_longer x a))
compare_cases (x ∷ a) (y ∷ b) =
    ⊎_elim
    (λ p. ⊎_elim (λ q. rw (compare_same x y a b (omega arith)) (compare_cases a b)) (λ q. inl (compare_less x y a b q)) (le_or_lt y x))
    (λ p. inr (inr (compare_more x y a b p)))
    (le_or_lt x y)

-- before, by the first numbers
compare_head : (x y : ℕ) (a b : List ℕ) → compare (x ∷ a) (y ∷ b) ≡ negsuc 0 → (x < y) ⊎ ((x ≡ y) × (compare a b ≡ negsuc 0))
compare_head x y a b e =
    ⊎_elim
    (λ p. ⊎_elim (λ q. let s : x ≡ y = omega arith in inr (s, sym (compare_same x y a b s) ∙ e)) (λ q. inl q) (le_or_lt y x))
    (λ p. absurd (pos-ne-negsuc 1 0 (sym (compare_more x y a b p) ∙ e)))
    (le_or_lt x y)

-- before what stands before: before
pub compare_trans : (a b c : List ℕ) → compare a b ≡ negsuc 0 → compare b c ≡ negsuc 0 → compare a c ≡ negsuc 0
compare_trans [] [] c e f = f
compare_trans [] (y ∷ b) [] e f = absurd (pos-ne-negsuc 1 0 (sym (compare_longer y b) ∙ f))
compare_trans [] (y ∷ b) (z ∷ c) e f = compare_shorter z c
compare_trans (x ∷ a) [] c e f = absurd (pos-ne-negsuc 1 0 (sym (compare_longer x a) ∙ e))
compare_trans (x ∷ a) (y ∷ b) [] e f = absurd (pos-ne-negsuc 1 0 (sym (compare_longer y b) ∙ f))
compare_trans (x ∷ a) (y ∷ b) (z ∷ c) e f =
    ⊎_elim
    (λ p. ⊎_elim (λ q. compare_less x z a c (omega arith)) (λ q. let s = q.0 in compare_less x z a c (omega arith)) (compare_head y z b c f))
    (λ p. let s = p.0 in ⊎_elim (λ q. compare_less x z a c (omega arith))
    (λ q. let t = q.0 in compare_same x z a c (omega arith) ∙ compare_trans a b c p.1 q.1) (compare_head y z b c f))
    (compare_head x y a b e)

-- ---- the comparison from position i on, by what the lists have there

module _ (a b : List ℕ) (i : ℕ) where
  -- a lesser number: before
  pub compare_at_less : i < length a → i < length b → get_or a i 0 < get_or b i 0 → compare (drop i a) (drop i b) ≡ negsuc 0
  compare_at_less g h k = rw (drop-cons a i 0 g, drop-cons b i 0 h) (compare_less _ _ _ _ k)

  -- a greater one: after
  pub compare_at_more : i < length a → i < length b → get_or b i 0 < get_or a i 0 → compare (drop i a) (drop i b) ≡ pos 1
  compare_at_more g h k = rw (drop-cons a i 0 g, drop-cons b i 0 h) (compare_more _ _ _ _ k)

  -- the same one: the rest decides
  pub compare_at_same : i < length a → i < length b → get_or a i 0 ≡ get_or b i 0 → compare (drop i a) (drop i b) ≡ compare (drop (suc i) a) (drop (suc i) b)
  compare_at_same g h k = rw (drop-cons a i 0 g, drop-cons b i 0 h) (compare_same _ _ _ _ k)

  -- only the first has one: after
  pub compare_at_longer : i < length a → length b ≤ i → compare (drop i a) (drop i b) ≡ pos 1
  compare_at_longer g h = rw (drop-cons a i 0 g, drop_of_length-le b h) (compare_longer _ _)

  -- only the second has one: before
  pub compare_at_shorter : length a ≤ i → i < length b → compare (drop i a) (drop i b) ≡ negsuc 0
  compare_at_shorter g h = rw (drop_of_length-le a g, drop-cons b i 0 h) (compare_shorter _ _)

  -- neither has one: the same
  pub compare_at_end : length a ≤ i → length b ≤ i → compare (drop i a) (drop i b) ≡ pos 0
  compare_at_end g h = rw (drop_of_length-le a g, drop_of_length-le b h) (compare_refl [])
