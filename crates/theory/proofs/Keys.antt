-- Laws of the comparison of keys: it is a total order, and equal keys are the same key. Assumes nothing.
use mathlib.Core.Path.{◌≡◌, refl, sym, ap, ◌∙◌}
use mathlib.Core.Logic.{◌⊎◌, inl, inr, ◌≢◌, ◌↔◌}
use mathlib.Core.Bool.{Bool, true, false, true≢false}
use mathlib.Core.List.{List}
use Prim.Native.Nat.{ℕ, zero, suc}
use lib.ListN.{get_or}
use lib.IntN.{ℤ, pos, negsuc, neg_ℤ}
use Rattle.theory.specs.Cascade.{Key, key_numbers, compare_keys, is_one, is_zero}
use Rattle.theory.proofs.Compare.{compare_sign, compare_refl, compare_zero, compare_cases, compare_trans}

-- exchanging the sides negates: around zero -1 and 1 change places, at zero nothing changes
pub keys_sign : (a b : Key) → compare_keys b a ≡ neg_ℤ (compare_keys a b)
unfolding compare_keys
keys_sign a b = compare_sign (key_numbers a) (key_numbers b)

-- a key and itself: 0
pub keys_refl : (a : Key) → compare_keys a a ≡ pos 0
unfolding compare_keys
keys_refl a = compare_refl (key_numbers a)

-- 0 only where the keys are the same: a key is told by its numbers
pub keys_zero : (a b : Key) → compare_keys a b ≡ pos 0 → a ≡ b
unfolding compare_keys
keys_zero a b e = ap of (compare_zero (key_numbers a) (key_numbers b) e)
  where
    of : List ℕ → Key
    of l = record {
      origin = get_or l 0 0;
      weight = record { first = get_or l 1 0; second = get_or l 2 0; third = get_or l 3 0; fourth = get_or l 4 0 };
      source = get_or l 5 0;
      order = get_or l 6 0;
    }

-- below one way is above the other way,
pub keys_below : (a b : Key) → compare_keys a b ≡ negsuc 0 → compare_keys b a ≡ pos 1
keys_below a b e = keys_sign a b ∙ ap neg_ℤ e

-- and above one way is below the other way
pub keys_above : (a b : Key) → compare_keys a b ≡ pos 1 → compare_keys b a ≡ negsuc 0
keys_above a b e = keys_sign a b ∙ ap neg_ℤ e

-- no answer but -1, 0 and 1
pub keys_cases : (a b : Key) → (compare_keys a b ≡ negsuc 0) ⊎ ((compare_keys a b ≡ pos 0) ⊎ (compare_keys a b ≡ pos 1))
unfolding compare_keys
keys_cases a b = compare_cases (key_numbers a) (key_numbers b)

-- above what is above: above
pub keys_trans : (a b c : Key) → compare_keys a b ≡ pos 1 → compare_keys b c ≡ pos 1 → compare_keys a c ≡ pos 1
keys_trans a b c e f = keys_below c a (unfold compare_keys in compare_trans (key_numbers c) (key_numbers b) (key_numbers a) (keys_above b c f) (keys_above a b e))

-- not above what is not above: not above
pub keys_not_above : (a b c : Key) → compare_keys a b ≢ pos 1 → compare_keys b c ≢ pos 1 → compare_keys a c ≢ pos 1
keys_not_above a b c n m e = elim (keys_cases a b) [
  | inl h ↦ m (keys_trans b a c (keys_below a b h) e)
  | inr (inl h) ↦ m (rw (keys_zero a b h) at e)
  | inr (inr h) ↦ n h
]

-- ---- the two tests

-- it holds of 1 only
pub one_is : (z : ℤ) → (is_one z ≡ true) ↔ (z ≡ pos 1)
one_is (pos zero) = (λ e. cc, λ e. cc)
one_is (pos (suc zero)) = (λ e. refl, λ e. refl)
one_is (pos (suc (suc n))) = (λ e. cc, λ e. cc)
one_is (negsuc n) = (λ e. cc, λ e. cc)

-- and fails of all else
pub one_not : (z : ℤ) → (is_one z ≡ false) ↔ (z ≢ pos 1)
one_not z = (λ e c. true≢false (sym ((one_is z).1 c) ∙ e), λ n. not-true (is_one z) (λ c. n ((one_is z).0 c)))
  where
    not-true : (b : Bool) → b ≢ true → b ≡ false
    not-true true n = absurd (n refl)
    not-true false n = refl

-- it holds of 0 only
pub zero_is : (z : ℤ) → (is_zero z ≡ true) ↔ (z ≡ pos 0)
zero_is (pos zero) = (λ e. refl, λ e. refl)
zero_is (pos (suc n)) = (λ e. cc, λ e. cc)
zero_is (negsuc n) = (λ e. cc, λ e. cc)
