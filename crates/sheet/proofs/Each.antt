-- A test of every number below a bound, as a test of a list of numbers. Assumes nothing.
use denote.Param.Members.{Mut}
use Rattle.std.proofs.iter.Yields.{nat_range_steps}
use Rattle.std.proofs.Common.{◌≡◌, refl, sym, ◌∙◌, ℕ, zero, suc, ◌+◌, Bool, true, false, ◌&&◌, arith}
use Rattle.std.specs.declared.ops.Range.{Range}
use Rattle.std.specs.Fn.{Called}
use Rattle.std.specs.Iterator.{ChecksAll}
use Rattle.std.specs.List.{list_all, range_with_len}
use Rattle.std.proofs.lemmas.Iterator.{YieldsList-from_range}
use Rattle.std.proofs.lemmas.Iterator.Search.{all_from_yields_List}
use Rattle.lent.specs.All.{all_below}

and_assoc : (a b c : Bool) → (a && (b && c)) ≡ ((a && b) && c)
and_assoc true b c = refl
and_assoc false b c = refl

and_true : (a : Bool) → (a && true) ≡ a
and_true true = refl
and_true false = refl

module _ (p : ℕ → Bool) where
  one_more : (n a : ℕ) → list_all p (range_with_len a (suc n)) ≡ (list_all p (range_with_len a n) && p (a + n))
  one_more zero a = let z : a + 0 ≡ a = omega arith in rw (and_true, z)
  one_more (suc n) a = let z : a + 1 + n ≡ a + suc n = omega arith in rw (one_more n (a + 1), z, and_assoc)

  same : (n : ℕ) → all_below n p ≡ list_all p (range_with_len 0 n)
  unfolding all_below
  same zero = refl
  same (suc n) = let z : 0 + n ≡ n = omega arith in rw (same n, one_more n 0, z)

  -- what `(0..n).all(f)` answers, where f tells p
  pub each_below : {F : Type 0} {g : Mut F (ℕ × Unit {0}) Bool} (n : ℕ) (f : F) (u : Range ℕ) (r : Bool) → ChecksAll nat_range_steps g (record { start = 0; end = n }) f r u
      → ((x : ℕ) (b : Bool) (q : F) → Called g f (x, tt) b q → (q ≡ f) × (b ≡ p x)) → r ≡ all_below n p
  each_below n f u r ran tells = all_from_yields_List {v = λ x. x} p u f r ran (YieldsList-from_range 0 n n refl (omega arith)) tells ∙ sym (same n)
