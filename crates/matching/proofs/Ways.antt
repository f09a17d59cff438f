-- A law for each way through matching, with n steps in all. Assumes nothing.
use mathlib.Core.Path.{◌≡◌, sym, ◌∙◌}
use mathlib.Core.Bool.{Bool, true, false, not}
use Prim.Native.Nat.{ℕ, zero, suc, ◌+◌, ◌-◌, ◌≤◌, ◌<◌}
use native.Mathlib.Omega.{arith}
use lib.Dec.{eqb}
use borrow.Author.Tests.{lt-ltb, le-ltb, not-true, not-false}
use Rattle.selector.specs.Matching.{fits_from, any_from}

pub none_left : (n k : ℕ) → n ≤ k → n - k ≡ 0
none_left n k h = omega arith

pub one_left : (n k : ℕ) → k < n → n - k ≡ suc (n - (k + 1))
one_left n k h = omega arith

pub missed : (b hit : Bool) → b ≡ hit → not b ≡ true → hit ≡ false
missed b hit e t = sym e ∙ not-true b t

pub matched : (b hit : Bool) → b ≡ hit → not b ≡ false → hit ≡ true
matched b hit e t = sym e ∙ not-false b t

module _ (hit : ℕ → ℕ → Bool) (m k i : ℕ) where
  pub fits_missing : (far : ℕ → Bool) (after : ℕ) → m ≤ i → false ≡ fits_from hit far m after k i
  unfolding fits_from
  fits_missing far zero h = simp (le-ltb i m h)
  fits_missing far (suc after) h = simp (le-ltb i m h)

  module _ (h : i < m) (b : Bool) (e : b ≡ hit k i) where
    pub fits_mismatch : (far : ℕ → Bool) (after : ℕ) → not b ≡ true → false ≡ fits_from hit far m after k i
    unfolding fits_from
    fits_mismatch far zero t = simp (lt-ltb i m h, missed b _ e t)
    fits_mismatch far (suc after) t = simp (lt-ltb i m h, missed b _ e t)

    module _ (t : not b ≡ false) (n : ℕ) where
      -- the last step
      pub fits_ends : n ≤ k + 1 → (far : ℕ → Bool) → eqb (i + 1) m ≡ fits_from hit far m (n - (k + 1)) k i
      unfolding fits_from
      fits_ends l far = rw (none_left n (k + 1) l) (simp (lt-ltb i m h, matched b _ e t))

      -- a step with more after it
      module _ (l : k + 1 < n) (far : ℕ → Bool) (f : Bool) (c : f ≡ far k) where
        pub fits_child : f ≡ false → (r : Bool) → r ≡ fits_from hit far m (n - (k + 1 + 1)) (k + 1) (i + 1) → r ≡ fits_from hit far m (n - (k + 1)) k i
        unfolding fits_from
        fits_child g r q = rw (one_left n (k + 1) l) (simp (lt-ltb i m h, matched b _ e t, ← c, g) q)

        pub fits_descendant : f ≡ true → (r : Bool) → r ≡ any_from (fits_from hit far m (n - (k + 1 + 1)) (k + 1)) (m - (i + 1)) (i + 1) → r ≡ fits_from hit far m (n - (k + 1)) k i
        unfolding fits_from
        fits_descendant g r q = rw (one_left n (k + 1) l) (simp (lt-ltb i m h, matched b _ e t, ← c, g) q)

module _ (f : ℕ → Bool) (m from : ℕ) where
  pub any_none : m ≤ from → false ≡ any_from f (m - from) from
  unfolding any_from
  any_none h = rw (none_left m from h)

  module _ (h : from < m) (b : Bool) (e : b ≡ f from) where
    pub any_here : b ≡ true → true ≡ any_from f (m - from) from
    unfolding any_from
    any_here t = rw (one_left m from h, ← e, t)

    pub any_later : b ≡ false → (r : Bool) → r ≡ any_from f (m - (from + 1)) (from + 1) → r ≡ any_from f (m - from) from
    unfolding any_from
    any_later t r g = rw (one_left m from h, ← e, t) g

pub ruleset matching = (fits_missing, fits_mismatch, fits_ends, fits_child, fits_descendant, any_none, any_here, any_later)
