-- Laws of a test of every number below a bound. Assumes nothing.
use mathlib.Core.Path.{◌≡◌, refl, sym, ap, ◌∙◌}
use mathlib.Core.Bool.{Bool, true, false, ◌&&◌, and-false}
use mathlib.Core.Logic.{⊎_elim}
use Prim.Native.Nat.{ℕ, zero, suc, ◌+◌, ◌≤◌, ◌<◌}
use native.Mathlib.Nat.{eq-or-lt_of_le, le_of_suc-le-suc}
use native.Mathlib.Numerals.{add-one}
use native.Mathlib.Omega.{arith}
use Rattle.theory.proofs.Lists.{and_left, and_right}
use Rattle.lent.specs.All.{all_below}

module _ (p : ℕ → Bool) where
  -- no number
  pub all_none : all_below 0 p ≡ true
  unfolding all_below
  all_none = refl

  -- one more number
  pub all_more : (i : ℕ) → all_below i p ≡ true → p i ≡ true → all_below (i + 1) p ≡ true
  unfolding all_below
  all_more i e h = rw (add-one, e, h)

  -- the test holds at each
  pub all_at : (n k : ℕ) → k < n → all_below n p ≡ true → p k ≡ true
  unfolding all_below
  all_at zero k h e = absurd (omega arith)
  all_at (suc n) k h e =
      ⊎_elim (λ q. ap p q ∙ and_right (all_below n p) (p n) e) (λ l. all_at n k l (and_left (all_below n p) (p n) e)) (eq-or-lt_of_le (le_of_suc-le-suc h))

  -- one number where the test fails
  pub all_fails : (n k : ℕ) → k < n → p k ≡ false → all_below n p ≡ false
  unfolding all_below
  all_fails zero k h e = absurd (omega arith)
  all_fails (suc n) k h e =
      ⊎_elim (λ q. ap (λ b. all_below n p && b) (ap p (sym q) ∙ e) ∙ and-false (all_below n p)) (λ l. rw (all_fails n k l e)) (eq-or-lt_of_le (le_of_suc-le-suc h))

  -- what a loop that counts up to n has shown where it ends
  pub all_done : (n k : ℕ) → k ≤ n → n ≤ k → all_below k p ≡ true → true ≡ all_below n p
  all_done n k l g e = let q : n ≡ k = omega arith in rw q (sym e)

  -- where it holds at each
  pub all_intro : (n : ℕ) → ((k : ℕ) → k < n → p k ≡ true) → all_below n p ≡ true
  unfolding all_below
  all_intro zero h = refl
  all_intro (suc n) h = rw (all_intro n (λ k l. h k (omega arith)), h n (omega arith))

-- a loop that tests p of each number below n, at i; `search (sofar, needs)` answers what it asks
pub record Sofar (p : ℕ → Bool) (n i : ℕ) : Type 0 where
  pub within : i ≤ n
  pub holds : all_below i p ≡ true

pub sofar_start : {p : ℕ → Bool} {n : ℕ} → Sofar p n 0
sofar_start {p} {n} = record { within = omega arith; holds = all_none p }

module _ {p : ℕ → Bool} {n i : ℕ} (s : Sofar p n i) where
  pub sofar_done : n ≤ i → true ≡ all_below n p
  sofar_done h = all_done p n i s.within h s.holds

  pub sofar_more : (b : Bool) → i < n → b ≡ p i → b ≡ true → Sofar p n (i + 1)
  sofar_more b h e t = record { within = omega arith; holds = all_more p i s.holds (sym e ∙ t) }

  pub sofar_fails : (b : Bool) → i < n → b ≡ p i → b ≡ false → false ≡ all_below n p
  sofar_fails b h e t = sym (all_fails p n i h (sym e ∙ t))

pub ruleset sofar = (sofar_start, sofar_done, sofar_more, sofar_fails)
