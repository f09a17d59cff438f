-- The ways through the search for an equal state. Assumes nothing.
use mathlib.Core.Path.{◌≡◌, sym, ◌∙◌}
use mathlib.Core.Bool.{Bool, true, false, cond}
use mathlib.Core.List.{List}
use Prim.Native.Nat.{ℕ, suc, ◌+◌, ◌-◌, ◌≤◌, ◌<◌}
use native.Mathlib.Omega.{arith}
use Rattle.theory.specs.States.{State}
use Rattle.table.specs.Tables.{cursors_at, matched_at}
use Rattle.table.specs.Shape.{same}
use Rattle.table.specs.Entering.{first_from, is_state, number_for}
use Rattle.finding.specs.States.{state}

-- ---- one state

module _ (s c m nc nm : List ℕ) (k : ℕ) (lc : List ℕ) (a : Bool) (el : lc ≡ cursors_at s c k) (ea : a ≡ same lc nc) where
  pub other_cursors : a ≡ false → false ≡ is_state s c m (state nc nm) k
  unfolding is_state
  other_cursors h = rw (← el, ← ea, h)

  pub same_cursors : (lm : List ℕ) (b : Bool) → a ≡ true → lm ≡ matched_at s m k → b ≡ same lm nm → b ≡ is_state s c m (state nc nm) k
  unfolding is_state
  same_cursors lm b h f eb = rw (← el, ← ea, h, ← f) eb

-- ---- the first

-- none before k is the state x: the first from k on is the first of all
pub record Seeking (s c m : List ℕ) (n : ℕ) (x : State) (k : ℕ) : Type 0 where
  pub within : k ≤ n
  pub left : number_for s c m n x ≡ first_from (is_state s c m x) k (n - k)

pub seek_start : (s c m : List ℕ) (n : ℕ) (x : State) → Seeking s c m n x 0
unfolding number_for
seek_start s c m n x = let z : n - 0 ≡ n = omega arith in record { within = omega arith; left = rw z }

module _ {s c m : List ℕ} {n : ℕ} {x : State} {k : ℕ} (w : Seeking s c m n x k) where
  seek_at : k < n → number_for s c m n x ≡ cond (is_state s c m x k) k (first_from (is_state s c m x) (k + 1) (n - (k + 1)))
  unfolding first_from
  seek_at h = let e : n - k ≡ suc (n - (k + 1)) = omega arith in w.left ∙ rw e

  pub seek_hit : (b : Bool) → b ≡ is_state s c m x k → b ≡ true → k < n → k ≡ number_for s c m n x
  seek_hit b q t h = sym (seek_at h ∙ rw (← q, t))

  pub seek_more : (b : Bool) → b ≡ is_state s c m x k → b ≡ false → k < n → Seeking s c m n x (k + 1)
  seek_more b q t h = record { within = omega arith; left = seek_at h ∙ rw (← q, t) }

  pub seek_end : n ≤ k → n ≡ number_for s c m n x
  unfolding first_from
  seek_end h =
      let e : k ≡ n = omega (arith, w.within) in
      let z : n - k ≡ 0 = omega arith in
      sym (w.left ∙ rw (z, e))
