-- The number of a state: that of an equal one, or the next. Assumes nothing.
use mathlib.Core.Path.{◌≡◌, refl, sym, ap, ap₂, ◌∙◌}
use mathlib.Core.Bool.{Bool, true, false, cond, true≢false}
use mathlib.Core.List.{List}
use mathlib.Core.Logic.{◌⊎◌, inl, inr}
use Prim.Native.Nat.{ℕ, zero, suc, ◌+◌, ◌≤◌, ◌<◌}
use native.Mathlib.Omega.{arith}
use native.Mathlib.Decide.{dec_le}
use Rattle.theory.specs.States.{State}
use Rattle.theory.proofs.Lists.{and_left, and_right, and_both}
use Rattle.table.specs.Tables.{Table, state_at, states_in}
use Rattle.table.specs.Shape.{same}
use Rattle.table.specs.Entering.{first_from, is_state, number_for, number_in}
use Rattle.table.proofs.Same.{same_is}

-- ---- the first number that passes

first_is : (p : ℕ → Bool) (k n : ℕ)
    → ((first_from p k n < k + n) × (p (first_from p k n) ≡ true)) ⊎ ((first_from p k n ≡ k + n) × ((j : ℕ) → k ≤ j → j < k + n → p j ≡ false))
unfolding first_from
first_is p k zero = inr (omega arith, λ j a b. absurd (omega arith))
first_is p k (suc n) = go (p k) refl (first_is p (k + 1) n)
  where
    Is : ℕ → ℕ → ℕ → Type 0
    Is k n r = ((r < k + n) × (p r ≡ true)) ⊎ ((r ≡ k + n) × ((j : ℕ) → k ≤ j → j < k + n → p j ≡ false))

    more : p k ≡ false → ((j : ℕ) → k + 1 ≤ j → j < k + 1 + n → p j ≡ false) → (j : ℕ) → k ≤ j → j < k + suc n → p j ≡ false
    more e f j a b = elim (dec_le (k + 1) j) [ yes c ↦ f j c (omega arith) | no c ↦ let q : j ≡ k = omega arith in ap p q ∙ e ]

    go : (b : Bool) → p k ≡ b → Is (k + 1) n (first_from p (k + 1) n) → Is k (suc n) (cond b k (first_from p (k + 1) n))
    go true e ih = inl (omega arith, e)
    go false e (inl h) = inl (omega (arith, h.0), h.1)
    go false e (inr h) = inr (omega (arith, h.0), more e h.1)

-- ---- an equal state

pub state_is : {a b a' b' : List ℕ} → a ≡ a' → b ≡ b' → ◌≡◌ {A = State} (record { cursors = a; matched = b }) (record { cursors = a'; matched = b' })
state_is e f = ap₂ (λ (x y : List ℕ). record { cursors = x; matched = y }) e f

module _ (t : Table) (s : State) where
  held_is : (k : ℕ) → is_state t.states t.cursors t.matched s k ≡ true → state_at t k ≡ s
  unfolding is_state
  held_is k e =
      let a = same (state_at t k).cursors s.cursors in
      state_is ((same_is _ _).0 (and_left a _ e)) ((same_is _ _).0 (and_right a _ e))

  held_not : (k : ℕ) → is_state t.states t.cursors t.matched s k ≡ false → state_at t k ≡ s → ⊥
  unfolding is_state
  held_not k f e = true≢false (sym (rw (← e) (and_both _ _ ((same_is (state_at t k).cursors _).1 refl) ((same_is (state_at t k).matched _).1 refl))) ∙ f)

  -- its number is that of an equal state, or the next one where none is held
  pub number_is : ((number_in t s < states_in t.head) × (state_at t (number_in t s) ≡ s)) ⊎ ((number_in t s ≡ states_in t.head) × ((k : ℕ) → k < states_in t.head → state_at t k ≡ s → ⊥))
  unfolding number_for
  number_is = elim (first_is (is_state t.states t.cursors t.matched s) 0 (states_in t.head)) [
    | inl h ↦ inl (omega (arith, h.0), held_is _ h.1)
    | inr h ↦ inr (omega (arith, h.0), λ k l. held_not k (h.1 k (omega arith) (omega arith)))
  ]
