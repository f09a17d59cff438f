-- Lists of states: those of a table, those that a path needs, and how many numbers they hold. Assumes nothing.
use mathlib.Core.Path.{◌≡◌, refl, sym, ap, ◌∙◌}
use mathlib.Core.Bool.{Bool, true, false, cond, or-true, true≢false}
use mathlib.Core.Logic.{◌↔◌, inl, inr}
use mathlib.Core.List.Memᴰ
use mathlib.Core.List.{List, [], ◌∷◌, ◌++◌, append-nil}
use Prim.Native.Nat.{ℕ, zero, suc, ◌+◌, ◌-◌, ◌≤◌, ◌<◌}
use native.Mathlib.Nat.{zero-add}
use native.Mathlib.Numerals.{add-one}
use native.Mathlib.Omega.{arith}
use lib.ListN.{length, take, drop, length-take, length-drop}
use lib.Seq.{append_snoc}
use Rattle.theory.specs.Lists.{◌∈◌, spread, sum_below}
use Rattle.theory.specs.States.{State, Sheet, enter}
use Rattle.theory.proofs.Lists.{and_left, and_right, and_both, or_cases, append_in}
use Rattle.theory.proofs.Spreads.{spread_snoc}
use Rattle.lent.specs.Pool.{start_of, list_at}
use Rattle.lent.proofs.Pool.{Rising}
use Rattle.selector.specs.Tags.{Tags, step_matches}
use Rattle.table.specs.Shape.{same}
use Rattle.table.specs.Entering.{same_state}
use Rattle.table.proofs.Same.{same_is}
use Rattle.covered.specs.Rooms.{holds, including, held_along, numbers_of}
use Rattle.covered.proofs.Columns.{EndToEnd}
use Rattle.covered.proofs.Known.{below}
use Rattle.covered.proofs.Found.{state_is}

-- ---- members

same_state_is : (a b : State) → (same_state a b ≡ true) ↔ (a ≡ b)
same_state_is a b = (
  λ e. state_is ((same_is _ _).0 (and_left (same a.cursors b.cursors) _ e)) ((same_is _ _).0 (and_right (same a.cursors b.cursors) _ e)),
  λ e. and_both _ _ ((same_is _ _).1 (ap (λ (z : State). z.cursors) e)) ((same_is _ _).1 (ap (λ (z : State). z.matched) e)),
)

holds_is : (held : List State) (s : State) → (holds held s ≡ true) ↔ (s ∈ held)
unfolding holds
holds_is [] s = (λ e. absurd (true≢false (sym e)), λ m. absurd (Memᴰ.not-nil m))
holds_is (a ∷ held) s = (
  λ e. elim (or_cases (same_state a s) (holds held s) e) [ inl h ↦ Memᴰ.head (sym ((same_state_is a s).0 h)) | inr h ↦ Memᴰ.tail ((holds_is held s).0 h) ],
  λ m. elim (Memᴰ.cases_cons m) [ inl e ↦ rw ((same_state_is a s).1 (sym e)) | inr k ↦ rw ((holds_is held s).1 k) (or-true (same_state a s)) ],
)

module _ {held : List State} {s : State} where
  -- a state that is held is not added, and another is
  pub including_held : s ∈ held → including held s ≡ held
  including_held m = rw ((holds_is held s).1 m)

  pub including_new : (s ∈ held → ⊥) → including held s ≡ held ++ s ∷ []
  including_new out = by (holds held s) refl
    where
      by : (b : Bool) → holds held s ≡ b → cond b held (held ++ s ∷ []) ≡ held ++ s ∷ []
      by true e = absurd (out ((holds_is held s).0 e))
      by false e = refl

spread_suc : {A : Type 0} (f : ℕ → A) (n : ℕ) → spread f 0 (suc n) ≡ spread f 0 n ++ f n ∷ []
spread_suc f n = ap (spread f 0) (sym (add-one n)) ∙ spread_snoc f 0 n ∙ rw (zero-add n)

-- those below n by number
pub spread_in : {A : Type 0} (f : ℕ → A) (n : ℕ) (a : A) → (a ∈ spread f 0 n) ↔ ((k : ℕ) × (k < n) × (f k ≡ a))
spread_in f zero a = (λ m. absurd (Memᴰ.not-nil m), λ h. absurd (omega (arith, h.1)))
spread_in f (suc n) a = rw (spread_suc f n) (
  λ m. elim ((append_in (spread f 0 n) (f n ∷ []) a).0 m) [
    | inl h ↦ let (k, l, e) = (spread_in f n a).0 h in (k, omega arith, e)
    | inr h ↦ elim (Memᴰ.cases_cons h) [ inl e ↦ (n, omega arith, sym e) | inr g ↦ absurd (Memᴰ.not-nil g) ]
  ],
  λ h. let (k, l, e) = h in (append_in (spread f 0 n) (f n ∷ []) a).1 (elim (below k n (omega arith)) [
    | inl m ↦ inl ((spread_in f n a).1 (k, m, e))
    | inr q ↦ inr (Memᴰ.head (sym e ∙ ap f q))
  ]),
)

-- ---- the states that a path needs begin with those held

pub along_more : (sheet : Sheet Tags) (path : List Tags) (held : List State) (s : State) → (more : List State) × (held_along sheet held s path ≡ held ++ more)
unfolding held_along
along_more sheet [] held s = ([], sym (append-nil held))
along_more sheet (x ∷ path) held s =
    let next = enter step_matches sheet s x in
    let (more, e) = along_more sheet path (including held next) next in
    by next (holds held next) more e
  where
    by : (next : State) (b : Bool) (more : List State) → held_along sheet (including held next) next path ≡ cond b held (held ++ next ∷ []) ++ more
        → (all : List State) × (held_along sheet (including held next) next path ≡ held ++ all)
    by next true more e = (more, e)
    by next false more e = (next ∷ more, e ∙ append_snoc held next more)

-- ---- numbers

module _ (f : State → List ℕ) where
  pub numbers_append : (a b : List State) → numbers_of f (a ++ b) ≡ numbers_of f a + numbers_of f b
  numbers_append [] b = sym (zero-add (numbers_of f b))
  numbers_append (s ∷ a) b = omega (arith, numbers_append a b)

  pub numbers_spread : (at : ℕ → State) (n : ℕ) → numbers_of f (spread at 0 n) ≡ sum_below (λ k. length (f (at k))) n
  unfolding sum_below
  numbers_spread at zero = refl
  numbers_spread at (suc n) = ap (numbers_of f) (spread_suc at n) ∙ numbers_append (spread at 0 n) (at n ∷ []) ∙ omega (arith, numbers_spread at n)

-- ---- a column's numbers are those of its lists

module _ (ends : ℕ → ℕ) (pool : List ℕ) where
  start_sum : (n : ℕ) → Rising n ends → start_of ends n ≤ length pool → start_of ends n ≡ sum_below (λ k. length (list_at ends pool k)) n
  unfolding start_of sum_below list_at
  start_sum zero r h = refl
  start_sum (suc n) r h =
      let up = r n (omega arith) in
      let long : length (take (ends n - start_of ends n) (drop (start_of ends n) pool)) ≡ ends n - start_of ends n = simp (length-take, length-drop) (omega arith) in
      omega (arith, long, start_sum n (λ k l. r k (omega arith)) (omega arith))

  pub column_sum : {n total : ℕ} → EndToEnd ends n total pool → total ≡ sum_below (λ k. length (list_at ends pool k)) n
  column_sum {n} e = sym e.last ∙ start_sum n e.rise (omega (arith, e.last, e.room))
