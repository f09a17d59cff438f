-- Equal numbers told are equal answers, so that the contracts determine the answer and the cursor afterwards. Assumes nothing.
use mathlib.Core.Path.{◌≡◌, refl, sym, ap, ◌∙◌}
use mathlib.Core.List.{List}
use Prim.Native.Nat.{ℕ, zero, suc}
use lib.ListN.{get_or}
use denote.Ref.{Bor}
use Rattle.std.specs.Prelude.{Option, Some, None}
use Rattle.cursor.specs.Yielding.{next_told, next_of, index_after}
use Rattle.cursor.specs.declared.RuleCursor.{RuleCursor}
use Rattle.cursor.specs.declared.Yielded.{Yielded}

-- ---- read back

read_next : ℕ → ℕ → Option ℕ
read_next zero r = None
read_next (suc n) r = Some r

next_back : (r : Option ℕ) → read_next (get_or (next_told r) 0 0) (get_or (next_told r) 1 0) ≡ r
unfolding read_next
next_back (Some r) = refl
next_back None = refl

-- ---- THEOREM: any two outcomes that a call's contract allows are equal

-- a cursor is its slice and its index
pub cursor_determined : (s : Bor (List ℕ)) (k : ℕ) {c c' : RuleCursor} → (c.rules ≡ s) × (c.index ≡ k) → (c'.rules ≡ s) × (c'.index ≡ k) → c ≡ c'
cursor_determined s k {c} {c'} p q =
    ap (λ (x : Bor (List ℕ)). record { rules = x; index = c.index }) (p.0 ∙ sym q.0) ∙ ap (λ (n : ℕ). record { rules = c'.rules; index = n }) (p.1 ∙ sym q.1)

module _ (rules : List ℕ) (index : ℕ) where
  pub next_determined : {r r' : Option ℕ} → next_told r ≡ next_of rules index → next_told r' ≡ next_of rules index → r ≡ r'
  next_determined {r} {r'} p q = sym (next_back r) ∙ ap (λ l. read_next (get_or l 0 0) (get_or l 1 0)) (p ∙ sym q) ∙ next_back r'

  pub step_determined : {y y' : Yielded} → (next_told y.rule ≡ next_of rules index) × (y.index ≡ index_after rules index)
      → (next_told y'.rule ≡ next_of rules index) × (y'.index ≡ index_after rules index) → y ≡ y'
  step_determined {y} {y'} p q =
      ap (λ (r : Option ℕ). record { rule = r; index = y.index }) (next_determined p.0 q.0) ∙ ap (λ (n : ℕ). record { rule = y'.rule; index = n }) (p.1 ∙ sym q.1)
