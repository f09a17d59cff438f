-- Laws of what a cursor yields: within the list the rule at its index, and the next index; at the end nothing, and no further. So from index 0 its steps yield the whole list, in order and once. Assumes nothing.
use mathlib.Core.Path.{◌≡◌, refl, sym, ap, ◌∙◌}
use mathlib.Core.Logic.{inl, inr, ⊎_elim}
use mathlib.Core.List.{List, [], ◌∷◌}
use Prim.Native.Nat.{ℕ, zero, suc, ◌+◌, ◌<◌, ◌≤◌}
use native.Mathlib.Numerals.{add-one}
use native.Mathlib.Omega.{arith}
use lib.ListN.{length, get_or, take, drop, drop_of_length-le}
use lib.Dec.{ltb}
use lib.Seq.{take-nil, take_all, drop-cons}
use borrow.Author.Tests.{lt-ltb, le-ltb, ltb-true, ltb-false}
use Rattle.theory.proofs.Lists.{le_or_lt}
use denote.Ref.{Bor}
use Rattle.std.specs.Prelude.{Option, Some, None, is_some, IfSome, ⊤}
use Rattle.std.specs.Option.{option_copied}
use Rattle.std.specs.Iterator.{YieldsFirst, MakesProgress, item_count}
use Rattle.std.proofs.lemmas.Grind.{get_or_default_zero}
use Rattle.cursor.specs.declared.RuleCursor.{RuleCursor}
use Rattle.cursor.specs.Yielding.{next_told, next_of, index_after, rules_left, yielded}

-- ---- one step
module _ (rules : List ℕ) (k : ℕ) where
  pub next_within : k < length rules → next_of rules k ≡ 1 ∷ get_or rules k 0 ∷ []
  unfolding next_of
  next_within h = simp (lt-ltb _ _ h)

  pub index_within : k < length rules → index_after rules k ≡ k + 1
  unfolding index_after
  index_within h = simp (lt-ltb _ _ h)

  pub next_end : length rules ≤ k → next_of rules k ≡ 0 ∷ []
  unfolding next_of
  next_end h = simp (le-ltb _ _ h)

  pub index_end : length rules ≤ k → index_after rules k ≡ k
  unfolding index_after
  index_end h = simp (le-ltb _ _ h)

  -- what a look-up finds is told
  pub looked_up : (g : Option (Bor ℕ)) → is_some g ≡ ltb k (length rules) → IfSome g (λ x. x.now ≡ get_or rules k x.now) → next_told (option_copied g) ≡ next_of rules k
  looked_up None e h = sym (next_end (ltb-false k (length rules) (sym e)))
  looked_up (Some x) e h = let l = ltb-true k (length rules) (sym e) in rw (next_within l, h) (rw (get_or_default_zero rules k x.now l) refl)

  -- nothing is told only at the end, and a rule only within
  told_none : next_told None ≡ next_of rules k → length rules ≤ k
  told_none t = ⊎_elim (λ h. h) (λ h. let z : 0 ≡ 1 = ap (λ l. get_or l 0 0) (t ∙ next_within h) in absurd (omega arith)) (le_or_lt (length rules) k)

  told_some : (x : ℕ) → next_told (Some x) ≡ next_of rules k → (k < length rules) × (x ≡ get_or rules k 0)
  told_some x t = ⊎_elim (λ h. let z : 1 ≡ 0 = ap (λ l. get_or l 0 0) (t ∙ next_end h) in absurd (omega arith)) (λ h. (h, ap (λ l. get_or l 1 0) (t ∙ next_within h))) (le_or_lt (length rules) k)

-- ---- a cursor as an iterator over what is left

module _ (c d : RuleCursor) (e : d.rules.now ≡ c.rules.now) (i : d.index ≡ index_after c.rules.now c.index) where
  pub cursor_steps : (r : Option ℕ) → next_told r ≡ next_of c.rules.now c.index → YieldsFirst rules_left c r d
  cursor_steps None t = let h = told_none c.rules.now c.index t in let z = drop_of_length-le c.rules.now h in (z, rw (i, e, index_end c.rules.now c.index h) z)
  cursor_steps (Some x) t = let h = told_some c.rules.now c.index x t in rw (i, e, index_within c.rules.now c.index h.0, h.1, add-one c.index) (drop-cons c.rules.now c.index 0 h.0)

  pub cursor_goes : (r : Option ℕ) → next_told r ≡ next_of c.rules.now c.index → MakesProgress (λ (x : RuleCursor). ⊤) (item_count rules_left) c r d
  cursor_goes None t = record { on = λ f. tt; keeps = tt; rests = λ f. f }
  cursor_goes (Some x) t = let s = ap length (cursor_steps (Some x) t) in record { on = λ f. (tt, f, omega arith); keeps = tt; rests = λ f. tt }

-- ---- n steps from the index k: the index after them
unfoldable pub index_in : List ℕ → ℕ → ℕ → ℕ
index_in rules zero k = k
index_in rules (suc n) k = index_in rules n (index_after rules k)

module _ (rules : List ℕ) where
  pub yields : (n k : ℕ) → yielded rules n k ≡ take n (drop k rules)
  unfolding yielded
  yields zero k = refl
  yields (suc n) k = elim (le_or_lt (length rules) k) [
    | inl h ↦ rw (next_end rules k h, index_end rules k h, yields n k, drop_of_length-le rules h) (take-nil n)
    | inr h ↦ rw (next_within rules k h, index_within rules k h, yields n (k + 1), drop-cons rules k 0 h, add-one k) refl
  ]

  -- the whole list in order, however many steps are made past its end
  pub yields_all : (n : ℕ) → length rules ≤ n → yielded rules n 0 ≡ rules
  yields_all n h = yields n 0 ∙ take_all n rules h

  ends_from : (n k : ℕ) → k ≤ length rules → length rules ≤ k + n → index_in rules n k ≡ length rules
  unfolding index_in
  ends_from zero k h l = omega arith
  ends_from (suc n) k h l = elim (le_or_lt (length rules) k) [
    | inl g ↦ rw (index_end rules k g) (ends_from n k h (omega arith))
    | inr g ↦ rw (index_within rules k g) (ends_from n (k + 1) (omega arith) (omega arith))
  ]

  -- and the index stays at the end
  pub ends_all : (n : ℕ) → length rules ≤ n → index_in rules n 0 ≡ length rules
  ends_all n h = ends_from n 0 (omega arith) (omega arith)
