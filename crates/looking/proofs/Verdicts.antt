-- The refusals of one state, and what is there where there is none. Assumes nothing.
use mathlib.Core.Path.{◌≡◌, refl, sym, ◌∙◌}
use mathlib.Core.Bool.{true, false, not}
use mathlib.Core.List.{List, []}
use Prim.Native.Nat.{ℕ, ◌<◌}
use native.Mathlib.Omega.{arith}
use lib.Dec.{eqb}
use borrow.Author.Tests.{ltb-true, not-false}
use Rattle.theory.proofs.Lists.{and_left, and_right, or_second}
use Rattle.lent.specs.Refusals.{number_of, told, answered}
use Rattle.lent.specs.declared.Refusal.{Refusal}
use Rattle.lent.proofs.Refusals.{first_clear, refused_first}
use Rattle.sheet.specs.Shape.{sheet_shape}
use Rattle.table.specs.Tables.{Table, table, stamp_in, states_in}
use Rattle.table.specs.Shape.{table_shape}
use Rattle.table.specs.Calls.{broken, not_a_state, state_verdict}

-- ---- what a passed check says

pub shapes : (w : List ℕ) (t : Table) → broken w t ≡ false → (sheet_shape w ≡ true) × (table_shape w t ≡ true)
unfolding broken
shapes w t e = let f = not-false _ e in (and_left (sheet_shape w) _ f, and_right (sheet_shape w) _ f)

pub one_of : (h : List ℕ) (number stamp : ℕ) → not_a_state h number stamp ≡ false → number < states_in h
unfolding not_a_state
one_of h number stamp e = ltb-true number (states_in h) (not-false _ (or_second (not (eqb stamp (stamp_in h))) _ e))

-- ---- one state

module _ (w h s c m tr : List ℕ) (number stamp v : ℕ) (e : v ≡ state_verdict w (table h s c m tr) number stamp) (z : v ≡ 0) where
  pub state_passed : ((sheet_shape w ≡ true) × (table_shape w (table h s c m tr) ≡ true)) × (number < states_in h)
  unfolding state_verdict
  state_passed =
      let t = table h s c m tr in
      let (a, f) = first_clear 11 (broken w t) _ (omega arith) (sym e ∙ z) in
      let (b, _) = first_clear 4 (not_a_state h number stamp) [] (omega arith) f in
      (shapes w t a, one_of h number stamp b)

module _ (w h s c m tr : List ℕ) (number stamp : ℕ) where
  -- what an accepted call tells
  pub state_told : 0 ≡ state_verdict w (table h s c m tr) number stamp → {l a : List ℕ} → l ≡ a → l ≡ answered (state_verdict w (table h s c m tr) number stamp) a
  state_told e f = rw (← e) f

  -- and a refused one
  pub state_refused : (r : Refusal) → number_of r ≡ state_verdict w (table h s c m tr) number stamp → (a : List ℕ) → told r ≡ answered (state_verdict w (table h s c m tr) number stamp) a
  unfolding state_verdict
  state_refused r e a = refused_first _ r a refl e
