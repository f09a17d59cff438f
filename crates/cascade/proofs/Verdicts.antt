-- The refusals of two states by each way through the code, and what is there where there is none. Assumes nothing.
use mathlib.Core.Path.{◌≡◌, refl, sym, ◌∙◌}
use mathlib.Core.Bool.{Bool, true, false}
use mathlib.Core.List.{List, [], ◌∷◌}
use Prim.Native.Nat.{ℕ, ◌<◌}
use native.Mathlib.Omega.{arith}
use Rattle.lent.specs.Refusals.{number_of, told, answered, Check, check, first_of}
use Rattle.lent.specs.declared.Refusal.{Refusal}
use Rattle.lent.proofs.Refusals.{first_stop, first_go, first_clear, refusal_number, refused_first}
use Rattle.sheet.specs.Shape.{sheet_shape}
use Rattle.table.specs.Tables.{table, states_in}
use Rattle.table.specs.Shape.{table_shape}
use Rattle.table.specs.Calls.{broken, not_a_state, state_checks, state_verdict}
use Rattle.looking.proofs.Verdicts.{shapes, one_of}
use Rattle.cascade.specs.Calls.{pair_verdict}

module _ (w h s c m tr : List ℕ) (old oldStamp new newStamp : ℕ) where
  abbrev of_old : List Check
  of_old = state_checks w (table h s c m tr) old oldStamp

  abbrev of_new : List Check
  of_new = check 4 (not_a_state h new newStamp) ∷ []

  pub pair_old : (r : Refusal) → number_of r ≡ state_verdict w (table h s c m tr) old oldStamp → number_of r ≡ pair_verdict w (table h s c m tr) old oldStamp new newStamp
  unfolding state_verdict pair_verdict
  pair_old r e = first_stop of_old of_new (number_of r) e (refusal_number r)

  module _ (e : 0 ≡ state_verdict w (table h s c m tr) old oldStamp) (a : Bool) (f : a ≡ not_a_state h new newStamp) where
    pub pair_new : a ≡ true → 4 ≡ pair_verdict w (table h s c m tr) old oldStamp new newStamp
    unfolding state_verdict pair_verdict first_of
    pair_new g = first_go of_old of_new 0 4 e refl refl (rw (← f, g))

    pub pair_both : a ≡ false → 0 ≡ pair_verdict w (table h s c m tr) old oldStamp new newStamp
    unfolding state_verdict pair_verdict first_of
    pair_both g = first_go of_old of_new 0 0 e refl refl (rw (← f, g))

pub ruleset pairs = (pair_old, pair_new, pair_both)

module _ (w h s c m tr : List ℕ) (old oldStamp new newStamp v : ℕ) (e : v ≡ pair_verdict w (table h s c m tr) old oldStamp new newStamp) where
  pub pair_passed : v ≡ 0 → ((sheet_shape w ≡ true) × (table_shape w (table h s c m tr) ≡ true)) × ((old < states_in h) × (new < states_in h))
  unfolding pair_verdict
  pair_passed z =
      let t = table h s c m tr in
      let (a, f) = first_clear 11 (broken w t) _ (omega arith) (sym e ∙ z) in
      let (b, g) = first_clear 4 (not_a_state h old oldStamp) _ (omega arith) f in
      let (d, _) = first_clear 4 (not_a_state h new newStamp) [] (omega arith) g in
      (shapes w t a, (one_of h old oldStamp b, one_of h new newStamp d))

-- ---- what a call on the two tells

module _ (w h s c m tr : List ℕ) (old oldStamp new newStamp : ℕ) where
  pub pair_refused : (r : Refusal) → number_of r ≡ pair_verdict w (table h s c m tr) old oldStamp new newStamp → (l : List ℕ) → told r ≡ answered (pair_verdict w (table h s c m tr) old oldStamp new newStamp) l
  unfolding pair_verdict
  pair_refused r e l = refused_first _ r l refl e

  pub pair_told : 0 ≡ pair_verdict w (table h s c m tr) old oldStamp new newStamp → (x a : ℕ) → x ≡ a → 0 ∷ x ∷ [] ≡ answered (pair_verdict w (table h s c m tr) old oldStamp new newStamp) (0 ∷ a ∷ [])
  pair_told e x a f = rw (← e, f)
