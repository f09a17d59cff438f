-- The rules listed in a state of a table in shape. Assumes nothing.
use mathlib.Core.Path.{◌≡◌}
use mathlib.Core.Bool.{true}
use mathlib.Core.List.{List}
use Prim.Native.Nat.{ℕ, ◌+◌, ◌-◌, ◌≤◌, ◌<◌}
use native.Mathlib.Omega.{arith}
use lib.ListN.{drop, length-take}
use lib.Seq.{get_or-take, get_or-drop}
use Rattle.std.specs.Prelude.{Option}
use Rattle.theory.specs.Lists.{ascends}
use Rattle.lent.specs.Pool.{ends_in, start_of, list_at}
use Rattle.sheet.specs.Shape.{sheet_shape}
use Rattle.table.specs.Tables.{Table, table, ranking_in, states_in, matched_ends}
use Rattle.table.specs.Shape.{table_shape}
use Rattle.table.proofs.Shaped.{shaped, matched_ends_within}
use Rattle.winners.specs.Winners.{AreRules, winner_of}
use Rattle.winners.specs.Best.{Stands}
use Rattle.winners.specs.declared.Best.{Best}
use Rattle.looking.specs.Calls.{rules_at, winner_in}

-- ---- what the shape brings

module _ (w : List ℕ) (t : Table) (e : table_shape w t ≡ true) (k : ℕ) (h : k < states_in t.head) where
  are_rules : AreRules w (rules_at t k)
  unfolding list_at
  are_rules i l =
      let s = shaped w t e in
      let ends = matched_ends t.states in
      let from = start_of ends k in
      let below : i < ends k - from = omega (arith, l, length-take (ends k - from) (drop from t.matched)) in
      rw (get_or-take (ends k - from) (drop from t.matched) i 0 below, get_or-drop from t.matched i 0)
      (s.rules_exist (from + i) (omega (arith, below, matched_ends_within s k h)))

  rise : ascends (rules_at t k) ≡ true
  rise = (shaped w t e).matched_rise k h

-- ---- what the calls on them ask

module _ (w h s c m tr : List ℕ) (e : (sheet_shape w ≡ true) × (table_shape w (table h s c m tr) ≡ true)) where
  pub ranking_fits_lem : (ranking : ℕ) → ranking ≡ ranking_in h → ranking ≤ 1
  ranking_fits_lem ranking f = rw f (shaped w (table h s c m tr) e.1).ranking

  module _ (k : ℕ) (l : k < states_in h) (rules : List ℕ) (g : rules ≡ list_at (ends_in s 1 3) m k) where
    pub rules_are : AreRules w rules
    rules_are = rw g (are_rules w (table h s c m tr) e.1 k l)

    pub rules_rise : ascends rules ≡ true
    rules_rise = rw g (rise w (table h s c m tr) e.1 k l)

-- ---- what they answer, of the state

module _ (w h s c m tr : List ℕ) (ranking : ℕ) (f : ranking ≡ ranking_in h) where
  pub winner_stands : (k : ℕ) (rules : List ℕ) → rules ≡ list_at (ends_in s 1 3) m k → (p : ℕ) (b : Option Best) → Stands w ranking p (winner_of w ranking rules p) b
      → Stands w (ranking_in h) p (winner_in w (table h s c m tr) k p) b
  winner_stands k rules g p b u = rw (f, g) at u
