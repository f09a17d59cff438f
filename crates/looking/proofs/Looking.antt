-- The winner's entry: its kind is one of the four, and what is told of it. Assumes nothing.
use mathlib.Core.Path.{◌≡◌, refl, ◌∙◌}
use mathlib.Core.Bool.{Bool, true, false}
use mathlib.Core.Option.{Option, none, some}
use Rattle.std.specs.Prelude.{Option as Optional, Some, None}
use mathlib.Core.List.Memᴰ
use mathlib.Core.List.{List, [], ◌∷◌}
use Prim.Native.Nat.{ℕ, ◌-◌, ◌≤◌}
use native.Mathlib.Omega.{arith}
use lib.Dec.{eqb}
use borrow.Author.Tests.{ltb-true}
use Rattle.theory.specs.Lists.{◌∈◌}
use Rattle.lent.specs.Refusals.{answered}
use Rattle.lent.specs.Pool.{start_of}
use Rattle.style.specs.Entries.{Entry, look_up}
use Rattle.style.specs.Looking.{kind_of, plain_kind, plain_of, resource_kind, resource_of}
use Rattle.sheet.specs.Sheets.{entry_at, style_entry_ends, rule_entry_ends, style_at, rule_at}
use Rattle.sheet.specs.Shape.{sheet_shape}
use Rattle.sheet.specs.Layout
use Rattle.sheet.proofs.Shaped.{shaped, entry_end_within, style_entry_end_within}
use Rattle.laid.proofs.Held.{spread_in}
use Rattle.table.specs.Tables.{table, ranking_in}
use Rattle.table.specs.Calls.{state_verdict}
use Rattle.winners.specs.Winners as winners
use Rattle.winners.specs.Best.{is_place, Finds}
use Rattle.winners.specs.declared.Found.{Found}
use Rattle.looking.specs.Calls.{rules_at, winner_in, entry_in}
use Rattle.looking.proofs.Listed.{rules_are}
use Rattle.looking.proofs.Verdicts.{state_passed, state_told}
use Rattle.looking.proofs.Winners.{winner_there}

-- ---- the kind

nothing : {A : Type 0} (a : A) → ◌≡◌ {A = Option A} none (some a) → ⊥
nothing a e = let z : ◌≡◌ {A = ℕ} 0 1 = cc in omega arith

same : {A : Type 0} (a b : A) → ◌≡◌ {A = Option A} (some a) (some b) → b ≡ a
same a b e = cc

-- an entry that is found is one of those there
look_in : (p : ℕ) (l : List Entry) (x : Entry) → look_up p l ≡ some x → x ∈ l
unfolding look_up
look_in p [] x e = absurd (nothing x e)
look_in p (y ∷ l) x e = by (eqb y.property p) refl (λ q. look_in p l x (rw q at e))
  where
    by : (b : Bool) → eqb y.property p ≡ b → (eqb y.property p ≡ false → x ∈ l) → x ∈ (y ∷ l)
    by true q r = Memᴰ.head (same y x (rw q at e))
    by false q r = Memᴰ.tail (r q)

module _ (w : List ℕ) (e : sheet_shape w ≡ true) where
  kind_at : (s : winners.Place) → is_place w (some s) ≡ true → (p : ℕ) (x : Entry) → winners.entry_at w s p ≡ some x → x.kind ≤ 3
  unfolding style_at rule_at entry_at
  kind_at (winners.style d) h p x q =
      let k = shaped w e in
      let l = ltb-true d (Layout.styles_in w) h in
      let from = start_of (style_entry_ends w) d in
      let (i, _, b, f) = spread_in (entry_at w Layout.STYLE-ENTRY Layout.STYLE-ENTRY-ROOM) from (style_entry_ends w d - from) x (look_in p _ x q) in
      rw f (k.style_pool.kinds i (omega (arith, b, (k.each_style d l).entries.up, style_entry_end_within k d l)))
  kind_at (winners.rule r) h p x q =
      let k = shaped w e in
      let l = ltb-true r (Layout.rules_in w) h in
      let from = start_of (rule_entry_ends w) r in
      let (i, _, b, f) = spread_in (entry_at w Layout.ENTRY Layout.ENTRY-ROOM) from (rule_entry_ends w r - from) x (look_in p _ x q) in
      rw f (k.pool.kinds i (omega (arith, b, (k.each_rule r l).entries.up, entry_end_within k r l)))

  kind_of_place : (o : Option winners.Place) → is_place w o ≡ true → (p : ℕ) (x : Entry) → winners.entry_of w o p ≡ some x → x.kind ≤ 3
  unfolding winners.entry_of
  kind_of_place none h p x q = absurd (nothing x q)
  kind_of_place (some s) h p x q = kind_at s h p x q

-- ---- found in a state

module _ (w h s c m tr : List ℕ) (number stamp p : ℕ) (z : 0 ≡ state_verdict w (table h s c m tr) number stamp)
    (f : Optional Found) (u : Finds (entry_in w (table h s c m tr) number p) f) where
  pub kind_fits : {x : Found} → f ≡ Some x → x.kind ≤ 3
  kind_fits {x} q =
      let (y, l) = state_passed w h s c m tr number stamp 0 z refl in
      let (e, g, i, _) : Finds (entry_in w (table h s c m tr) number p) (Some x) = rw q at u in
      let there = winner_there w (ranking_in h) (rules_at (table h s c m tr) number) p _ (rules_are w h s c m tr y number l _ refl) refl in
      rw i (kind_of_place w y.0 (winner_in w (table h s c m tr) number p) there p e g)

  -- what is told of it
  module _ {x : Found} (q : f ≡ Some x) {l : List ℕ} where
    pub kind_found : l ≡ 0 ∷ x.kind ∷ x.number ∷ [] → l ≡ answered (state_verdict w (table h s c m tr) number stamp) (kind_of (entry_in w (table h s c m tr) number p))
    kind_found g = let (e, y, i, j) : Finds (entry_in w (table h s c m tr) number p) (Some x) = rw q at u in state_told w h s c m tr number stamp z (g ∙ rw (y, i, j) refl)

    pub plain_found : l ≡ plain_kind x.kind x.number → l ≡ answered (state_verdict w (table h s c m tr) number stamp) (plain_of (entry_in w (table h s c m tr) number p))
    plain_found g = let (e, y, i, j) : Finds (entry_in w (table h s c m tr) number p) (Some x) = rw q at u in state_told w h s c m tr number stamp z (g ∙ rw (y, i, j) refl)

    pub resource_found : l ≡ resource_kind x.kind x.number → l ≡ answered (state_verdict w (table h s c m tr) number stamp) (resource_of (entry_in w (table h s c m tr) number p))
    resource_found g = let (e, y, i, j) : Finds (entry_in w (table h s c m tr) number p) (Some x) = rw q at u in state_told w h s c m tr number stamp z (g ∙ rw (y, i, j) refl)

  module _ (q : f ≡ None) where
    absent : entry_in w (table h s c m tr) number p ≡ none
    absent = rw q at u

    pub kind_none : 0 ∷ [] ≡ answered (state_verdict w (table h s c m tr) number stamp) (kind_of (entry_in w (table h s c m tr) number p))
    kind_none = state_told w h s c m tr number stamp z (rw absent refl)

    pub plain_none : 0 ∷ [] ≡ answered (state_verdict w (table h s c m tr) number stamp) (plain_of (entry_in w (table h s c m tr) number p))
    plain_none = state_told w h s c m tr number stamp z (rw absent refl)

    pub resource_none : 0 ∷ [] ≡ answered (state_verdict w (table h s c m tr) number stamp) (resource_of (entry_in w (table h s c m tr) number p))
    resource_none = state_told w h s c m tr number stamp z (rw absent refl)
