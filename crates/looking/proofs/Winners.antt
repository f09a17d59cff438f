-- The winner: where it stands, and what is told of it. Assumes nothing.
use mathlib.Core.Path.{◌≡◌, refl, sym, ap, ◌∙◌}
use mathlib.Core.Bool.{true}
use mathlib.Core.Option.{Option, none, some}
use mathlib.Core.List.Memᴰ
use mathlib.Core.List.{List, [], ◌∷◌, map}
use mathlib.Core.Logic.{inl, inr}
use Prim.Native.Nat.{ℕ, suc, ◌<◌}
use native.Mathlib.Omega.{arith}
use borrow.Author.Tests.{lt-ltb}
use Rattle.std.specs.Prelude.{Option as Optional, Some, None}
use Rattle.theory.specs.Lists.{◌∈◌, spread}
use Rattle.theory.specs.Cascade.{Key}
use Rattle.theory.proofs.Lists.{append_in}
use Rattle.theory.proofs.Winners.{winner_in_lem}
use Rattle.sheet.specs.Layout.{rules_in, styles_in}
use Rattle.sheet.specs.Shape.{sheet_shape}
use Rattle.sheet.specs.Sheets.{style_at, rule_at}
use Rattle.laid.proofs.Held.{spread_in}
use Rattle.table.specs.Tables.{table, ranking_in, states_in}
use Rattle.table.specs.Shape.{table_shape}
use Rattle.winners.specs.Winners.{Place, style, rule, key_at, holds_at, places_for, AreRules, winner_of, entry_of}
use Rattle.winners.specs.Best.{place_in, Stands, is_place, Finds}
use Rattle.winners.specs.declared.Best.{Best}
use Rattle.winners.specs.declared.Source.TheVariants as source
use Rattle.winners.specs.declared.Found.{Found}
use Rattle.looking.specs.Calls.{winner_in, entry_in}
use Rattle.looking.specs.Answers.{winner_told}
use Rattle.looking.proofs.Listed.{rules_are}

-- ---- it is a source of the sheet

module _ (w : List ℕ) where
  rule_there : (rules : List ℕ) (s : Place) → AreRules w rules → s ∈ map rule rules → is_place w (some s) ≡ true
  rule_there [] s h m = absurd (Memᴰ.not-nil m)
  rule_there (r ∷ l) s h m = elim (Memᴰ.cases_cons m) [
    | inl e ↦ rw (e, lt-ltb r (rules_in w) (h 0 (omega arith)))
    | inr i ↦ rule_there l s (λ j b. h (suc j) (omega arith)) i
  ]

  pub winner_there : (ranking : ℕ) (rules : List ℕ) (p : ℕ) (o : Option Place) → AreRules w rules → o ≡ winner_of w ranking rules p → is_place w o ≡ true
  unfolding places_for
  winner_there ranking rules p none h e = refl
  winner_there ranking rules p (some s) h e =
      let (m, _) = winner_in_lem (key_at w ranking) (holds_at w) (places_for w rules) p s (sym e) in
      elim ((append_in (spread style 0 (styles_in w)) (map rule rules) s).0 m) [
        | inl i ↦ let (d, _, l, f) = spread_in style 0 (styles_in w) s i in rw (f, lt-ltb d (styles_in w) (omega arith))
        | inr i ↦ rule_there rules s h i
      ]

module _ (w h s c m tr : List ℕ) (e : (sheet_shape w ≡ true) × (table_shape w (table h s c m tr) ≡ true)) (k : ℕ) (l : k < states_in h) (p : ℕ) (b : Optional Best)
    (u : Stands w (ranking_in h) p (winner_in w (table h s c m tr) k p) b) where
  pub winner_is_place : is_place w (place_in b) ≡ true
  winner_is_place = winner_there w (ranking_in h) _ p (place_in b) (rules_are w h s c m tr e k l _ refl) u.place

  -- so that what is found there is its entry
  pub found_in : (f : Optional Found) → Finds (entry_of w (place_in b) p) f → Finds (entry_in w (table h s c m tr) k p) f
  found_in f g = rw u.place at g

-- ---- what is told of it

abbrev source_in : Option Key → ℕ
source_in none = 0
source_in (some k) = k.source

module _ {w : List ℕ} {ranking p : ℕ} {o : Option Place} {b : Optional Best} (u : Stands w ranking p o b) where
  pub nobody_told : b ≡ None → 0 ∷ 0 ∷ [] ≡ winner_told w o
  nobody_told e = rw (← u.place, e)

  pub style_told_lem : {d : ℕ} {x : Best} → b ≡ Some x → x.source ≡ source.Style d → 0 ∷ 1 ∷ d ∷ x.key.source_index ∷ [] ≡ winner_told w o
  unfolding key_at
  style_told_lem {d} {x} e i =
      let q : o ≡ some (style d) = sym u.place ∙ ap place_in e ∙ rw i refl in
      let f : x.key.source_index ≡ (style_at w d).source = rw (q, e) at (ap source_in u.key) in
      rw (q, f)

  pub rule_told_lem : {r : ℕ} {x : Best} → b ≡ Some x → x.source ≡ source.Rule r → 0 ∷ 2 ∷ r ∷ x.key.source_index ∷ [] ≡ winner_told w o
  unfolding key_at
  rule_told_lem {r} {x} e i =
      let q : o ≡ some (rule r) = sym u.place ∙ ap place_in e ∙ rw i refl in
      let f : x.key.source_index ≡ (rule_at w r).source = rw (q, e) at (ap source_in u.key) in
      rw (q, f)

pub ruleset winnings = (nobody_told, style_told_lem, rule_told_lem)
