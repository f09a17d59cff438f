-- The selectors of a sheet's rules, by the sheet's words. Assumes nothing.
use mathlib.Core.Path.{◌≡◌, refl, ap, ◌∙◌}
use mathlib.Core.Bool.{true}
use mathlib.Core.Option.{some}
use mathlib.Core.List.{List, [], ◌∷◌, ◌++◌}
use Prim.Native.Nat.{ℕ, suc, ◌+◌, ◌-◌, ◌≤◌, ◌<◌}
use native.Mathlib.Nat.{zero-add}
use native.Mathlib.Omega.{arith}
use native.Mathlib.Decide.{dec_lt}
use lib.ListN.{length, get_elem?, get_or-eq_default}
use lib.Dec.{ltb}
use borrow.Author.Tests.{lt-ltb}
use Rattle.theory.specs.Lists.{spread, only}
use Rattle.theory.specs.Paths.{Selector}
use Rattle.theory.specs.States.{Sheet, rule, Small, cursor, starts}
use Rattle.theory.proofs.Spreads.{length_spread, get_or_spread, map_spread}
use Rattle.lent.specs.Pool.{start_of}
use Rattle.sheet.specs.Layout.{rules_in}
use Rattle.sheet.specs.Sheets.{part_at, rule_at, sheet_of, between, rule_step_ends}
use Rattle.sheet.specs.Shape.{sheet_shape}
use Rattle.sheet.proofs.ReadLaws.{rule_steps, length_between, between_at}
use Rattle.table.specs.Tables.{selectors_of}

-- ---- by rule number

module _ (w : List ℕ) where
  pub selectors_are : selectors_of w ≡ spread (between (part_at w) (rule_step_ends w)) 0 (rules_in w)
  unfolding selectors_of sheet_of rule_at
  selectors_are = map_spread (λ r. r.selector) (rule_at w) 0 (rules_in w)

  pub length_selectors : length (selectors_of w) ≡ rules_in w
  length_selectors = rw selectors_are (length_spread _ 0 (rules_in w))

  module _ (r : ℕ) where
    pub selector_past : rules_in w ≤ r → rule (selectors_of w) r ≡ []
    selector_past h = get_or-eq_default (selectors_of w) [] (omega (arith, length_selectors))

    module _ (h : r < rules_in w) where
      pub selector_at : rule (selectors_of w) r ≡ between (part_at w) (rule_step_ends w) r
      selector_at = rw selectors_are (get_or_spread (between (part_at w) (rule_step_ends w)) 0 (rules_in w) r [] h ∙ rw zero-add)

      pub selector_length : length (rule (selectors_of w) r) ≡ rule_step_ends w r - start_of (rule_step_ends w) r
      selector_length = rw selector_at (length_between (part_at w) (rule_step_ends w) r)

      pub selector_part : (i : ℕ) → i < rule_step_ends w r - start_of (rule_step_ends w) r → get_elem? (rule (selectors_of w) r) i ≡ some (part_at w (start_of (rule_step_ends w) r + i))
      selector_part i l = rw selector_at (between_at (part_at w) (rule_step_ends w) r (rule_step_ends w r - start_of (rule_step_ends w) r) refl i l)

  -- "steps in a selector 0 to 8"
  pub selectors_small : sheet_shape w ≡ true → Small (selectors_of w)
  selectors_small e r = elim (dec_lt r (rules_in w)) [
    | yes h ↦ rw (selector_length r h) (rule_steps w e r h).1
    | no h ↦ let g : rules_in w ≤ r = omega arith in rw (selector_past r g) (omega arith)
  ]

-- ---- the root's cursors

-- one rule more
pub starts_snoc : {Step : Type 0} (r : ℕ) (sheet : Sheet Step) (sel : Selector Step) → starts r (sheet ++ sel ∷ []) ≡ starts r sheet ++ only (ltb 0 (length sel)) (cursor (r + length sheet) 0)
starts_snoc r [] [] = refl
starts_snoc r [] (p ∷ sel) = let e : r + 0 ≡ r = omega arith in rw (e, lt-ltb 0 (suc (length sel)) (omega arith))
starts_snoc r ([] ∷ sheet) sel = let e : suc r + length sheet ≡ r + suc (length sheet) = omega arith in starts_snoc (suc r) sheet sel ∙ rw e
starts_snoc r ((p ∷ q) ∷ sheet) sel = let e : suc r + length sheet ≡ r + suc (length sheet) = omega arith in ap (λ l. cursor r 0 ∷ l) (starts_snoc (suc r) sheet sel ∙ rw e)
