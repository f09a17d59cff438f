-- The empty sheet, and the addition of nothing. Assumes nothing.
use mathlib.Core.Path.{◌≡◌, refl, sym, ap, ◌∙◌}
use mathlib.Core.Bool.{true}
use mathlib.Core.List.{List, [], flat_map}
use Prim.Native.Nat.{ℕ, ◌-◌, ◌≤◌, ◌<◌}
use native.Mathlib.Nat.{add-zero}
use native.Mathlib.Omega.{arith}
use lib.ListN.{length, get_or, replicate, get_or-replicate}
use lib.Seq.{sets, length-sets}
use Rattle.theory.specs.Lists.{sum_below, total}
use Rattle.theory.proofs.Spreads.{part_spread}
use Rattle.lent.specs.Pool.{start_of}
use Rattle.lent.proofs.Placing.{sets_after, sets_inside, sets_same}
use Rattle.sheet.specs.Layout
use Rattle.sheet.specs.Sheets.{sheet_of}
use Rattle.sheet.specs.Shape.{sheet_shape}
use Rattle.sheet.specs.Laying.{rule_words, style_words, lay_entries, lay_rules, lay_styles, ids_held, count_words, lay, emptied}
use Rattle.sheet.proofs.Shaped.{unshaped}

-- ---- the empty sheet

-- "writes the counts only"
pub emptied_others : (w : List ℕ) (i : ℕ) → 7 ≤ i → get_or (emptied w) i 0 ≡ get_or w i 0
unfolding emptied
emptied_others w i h = sets_after w 0 (replicate 7 0) i h

module _ (w : List ℕ) (room : Layout.SHEET-WORDS ≤ length w) where
  pub zero_count : (i : ℕ) → i < 7 → get_or (emptied w) i 0 ≡ 0
  unfolding emptied
  zero_count i h =
      let z : i - 0 ≡ i = omega arith in
      sets_inside w 0 (replicate 7 0) i (omega arith) (omega arith) (omega arith) ∙ rw z (get_or-replicate 7 i 0 0 h)

  pub read_emptied : sheet_of (emptied w) ≡ record { next = 0; styles = []; rules = [] }
  unfolding sheet_of
  read_emptied = rw (zero_count 0 (omega arith), zero_count 4 (omega arith), zero_count 6 (omega arith))

  pub shape_emptied : sheet_shape (emptied w) ≡ true
  shape_emptied =
      let a = zero_count 0 (omega arith) in
      let b = zero_count 1 (omega arith) in
      let c = zero_count 2 (omega arith) in
      let d = zero_count 3 (omega arith) in
      let e = zero_count 4 (omega arith) in
      let f = zero_count 5 (omega arith) in
      let g = zero_count 6 (omega arith) in
      unshaped (emptied w) (record {
        room = omega (arith, length_emptied);
        rules = omega arith;
        steps = omega arith;
        ids = omega arith;
        next = omega arith;
        styles = omega arith;
        style_entries_lem = omega arith;
        entries = omega arith;
        each_rule = λ k h. absurd (omega arith);
        each_step = λ k h. absurd (omega arith);
        each_style = λ k h. absurd (omega arith);
        pool = record { properties = λ k h. absurd (omega arith); kinds = λ k h. absurd (omega arith) };
        style_pool = record { properties = λ k h. absurd (omega arith); kinds = λ k h. absurd (omega arith) };
        steps_end = rw (a, b) (no_start _);
        entries_end = rw (a, d) (no_start _);
        style_entries_end = rw (e, f) (no_start _);
        ids_sum = rw (b, c) (unfold sum_below in refl);
      })
    where
      length_emptied : length (emptied w) ≡ length w
      length_emptied = unfold emptied in (length-sets w 0 (replicate 7 0))

      no_start : (ends : ℕ → ℕ) → start_of ends 0 ≡ 0
      no_start ends = unfold start_of in refl

  -- ---- nothing added

  pub lay_nothing : lay [] [] (Layout.next_in w) w ≡ w
  unfolding lay lay_rules lay_styles lay_entries rule_words style_words count_words ids_held total flat_map
  lay_nothing =
      simp add-zero (ap (λ x. sets w 0 x) (sym (part_spread w 0 0 7 (omega arith))) ∙ sets_same w 0 7)
