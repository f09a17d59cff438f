-- What one cursor leaves and lists, by the sheet's words, and the ways through the code that puts it. Assumes nothing.
use mathlib.Core.Path.{◌≡◌, refl, sym, ap, ◌∙◌}
use mathlib.Core.Bool.{Bool, true, false, ◌&&◌, not, and-false}
use mathlib.Core.Option.{none}
use mathlib.Core.List.{List, [], ◌∷◌, ◌++◌}
use Prim.Native.Nat.{ℕ, suc, ◌+◌, ◌-◌, ◌/◌, ◌%◌, ◌≤◌, ◌<◌}
use native.Mathlib.Omega.{arith}
use native.Mathlib.Decide.{ℕ_discrete}
use lib.ListN.{get_elem?}
use lib.Dec.{ltb, eqb}
use mir.Syntax.{w32}
use mir.Val.{Fits}
use borrow.Author.Tests.{lt-ltb, eq-eqb, ne_eqb}
use Rattle.theory.specs.Lists.{only}
use Rattle.theory.specs.States.{rule, cursor}
use Rattle.lent.specs.Pool.{ends_in, start_of}
use Rattle.selector.specs.Tags.{Tags, as_sets, step_matches}
use Rattle.selector.specs.Rows.{row_at}
use Rattle.selector.proofs.RowLaws.{descends_is}
use Rattle.sheet.specs.Layout.{rules_in, steps_in, step_place, STEP-COMBINATOR, STEP-WORDS}
use Rattle.sheet.specs.Sheets.{part_at, rule_step_ends}
use Rattle.sheet.specs.Shape.{sheet_shape}
use Rattle.sheet.proofs.Shaped.{shaped, step_start_within}
use Rattle.sheet.proofs.ReadLaws.{steps_few, rule_steps_end, step_sets, between_past}
use Rattle.table.specs.Tables.{selectors_of}
use Rattle.table.proofs.Selectors.{selector_past, selector_at, selector_length, selector_part}
use Rattle.advance.specs.Advancing.{leaves, lists}
use Rattle.advance.specs.Collecting.{Free, Put, Kept, Puts}
use Rattle.advance.proofs.Putting.{put_none, put_then, put_free}

-- ---- one step

-- whether the step is its rule's last: by its number in the rule, and by its number in the sheet
last_is : (from to i : ℕ) → from + i < to → eqb (suc i) (to - from) ≡ eqb (from + i + 1) to
last_is from to i h = elim (ℕ_discrete (from + i + 1) to) [
  | yes e ↦ eq-eqb (suc i) (to - from) (omega arith) ∙ sym (eq-eqb (from + i + 1) to e)
  | no e ↦ ne_eqb (suc i) (to - from) (omega arith) ∙ sym (ne_eqb (from + i + 1) to e)
]

-- ids held are sets
pub passes_is : (w : List ℕ) (s : ℕ) (x : Tags) (at : ℕ) (b : Bool) → sheet_shape w ≡ true → s < steps_in w → at ≡ step_place s → b ≡ step_matches (as_sets (row_at 8 w at)) x
    → b ≡ step_matches (row_at 8 w (step_place s)) x
unfolding part_at
passes_is w s x at b e h g f = f ∙ rw g (ap (λ t. step_matches t x) (step_sets w e s h))

-- a step's place is low
pub place_low : (w : List ℕ) (s at : ℕ) → sheet_shape w ≡ true → s < steps_in w → at ≡ step_place s → at < 4294967000
place_low w s at e h g = omega (arith, steps_few w e)

-- ---- one cursor

module _ (w : List ℕ) (x : Tags) (c : ℕ) where
  -- the number of its step in the sheet
  abbrev at_step : ℕ
  at_step = start_of (rule_step_ends w) (c / 8) + c % 8

  abbrev keeps : Bool
  keeps = ltb 0 (c % 8) && not (eqb (ends_in w STEP-COMBINATOR STEP-WORDS at_step) 0)

  abbrev passes : Bool
  passes = step_matches (row_at 8 w (step_place at_step)) x

  abbrev ends : Bool
  ends = eqb (at_step + 1) (rule_step_ends w (c / 8))

  none_rule : rules_in w ≤ c / 8 → (leaves w x c ≡ []) × (lists w x c ≡ [])
  none_rule h = rw (selector_past w (c / 8) h) (refl, refl)

  module _ (h : c / 8 < rules_in w) where
    none_step : rule_step_ends w (c / 8) ≤ at_step → (leaves w x c ≡ []) × (lists w x c ≡ [])
    none_step k =
        let e : get_elem? (rule (selectors_of w) (c / 8)) (c % 8) ≡ none =
        rw (selector_at w (c / 8) h) (between_past (part_at w) (rule_step_ends w) (c / 8) (rule_step_ends w (c / 8) - start_of (rule_step_ends w) (c / 8)) refl (c % 8) (omega arith)) in
        rw e (refl, refl)

    some_step : at_step < rule_step_ends w (c / 8) → (leaves w x c ≡ only keeps c ++ only (passes && not ends) (c + 1)) × (lists w x c ≡ only (passes && ends) (c / 8))
    unfolding part_at
    some_step k =
        let r = c / 8 in
        let i = c % 8 in
        let from = start_of (rule_step_ends w) r in
        let here : cursor r i ≡ c = omega arith in
        let next : cursor r (suc i) ≡ c + 1 = omega arith in
        rw (
          selector_part w r h i (omega arith),
          selector_length w r h,
          last_is from (rule_step_ends w r) i k,
          descends_is (ends_in w STEP-COMBINATOR STEP-WORDS (from + i)),
          here,
          next,
        )
        (refl, refl)

-- ---- the ways through `put_kept`: d is asked for, b was answered

module _ {c used : ℕ} {out : List ℕ} (f : Free 2 c out used) (d : Bool) where
  kept : {out' : List ℕ} {used' : ℕ} → Put out used (only (ltb 0 (c % 8) && d) c) out' used' → Kept out used c (only (ltb 0 (c % 8) && d) c) out' used'
  kept p = record { put = p; free = put_free (ltb 0 (c % 8) && d) c p f }

  pub kept_first : c % 8 ≡ 0 → Kept out used c (only (ltb 0 (c % 8) && d) c) out used
  kept_first e = kept (rw e (put_none f))

  module _ (b : Bool) (e : b ≡ d) where
    pub kept_not : b ≡ false → Kept out used c (only (ltb 0 (c % 8) && d) c) out used
    kept_not t = kept (rw (← e, t, and-false) (put_none f))

    pub kept_yes : b ≡ true → (c % 8 ≡ 0 → ⊥) → {out' : List ℕ} {used' : ℕ} → Put out used (c ∷ []) out' used' → Kept out used c (only (ltb 0 (c % 8) && d) c) out' used'
    kept_yes t h p = kept (rw (← e, t, lt-ltb 0 (c % 8) (omega arith)) p)

-- ---- likewise `put_moved`

module _ (c : ℕ) {n k : ℕ} {next listed : List ℕ} (f : Free 1 (c + 1) next n) (g : Free 1 (c / 8) listed k) (last d b : Bool) (e : b ≡ d) where
  pub moved_not : b ≡ false → Puts next n (only (d && not last) (c + 1)) next n listed k (only (d && last) (c / 8)) listed k
  moved_not t = rw (← e, t) (record { cursors = put_none f; rules = put_none g })

  pub moved_last : b ≡ true → last ≡ true → {listed' : List ℕ} {k' : ℕ} → Put listed k ((c / 8) ∷ []) listed' k'
      → Puts next n (only (d && not last) (c + 1)) next n listed k (only (d && last) (c / 8)) listed' k'
  moved_last t l p = rw (← e, t, l) (record { cursors = put_none f; rules = p })

  pub moved_next : b ≡ true → last ≡ false → {next' : List ℕ} {n' : ℕ} → Put next n ((c + 1) ∷ []) next' n'
      → Puts next n (only (d && not last) (c + 1)) next' n' listed k (only (d && last) (c / 8)) listed k
  moved_next t l p = rw (← e, t, l) (record { cursors = p; rules = put_none g })

-- ---- and `put_one`: r rules, the steps of the cursor's own from `from` to `to`

module _ (w : List ℕ) (x : Tags) {c n k : ℕ} {next listed : List ℕ} (f : Free 2 c next n) (g : Free 1 (c / 8) listed k) (r : ℕ) (rules : r ≡ rules_in w) where
  nothing : (leaves w x c ≡ []) × (lists w x c ≡ []) → Puts next n (leaves w x c) next n listed k (lists w x c) listed k
  nothing e = rw (e.0, e.1) (record { cursors = put_none f; rules = put_none g })

  pub past_rules : r ≤ c / 8 → Puts next n (leaves w x c) next n listed k (lists w x c) listed k
  past_rules l = nothing (none_rule w x c (omega arith))

  module _ (there : c / 8 < r) (from to : ℕ) (is-from : from ≡ start_of (rule_step_ends w) (c / 8)) (is-to : to ≡ rule_step_ends w (c / 8)) where
    pub past_steps : to ≤ from + c % 8 → Puts next n (leaves w x c) next n listed k (lists w x c) listed k
    past_steps l = nothing (none_step w x c (omega arith) (omega arith))

    pub at_step_lem : {next₁ next' listed' : List ℕ} {n₁ n' k' : ℕ} → from + c % 8 < to
        → Kept next n c (only (ltb 0 (c % 8) && not (eqb (ends_in w STEP-COMBINATOR STEP-WORDS (from + c % 8)) 0)) c) next₁ n₁
        → Puts next₁ n₁ (only (step_matches (row_at 8 w (step_place (from + c % 8))) x && not (eqb (from + c % 8 + 1) to)) (c + 1)) next' n'
        listed k (only (step_matches (row_at 8 w (step_place (from + c % 8))) x && eqb (from + c % 8 + 1) to) (c / 8)) listed' k'
        → Puts next n (leaves w x c) next' n' listed k (lists w x c) listed' k'
    at_step_lem l e m =
        let (left, listed) = some_step w x c (omega arith) (omega arith) in
        rw (left, listed, ← is-from, ← is-to) (record { cursors = put_then e.put m.cursors; rules = m.rules })

-- as its callees ask
module _ (w : List ℕ) (c n : ℕ) (rules : n ≡ rules_in w) (shape : sheet_shape w ≡ true) (there : c / 8 < n) where
  pub cursor_low : c < 2048
  cursor_low = omega (arith, (shaped w shape).rules)

  module _ (from : ℕ) (is-from : from ≡ start_of (rule_step_ends w) (c / 8)) where
    pub sum_fits : Fits w32 (from + c % 8)
    sum_fits = record { fits = omega (arith, step_start_within (shaped w shape) (c / 8) (omega arith), steps_few w shape) }

    pub step_there : (to : ℕ) → to ≡ rule_step_ends w (c / 8) → from + c % 8 < to → from + c % 8 < steps_in w
    step_there to is-to l = omega (arith, rule_steps_end w shape (c / 8) (omega arith))

-- two more have room, so one more has
pub one_free : {a : ℕ} {out : List ℕ} {used : ℕ} → Free 2 a out used → Free 1 a out used
one_free f = record { room = omega (arith, f.room); up = f.up; low = f.low }
