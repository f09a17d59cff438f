-- Every covered table keeps the invariant; a state reached by a path is the state after it, and lists the rules that fit. Assumes nothing.
use mathlib.Core.Path.{◌≡◌, sym, ap, ◌∙◌, subst}
use mathlib.Core.Bool.{true}
use mathlib.Core.Logic.{◌↔◌}
use mathlib.Core.List.{List}
use Prim.Native.Nat.{ℕ, ◌<◌}
use native.Mathlib.Omega.{arith}
use lib.ListN.{length}
use Rattle.theory.specs.Lists.{◌∈◌, Ascending, select}
use Rattle.theory.specs.Paths.{FitsTail}
use Rattle.theory.specs.States.{State, rule, enter, run}
use Rattle.theory.specs.Tails.{fits_tail}
use Rattle.theory.proofs.States.{run_snoc, matched_ascending, listed_iff, matched_is}
use Rattle.selector.specs.Tags.{Tags, step_matches}
use Rattle.typed.specs.declared.SelectorInputs.{SelectorInputs}
use Rattle.typed.specs.Typed.{inputs_tags, inputs_row}
use Rattle.sheet.specs.Layout.{rules_in}
use Rattle.sheet.specs.Shape.{sheet_shape}
use Rattle.table.specs.Tables.{Table, selectors_of, stamp_in, states_in, state_at}
use Rattle.table.specs.Shape.{table_shape}
use Rattle.table.specs.Entering
use Rattle.table.proofs.Selectors.{length_selectors, selectors_small}
use Rattle.table.proofs.Shaped.{unshaped}
use Rattle.covered.specs.Covered.{Builds, Enters, Covered, Reached}
use Rattle.covered.specs.Covered.Covered.{built, entered}
use Rattle.covered.specs.Covered.Reached.{root, child, later}
use Rattle.covered.proofs.Sound.{Sound, sound_shaped}
use Rattle.covered.proofs.Keeps.{states_stay}
use Rattle.covered.proofs.Growing.{built_word, built_root, built_sound}
use Rattle.covered.proofs.Accepted.{build_accepted, enter_accepted, row_tags, proper_fine}
use Rattle.covered.proofs.Entering.{Right, enter_right}

module _ (w : List ℕ) where
  -- ---- the invariant

  pub builds_sound : (t : Table) (stamp ranking : ℕ) → Builds w ranking t → Sound w (Entering.built w stamp ranking t)
  builds_sound t stamp ranking (e, v) =
      let a = build_accepted w ranking t.states t.cursors v in
      built_sound w t stamp ranking a.shape e a.ranks a.rows a.room

  -- an accepted entering
  pub enters_right : {t : Table} → Sound w t → (number stamp : ℕ) (x : SelectorInputs) → Enters w t number stamp x
      → Right w t number (inputs_tags x) (Entering.entered w t number (inputs_row x)) (Entering.child_of w t number (inputs_row x))
  enters_right {t} s number stamp x v =
      let a = enter_accepted w t number stamp x v in
      rw (row_tags a.proper) at (enter_right w s number a.there (inputs_row x) (proper_fine a.proper) a.room)

  pub covered_sound : {t : Table} → Covered w t → Sound w t
  covered_sound (built t stamp ranking b) = builds_sound t stamp ranking b
  covered_sound (entered c number stamp x v) = (enters_right (covered_sound c) number stamp x v).kept.sound

  pub covered_shaped : {t : Table} → Covered w t → table_shape w t ≡ true
  covered_shaped c = unshaped (sound_shaped w (covered_sound c))

  pub covered_sheet : {t : Table} → Covered w t → sheet_shape w ≡ true
  covered_sheet c = (covered_sound c).sheet

  -- ---- a state that a path reaches

  pub reached_covered : {t : Table} {number stamp : ℕ} {path : List Tags} → Reached w t number stamp path → Covered w t
  reached_covered (root t stamp ranking b) = built t stamp ranking b
  reached_covered (child {number = number} {stamp = stamp} r x v) = entered (reached_covered r) number stamp x v
  reached_covered (later r number stamp x v) = entered (reached_covered r) number stamp x v

  pub reached_is : {t : Table} {number stamp : ℕ} {path : List Tags} → Reached w t number stamp path
      → (number < states_in t.head) × (stamp ≡ stamp_in t.head) × (state_at t number ≡ run step_matches (selectors_of w) path)
  unfolding run
  reached_is (root t stamp ranking (e, v)) =
      let a = build_accepted w ranking t.states t.cursors v in
      let word = built_word w t stamp ranking a.shape e a.ranks a.rows a.room in
      (omega (arith, word 2 (omega arith)), sym (word 0 (omega arith)), built_root w t stamp ranking a.shape e a.ranks a.rows a.room)
  reached_is (child {t = t} {number = number} {stamp = stamp} {path = path} r x v) =
      let s = covered_sound (reached_covered r) in
      let (l, e, q) = reached_is r in
      let g = enters_right s number stamp x v in (
        g.leads.child,
        e ∙ sym g.kept.stamp,
        g.leads.enters ∙ ap (λ z. enter step_matches (selectors_of w) z (inputs_tags x)) (states_stay w s g.kept.stay number l ∙ q) ∙ sym (run_snoc step_matches (selectors_of w) path (inputs_tags x)),
      )
  reached_is (later {t = t} {number = number} r other stamp x v) =
      let s = covered_sound (reached_covered r) in
      let (l, e, q) = reached_is r in
      let g = enters_right s other stamp x v in
      (omega (arith, g.kept.stay.more), e ∙ sym g.kept.stamp, states_stay w s g.kept.stay number l ∙ q)

  module _ {t : Table} {number stamp : ℕ} {path : List Tags} (r : Reached w t number stamp path) where
    reached_state : state_at t number ≡ run step_matches (selectors_of w) path
    reached_state = let (l, e, q) = reached_is r in q

    -- THE THEOREM: a rule is listed exactly if its selector has steps and fits a tail of the path
    pub listed_fits : (k : ℕ) → (k ∈ (state_at t number).matched) ↔ ((0 < length (rule (selectors_of w) k)) × FitsTail step_matches (rule (selectors_of w) k) path)
    listed_fits k = subst (λ (z : State). (k ∈ z.matched) ↔ ((0 < length (rule (selectors_of w) k)) × FitsTail step_matches (rule (selectors_of w) k) path)) (sym reached_state)
        (listed_iff step_matches (selectors_of w) (selectors_small w (covered_sheet (reached_covered r))) path k)

    -- once each, in order
    pub listed_ascending : Ascending (state_at t number).matched
    listed_ascending = subst (λ (z : State). Ascending z.matched) (sym reached_state) (matched_ascending step_matches (selectors_of w) path)

    -- and so the list is a function of the sheet and the path
    pub listed_is : (state_at t number).matched ≡ select (λ k. fits_tail step_matches (rule (selectors_of w) k) path) (rules_in w)
    listed_is =
        ap (λ (z : State). z.matched) reached_state
        ∙ matched_is step_matches (selectors_of w) (selectors_small w (covered_sheet (reached_covered r))) path
        ∙ ap (select (λ k. fits_tail step_matches (rule (selectors_of w) k) path)) (length_selectors w)

  -- whatever the tables, their rooms and what else was entered
  pub fresh_same : {t t' : Table} {number number' stamp stamp' : ℕ} {path : List Tags} → Reached w t number stamp path → Reached w t' number' stamp' path → state_at t number ≡ state_at t' number'
  fresh_same r r' = reached_state r ∙ sym (reached_state r')
