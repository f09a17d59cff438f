-- The invariant of a table with its sheet, and that it gives every part of the shape. Assumes nothing.
use mathlib.Core.Path.{◌≡◌, sym, ap, subst}
use mathlib.Core.Bool.{Bool, true}
use mathlib.Core.Logic.{inl}
use mathlib.Core.List.{List}
use Prim.Native.Nat.{ℕ, ◌*◌, ◌/◌, ◌%◌, ◌≤◌, ◌<◌}
use native.Mathlib.Omega.{arith}
use lib.ListN.{length, get_or}
use Rattle.theory.specs.Lists.{◌∈◌, Ascending}
use Rattle.theory.specs.States.{State, rule, root, run, cursor}
use Rattle.theory.proofs.Lists.{append_in, select_in, ascends_is}
use Rattle.theory.specs.Tails.{fits_tail}
use Rattle.theory.proofs.Steps.{at_below}
use Rattle.theory.proofs.States.{tested, invariant, cursors_ascending, matched_ascending, matched_is}
use Rattle.selector.specs.Tags.{Tags, step_matches}
use Rattle.sheet.specs.Layout.{rules_in}
use Rattle.sheet.specs.Shape.{sheet_shape}
use Rattle.table.specs.Tables.{Table, selectors_of, states_in, cursors_in, matched_in, transitions_in, ranking_in, cursor_ends, matched_ends, state_at, first_link, parent_at, child_at, next_link, subject_of}
use Rattle.table.proofs.Selectors.{length_selectors, selectors_small}
use Rattle.table.proofs.Shaped.{SubjectShaped, Shaped}
use Rattle.covered.proofs.Known.{Known, Leads}
use Rattle.covered.proofs.Chained.{Chained}
use Rattle.covered.proofs.Columns.{EndToEnd, some_list}

module _ (w : List ℕ) where
  abbrev pub LeadsIn : Table → ℕ → ℕ → Tags → Type 0
  LeadsIn t p k x = Leads step_matches (selectors_of w) (states_in t.head) (state_at t) p k x

  pub record Sound (t : Table) : Type 0 where
    pub sheet : sheet_shape w ≡ true
    pub eight : length t.head ≡ 8
    pub few : states_in t.head ≤ 512
    pub ranking : ranking_in t.head ≤ 1
    pub rows : 3 * states_in t.head ≤ length t.states
    pub cursors : EndToEnd (cursor_ends t.states) (states_in t.head) (cursors_in t.head) t.cursors
    pub matched : EndToEnd (matched_ends t.states) (states_in t.head) (matched_in t.head) t.matched
    pub transitions : 41 * transitions_in t.head ≤ length t.transitions
    -- the states, and that each transition's child is that of its subject under its parent
    pub known : Known step_matches (selectors_of w) (states_in t.head) (state_at t)
    pub moves : (k : ℕ) → k < transitions_in t.head → LeadsIn t (parent_at t.transitions k) (child_at t.transitions k) (subject_of t.transitions k)
    pub subjects : (k : ℕ) → k < transitions_in t.head → SubjectShaped t.transitions k
    pub chains : Chained (states_in t.head) (transitions_in t.head) (first_link t.states) (next_link t.transitions) (parent_at t.transitions)

  -- ---- the lists of a state after a path exist

  module _ (shape : sheet_shape w ≡ true) (path : List Tags) (c : ℕ) where
    pub cursor_exists_lem : c ∈ (run step_matches (selectors_of w) path).cursors → c % 8 < length (rule (selectors_of w) (c / 8))
    cursor_exists_lem h =
        let e : c ≡ cursor (c / 8) (c % 8) = omega arith in
        let o = (append_in (run step_matches (selectors_of w) path).cursors (root (selectors_of w)).cursors c).1 (inl h) in
        let a = (invariant step_matches (selectors_of w) (selectors_small w shape) path (c / 8) (c % 8) (omega arith)).0 (subst (λ (k : ℕ). k ∈ tested step_matches (selectors_of w) path) e o) in
        at_below (rule (selectors_of w) (c / 8)) (c % 8) a.part a.is

    pub rule_exists_lem : c ∈ (run step_matches (selectors_of w) path).matched → c < rules_in w
    rule_exists_lem h =
        let f : ℕ → Bool = λ r. fits_tail step_matches (rule (selectors_of w) r) path in
        let m = rw (matched_is step_matches (selectors_of w) (selectors_small w shape) path) at h in
        rw (length_selectors w) at ((select_in f (length (selectors_of w)) c).0 m).0

  -- ---- the shape

  pub sound_shaped : {t : Table} → Sound t → Shaped w t
  sound_shaped {t} s = record {
    root = s.known.some;
    few = s.few;
    ranking = s.ranking;
    rows = s.rows;
    cursor_room = s.cursors.room;
    matched_room = s.matched.room;
    transition_room = s.transitions;
    cursors_up = s.cursors.rise;
    matched_up = s.matched.rise;
    cursors_end = s.cursors.last;
    matched_end = s.matched.last;
    cursors_rise = λ k h. let (path, e) = s.known.after k h in
        (ascends_is _).1 (subst (λ (z : State). Ascending z.cursors) (sym e) (cursors_ascending step_matches (selectors_of w) path));
    matched_rise = λ k h. let (path, e) = s.known.after k h in
        (ascends_is _).1 (subst (λ (z : State). Ascending z.matched) (sym e) (matched_ascending step_matches (selectors_of w) path));
    cursors_exist = λ i h. let (k, l, m) = some_list (cursor_ends t.states) t.cursors s.cursors i h in
        let (path, e) = s.known.after k l in
        cursor_exists_lem s.sheet path (get_or t.cursors i 0) (subst (λ (z : State). get_or t.cursors i 0 ∈ z.cursors) e m);
    rules_exist = λ i h. let (k, l, m) = some_list (matched_ends t.states) t.matched s.matched i h in
        let (path, e) = s.known.after k l in
        rule_exists_lem s.sheet path (get_or t.matched i 0) (subst (λ (z : State). get_or t.matched i 0 ∈ z.matched) e m);
    parents = λ k h. (s.moves k h).parent;
    children = λ k h. (s.moves k h).child;
    subjects = s.subjects;
    root_cursors_lem = ap (λ (z : State). z.cursors) s.known.first;
    root_matched_lem = ap (λ (z : State). z.matched) s.known.first;
  }
