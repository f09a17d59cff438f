-- What the test of a table's shape means. Assumes nothing.
use mathlib.Core.Path.{◌≡◌}
use mathlib.Core.Bool.{true}
use mathlib.Core.List.{List, []}
use Prim.Native.Nat.{ℕ, ◌+◌, ◌*◌, ◌/◌, ◌%◌, ◌≤◌, ◌<◌}
use lib.ListN.{length, get_or}
use borrow.Author.Tests.{lt-ltb, ltb-true, le-leb, leb-true, eq-eqb, eqb-true}
use Rattle.theory.specs.Lists.{ascends}
use Rattle.theory.specs.States.{rule, starts}
use Rattle.theory.proofs.Lists.{and_left, and_right}
use Rattle.lent.specs.All.{all_below}
use Rattle.lent.specs.Pool.{start_of}
use Rattle.lent.proofs.All.{all_at, all_intro}
use Rattle.sheet.specs.Layout.{rules_in}
use Rattle.sheet.specs.Shape.{end_to_end, ends_at}
use Rattle.sheet.proofs.Shaped.{end_within}
use Rattle.table.specs.Tables
use Rattle.table.specs.Shape.{root_there, states_fit, ranking_fits, states_held, cursors_held, matched_held, transitions_held, classes_fit, pseudos_fit, type_flag_fits, part_flag_fits, cursors_ascend, matched_ascend, classes_ascend, pseudos_ascend, cursor_exists, rule_exists, parent_exists, child_exists, root_cursors, root_matched, counts_fit, state_fine, subject_fine, transition_fine, lists_meet, states_fine, numbers_exist, root_built, table_shape}
use Rattle.table.proofs.Same.{same_is}

-- the subject of transition k
pub record SubjectShaped (transitions : List ℕ) (k : ℕ) : Type 0 where
  pub type_flag : get_or transitions (Tables.subject_place k) 0 ≤ 1
  pub part_flag : get_or transitions (Tables.subject_place k + 2) 0 ≤ 1
  pub classes : get_or transitions (Tables.subject_place k + 4) 0 ≤ 16
  pub pseudos : get_or transitions (Tables.subject_place k + 5) 0 ≤ 16
  pub classes_rise : ascends (Tables.subject_of transitions k).classes ≡ true
  pub pseudos_rise : ascends (Tables.subject_of transitions k).pseudos ≡ true

pub record Shaped (w : List ℕ) (t : Tables.Table) : Type 0 where
  pub root : 1 ≤ Tables.states_in t.head
  pub few : Tables.states_in t.head ≤ 512
  pub ranking : Tables.ranking_in t.head ≤ 1
  pub rows : 3 * Tables.states_in t.head ≤ length t.states
  pub cursor_room : Tables.cursors_in t.head ≤ length t.cursors
  pub matched_room : Tables.matched_in t.head ≤ length t.matched
  pub transition_room : 41 * Tables.transitions_in t.head ≤ length t.transitions
  pub cursors_up : (k : ℕ) → k < Tables.states_in t.head → start_of (Tables.cursor_ends t.states) k ≤ Tables.cursor_ends t.states k
  pub matched_up : (k : ℕ) → k < Tables.states_in t.head → start_of (Tables.matched_ends t.states) k ≤ Tables.matched_ends t.states k
  pub cursors_end : start_of (Tables.cursor_ends t.states) (Tables.states_in t.head) ≡ Tables.cursors_in t.head
  pub matched_end : start_of (Tables.matched_ends t.states) (Tables.states_in t.head) ≡ Tables.matched_in t.head
  pub cursors_rise : (k : ℕ) → k < Tables.states_in t.head → ascends (Tables.cursors_at t.states t.cursors k) ≡ true
  pub matched_rise : (k : ℕ) → k < Tables.states_in t.head → ascends (Tables.matched_at t.states t.matched k) ≡ true
  pub cursors_exist : (i : ℕ) → i < Tables.cursors_in t.head → get_or t.cursors i 0 % 8 < length (rule (Tables.selectors_of w) (get_or t.cursors i 0 / 8))
  pub rules_exist : (i : ℕ) → i < Tables.matched_in t.head → get_or t.matched i 0 < rules_in w
  pub parents : (k : ℕ) → k < Tables.transitions_in t.head → Tables.parent_at t.transitions k < Tables.states_in t.head
  pub children : (k : ℕ) → k < Tables.transitions_in t.head → Tables.child_at t.transitions k < Tables.states_in t.head
  pub subjects : (k : ℕ) → k < Tables.transitions_in t.head → SubjectShaped t.transitions k
  pub root_cursors_lem : Tables.cursors_at t.states t.cursors 0 ≡ starts 0 (Tables.selectors_of w)
  pub root_matched_lem : Tables.matched_at t.states t.matched 0 ≡ []

-- ---- a state, a transition

module _ (states cursors matched : List ℕ) where
  states_to : (n : ℕ) → all_below n (state_fine states cursors matched) ≡ true → (k : ℕ) → k < n
      → (start_of (Tables.cursor_ends states) k ≤ Tables.cursor_ends states k)
      × (start_of (Tables.matched_ends states) k ≤ Tables.matched_ends states k)
      × (ascends (Tables.cursors_at states cursors k) ≡ true)
      × (ascends (Tables.matched_at states matched k) ≡ true)
  unfolding state_fine cursors_ascend matched_ascend end_to_end
  states_to n each k l =
      let e = all_at (state_fine states cursors matched) n k l each in
      let f = and_right (end_to_end (Tables.cursor_ends states) k) _ e in
      let g = and_right (end_to_end (Tables.matched_ends states) k) _ f in (
        leb-true _ _ (and_left (end_to_end (Tables.cursor_ends states) k) _ e),
        leb-true _ _ (and_left (end_to_end (Tables.matched_ends states) k) _ f),
        and_left (cursors_ascend states cursors k) _ g,
        and_right (cursors_ascend states cursors k) _ g,
      )

  state_from : (k : ℕ)
      → start_of (Tables.cursor_ends states) k ≤ Tables.cursor_ends states k
      → start_of (Tables.matched_ends states) k ≤ Tables.matched_ends states k
      → ascends (Tables.cursors_at states cursors k) ≡ true
      → ascends (Tables.matched_at states matched k) ≡ true
      → state_fine states cursors matched k ≡ true
  unfolding state_fine cursors_ascend matched_ascend end_to_end
  state_from k p q e f = rw (le-leb _ (Tables.cursor_ends states k) p, le-leb _ (Tables.matched_ends states k) q, e, f)

module _ (transitions : List ℕ) (k : ℕ) where
  subject_to : subject_fine transitions k ≡ true → SubjectShaped transitions k
  unfolding subject_fine type_flag_fits part_flag_fits classes_fit pseudos_fit classes_ascend pseudos_ascend
  subject_to e =
      let f = and_right (type_flag_fits transitions k) _ e in
      let g = and_right (part_flag_fits transitions k) _ f in
      let h = and_right (classes_fit transitions k) _ g in
      let i = and_right (pseudos_fit transitions k) _ h in
      record {
        type_flag = leb-true _ 1 (and_left (type_flag_fits transitions k) _ e);
        part_flag = leb-true _ 1 (and_left (part_flag_fits transitions k) _ f);
        classes = leb-true _ 16 (and_left (classes_fit transitions k) _ g);
        pseudos = leb-true _ 16 (and_left (pseudos_fit transitions k) _ h);
        classes_rise = and_left (classes_ascend transitions k) _ i;
        pseudos_rise = and_right (classes_ascend transitions k) _ i;
      }

  subject_from : SubjectShaped transitions k → subject_fine transitions k ≡ true
  unfolding subject_fine type_flag_fits part_flag_fits classes_fit pseudos_fit classes_ascend pseudos_ascend
  subject_from s = rw (le-leb _ 1 s.type_flag, le-leb _ 1 s.part_flag, le-leb _ 16 s.classes, le-leb _ 16 s.pseudos, s.classes_rise, s.pseudos_rise)

module _ (head transitions : List ℕ) where
  transitions_to : (n : ℕ) → all_below n (transition_fine head transitions) ≡ true → (k : ℕ) → k < n
      → (Tables.parent_at transitions k < Tables.states_in head) × (Tables.child_at transitions k < Tables.states_in head) × SubjectShaped transitions k
  unfolding transition_fine parent_exists child_exists
  transitions_to n each k l =
      let e = all_at (transition_fine head transitions) n k l each in
      let f = and_right (parent_exists head transitions k) _ e in (
        ltb-true _ _ (and_left (parent_exists head transitions k) _ e),
        ltb-true _ _ (and_left (child_exists head transitions k) _ f),
        subject_to transitions k (and_right (child_exists head transitions k) _ f),
      )

  transition_from : (k : ℕ) → Tables.parent_at transitions k < Tables.states_in head → Tables.child_at transitions k < Tables.states_in head → SubjectShaped transitions k
      → transition_fine head transitions k ≡ true
  unfolding transition_fine parent_exists child_exists
  transition_from k p c s = rw (lt-ltb _ (Tables.states_in head) p, lt-ltb _ (Tables.states_in head) c, subject_from transitions k s)

-- ---- the whole

module _ (w : List ℕ) (t : Tables.Table) where
  pub shaped : table_shape w t ≡ true → Shaped w t
  unfolding table_shape counts_fit root_there states_fit ranking_fits states_held cursors_held matched_held transitions_held states_fine lists_meet ends_at numbers_exist cursor_exists rule_exists root_built root_cursors root_matched
  shaped e =
      let head = t.head in
      let n = Tables.states_in head in
      let m = Tables.transitions_in head in
      let each = all_below n (state_fine t.states t.cursors t.matched) in
      let meet = ends_at (Tables.cursor_ends t.states) n (Tables.cursors_in head) in
      let exist = all_below (Tables.cursors_in head) (λ i. cursor_exists w (get_or t.cursors i 0)) in
      let move = all_below m (transition_fine head t.transitions) in
      let root = root_cursors w t.states t.cursors in
      let counts = and_left (counts_fit t) _ e in
      let fit = and_right (root_there head) _ counts in
      let code = and_right (states_fit head) _ fit in
      let rows = and_right (ranking_fits head) _ code in
      let pool = and_right (states_held head t.states) _ rows in
      let rest = and_right (cursors_held head t.cursors) _ pool in
      let after = and_right (counts_fit t) _ e in
      let states = and_left (states_fine t) _ after in
      let ends = and_right each _ states in
      let state = states_to t.states t.cursors t.matched n (and_left each _ states) in
      let later = and_right (states_fine t) _ after in
      let numbers = and_left (numbers_exist w t) _ later in
      let last = and_right (numbers_exist w t) _ later in
      let transition = transitions_to head t.transitions m (and_left move _ last) in
      let built = and_right move _ last in
      record {
        root = leb-true 1 _ (and_left (root_there head) _ counts);
        few = leb-true _ 512 (and_left (states_fit head) _ fit);
        ranking = leb-true _ 1 (and_left (ranking_fits head) _ code);
        rows = leb-true _ _ (and_left (states_held head t.states) _ rows);
        cursor_room = leb-true _ _ (and_left (cursors_held head t.cursors) _ pool);
        matched_room = leb-true _ _ (and_left (matched_held head t.matched) _ rest);
        transition_room = leb-true _ _ (and_right (matched_held head t.matched) _ rest);
        cursors_up = λ k l. (state k l).0;
        matched_up = λ k l. (state k l).1;
        cursors_end = eqb-true _ _ (and_left meet _ ends);
        matched_end = eqb-true _ _ (and_right meet _ ends);
        cursors_rise = λ k l. (state k l).2;
        matched_rise = λ k l. (state k l).3;
        cursors_exist = λ i l. ltb-true _ _ (all_at _ (Tables.cursors_in head) i l (and_left exist _ numbers));
        rules_exist = λ i l. ltb-true _ _ (all_at _ (Tables.matched_in head) i l (and_right exist _ numbers));
        parents = λ k l. (transition k l).0;
        children = λ k l. (transition k l).1;
        subjects = λ k l. (transition k l).2;
        root_cursors_lem = (same_is _ _).0 (and_left root _ built);
        root_matched_lem = (same_is _ _).0 (and_right root _ built);
      }

module _ {w : List ℕ} {t : Tables.Table} (s : Shaped w t) where
  counts_from : counts_fit t ≡ true
  unfolding counts_fit root_there states_fit ranking_fits states_held cursors_held matched_held transitions_held
  counts_from = rw (
    le-leb 1 _ s.root,
    le-leb _ 512 s.few,
    le-leb _ 1 s.ranking,
    le-leb _ _ s.rows,
    le-leb _ _ s.cursor_room,
    le-leb _ _ s.matched_room,
    le-leb _ _ s.transition_room,
  )

  states_from : states_fine t ≡ true
  unfolding states_fine lists_meet ends_at
  states_from = rw (
    all_intro (state_fine t.states t.cursors t.matched) (Tables.states_in t.head) (λ k l. state_from t.states t.cursors t.matched k (s.cursors_up k l) (s.matched_up k l) (s.cursors_rise k l) (s.matched_rise k l)),
    eq-eqb _ (Tables.cursors_in t.head) s.cursors_end,
    eq-eqb _ (Tables.matched_in t.head) s.matched_end,
  )

  numbers_from_lem : numbers_exist w t ≡ true
  unfolding numbers_exist cursor_exists rule_exists
  numbers_from_lem = rw (
    all_intro (λ i. cursor_exists w (get_or t.cursors i 0)) (Tables.cursors_in t.head) (λ i l. lt-ltb _ _ (s.cursors_exist i l)),
    all_intro (λ i. rule_exists w (get_or t.matched i 0)) (Tables.matched_in t.head) (λ i l. lt-ltb _ _ (s.rules_exist i l)),
  )

  root_from : root_built w t ≡ true
  unfolding root_built root_cursors root_matched
  root_from = rw ((same_is (Tables.cursors_at t.states t.cursors 0) _).1 s.root_cursors_lem, (same_is (Tables.matched_at t.states t.matched 0) _).1 s.root_matched_lem)

  pub unshaped : table_shape w t ≡ true
  unfolding table_shape
  unshaped = rw (
    counts_from,
    states_from,
    numbers_from_lem,
    all_intro (transition_fine t.head t.transitions) (Tables.transitions_in t.head) (λ k l. transition_from t.head t.transitions k (s.parents k l) (s.children k l) (s.subjects k l)),
    root_from,
  )

  -- ---- what follows

  -- each end of a list of matched rules is within those there
  pub matched_ends_within : (k : ℕ) → k < Tables.states_in t.head → Tables.matched_ends t.states k ≤ Tables.matched_in t.head
  matched_ends_within k h = end_within (Tables.matched_ends t.states) (Tables.states_in t.head) (Tables.matched_in t.head) s.matched_up s.matched_end k h
