-- What an accepted call says of its arguments, and what makes an entering accepted. Assumes nothing.
use mathlib.Core.Path.{◌≡◌, refl}
use mathlib.Core.Bool.{true, false, not}
use mathlib.Core.List.{List}
use mathlib.Core.Option.{Option, none, some}
use Prim.Native.Nat.{ℕ, ◌≤◌, ◌<◌}
use native.Mathlib.Omega.{arith}
use lib.ListN.{length}
use lib.Dec.{leb, ltb, eqb}
use borrow.Author.Tests.{lt-ltb, le-ltb, eq-eqb, ltb-true, ltb-false, leb-true, eqb-true, not-true, not-false}
use Rattle.theory.specs.Lists.{ascends}
use Rattle.theory.proofs.Lists.{and_left, and_right, or_first, or_second}
use Rattle.lent.specs.Refusals.{first_of}
use Rattle.lent.proofs.Refusals.{first_clear}
use Rattle.selector.specs.Rows.{row_at}
use Rattle.selector.specs.Checks.{row_fits, tags_ascend}
use Rattle.selector.specs.Weighing.{is_set}
use Rattle.typed.specs.declared.SelectorInputs.{SelectorInputs}
use Rattle.typed.specs.Typed.{inputs_tags, inputs_row, type_of, part_of}
use Rattle.typed.proofs.Laws.{inputs_row_lem}
use Rattle.sheet.specs.Shape.{sheet_shape}
use Rattle.table.specs.Tables.{Table, stamp_in, states_in}
use Rattle.table.specs.Entering.{roots_of, root_lacks_room, lacks_room}
use Rattle.table.specs.Calls.{broken, not_a_state, build_verdict, enter_verdict}
use Rattle.table.proofs.Shaped.{unshaped}
use Rattle.covered.specs.Covered.{Enters}
use Rattle.covered.specs.Rooms.{Proper}
use Rattle.covered.proofs.Rows.{Fine}
use Rattle.covered.proofs.Sound.{Sound, sound_shaped}

-- ---- build

pub record BuildAccepted (w : List ℕ) (ranking : ℕ) (states cursors : List ℕ) : Type 0 where
  pub shape : sheet_shape w ≡ true
  pub ranks : ranking ≤ 1
  pub rows : 3 ≤ length states
  pub room : length (roots_of w) ≤ length cursors

pub build_accepted : (w : List ℕ) (ranking : ℕ) (states cursors : List ℕ) → build_verdict w ranking states cursors ≡ 0 → BuildAccepted w ranking states cursors
unfolding build_verdict root_lacks_room
build_accepted w ranking states cursors e =
    let (a, f) = first_clear 11 (not (sheet_shape w)) _ (omega arith) e in
    let (b, g) = first_clear 6 (ltb 1 ranking) _ (omega arith) f in
    let (c, h) = first_clear 5 (root_lacks_room w states cursors) _ (omega arith) g in
    let room = not-false _ c in
    record {
      shape = not-false _ a;
      ranks = ltb-false 1 ranking b;
      rows = leb-true 3 (length states) (and_left _ _ room);
      room = leb-true (length (roots_of w)) (length cursors) (and_right (leb 3 (length states)) _ room);
    }

-- ---- entering

pub row_tags : {x : SelectorInputs} → Proper x → row_at 16 (inputs_row x) 0 ≡ inputs_tags x
row_tags {x} p = inputs_row_lem x p.classes p.pseudos

flag_small : (o : Option ℕ) → is_set o ≤ 1
flag_small none = omega arith
flag_small (some n) = omega arith

pub proper_fine : {x : SelectorInputs} → Proper x → Fine (inputs_row x)
proper_fine {x} p = record {
  long = refl;
  type_flag = flag_small (type_of x.type_tag);
  part_flag = flag_small (part_of x.part_tag);
  classes = p.classes;
  pseudos = p.pseudos;
  classes_rise = rw (row_tags p) (and_left (ascends (inputs_tags x).classes) _ p.rise);
  pseudos_rise = rw (row_tags p) (and_right (ascends (inputs_tags x).classes) _ p.rise);
}

pub record EnterAccepted (w : List ℕ) (t : Table) (number stamp : ℕ) (x : SelectorInputs) : Type 0 where
  pub there : number < states_in t.head
  pub stamped : stamp ≡ stamp_in t.head
  pub proper : Proper x
  pub room : lacks_room w t number (inputs_row x) ≡ false

module _ (w : List ℕ) (t : Table) (number stamp : ℕ) (x : SelectorInputs) where
  pub enter_accepted : Enters w t number stamp x → EnterAccepted w t number stamp x
  unfolding enter_verdict not_a_state
  enter_accepted e =
      let row = inputs_row x in
      let (a, f) = first_clear 11 (broken w t) _ (omega arith) e in
      let (b, g) = first_clear 4 (not_a_state t.head number stamp) _ (omega arith) f in
      let (c, h) = first_clear 2 (not (row_fits 16 row 0)) _ (omega arith) g in
      let (d, i) = first_clear 1 (not (tags_ascend (row_at 16 row 0))) _ (omega arith) h in
      let (r, j) = first_clear 5 (lacks_room w t number row) _ (omega arith) i in
      let counts = not-false (row_fits 16 row 0) c in
      let n = ltb-false 16 x.class_count (not-true _ (and_left _ _ counts)) in
      let m = ltb-false 16 x.pseudo_count (not-true _ (and_right (not (ltb 16 x.class_count)) _ counts)) in
      record {
        there = ltb-true number (states_in t.head) (not-false _ (or_second (not (eqb stamp (stamp_in t.head))) _ b));
        stamped = eqb-true stamp (stamp_in t.head) (not-false _ (or_first (not (eqb stamp (stamp_in t.head))) _ b));
        proper = record { classes = n; pseudos = m; rise = rw (inputs_row_lem x n m) at (not-false (tags_ascend (row_at 16 row 0)) d) };
        room = r;
      }

  -- on a table of the invariant these suffice
  pub enter_accepts : Sound w t → EnterAccepted w t number stamp x → Enters w t number stamp x
  unfolding enter_verdict broken not_a_state first_of
  enter_accepts s a = rw (
    s.sheet,
    unshaped (sound_shaped w s),
    eq-eqb stamp (stamp_in t.head) a.stamped,
    lt-ltb number (states_in t.head) a.there,
    le-ltb 16 x.class_count a.proper.classes,
    le-ltb 16 x.pseudo_count a.proper.pseudos,
    row_tags a.proper,
    a.proper.rise,
    a.room,
  )
