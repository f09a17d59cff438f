-- The steps that answer a record, by each way through the code, and that they make the record's answer. Assumes nothing.
use mathlib.Core.Path.{◌≡◌, refl, sym, ap, ◌∙◌}
use mathlib.Core.Bool.{Bool, true, false, not, cond, and-false}
use mathlib.Core.Option.{Option as Maybe}
use mathlib.Core.List.{List, [], ◌∷◌}
use Prim.Native.Nat.{ℕ, ◌+◌, ◌≤◌, ◌<◌}
use native.Mathlib.Omega.{arith}
use lib.ListN.{length, take, drop, replicate, length-take, length-drop, length-replicate}
use lib.Seq.{sets, sets-eq, take_at}
use lib.Dec.{eqb, ltb}
use borrow.Author.Tests.{lt-ltb, le-ltb, eq-eqb, ne_eqb, eqb-true, ltb-true, not-true, not-false}
use Rattle.theory.proofs.Lists.{and_left, and_right}
use Rattle.lent.specs.Pool.{list_at}
use Rattle.idset.specs.Buffers.{Holds}
use Rattle.std.specs.Prelude.{Option, Some, None, Result, Ok, Err, ⊤}
use Rattle.lent.specs.declared.Refusal.{Refusal}
use Rattle.lent.specs.declared.Refusal.TheVariants.{NoRoom}
use Rattle.lent.specs.Refusals.{number_of, verdict_of, refusal_of, Check, check, first_of}
use Rattle.lent.proofs.Refusals.{refusal_number, named, told_first}
use Rattle.idset.proofs.Buffers.{held_take}
use Rattle.selector.specs.Rows.{row_at}
use Rattle.selector.specs.Checks.{row_fits, tags_ascend}
use Rattle.typed.specs.Typed.{inputs_row}
use Rattle.sheet.specs.Shape.{sheet_shape}
use Rattle.sheet.proofs.Shaped.{shaped}
use Rattle.table.specs.Tables.{Table, table, stamp_in, ranking_in, states_in, matched_at}
use Rattle.table.specs.Shape.{table_shape}
use Rattle.table.specs.Entering.{lacks_room, child_of, entered}
use Rattle.table.specs.Calls.{broken, not_a_state, state_verdict, enter_verdict}
use Rattle.entering.specs.Answers.{Enters}
use Rattle.winners.specs.Winners.{Place}
use Rattle.winners.specs.Best.{Stands}
use Rattle.winners.specs.declared.Best.{Best}
use Rattle.changes.specs.Asked.{asked, differing}
use Rattle.changes.proofs.Keep.{keep_length}
use Rattle.changes.proofs.Asked.{changed_asked}
use Rattle.changes.proofs.Room.{asked_fits}
use Rattle.looking.specs.Calls.{rules_at, winner_in}
use Rattle.looking.proofs.Listed.{rules_are, rules_rise}
use Rattle.cascade.specs.Calls.{changed_in, changed_verdict}
use Rattle.covered.specs.Covered.{Covered}
use Rattle.covered.specs.Rooms.{Proper}
use Rattle.covered.proofs.Reached.{covered_sheet, covered_shaped, covered_sound, enters_right}
use Rattle.records.specs.declared.Record.{Record}
use Rattle.records.specs.Records.{Narrow}
use Rattle.wording.specs.Lines.{refused_line, state_line, changed_line, winner_line, Said}
use Rattle.replies.specs.Walking.{Walking, walking, subject_of, printed, item_fault, with_fit, entering_verdict, enter_after, changed_room, changing_verdict, winning_verdict, walking_verdict, accepted_line, walking_line, items_after, table_after, ends}
use Rattle.replies.specs.Memory.{Ready, Replies}
use Rattle.replies.specs.Steps.{lost_in, lost_either, enters_by, child_in, ItemsTaken, item, entering, changing, winning, misplaced, EntersIf, Tellable, told_line}
use Rattle.replies.proofs.Items.{emptied, subject_proper, proper_fits, proper_rises}

-- a list of a pool is no longer than the pool
pub list_few : (states pool : List ℕ) (k : ℕ) → length (matched_at states pool k) ≤ length pool
unfolding list_at
list_few states pool k = rw (length-take, length-drop) (omega arith)

-- ---- the table is in shape, and records name states with its stamp

module _ {w : List ℕ} {t : Table} (g : Covered w t) where
  pub in_shape : (sheet_shape w ≡ true) × (table_shape w t ≡ true)
  in_shape = (covered_sheet w g, covered_shaped w g)

  not_broken : broken w t ≡ false
  unfolding broken
  not_broken = rw (covered_sheet w g, covered_shaped w g)

-- ---- changed properties as words

module _ {w h s c m tr : List ℕ} (g : Covered w (table h s c m tr)) {old new : ℕ} (below : old < states_in h) (below' : new < states_in h) where
  -- "4,096 .. changed properties": no more can change
  changed_few : length (changed_in w (table h s c m tr) old new) ≤ 4096
  changed_few =
      let t = table h s c m tr in
      let e = in_shape g in
      let a = rules_are w h s c m tr e old below (rules_at t old) refl in
      let b = rules_are w h s c m tr e new below' (rules_at t new) refl in
      let i = rules_rise w h s c m tr e old below (rules_at t old) refl in
      let j = rules_rise w h s c m tr e new below' (rules_at t new) refl in
      let few = asked_fits (shaped w e.0) (rules_at t old) (rules_at t new) a b i j in
      rw (changed_asked w e.0 (ranking_in h) (rules_at t old) (rules_at t new) a b)
      (omega (arith, keep_length (differing w (ranking_in h) (rules_at t old) (rules_at t new)) (asked w (rules_at t old) (rules_at t new)), few))

  module _ {d halves : List ℕ} {n : ℕ} (u : Holds (changed_in w (table h s c m tr) old new) d n halves) where
    pub words_few : n ≤ 4096
    words_few = omega (arith, u.count, changed_few)

    pub words_are : (into : List ℕ) → length into ≡ 4096 → (after : List ℕ) → after ≡ sets into 0 (take n halves) → take n after ≡ changed_in w (table h s c m tr) old new
    words_are into e after f =
        let l = changed_in w (table h s c m tr) old new in
        let few : 0 + length l ≤ length into = omega (arith, e, changed_few) in
        rw (f, held_take u, sets-eq l into 0 few) (take_at l (drop (0 + length l) into) n (sym u.count))

-- the part that they are
module _ (l list : List ℕ) (n : ℕ) (u : (n ≡ length l) × (n ≤ 4096) × (take n list ≡ l)) where
  pub part_count : n ≡ length (take n list)
  part_count = u.0 ∙ ap length (sym u.2)

  pub part_few : length (take n list) ≤ 4096
  part_few = omega (arith, part_count, u.1)

  pub part_said : (out : List ℕ) (at x : ℕ) (out' : List ℕ) → Said (changed_line (take n list)) out at x out' → Said (changed_line l) out at x out'
  part_said out at x out' said = rw u.2 at said

-- ---- the steps, by each way through the code

-- a state's number

module _ (head : List ℕ) (k n : ℕ) (e : n ≡ states_in head) where
  pub lost_not : k < n → ◌≡◌ {A = ℕ} 0 (lost_in head k)
  lost_not h = rw (lt-ltb k (states_in head) (omega (arith, e)))

  pub lost_is : n ≤ k → ◌≡◌ {A = ℕ} 4 (lost_in head k)
  lost_is h = rw (le-ltb k (states_in head) (omega (arith, e)))

-- two of them, one after the other
module _ (head : List ℕ) (old new : ℕ) where
  pub either_first : (e : Refusal) → number_of e ≡ lost_in head old → {A : Type 0} (r : Result A Refusal) → r ≡ Err e → verdict_of r ≡ lost_either head old new
  either_first e q r i = rw i (by (ltb old (states_in head)) q)
    where
      by : (known : Bool) → number_of e ≡ cond known 0 4 → number_of e ≡ cond known (lost_in head new) 4
      by true z = absurd (refusal_number e z)
      by false z = z

  pub either_second : (v : ℕ) → 0 ≡ lost_in head old → v ≡ lost_in head new → v ≡ lost_either head old new
  either_second v q f = by (ltb old (states_in head)) q
    where
      by : (known : Bool) → ◌≡◌ {A = ℕ} 0 (cond known 0 4) → v ≡ cond known (lost_in head new) 4
      by true z = f
      by false z = absurd (omega (arith, z))

-- the items

module _ (head items : List ℕ) (r : Record) (fault : ℕ) (items' : List ℕ) where
  pub takes_item : r.kind ≡ 9 → (fault ≡ item_fault items r.first) × (items' ≡ with_fit items r.first r.second) → ItemsTaken head items r fault items'
  takes_item k f = item k f

  pub takes_enter : r.kind ≡ 10 → length items ≡ 38 → items' ≡ sets items 0 (replicate 38 0) → fault ≡ lost_in head r.first → ItemsTaken head items r fault items'
  takes_enter k e z f = entering k f (emptied items items' e z)

module _ (head items : List ℕ) (r : Record) where
  pub takes_changed : (fault : ℕ) → r.kind ≡ 11 → fault ≡ lost_either head r.first r.second → ItemsTaken head items r fault items
  takes_changed fault k f = changing k f refl

  pub takes_winner : (fault : ℕ) → r.kind ≡ 12 → fault ≡ lost_in head r.first → ItemsTaken head items r fault items
  takes_winner fault k f = winning k f refl

  pub takes_other : (r.kind ≡ 9 → ⊥) → (r.kind ≡ 10 → ⊥) → (r.kind ≡ 11 → ⊥) → (r.kind ≡ 12 → ⊥) → ItemsTaken head items r 10 items
  takes_other n9 n10 n11 n12 = misplaced n9 n10 n11 n12 refl refl

-- the entering

enters_not : (kind fault : ℕ) → (kind ≡ 10 → ⊥) → enters_by kind fault ≡ false
enters_not kind fault n = rw (ne_eqb kind 10 n)

refused_not : (kind fault : ℕ) → (fault ≡ 0 → ⊥) → enters_by kind fault ≡ false
refused_not kind fault n = rw (ne_eqb fault 0 n) (and-false (eqb kind 10))

-- what `entering` answers, by whether there is room
lacks_by : (lacks : Bool) (other : ℕ) → None ≡ cond lacks None (Some other) → lacks ≡ true
lacks_by true other e = refl
lacks_by false other e = cc

room_by : (lacks : Bool) (other child : ℕ) → Some child ≡ cond lacks None (Some other) → (lacks ≡ false) × (other ≡ child)
room_by true other child e = cc
room_by false other child e = (refl, cc)

module _ (w : List ℕ) (t : Table) (kind parent : ℕ) (row : List ℕ) {checked : Result ⊤ Refusal} where
  -- refused before
  pub steps_refused : {e : Refusal} → checked ≡ Err e → {r : Result (Option ℕ) Refusal} → r ≡ Err e → EntersIf w t kind parent (verdict_of checked) row r t
  steps_refused {e} c i =
      let f = refused_not kind (number_of e) (refusal_number e) in
      rw (c, i) (record { refusal = rw f; child = rw f; memory = rw f })

  module _ {u : ⊤} (c : checked ≡ Ok u) where
    -- no enter
    pub steps_none : (kind ≡ 10 → ⊥) → EntersIf w t kind parent (verdict_of checked) row (Ok None) t
    steps_none n = let f = enters_not kind 0 n in rw c (record { refusal = rw f; child = rw f; memory = rw f })

    module _ (k : kind ≡ 10) {x : Option ℕ} {t' : Table} (v : Enters w t parent row x t') where
      enter_asked : enters_by kind 0 ≡ true
      enter_asked = rw k

      pub steps_lacks : x ≡ None → EntersIf w t kind parent (verdict_of checked) row (Err NoRoom) t'
      steps_lacks n =
          let f = lacks_by (lacks_room w t parent row) _ (sym n ∙ v.answer) in
          rw c (record { refusal = rw (enter_asked, f); child = rw (enter_asked, f); memory = v.memory ∙ rw enter_asked })

      pub steps_enter : {child : ℕ} → x ≡ Some child → EntersIf w t kind parent (verdict_of checked) row (Ok (Some child)) t'
      steps_enter {child} s =
          let f = room_by (lacks_room w t parent row) _ child (sym s ∙ v.answer) in
          rw c (record { refusal = rw (enter_asked, f.0); child = rw (enter_asked, f.0, f.1); memory = v.memory ∙ rw enter_asked })

pub enter_fine : (w : List ℕ) (t : Table) (parent : ℕ) (row : List ℕ) {kind : ℕ} {checked : Result ⊤ Refusal} {u : ⊤} → checked ≡ Ok u → kind ≡ 10 → Covered w t
    → (enters_by kind (verdict_of checked) ≡ true → (parent < states_in t.head) × (row_fits 16 row 0 ≡ true) × (tags_ascend (row_at 16 row 0) ≡ true))
    → ((sheet_shape w ≡ true) × (table_shape w t ≡ true) × (parent < states_in t.head)) × ((row_fits 16 row 0 ≡ true) × (tags_ascend (row_at 16 row 0) ≡ true))
enter_fine w t parent row c e g y =
    let (k, s) = in_shape g in
    let (p, o, l) = y (rw (c, e)) in
    ((k, s, p), (o, l))

-- the line

module _ {w : List ℕ} {t : Table} {r : Record} {fault : ℕ} (g : Tellable w t r fault) where
  pub told_few : (child : ℕ) (l : List ℕ) → l ≡ matched_at t.states t.matched child → length l ≤ 4096
  told_few child l k = rw k (omega (arith, list_few t.states t.matched child, g.matched))

  -- by the numbers themselves: `search` does not see them as the record's
  module _ (first second : ℕ) (p : first ≡ r.first) (q : second ≡ r.second) where
    pub told_changing : fault ≡ 0 → r.kind ≡ 11 → Covered w t × (first < states_in t.head) × (second < states_in t.head)
    told_changing z k = rw (p, q) (g.changing z k)

    pub told_winning : fault ≡ 0 → r.kind ≡ 12 → Covered w t × (first < states_in t.head) × (second < 65536)
    told_winning z k = rw (p, q) (g.winning z k)

module _ (w : List ℕ) (t : Table) (r : Record) (out : List ℕ) (at offset : ℕ) where
  abbrev Tells : Result (Option ℕ) Refusal → ℕ → List ℕ → Type 0
  Tells e x out' = Said (printed (verdict_of e) offset (told_line w t r (child_in e))) out at x out'

  pub tells_refused : {e : Result (Option ℕ) Refusal} {f : Refusal} → e ≡ Err f → {n : ℕ} → n ≡ number_of f → {x : ℕ} {out' : List ℕ}
      → Said (refused_line n offset) out at x out' → Tells e x out'
  tells_refused {f = f} i q u = rw (i, ne_eqb (number_of f) 0 (refusal_number f), ← q) u

  module _ {e : Result (Option ℕ) Refusal} {o : Option ℕ} (i : e ≡ Ok o) where
    pub tells_entered : {child : ℕ} → o ≡ Some child → {l : List ℕ} → l ≡ matched_at t.states t.matched child → {x : ℕ} {out' : List ℕ}
        → Said (state_line child l) out at x out' → Tells e x out'
    unfolding told_line
    tells_entered c q u = rw (i, c, ← q) u

    module _ (n : o ≡ None) where
      pub tells_changed : r.kind ≡ 11 → {x : ℕ} {out' : List ℕ} → Said (changed_line (changed_in w t r.first r.second)) out at x out' → Tells e x out'
      unfolding told_line
      tells_changed k u = rw (i, n, k) u

      pub tells_winner : r.kind ≡ 12 → {x : ℕ} {out' : List ℕ} → Said (winner_line w r.second (winner_in w t r.first r.second)) out at x out' → Tells e x out'
      unfolding told_line
      tells_winner k u = rw (i, n, k) u

      pub tells_nothing : (r.kind ≡ 11 → ⊥) → (r.kind ≡ 12 → ⊥) → Tells e at out
      unfolding told_line
      tells_nothing n11 n12 = rw (i, n, ne_eqb r.kind 11 n11, ne_eqb r.kind 12 n12) (record { next = omega arith; whole = refl })

pub winner_said : (w h s c m tr : List ℕ) (k property : ℕ) (p : ℕ) → p ≡ property → (b : Option Best) → Stands w (ranking_in h) p (winner_in w (table h s c m tr) k p) b
    → (out : List ℕ) (at x : ℕ) (out' : List ℕ) → ((w : List ℕ) (ranking p : ℕ) (o : Maybe Place) → Stands w ranking p o b → Said (winner_line w property o) out at x out')
    → Said (winner_line w property (winner_in w (table h s c m tr) k property)) out at x out'
winner_said w h s c m tr k property p q b u out at x out' f = f w (ranking_in h) property (winner_in w (table h s c m tr) k property) (rw q at u)

-- ---- the steps make the record's answer

-- refusals 11, 2 and 1 let pass what the records before have left
told_enter : (known lacks : Bool)
    → first_of (check 11 false ∷ check 4 (not known) ∷ check 2 false ∷ check 1 false ∷ check 5 lacks ∷ []) ≡ cond known (cond lacks 5 0) 4
unfolding first_of
told_enter true true = refl
told_enter true false = refl
told_enter false lacks = refl

told_changed : (old new short : Bool) → (old ≡ true → new ≡ true → short ≡ false)
    → first_of (check 11 false ∷ check 4 (not old) ∷ check 4 (not new) ∷ check 8 short ∷ []) ≡ cond old (cond new 0 4) 4
unfolding first_of
told_changed true true short h = rw (h refl refl)
told_changed true false short h = refl
told_changed false new short h = refl

told_winner : (known : Bool) → first_of (check 11 false ∷ check 4 (not known) ∷ []) ≡ cond known 0 4
unfolding first_of
told_winner true = refl
told_winner false = refl

lost_none : (known : Bool) → ◌≡◌ {A = ℕ} (cond known 0 4) 0 → known ≡ true
lost_none true e = refl
lost_none false e = absurd (omega (arith, e))

lost_neither : (old new : Bool) → ◌≡◌ {A = ℕ} (cond old (cond new 0 4) 4) 0 → (old ≡ true) × (new ≡ true)
lost_neither true true e = (refl, refl)
lost_neither true false e = absurd (omega (arith, e))
lost_neither false new e = absurd (omega (arith, e))

has_room : (known lacks : Bool) → ◌≡◌ {A = ℕ} (cond known (cond lacks 5 0) 4) 0 → (known ≡ true) × (lacks ≡ false)
has_room true true e = absurd (omega (arith, e))
has_room true false e = (refl, refl)
has_room false lacks e = absurd (omega (arith, e))

-- an enter under a state is refused for want of room alone
room_told : (known lacks : Bool) → ◌≡◌ {A = ℕ} (cond (eqb (cond known 0 4) 0) (cond lacks 5 0) (cond known 0 4)) (cond known (cond lacks 5 0) 4)
room_told true lacks = refl
room_told false lacks = refl

room_used : (known lacks : Bool) (after before : Table)
    → cond (eqb (cond known 0 4) 0) (cond lacks before after) before ≡ cond (eqb (cond known (cond lacks 5 0) 4) 0) after before
room_used true true after before = refl
room_used true false after before = refl
room_used false lacks after before = refl

kept_by : (f : Table → ℕ) (b : Bool) (after before : Table) → (b ≡ true → f after ≡ f before) → f (cond b after before) ≡ f before
kept_by f true after before h = h refl
kept_by f false after before h = refl

printed_by : (b : Bool) (l l' other : List ℕ) → (b ≡ true → l ≡ l') → cond b l other ≡ cond b l' other
printed_by true l l' other h = h refl
printed_by false l l' other h = refl

not_ten : (l : List Check) → named l ≡ true → false ≡ eqb (first_of l) 10
unfolding refusal_of
not_ten l n = sym (ne_eqb (first_of l) 10 (λ e. let t = told_first l 10 n (sym e) (λ z. omega arith) in omega (arith, ap length t)))

-- no entering has refusal 10: its number is not told alone
pub enter_not_ten : (s : Walking) (parent : ℕ) → false ≡ eqb (entering_verdict s parent) 10
unfolding enter_verdict
enter_not_ten s parent = not_ten _ refl

module _ {head items : List ℕ} {r : Record} {fault : ℕ} {items' : List ℕ} where
  of_entering : ItemsTaken head items r fault items' → r.kind ≡ 10 → fault ≡ lost_in head r.first
  of_entering (item k f) e = absurd (omega (arith, k, e))
  of_entering (entering k f i) e = f
  of_entering (changing k f i) e = absurd (omega (arith, k, e))
  of_entering (winning k f i) e = absurd (omega (arith, k, e))
  of_entering (misplaced n9 n10 n11 n12 f i) e = absurd (n10 e)

  of_changing : ItemsTaken head items r fault items' → r.kind ≡ 11 → fault ≡ lost_either head r.first r.second
  of_changing (item k f) e = absurd (omega (arith, k, e))
  of_changing (entering k f i) e = absurd (omega (arith, k, e))
  of_changing (changing k f i) e = f
  of_changing (winning k f i) e = absurd (omega (arith, k, e))
  of_changing (misplaced n9 n10 n11 n12 f i) e = absurd (n11 e)

  of_winning : ItemsTaken head items r fault items' → r.kind ≡ 12 → fault ≡ lost_in head r.first
  of_winning (item k f) e = absurd (omega (arith, k, e))
  of_winning (entering k f i) e = absurd (omega (arith, k, e))
  of_winning (changing k f i) e = absurd (omega (arith, k, e))
  of_winning (winning k f i) e = f
  of_winning (misplaced n9 n10 n11 n12 f i) e = absurd (n12 e)

module _ (w h s c m tr items : List ℕ) (g : Ready w (table h s c m tr) items) where
  abbrev held : Table
  held = table h s c m tr

  abbrev now : Walking
  now = walking w held items

  abbrev whole : List ℕ
  whole = inputs_row (subject_of items)

  proper : Proper (subject_of items)
  proper = subject_proper items g.fits

  enter_verdict_lem : (k : ℕ) → entering_verdict now k ≡ cond (ltb k (states_in h)) (cond (lacks_room w held k whole) 5 0) 4
  unfolding enter_verdict not_a_state
  enter_verdict_lem k = rw (not_broken g.covered, eq-eqb (stamp_in h) (stamp_in h) refl, proper_fits proper, proper_rises proper)
      (told_enter (ltb k (states_in h)) (lacks_room w held k whole))

  changed_verdict_lem : (old new : ℕ) → changing_verdict now old new ≡ lost_either h old new
  unfolding changed_verdict not_a_state
  changed_verdict_lem old new = rw (not_broken g.covered, eq-eqb (stamp_in h) (stamp_in h) refl)
      (told_changed (ltb old (states_in h)) (ltb new (states_in h)) (ltb (length changed_room) (length (changed_in w held old new))) (λ a b.
      le-ltb (length changed_room) (length (changed_in w held old new)) (rw (length-replicate {A = ℕ} 4096 0) (changed_few g.covered (ltb-true old (states_in h) a) (ltb-true new (states_in h) b)))))

  winner_verdict : (k : ℕ) → winning_verdict now k ≡ lost_in h k
  unfolding state_verdict not_a_state
  winner_verdict k = rw (not_broken g.covered, eq-eqb (stamp_in h) (stamp_in h) refl) (told_winner (ltb k (states_in h)))

  module _ (r : Record) (row : List ℕ) (q : r.kind ≡ 10 → row ≡ whole) (fault : ℕ) (items' : List ℕ) (u : ItemsTaken h items r fault items') where
    pub enter_ready : enters_by r.kind fault ≡ true → (r.first < states_in h) × (row_fits 16 row 0 ≡ true) × (tags_ascend (row_at 16 row 0) ≡ true)
    enter_ready b =
        let k = eqb-true r.kind 10 (and_left _ _ b) in
        let z = eqb-true fault 0 (and_right (eqb r.kind 10) _ b) in
        (ltb-true r.first (states_in h) (lost_none _ (sym (of_entering u k) ∙ z)), rw (q k) (proper_fits proper), rw (q k) (proper_rises proper))

    module _ (e : Result (Option ℕ) Refusal) (t' : Table) (v : EntersIf w held r.kind r.first fault row e t') where
      not_entered_lem : (r.kind ≡ 10 → ⊥) → (verdict_of e ≡ fault) × (t' ≡ held)
      not_entered_lem n = (rw (ne_eqb r.kind 10 n) at v.refusal, rw (ne_eqb r.kind 10 n) at v.memory)

      childless : (r.kind ≡ 10 → ⊥) → child_in e ≡ None
      childless n = rw (ne_eqb r.kind 10 n) at v.child

      enter_fault : r.kind ≡ 10 → verdict_of e ≡ cond (ltb r.first (states_in h)) (cond (lacks_room w held r.first whole) 5 0) 4
      enter_fault k =
          let known = ltb r.first (states_in h) in
          let lacks = lacks_room w held r.first whole in
          let a = rw (k, q k, of_entering u k) at v.refusal in
          a ∙ room_told known lacks

      enter_memory : r.kind ≡ 10 → t' ≡ enter_after now r.first
      unfolding enter_after
      enter_memory k =
          let known = ltb r.first (states_in h) in
          let lacks = lacks_room w held r.first whole in
          let a = rw (k, q k, of_entering u k) at v.memory in
          rw (enter_verdict_lem r.first) (a ∙ room_used known lacks (entered w held r.first whole) held)

      enter_line : r.kind ≡ 10 → verdict_of e ≡ 0 → (child_in e ≡ Some (child_of w held r.first whole)) × (t' ≡ entered w held r.first whole)
      enter_line k z =
          let (a, b) = has_room (ltb r.first (states_in h)) (lacks_room w held r.first whole) (sym (enter_fault k) ∙ z) in
          (rw (k, q k, of_entering u k, a, b) at v.child, rw (k, q k, of_entering u k, a, b) at v.memory)

      verdict_is : ItemsTaken h items r fault items' → walking_verdict now r ≡ (verdict_of e)
      unfolding walking_verdict
      verdict_is (item k f) = rw k (sym ((not_entered_lem (λ l. omega (arith, k, l))).0 ∙ f.0))
      verdict_is (entering k f i) = rw k (enter_verdict_lem r.first ∙ sym (enter_fault k))
      verdict_is (changing k f i) = rw k (changed_verdict_lem r.first r.second ∙ sym ((not_entered_lem (λ l. omega (arith, k, l))).0 ∙ f))
      verdict_is (winning k f i) = rw k (winner_verdict r.first ∙ sym ((not_entered_lem (λ l. omega (arith, k, l))).0 ∙ f))
      verdict_is (misplaced n9 n10 n11 n12 f i) = rw (ne_eqb r.kind 9 n9, ne_eqb r.kind 10 n10, ne_eqb r.kind 11 n11, ne_eqb r.kind 12 n12)
          (sym ((not_entered_lem n10).0 ∙ f))

      line_is : ItemsTaken h items r fault items' → verdict_of e ≡ 0 → accepted_line now r ≡ told_line w t' r (child_in e)
      unfolding accepted_line told_line
      line_is (item k f) z = rw (k, childless (λ l. omega (arith, k, l)))
      line_is (entering k f i) z = rw (k, (enter_line k z).0, (enter_line k z).1)
      line_is (changing k f i) z = rw (k, childless (λ l. omega (arith, k, l)), (not_entered_lem (λ l. omega (arith, k, l))).1)
      line_is (winning k f i) z = rw (k, childless (λ l. omega (arith, k, l)), (not_entered_lem (λ l. omega (arith, k, l))).1)
      line_is (misplaced n9 n10 n11 n12 f i) z = rw (childless n10, ne_eqb r.kind 9 n9, ne_eqb r.kind 10 n10, ne_eqb r.kind 11 n11, ne_eqb r.kind 12 n12)

      table_is : ItemsTaken h items r fault items' → t' ≡ table_after now r
      unfolding table_after
      table_is (item k f) = rw k (not_entered_lem (λ l. omega (arith, k, l))).1
      table_is (entering k f i) = rw k (enter_memory k)
      table_is (changing k f i) = rw k (not_entered_lem (λ l. omega (arith, k, l))).1
      table_is (winning k f i) = rw k (not_entered_lem (λ l. omega (arith, k, l))).1
      table_is (misplaced n9 n10 n11 n12 f i) = rw (ne_eqb r.kind 10 n10) (not_entered_lem n10).1

      items_are : ItemsTaken h items r fault items' → items' ≡ items_after now r
      unfolding items_after
      items_are (item k f) = rw k f.1
      items_are (entering k f i) = rw k i
      items_are (changing k f i) = rw k i
      items_are (winning k f i) = rw k i
      items_are (misplaced n9 n10 n11 n12 f i) = rw (ne_eqb r.kind 9 n9, ne_eqb r.kind 10 n10) i

      -- entering keeps the room of the matched rules
      room_stays : length (table_after now r).matched ≡ length m
      unfolding table_after enter_after
      room_stays = kept_by (λ (y : Table). length y.matched) (eqb r.kind 10) (enter_after now r.first) held (λ _.
          kept_by (λ (y : Table). length y.matched) (eqb (entering_verdict now r.first) 0) (entered w held r.first whole) held (λ a.
          (enters_right w (covered_sound w g.covered) r.first (stamp_in h) (subject_of items) (eqb-true (entering_verdict now r.first) 0 a)).kept.stay.matched_room))

      pub tell_ready : Narrow r → Tellable w t' r (verdict_of e)
      tell_ready n = record {
        matched = ap (λ (y : Table). length y.matched) (table_is u) ∙ room_stays ∙ g.matched;
        changing = λ z k.
            let (a, b) = not_entered_lem (λ l. omega (arith, k, l)) in
            let (o, p) = lost_neither _ _ (sym (a ∙ of_changing u k) ∙ z) in
            rw b (g.covered, ltb-true r.first (states_in h) o, ltb-true r.second (states_in h) p);
        winning = λ z k.
            let (a, b) = not_entered_lem (λ l. omega (arith, k, l)) in
            let o = lost_none _ (sym (a ∙ of_winning u k) ∙ z) in
            rw b (g.covered, ltb-true r.first (states_in h) o, n.winner k);
      }

      pub replies_told : (out : List ℕ) (at offset x : ℕ) (out' : List ℕ) → Said (printed (verdict_of e) offset (told_line w t' r (child_in e))) out at x out'
          → (b : Bool) → b ≡ eqb (verdict_of e) 10 → Replies now offset r out at (record { used = x; ends = b }) out' t' items'
      unfolding walking_line ends
      replies_told out at offset x out' l b q = record {
        line = rw (
          verdict_is u,
          printed_by (eqb (verdict_of e) 0) (accepted_line now r) (told_line w t' r (child_in e)) (refused_line (verdict_of e) offset) (λ z. line_is u (eqb-true (verdict_of e) 0 z)),
        ) l;
        table = table_is u;
        items = items_are u;
        ends = q ∙ rw (verdict_is u);
      }
