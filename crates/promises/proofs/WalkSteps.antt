-- Each call of 01's `walk` example, by its contract: with room it is accepted, and this is its answer. Proofs for WalkRun.antt. Assumes nothing.
use mathlib.Core.Path.{◌≡◌, refl, sym, ap, ◌∙◌, subst}
use mathlib.Core.Bool.{true, false, and-false}
use mathlib.Core.List.{List, [], ◌∷◌, ◌++◌}
use mathlib.Core.Logic.{◌≢◌}
use Prim.Native.Nat.{ℕ, zero, suc, ◌+◌, ◌*◌, ◌≤◌, ◌<◌}
use native.Mathlib.Omega.{arith}
use lib.ListN.{length, get_or}
use lib.Seq.{length-sets}
use lib.Dec.{eqb}
use borrow.Author.Tests.{lt-ltb, le-leb, le-ltb}
use Rattle.std.specs.Prelude.{Result, Ok, ⊤}
use Rattle.lent.specs.declared.Refusal.{Refusal}
use Rattle.theory.specs.Lists.{ascends_from, sum_below}
use Rattle.theory.specs.States.{Sheet, State, starts, enter}
use Rattle.theory.proofs.States.{run_snoc}
use Rattle.lent.specs.Refusals.{first_of}
use Rattle.selector.specs.Tags.{Tags, step_matches}
use Rattle.selector.specs.Rows.{row_at}
use Rattle.typed.specs.declared.SelectorInputs.{SelectorInputs}
use Rattle.typed.specs.Typed.{inputs_tags, inputs_row}
use Rattle.sheet.specs.Shape.{sheet_shape}
use Rattle.table.specs.Tables.{Table, selectors_of, states_in, cursors_in, matched_in, cursor_ends, matched_ends, state_at}
use Rattle.table.specs.Entering.{roots_of, root_lacks_room, built, next_state, room_for, room_in, cached_in, lacks_room, child_of}
use Rattle.table.specs.Calls.{build_verdict}
use Rattle.matcher.specs.declared.MatchState.{MatchState}
use Rattle.building.specs.Answers.{Build}
use Rattle.building.proofs.Answers.{built_is}
use Rattle.building.proofs.Distinct.{building_distinct}
use Rattle.entering.specs.Answers.{Enter}
use Rattle.entering.proofs.Answers.{entered_is, entering_distinct}
use Rattle.covered.specs.Covered.{Covered, Reached, Enters, Numbered}
use Rattle.covered.specs.Covered.Numbered.{reused, next}
use Rattle.covered.specs.Rooms.{Proper}
use Rattle.covered.proofs.Accepted.{row_tags, enter_accepts}
use Rattle.covered.proofs.Held.{column_sum}
use Rattle.covered.proofs.Reached.{covered_sound, enters_right, reached_covered, reached_is}
use Rattle.promises.specs.Walk.{typed, subject, walk, after, Lent, state}
use Rattle.promises.proofs.Calls.{build_reaches, build_one_state, enter_keeps, enter_reaches, enter_numbers}
use Rattle.promises.proofs.WalkExample.{after_none, after_1, after_1_9, after_1_5, after_5, one_state, two_states}

pub proper : (n : ℕ) → Proper (subject n)
unfolding inputs_tags ascends_from
proper n = record { classes = omega arith; pseudos = omega arith; rise = refl }

-- ---- room

module _ {w : List ℕ} {t t' : Table} (lent : Lent t) where
  lent_built : {stamp ranking : ℕ} → Build w stamp ranking t (Ok tt) t' → Lent t'
  unfolding built
  lent_built b = let (_, q) = built_is b in rw q (record { rows = rw length-sets lent.rows; cursors = rw length-sets lent.cursors; matched = lent.matched })

  lent_entered : {number stamp : ℕ} (x : SelectorInputs) {s : MatchState} → Covered w t → Enter w t number stamp (inputs_row x) (Ok s) t' → Lent t'
  lent_entered {number} {stamp} x c u =
      let (v, _, _, q) = entered_is u in
      let stay = (enters_right w (covered_sound w c) number stamp x v).kept.stay in
      rw q (record { rows = rw stay.rows lent.rows; cursors = rw stay.cursor_room lent.cursors; matched = rw stay.matched_room lent.matched })

module _ {w : List ℕ} (e : selectors_of w ≡ walk) {t : Table} {number stamp : ℕ} {path : List Tags} (r : Reached w t number stamp path) where
  -- how long a state's lists are
  long : {x : State} → after path ≡ x → (length (state_at t number).cursors ≡ length x.cursors) × (length (state_at t number).matched ≡ length x.matched)
  long f =
      let (_, _, q) = reached_is w r in
      let z = rw e at q ∙ f in
      (ap (λ (s : State). length s.cursors) z, ap (λ (s : State). length s.matched) z)

  -- how long those of all states are
  sums : (cursors_in t.head ≡ sum_below (λ k. length (state_at t k).cursors) (states_in t.head)) × (matched_in t.head ≡ sum_below (λ k. length (state_at t k).matched) (states_in t.head))
  sums =
      let s = covered_sound w (reached_covered w r) in
      (column_sum (cursor_ends t.states) t.cursors s.cursors, column_sum (matched_ends t.states) t.matched s.matched)

  module _ (lent : Lent t) (few : states_in t.head ≤ 3) (n : ℕ) {x : State} (f : after (path ++ typed n ∷ []) ≡ x)
      (cursors : cursors_in t.head + length x.cursors ≤ 4)
      (matched : matched_in t.head + length x.matched ≤ 3) where
    next_is : next_state w t number (row_at 16 (inputs_row (subject n)) 0) ≡ x
    unfolding inputs_tags
    next_is =
        let (_, _, q) = reached_is w r in
        rw (row_tags (proper n)) (ap (λ (z : State). enter step_matches (selectors_of w) z (typed n)) q ∙ sym (run_snoc step_matches (selectors_of w) path (typed n)) ∙ rw e f)

    roomy : room_in t x ≡ true
    unfolding room_for
    roomy = rw (
      lt-ltb (states_in t.head) 512 (omega arith),
      le-leb (3 * (states_in t.head + 1)) (length t.states) (omega (arith, lent.rows)),
      le-leb (cursors_in t.head + length x.cursors) (length t.cursors) (omega (arith, lent.cursors)),
      lt-ltb (cursors_in t.head + length x.cursors) 4294967296 (omega arith),
      le-leb (matched_in t.head + length x.matched) (length t.matched) (omega (arith, lent.matched)),
      lt-ltb (matched_in t.head + length x.matched) 4294967296 (omega arith),
    )

    has_room : lacks_room w t number (inputs_row (subject n)) ≡ false
    unfolding lacks_room
    has_room = rw (next_is, roomy, and-false) (and-false (eqb (cached_in t number (row_at 16 (inputs_row (subject n)) 0)) 0))

    accepts : Enters w t number stamp (subject n)
    accepts =
        let (l, m, _) = reached_is w r in
        enter_accepts w t number stamp (subject n) (covered_sound w (reached_covered w r)) (record { there = l; stamped = m; proper = proper n; room = has_room })

-- ---- numbers: one that no state has is the next

new_number : {t t' : Table} {k : ℕ} → Numbered t t' k → ((i : ℕ) → i < states_in t.head → k ≢ i) → (k ≡ states_in t.head) × (states_in t'.head ≡ states_in t.head + 1)
new_number {k = k} (reused l e c) new = absurd (new k l refl)
new_number (next none e c) new = (e, c)

old_number : {t t' : Table} {k : ℕ} → Numbered t t' k → k < states_in t.head → states_in t'.head ≡ states_in t.head
old_number (reused l e c) h = c
old_number (next none e c) h = absurd (omega arith)

-- ---- the answers

module _ {w : List ℕ} {t t' : Table} {number stamp : ℕ} where
  -- an accepted entering answers a child
  answers : (n : ℕ) {r : Result MatchState Refusal} → Enters w t number stamp (subject n) → Enter w t number stamp (inputs_row (subject n)) r t'
      → (k : ℕ) × (r ≡ state k stamp) × Enter w t number stamp (inputs_row (subject n)) (state k stamp) t'
  answers n {r} v u =
      let k = child_of w t number (inputs_row (subject n)) in
      let q : r ≡ state k stamp = entering_distinct r (state k stamp) (rw v at u.answer) in
      (k, q, subst (λ (z : Result MatchState Refusal). Enter w t number stamp (inputs_row (subject n)) z t') q u)

  reaches : (n : ℕ) {k : ℕ} {path : List Tags} → Reached w t number stamp path → Enter w t number stamp (inputs_row (subject n)) (state k stamp) t' → Reached w t' k stamp (path ++ typed n ∷ [])
  unfolding inputs_tags
  reaches n r u = enter_reaches (subject n) r u

-- the states of a table are those after these paths, in order
pub record States (w : List ℕ) (stamp : ℕ) (t : Table) (paths : List (List Tags)) : Type 0 where
  pub at : (k : ℕ) → k < length paths → Reached w t k stamp (get_or paths k [])
  pub count : states_in t.head ≡ length paths
  pub lent : Lent t

abbrev pub start : List (List Tags)
start = [] ∷ []

abbrev pub then_1 : List (List Tags)
then_1 = [] ∷ (typed 1 ∷ []) ∷ []

abbrev pub then_1_5 : List (List Tags)
then_1_5 = [] ∷ (typed 1 ∷ []) ∷ (typed 1 ∷ typed 5 ∷ []) ∷ []

-- how many cursors and matched numbers there are
module _ {w : List ℕ} (e : selectors_of w ≡ walk) {stamp : ℕ} {t : Table} where
  sums_start : States w stamp t start → (cursors_in t.head ≡ 2) × (matched_in t.head ≡ 0)
  unfolding sum_below
  sums_start h =
      let root = h.at 0 (omega arith) in
      let (c, m) = sums e root in
      let (a, b) = long e root after_none in
      (omega (arith, rw h.count at c), omega (arith, rw h.count at m))

  sums_1 : States w stamp t then_1 → (cursors_in t.head ≡ 3) × (matched_in t.head ≡ 0)
  unfolding sum_below
  sums_1 h =
      let root = h.at 0 (omega arith) in
      let one = h.at 1 (omega arith) in
      let (c, m) = sums e root in
      let (a, b) = long e root after_none in
      let (f, g) = long e one after_1 in
      (omega (arith, rw h.count at c), omega (arith, rw h.count at m))

  sums_1_5 : States w stamp t then_1_5 → (cursors_in t.head ≡ 4) × (matched_in t.head ≡ 2)
  unfolding sum_below
  sums_1_5 h =
      let root = h.at 0 (omega arith) in
      let one = h.at 1 (omega arith) in
      let two = h.at 2 (omega arith) in
      let (c, m) = sums e root in
      let (a, b) = long e root after_none in
      let (f, g) = long e one after_1 in
      let (i, j) = long e two after_1_5 in
      (omega (arith, rw h.count at c), omega (arith, rw h.count at m))

module _ {w : List ℕ} (e : selectors_of w ≡ walk) {stamp : ℕ} {t t' : Table} {r : Result MatchState Refusal} where
  -- "type 1 into 0"
  pub enter_1 : States w stamp t start → Enter w t 0 stamp (inputs_row (subject 1)) r t' → (r ≡ state 1 stamp) × States w stamp t' then_1
  enter_1 h u =
      let root = h.at 0 (omega arith) in
      let (c, m) = sums_start e h in
      let v = accepts e root h.lent (omega (arith, h.count)) 1 after_1 (omega arith) (omega arith) in
      let (k, q, a) = answers 1 v u in
      let root' = enter_keeps (subject 1) root a in
      let made = reaches 1 root a in
      let other = two_states e made root' after_1 after_none (λ z. omega arith) in
      let (i, j) = new_number (enter_numbers (subject 1) (reached_covered w root) a) (λ d l z. other (omega (arith, h.count))) in
      let one : k ≡ 1 = omega (arith, h.count) in
      let at : (d : ℕ) → d < 2 → Reached w t' d stamp (get_or then_1 d []) = place root' (subst (λ (d : ℕ). Reached w t' d stamp (typed 1 ∷ [])) one made) in
      (q ∙ ap (λ (d : ℕ). state d stamp) one, record { at = at; count = omega (arith, h.count); lent = lent_entered h.lent (subject 1) (reached_covered w root) a })
    where
      place : Reached w t' 0 stamp [] → Reached w t' 1 stamp (typed 1 ∷ []) → (d : ℕ) → d < 2 → Reached w t' d stamp (get_or then_1 d [])
      place p q zero l = p
      place p q (suc zero) l = q
      place p q (suc (suc d)) l = absurd (omega arith)

  -- "type 9 into 1"
  pub enter_9 : States w stamp t then_1 → Enter w t 1 stamp (inputs_row (subject 9)) r t' → (r ≡ state 1 stamp) × States w stamp t' then_1 × Reached w t' 1 stamp (typed 1 ∷ typed 9 ∷ [])
  enter_9 h u =
      let root = h.at 0 (omega arith) in
      let one = h.at 1 (omega arith) in
      let (c, m) = sums_1 e h in
      let v = accepts e one h.lent (omega (arith, h.count)) 9 after_1_9 (omega arith) (omega arith) in
      let (k, q, a) = answers 9 v u in
      let made = reaches 9 one a in
      let same = one_state e made (enter_keeps (subject 9) one a) (after_1_9 ∙ sym after_1) in
      let j = old_number (enter_numbers (subject 9) (reached_covered w one) a) (omega (arith, h.count)) in (
        q ∙ ap (λ (d : ℕ). state d stamp) same,
        record { at = λ d l. enter_keeps (subject 9) (h.at d l) a; count = j ∙ h.count; lent = lent_entered h.lent (subject 9) (reached_covered w one) a },
        subst (λ (d : ℕ). Reached w t' d stamp (typed 1 ∷ typed 9 ∷ [])) same made,
      )

  -- "type 5 into 1"
  pub enter_5 : States w stamp t then_1 → Enter w t 1 stamp (inputs_row (subject 5)) r t' → (r ≡ state 2 stamp) × States w stamp t' then_1_5
  enter_5 h u =
      let root = h.at 0 (omega arith) in
      let one = h.at 1 (omega arith) in
      let (c, m) = sums_1 e h in
      let v = accepts e one h.lent (omega (arith, h.count)) 5 after_1_5 (omega arith) (omega arith) in
      let (k, q, a) = answers 5 v u in
      let root' = enter_keeps (subject 5) root a in
      let one' = enter_keeps (subject 5) one a in
      let made = reaches 5 one a in
      let not-0 = two_states e made root' after_1_5 after_none (λ z. omega arith) in
      let not-1 = two_states e made one' after_1_5 after_1 (λ z. omega arith) in
      let (i, j) = new_number (enter_numbers (subject 5) (reached_covered w one) a) (new not-0 not-1 h.count) in
      let two : k ≡ 2 = omega (arith, h.count) in
      let at : (d : ℕ) → d < 3 → Reached w t' d stamp (get_or then_1_5 d []) = place root' one' (subst (λ (d : ℕ). Reached w t' d stamp (typed 1 ∷ typed 5 ∷ [])) two made) in
      (q ∙ ap (λ (d : ℕ). state d stamp) two, record { at = at; count = omega (arith, h.count); lent = lent_entered h.lent (subject 5) (reached_covered w one) a })
    where
      new : {k n : ℕ} → k ≢ 0 → k ≢ 1 → n ≡ 2 → (d : ℕ) → d < n → k ≢ d
      new f g c zero l = f
      new f g c (suc zero) l = g
      new f g c (suc (suc d)) l = absurd (omega arith)

      place : Reached w t' 0 stamp [] → Reached w t' 1 stamp (typed 1 ∷ []) → Reached w t' 2 stamp (typed 1 ∷ typed 5 ∷ []) → (d : ℕ) → d < 3 → Reached w t' d stamp (get_or then_1_5 d [])
      place p q r zero l = p
      place p q r (suc zero) l = q
      place p q r (suc (suc zero)) l = r
      place p q r (suc (suc (suc d))) l = absurd (omega arith)

  -- "type 5 into 0"
  pub enter_5_root : States w stamp t then_1_5 → Enter w t 0 stamp (inputs_row (subject 5)) r t' → (r ≡ state 3 stamp) × Reached w t' 3 stamp (typed 5 ∷ [])
  enter_5_root h u =
      let root = h.at 0 (omega arith) in
      let one = h.at 1 (omega arith) in
      let two = h.at 2 (omega arith) in
      let (c, m) = sums_1_5 e h in
      let v = accepts e root h.lent (omega (arith, h.count)) 5 after_5 (omega arith) (omega arith) in
      let (k, q, a) = answers 5 v u in
      let made = reaches 5 root a in
      let not-0 = two_states e made (enter_keeps (subject 5) root a) after_5 after_none (λ z. omega arith) in
      let not-1 = two_states e made (enter_keeps (subject 5) one a) after_5 after_1 (λ z. omega arith) in
      let not-2 = two_states e made (enter_keeps (subject 5) two a) after_5 after_1_5 (λ z. omega arith) in
      let (i, j) = new_number (enter_numbers (subject 5) (reached_covered w root) a) (new not-0 not-1 not-2 h.count) in
      let three : k ≡ 3 = omega (arith, h.count) in
      (q ∙ ap (λ (d : ℕ). state d stamp) three, subst (λ (d : ℕ). Reached w t' d stamp (typed 5 ∷ [])) three made)
    where
      new : {k n : ℕ} → k ≢ 0 → k ≢ 1 → k ≢ 2 → n ≡ 3 → (d : ℕ) → d < n → k ≢ d
      new f g h c zero l = f
      new f g h c (suc zero) l = g
      new f g h c (suc (suc zero)) l = h
      new f g h c (suc (suc (suc d))) l = absurd (omega arith)

-- build
pub build_starts : {w : List ℕ} (e : selectors_of w ≡ walk) → sheet_shape w ≡ true → {stamp ranking : ℕ} → ranking ≤ 1 → {t t' : Table} → length t.head ≡ 8 → Lent t → {r : Result ⊤ Refusal} → Build w stamp ranking t r t'
    → (r ≡ Ok tt) × States w stamp t' start
unfolding build_verdict root_lacks_room first_of
build_starts {w} e shape {stamp} {ranking} ranks {t} {t'} eight lent {r} u =
    let v : build_verdict w ranking t.states t.cursors ≡ 0 = rw (
      shape,
      le-ltb 1 ranking ranks,
      le-leb 3 (length t.states) (omega (arith, lent.rows)),
      le-leb (length (roots_of w)) (length t.cursors) (omega (arith, lent.cursors, ap (λ (s : Sheet Tags). length (starts 0 s)) e)),
    ) in
    let q : r ≡ Ok tt = building_distinct r (Ok tt) (rw v at u.answer) in
    let b : Build w stamp ranking t (Ok tt) t' = subst (λ (z : Result ⊤ Refusal). Build w stamp ranking t z t') q u in
    (q, record { at = place (build_reaches eight b); count = build_one_state eight b; lent = lent_built lent b })
  where
    place : Reached w t' 0 stamp [] → (d : ℕ) → d < 1 → Reached w t' d stamp (get_or start d [])
    place p zero l = p
    place p (suc d) l = absurd (omega arith)
