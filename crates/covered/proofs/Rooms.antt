-- The states that a table holds after build and after an entering; rooms for those that a path needs suffice: no entering along it is refused. Assumes nothing.
use mathlib.Core.Path.{◌≡◌, refl, sym, ap, ap₂, ◌∙◌, subst}
use mathlib.Core.Bool.{true, false, and-false}
use mathlib.Core.Logic.{inl, inr}
use mathlib.Core.List.Memᴰ
use mathlib.Core.List.{List, [], ◌∷◌, ◌++◌, map}
use Prim.Native.Nat.{ℕ, suc, ◌+◌, ◌-◌, ◌*◌, ◌/◌, ◌%◌, ◌≤◌, ◌<◌}
use native.Mathlib.Nat.{zero-add}
use native.Mathlib.Omega.{arith}
use native.Mathlib.Decide.{dec_lt}
use lib.ListN.{length, replicate, length-append, length-replicate}
use lib.Seq.{length-sets}
use lib.Dec.{eqb}
use borrow.Author.Tests.{lt-ltb, le-leb, le-ltb}
use Rattle.theory.specs.Lists.{◌∈◌, Ascending, spread}
use Rattle.theory.specs.States.{State, rule, root, enter, run}
use Rattle.theory.proofs.Spreads.{length_spread, spread_same, spread_snoc, sum_bound}
use Rattle.theory.proofs.States.{run_snoc, cursors_ascending, matched_ascending}
use Rattle.lent.specs.Refusals.{first_of}
use Rattle.selector.specs.Tags.{Tags, step_matches}
use Rattle.selector.specs.Rows.{row_at}
use Rattle.typed.specs.declared.SelectorInputs.{SelectorInputs}
use Rattle.typed.specs.Typed.{inputs_tags, inputs_row}
use Rattle.sheet.specs.Layout.{rules_in}
use Rattle.sheet.specs.Shape.{sheet_shape}
use Rattle.sheet.proofs.Shaped.{shaped}
use Rattle.table.specs.Tables.{Table, table, selectors_of, stamp_in, states_in, cursors_in, matched_in, cursor_ends, matched_ends, state_at}
use Rattle.table.specs.Entering
use Rattle.table.specs.Calls.{build_verdict}
use Rattle.table.proofs.Selectors.{selector_past}
use Rattle.made.specs.Made.{Made}
use Rattle.made.proofs.Promises.{made_shaped}
use Rattle.covered.specs.Covered.{Builds, Enters, Covered}
use Rattle.covered.specs.Covered.Covered.{built}
use Rattle.covered.specs.Rooms.{held_in, including, held_along, states_for, numbers_of, Enough, Roomy, Proper, verdicts_along}
use Rattle.covered.proofs.Known.{below}
use Rattle.covered.proofs.Sound.{Sound, cursor_exists_lem, rule_exists_lem}
use Rattle.covered.proofs.Keeps.{StatesStay, states_stay}
use Rattle.covered.proofs.Found.{number_is}
use Rattle.covered.proofs.Growing.{built_word, built_root}
use Rattle.covered.proofs.Entering.{Right}
use Rattle.covered.proofs.Accepted.{row_tags, build_accepted, enter_accepted, enter_accepts}
use Rattle.covered.proofs.Held.{including_held, including_new, spread_in, along_more, numbers_append, numbers_spread, column_sum}
use Rattle.covered.proofs.Reached.{builds_sound, enters_right, covered_sound}

-- ---- how long a state's lists are

-- an ascending list of numbers from low on, below n
few_numbers : (l : List ℕ) (low n : ℕ) → Ascending l → ((c : ℕ) → c ∈ l → (low ≤ c) × (c < n)) → length l ≤ n - low
few_numbers [] low n a h = omega arith
few_numbers (b ∷ l) low n a h =
    let (g, k) = h b (Memᴰ.head refl) in
    omega (arith, few_numbers l (suc b) n a.1 (λ c m. (a.0 c m, (h c (Memᴰ.tail m)).1)))

module _ (w : List ℕ) where
  run_few : sheet_shape w ≡ true → (path : List Tags) → (length (run step_matches (selectors_of w) path).cursors ≤ 2048) × (length (run step_matches (selectors_of w) path).matched ≤ 256)
  run_few shape path = (
    few_numbers _ 0 2048 (cursors_ascending step_matches (selectors_of w) path) (λ c m. (omega arith, under c (cursor_exists_lem w shape path c m))),
    few_numbers _ 0 256 (matched_ascending step_matches (selectors_of w) path) (λ c m. (omega arith, omega (arith, rule_exists_lem w shape path c m, (shaped w shape).rules))),
  )
    where
      under : (c : ℕ) → c % 8 < length (rule (selectors_of w) (c / 8)) → c < 2048
      under c h = elim (dec_lt (c / 8) (rules_in w)) [
        | yes l ↦ omega (arith, (shaped w shape).rules)
        | no l ↦ absurd (omega (arith, ap length (selector_past w (c / 8) (omega arith))))
      ]

  -- ---- the states of a table

  -- build leaves the root alone
  pub held_built : (t : Table) (stamp ranking : ℕ) → Builds w ranking t → held_in (Entering.built w stamp ranking t) ≡ root (selectors_of w) ∷ []
  held_built t stamp ranking (e, v) =
      let a = build_accepted w ranking t.states t.cursors v in
      ap (spread (state_at (Entering.built w stamp ranking t)) 0) (built_word w t stamp ranking a.shape e a.ranks a.rows a.room 2 (omega arith))
      ∙ ap (λ (z : State). z ∷ []) (built_root w t stamp ranking a.shape e a.ranks a.rows a.room)

  enough_some : (all some more : List State) {t : Table} → all ≡ some ++ more → Enough all t → Enough some t
  enough_some all some more e n =
      let l : length all ≡ length some + length more = rw e (length-append some more) in
      let c : numbers_of (λ s. s.cursors) all ≡ numbers_of (λ s. s.cursors) some + numbers_of (λ s. s.cursors) more = rw e (numbers_append (λ s. s.cursors) some more) in
      let m : numbers_of (λ s. s.matched) all ≡ numbers_of (λ s. s.matched) some + numbers_of (λ s. s.matched) more = rw e (numbers_append (λ s. s.matched) some more) in
      record {
        few = omega (arith, n.few);
        states = omega (arith, n.states);
        cursors = omega (arith, n.cursors);
        matched = omega (arith, n.matched);
      }

  module _ {t : Table} (s : Sound w t) where
    cursors_sum : numbers_of (λ s. s.cursors) (held_in t) ≡ cursors_in t.head
    cursors_sum = numbers_spread (λ s. s.cursors) (state_at t) (states_in t.head) ∙ sym (column_sum (cursor_ends t.states) t.cursors s.cursors)

    matched_sum : numbers_of (λ s. s.matched) (held_in t) ≡ matched_in t.head
    matched_sum = numbers_spread (λ s. s.matched) (state_at t) (states_in t.head) ∙ sym (column_sum (matched_ends t.states) t.matched s.matched)

    -- so few numbers that each end is a u32
    few_cursors : cursors_in t.head ≤ 1048576
    few_cursors = omega (
      arith,
      column_sum (cursor_ends t.states) t.cursors s.cursors,
      s.few,
      sum_bound (λ k. length (state_at t k).cursors) 2048 (states_in t.head) (λ k h.
          let (path, e) = s.known.after k h in subst (λ (z : State). length z.cursors ≤ 2048) (sym e) (run_few s.sheet path).0),
    )

    few_matched : matched_in t.head ≤ 131072
    few_matched = omega (
      arith,
      column_sum (matched_ends t.states) t.matched s.matched,
      s.few,
      sum_bound (λ k. length (state_at t k).matched) 256 (states_in t.head) (λ k h.
          let (path, e) = s.known.after k h in subst (λ (z : State). length z.matched ≤ 256) (sym e) (run_few s.sheet path).1),
    )

    module _ (p : ℕ) (h : p < states_in t.head) (x : Tags) where
      next_few : (length (Entering.next_state w t p x).cursors ≤ 2048) × (length (Entering.next_state w t p x).matched ≤ 256)
      next_few =
          let (path, e) = s.known.after p h in
          let q : run step_matches (selectors_of w) (path ++ x ∷ []) ≡ Entering.next_state w t p x = run_snoc step_matches (selectors_of w) path x ∙ ap (λ (z : State). enter step_matches (selectors_of w) z x) (sym e) in
          subst (λ (z : State). (length z.cursors ≤ 2048) × (length z.matched ≤ 256)) q (run_few s.sheet (path ++ x ∷ []))

      -- room for a new one
      next_room : Enough (held_in t ++ Entering.next_state w t p x ∷ []) t → Entering.room_in t (Entering.next_state w t p x) ≡ true
      unfolding Entering.room_for
      next_room n =
          let next = Entering.next_state w t p x in
          let l : length (held_in t ++ next ∷ []) ≡ states_in t.head + 1 = length-append (held_in t) (next ∷ []) ∙ rw (length_spread (state_at t) 0 (states_in t.head)) in
          let c = numbers_append (λ s. s.cursors) (held_in t) (next ∷ []) in
          let m = numbers_append (λ s. s.matched) (held_in t) (next ∷ []) in
          rw (
            lt-ltb (states_in t.head) 512 (omega (arith, n.few)),
            le-leb (3 * (states_in t.head + 1)) (length t.states) (omega (arith, n.states)),
            le-leb (cursors_in t.head + length next.cursors) (length t.cursors) (omega (arith, n.cursors, cursors_sum)),
            lt-ltb (cursors_in t.head + length next.cursors) 4294967296 (omega (arith, few_cursors, next_few.0)),
            le-leb (matched_in t.head + length next.matched) (length t.matched) (omega (arith, n.matched, matched_sum)),
            lt-ltb (matched_in t.head + length next.matched) 4294967296 (omega (arith, few_matched, next_few.1)),
          )

      -- so entering does not lack it
      room_suffices : (row : List ℕ) → row_at 16 row 0 ≡ x → Enough (including (held_in t) (Entering.next_state w t p x)) t → Entering.lacks_room w t p row ≡ false
      unfolding Entering.lacks_room
      room_suffices row e n = rw e (elim (number_is t (Entering.next_state w t p x)) [
        | inl (b, q) ↦ rw (lt-ltb (Entering.number_in t (Entering.next_state w t p x)) (states_in t.head) b) (and-false (eqb (Entering.cached_in t p x) 0))
        | inr (q, none) ↦
            let new = including_new (λ m. let (k, l, i) = (spread_in (state_at t) (states_in t.head) (Entering.next_state w t p x)).0 m in none k l i) in
            rw (next_room (rw new at n), and-false) (and-false (eqb (Entering.cached_in t p x) 0))
      ])

      module _ {t' : Table} {k : ℕ} (g : Right w t p x t' k) where
        child_next : state_at t' k ≡ Entering.next_state w t p x
        child_next = g.leads.enters ∙ ap (λ (z : State). enter step_matches (selectors_of w) z x) (states_stay w s g.kept.stay p h)

        held_stay : spread (state_at t') 0 (states_in t.head) ≡ held_in t
        held_stay = spread_same (state_at t') (state_at t) 0 (states_in t.head) (λ i a b. states_stay w s g.kept.stay i (omega arith))

        -- the states afterwards
        held_after : held_in t' ≡ including (held_in t) (Entering.next_state w t p x)
        held_after = elim g.grows [
          | inl q ↦
              let l : k < states_in t.head = omega (arith, g.leads.child) in
              rw q held_stay ∙ sym (including_held ((spread_in (state_at t) (states_in t.head) (Entering.next_state w t p x)).1 (k, l, sym (states_stay w s g.kept.stay k l) ∙ child_next)))
          | inr (q, none) ↦
              let new = including_new (λ m. let (i, l, e) = (spread_in (state_at t) (states_in t.head) (Entering.next_state w t p x)).0 m in none i l e) in
              elim (below k (states_in t.head) (omega (arith, g.leads.child))) [
                | inl l ↦ absurd (none k l (sym (states_stay w s g.kept.stay k l) ∙ child_next))
                | inr e ↦ rw q (spread_snoc (state_at t') 0 (states_in t.head) ∙ rw (zero-add (states_in t.head), held_stay, ← e, child_next)) ∙ sym new
              ]
        ]

  -- so after an accepted entering the child is held too
  pub held_entered : {t : Table} → Covered w t → (number stamp : ℕ) (x : SelectorInputs) → Enters w t number stamp x
      → held_in (Entering.entered w t number (inputs_row x)) ≡ including (held_in t) (enter step_matches (selectors_of w) (state_at t number) (inputs_tags x))
  held_entered {t} c number stamp x v =
      let s = covered_sound w c in held_after s number (enter_accepted w t number stamp x v).there (inputs_tags x) (enters_right w s number stamp x v)

  -- ---- along a path

  enough_after : {all : List State} {t t' : Table} → StatesStay t t' → Enough all t → Enough all t'
  enough_after q n = record {
    few = n.few;
    states = rw q.rows n.states;
    cursors = rw q.cursor_room n.cursors;
    matched = rw q.matched_room n.matched;
  }

  along : (xs : List SelectorInputs) (t : Table) (number stamp : ℕ)
      → Sound w t
      → number < states_in t.head
      → stamp ≡ stamp_in t.head
      → ((x : SelectorInputs) → x ∈ xs → Proper x)
      → Enough (held_along (selectors_of w) (held_in t) (state_at t number) (map inputs_tags xs)) t
      → verdicts_along w t number stamp xs ≡ replicate (length xs) 0
  unfolding verdicts_along held_along
  along [] t number stamp s l e p n = refl
  along (x ∷ xs) t number stamp s l e p n =
      let path = map inputs_tags xs in
      let proper = p x (Memᴰ.head refl) in
      let next = Entering.next_state w t number (inputs_tags x) in
      let (more, q) = along_more (selectors_of w) path (including (held_in t) next) next in
      let room = room_suffices s number l (inputs_tags x) (inputs_row x) (row_tags proper) (enough_some _ (including (held_in t) next) more q n) in
      let v : Enters w t number stamp x = enter_accepts w t number stamp x s (record { there = l; stamped = e; proper = proper; room = room }) in
      let g = enters_right w s number stamp x v in
      let all = ap₂ (λ (held : List State) (z : State). held_along (selectors_of w) held z path) (held_after s number l (inputs_tags x) g) (child_next s number l (inputs_tags x) g) in
      ap₂ ◌∷◌ v
      (along xs (Entering.entered w t number (inputs_row x)) (Entering.child_of w t number (inputs_row x)) stamp g.kept.sound g.leads.child (e ∙ sym g.kept.stamp) (λ y i. p y (Memᴰ.tail i))
      (enough_after g.kept.stay (subst (λ (h : List State). Enough h t) (sym all) n)))

  module _ (xs : List SelectorInputs) (t : Table) (r : Roomy w (map inputs_tags xs) t) where
    built_enough : {all : List State} (stamp ranking : ℕ) → Enough all t → Enough all (Entering.built w stamp ranking t)
    unfolding Entering.built
    built_enough stamp ranking n = record {
      few = n.few;
      states = rw length-sets n.states;
      cursors = rw length-sets n.cursors;
      matched = n.matched;
    }

    -- room for the root, too
    pub rooms_build : sheet_shape w ≡ true → (ranking : ℕ) → ranking ≤ 1 → length t.head ≡ 8 → Builds w ranking t
    unfolding build_verdict Entering.root_lacks_room first_of
    rooms_build shape ranking ranks eight =
        let (more, q) = along_more (selectors_of w) (map inputs_tags xs) (root (selectors_of w) ∷ []) (root (selectors_of w)) in
        let n = enough_some (states_for w (map inputs_tags xs)) (root (selectors_of w) ∷ []) more q r in (
          eight,
          rw (
            shape,
            le-ltb 1 ranking ranks,
            le-leb 3 (length t.states) (omega (arith, n.states)),
            le-leb (length (Entering.roots_of w)) (length t.cursors) (omega (arith, n.cursors)),
          ),
        )

    -- After build no subject of the path is refused, each entered under the child before it
    pub rooms_suffice : (stamp ranking : ℕ) → Builds w ranking t → ((x : SelectorInputs) → x ∈ xs → Proper x) → verdicts_along w (Entering.built w stamp ranking t) 0 stamp xs ≡ replicate (length xs) 0
    rooms_suffice stamp ranking (e, v) p =
        let a = build_accepted w ranking t.states t.cursors v in
        let word = built_word w t stamp ranking a.shape e a.ranks a.rows a.room in
        let made = built_root w t stamp ranking a.shape e a.ranks a.rows a.room in
        let b = Entering.built w stamp ranking t in
        let all = ap₂ (λ (h : List State) (z : State). held_along (selectors_of w) h z (map inputs_tags xs)) (held_built t stamp ranking (e, v)) made in
        along xs b 0 stamp (builds_sound w t stamp ranking (e, v)) (omega (arith, word 2 (omega arith))) (sym (word 0 (omega arith))) p (subst (λ (h : List State). Enough h b) (sym all) (built_enough stamp ranking r))

-- every made sheet has a covered table: rooms for the root are enough
pub made_covered : {w : List ℕ} → Made w → (t : Table) × Covered w t
unfolding held_along
made_covered {w} m =
    let roots = length (Entering.roots_of w) in
    let t : Table = table (replicate 8 0) (replicate 3 0) (replicate roots 0) [] [] in
    let r : Roomy w [] t = record { few = omega arith; states = omega arith; cursors = omega (arith, length-replicate {A = ℕ} roots 0); matched = omega arith } in
    (Entering.built w 0 0 t, built t 0 0 (rooms_build w [] t r (made_shaped m) 0 (omega arith) refl))
