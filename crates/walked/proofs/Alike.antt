-- Two tables of one sheet that hold the same states, whatever transitions: entering the same under the same answers the same, and they stay so. Assumes nothing.
use mathlib.Core.Path.{◌≡◌, refl, sym, ap, ◌∙◌}
use mathlib.Core.Bool.{Bool, true, false, cond, not, ◌&&◌, and-false, true≢false}
use mathlib.Core.Logic.{◌⊎◌, inl, inr}
use mathlib.Core.List.{List, [], ◌∷◌}
use Prim.Native.Nat.{ℕ, ◌+◌, ◌<◌}
use native.Mathlib.Omega.{arith}
use native.Mathlib.Decide.{dec_lt}
use lib.ListN.{length}
use lib.Dec.{eqb, ltb}
use borrow.Author.Tests.{le-ltb, not-false}
use Rattle.theory.specs.States.{State, enter}
use Rattle.theory.specs.Lists.{sum_below}
use Rattle.theory.proofs.Spreads.{sum_same}
use Rattle.lent.specs.Refusals.{check, first_of}
use Rattle.selector.specs.Tags.{Tags, step_matches}
use Rattle.selector.specs.Rows.{row_at}
use Rattle.selector.specs.Checks.{row_fits, tags_ascend}
use Rattle.typed.specs.declared.SelectorInputs.{SelectorInputs}
use Rattle.typed.specs.Typed.{inputs_tags, inputs_row}
use Rattle.table.specs.Tables.{Table, table, selectors_of, stamp_in, ranking_in, states_in, cursors_in, matched_in, cursor_ends, matched_ends, state_at}
use Rattle.table.specs.Entering.{built, entered, child_of, cached_in, next_state, number_in, room_for, room_in, holding, kept, lacks_room}
use Rattle.table.specs.Calls.{broken, not_a_state, state_verdict, enter_verdict}
use Rattle.table.proofs.Shaped.{unshaped}
use Rattle.looking.specs.Calls.{rules_at}
use Rattle.cascade.specs.Calls.{pair_verdict}
use Rattle.covered.specs.Covered.{Enters}
use Rattle.covered.proofs.Known.{below}
use Rattle.covered.proofs.Sound.{Sound, sound_shaped}
use Rattle.covered.proofs.Keeps.{states_stay}
use Rattle.covered.proofs.Found.{number_is}
use Rattle.covered.proofs.Held.{column_sum}
use Rattle.covered.proofs.Accepted.{enter_accepted, row_tags}
use Rattle.covered.proofs.Entering.{Right, child_there, child_has_room}
use Rattle.covered.proofs.Reached.{enters_right}

-- ---- an entering that has room

module _ (w : List ℕ) {t t'' : Table} (s : Sound w t) {p k : ℕ} {x : Tags} (l : p < states_in t.head) (g : Right w t p x t'' k) where
  child_next : state_at t'' k ≡ next_state w t p x
  child_next = g.leads.enters ∙ ap (λ (z : State). enter step_matches (selectors_of w) z x) (states_stay w s g.kept.stay p l)

  -- the child was held already, or it is the next
  settled : ((k < states_in t.head) × (state_at t k ≡ next_state w t p x) × (states_in t''.head ≡ states_in t.head))
      ⊎ ((k ≡ states_in t.head) × (states_in t''.head ≡ states_in t.head + 1) × ((i : ℕ) → i < states_in t.head → state_at t i ≡ next_state w t p x → ⊥))
  settled = elim g.grows [
    | inl e ↦ let h : k < states_in t.head = omega (arith, e, g.leads.child) in inl (h, held h, e)
    | inr (e, none) ↦ elim (below k (states_in t.head) (omega (arith, e, g.leads.child))) [ inl h ↦ absurd (none k h (held h)) | inr q ↦ inr (q, e, none) ]
  ]
    where
      held : k < states_in t.head → state_at t k ≡ next_state w t p x
      held h = sym (states_stay w s g.kept.stay k h) ∙ child_next

-- a state that is new has room where the entering has
new_has_room : (w : List ℕ) (t : Table) (p : ℕ) (row : List ℕ)
    → states_in (entered w t p row).head ≡ states_in t.head + 1
    → ((i : ℕ) → i < states_in t.head → state_at t i ≡ next_state w t p (row_at 16 row 0) → ⊥)
    → lacks_room w t p row ≡ false
    → room_in t (next_state w t p (row_at 16 row 0)) ≡ true
unfolding entered lacks_room
new_has_room w t p row more none room = by (eqb (cached_in t p (row_at 16 row 0)) 0) more room
  where
    next : State
    next = next_state w t p (row_at 16 row 0)

    by : (b : Bool) → states_in (cond b (kept (holding t next) p (number_in t next) row) t).head ≡ states_in t.head + 1
        → (b && (not (ltb (number_in t next) (states_in t.head)) && not (room_in t next))) ≡ false → room_in t next ≡ true
    by false m r = absurd (omega arith)
    by true m r = elim (number_is t next) [
      | inl (b, q) ↦ absurd (none (number_in t next) b q)
      | inr (q, _) ↦ not-false (room_in t next) (rw (le-ltb (number_in t next) (states_in t.head) (omega arith)) at r)
    ]

-- and the entering where the state has
has_room : (w : List ℕ) (t : Table) (p : ℕ) (row : List ℕ) → room_in t (next_state w t p (row_at 16 row 0)) ≡ true → lacks_room w t p row ≡ false
unfolding lacks_room
has_room w t p row e = rw (e, and-false) (and-false (eqb (cached_in t p (row_at 16 row 0)) 0))

not_broken : (w : List ℕ) {t : Table} → Sound w t → broken w t ≡ false
unfolding broken
not_broken w s = rw (s.sheet, unshaped (sound_shaped w s))

-- the last test counts only where none before it holds
last_test : (b c d l l' : Bool)
    → (first_of (check 11 false ∷ check 4 b ∷ check 2 c ∷ check 1 d ∷ check 5 l ∷ []) ≡ 0 → l' ≡ false)
    → (first_of (check 11 false ∷ check 4 b ∷ check 2 c ∷ check 1 d ∷ check 5 l' ∷ []) ≡ 0 → l ≡ false)
    → first_of (check 11 false ∷ check 4 b ∷ check 2 c ∷ check 1 d ∷ check 5 l ∷ []) ≡ first_of (check 11 false ∷ check 4 b ∷ check 2 c ∷ check 1 d ∷ check 5 l' ∷ [])
unfolding first_of
last_test true c d l l' f g = refl
last_test false true d l l' f g = refl
last_test false false true l l' f g = refl
last_test false false false true true f g = refl
last_test false false false true false f g = absurd (true≢false (g refl))
last_test false false false false true f g = absurd (true≢false (f refl))
last_test false false false false false f g = refl

module _ (w : List ℕ) where
  -- ---- head words but the count of transitions, rooms but theirs, and each state's lists

  pub record Alike (t t' : Table) : Type 0 where
    pub sound : Sound w t
    pub sound' : Sound w t'
    pub stamp : stamp_in t.head ≡ stamp_in t'.head
    pub ranking : ranking_in t.head ≡ ranking_in t'.head
    pub count : states_in t.head ≡ states_in t'.head
    pub rows : length t.states ≡ length t'.states
    pub cursor_room : length t.cursors ≡ length t'.cursors
    pub matched_room : length t.matched ≡ length t'.matched
    pub same : (k : ℕ) → k < states_in t.head → state_at t k ≡ state_at t' k

  alike_back : {t t' : Table} → Alike t t' → Alike t' t
  alike_back a = record {
    sound = a.sound';
    sound' = a.sound;
    stamp = sym a.stamp;
    ranking = sym a.ranking;
    count = sym a.count;
    rows = sym a.rows;
    cursor_room = sym a.cursor_room;
    matched_room = sym a.matched_room;
    same = λ k h. sym (a.same k (omega (arith, a.count)));
  }

  -- built in memory that differs in the room for transitions alone
  pub built_alike : (h s c m x y : List ℕ) (stamp ranking : ℕ) → Sound w (built w stamp ranking (table h s c m x)) → Sound w (built w stamp ranking (table h s c m y))
      → Alike (built w stamp ranking (table h s c m x)) (built w stamp ranking (table h s c m y))
  unfolding built
  built_alike h s c m x y stamp ranking a b = record {
    sound = a;
    sound' = b;
    stamp = refl;
    ranking = refl;
    count = refl;
    rows = refl;
    cursor_room = refl;
    matched_room = refl;
    same = λ k h. refl;
  }

  module _ {t t' : Table} (a : Alike t t') where
    same_cursors : cursors_in t.head ≡ cursors_in t'.head
    same_cursors =
        column_sum (cursor_ends t.states) t.cursors a.sound.cursors
        ∙ sum_same (λ k. length (state_at t k).cursors) (λ k. length (state_at t' k).cursors) (states_in t.head) (λ k h. ap (λ (z : State). length z.cursors) (a.same k h))
        ∙ ap (sum_below (λ k. length (state_at t' k).cursors)) a.count
        ∙ sym (column_sum (cursor_ends t'.states) t'.cursors a.sound'.cursors)

    same_matched : matched_in t.head ≡ matched_in t'.head
    same_matched =
        column_sum (matched_ends t.states) t.matched a.sound.matched
        ∙ sum_same (λ k. length (state_at t k).matched) (λ k. length (state_at t' k).matched) (states_in t.head) (λ k h. ap (λ (z : State). length z.matched) (a.same k h))
        ∙ ap (sum_below (λ k. length (state_at t' k).matched)) a.count
        ∙ sym (column_sum (matched_ends t'.states) t'.matched a.sound'.matched)

    same_room : (s : State) → room_in t s ≡ room_in t' s
    unfolding room_for
    same_room s = rw (a.count, same_cursors, same_matched, a.rows, a.cursor_room, a.matched_room)

    same_next : (p : ℕ) (x : Tags) → p < states_in t.head → next_state w t p x ≡ next_state w t' p x
    same_next p x l = ap (λ (z : State). enter step_matches (selectors_of w) z x) (a.same p l)

    pub same_rules : (k : ℕ) → k < states_in t.head → rules_at t k ≡ rules_at t' k
    same_rules k l = ap (λ (z : State). z.matched) (a.same k l)

    -- ---- refusals

    same_number : (k : ℕ) → not_a_state t.head k (stamp_in t.head) ≡ not_a_state t'.head k (stamp_in t'.head)
    unfolding not_a_state
    same_number k = rw (a.stamp, a.count)

    pub same_state_lem : (k : ℕ) → state_verdict w t k (stamp_in t.head) ≡ state_verdict w t' k (stamp_in t'.head)
    unfolding state_verdict
    same_state_lem k = rw (not_broken w a.sound, not_broken w a.sound', same_number k)

    pub same_pair : (old new : ℕ) → pair_verdict w t old (stamp_in t.head) new (stamp_in t.head) ≡ pair_verdict w t' old (stamp_in t'.head) new (stamp_in t'.head)
    unfolding pair_verdict
    same_pair old new = rw (not_broken w a.sound, not_broken w a.sound', same_number old, same_number new)

    -- ---- entering: what one has room for, the other has

    room_too : (p stamp : ℕ) (x : SelectorInputs) → Enters w t p stamp x → lacks_room w t' p (inputs_row x) ≡ false
    room_too p stamp x v =
        let e = enter_accepted w t p stamp x v in
        let l = e.there in
        let l' : p < states_in t'.head = omega (arith, l, a.count) in
        let tags = row_tags e.proper in
        let next = same_next p (inputs_tags x) l in
        elim (settled w a.sound l (enters_right w a.sound p stamp x v)) [
          | inl (h, q, _) ↦ child_has_room w a.sound' p l' (inputs_row x) (child_of w t p (inputs_row x)) (omega (arith, h, a.count)) (rw tags (sym (a.same (child_of w t p (inputs_row x)) h) ∙ q ∙ next))
          | inr (_, more, none) ↦
              let room : room_in t (next_state w t p (inputs_tags x)) ≡ true = rw tags at (new_has_room w t p (inputs_row x) more (rw tags none) e.room) in
              has_room w t' p (inputs_row x) (rw tags (ap (room_in t') (sym next) ∙ sym (same_room (next_state w t p (inputs_tags x))) ∙ room))
        ]

  module _ {t t' : Table} (a : Alike t t') where
    pub same_enter : (p : ℕ) (x : SelectorInputs) → enter_verdict w t p (stamp_in t.head) (inputs_row x) ≡ enter_verdict w t' p (stamp_in t'.head) (inputs_row x)
    unfolding enter_verdict
    same_enter p x =
        let row = inputs_row x in
        rw (not_broken w a.sound, not_broken w a.sound', same_number a p)
        (last_test (not_a_state t'.head p (stamp_in t'.head)) (not (row_fits 16 row 0)) (not (tags_ascend (row_at 16 row 0))) (lacks_room w t p row) (lacks_room w t' p row)
        (λ z. room_too a p (stamp_in t.head) x (rw (not_broken w a.sound, same_number a p) z))
        (λ z. room_too (alike_back a) p (stamp_in t'.head) x (rw (not_broken w a.sound') z)))

    -- ---- an entering that both accept

    module _ (p stamp stamp' : ℕ) (x : SelectorInputs) (v : Enters w t p stamp x) (v' : Enters w t' p stamp' x) where
      abbrev one : ℕ
      one = child_of w t p (inputs_row x)

      abbrev other : ℕ
      other = child_of w t' p (inputs_row x)

      there : p < states_in t.head
      there = (enter_accepted w t p stamp x v).there

      there' : p < states_in t'.head
      there' = (enter_accepted w t' p stamp' x v').there

      g : Right w t p (inputs_tags x) (entered w t p (inputs_row x)) one
      g = enters_right w a.sound p stamp x v

      g' : Right w t' p (inputs_tags x) (entered w t' p (inputs_row x)) other
      g' = enters_right w a.sound' p stamp' x v'

      next : next_state w t p (inputs_tags x) ≡ next_state w t' p (inputs_tags x)
      next = same_next a p (inputs_tags x) there

      pub same_child : one ≡ other
      same_child = elim (settled w a.sound there g) [
        | inl (h, q, _) ↦
            let e = enter_accepted w t p stamp x v in
            sym (child_there w a.sound' p there' (inputs_row x) one (omega (arith, h, a.count)) (rw (row_tags e.proper) (sym (a.same one h) ∙ q ∙ next)))
        | inr (q, _, none) ↦ elim (settled w a.sound' there' g') [
          | inl (h, r, _) ↦ let h' : other < states_in t.head = omega (arith, h, a.count) in absurd (none other h' (a.same other h' ∙ r ∙ sym next))
          | inr (r, _, _) ↦ q ∙ a.count ∙ sym r
        ]
      ]

      same_count : states_in (entered w t p (inputs_row x)).head ≡ states_in (entered w t' p (inputs_row x)).head
      same_count = elim (settled w a.sound there g) [
        | inl (h, _, m) ↦ elim (settled w a.sound' there' g') [ inl (_, _, n) ↦ m ∙ a.count ∙ sym n | inr (q, _, _) ↦ absurd (omega (arith, h, q, same_child, a.count)) ]
        | inr (q, m, _) ↦ elim (settled w a.sound' there' g') [ inl (h, _, _) ↦ absurd (omega (arith, h, q, same_child, a.count)) | inr (_, n, _) ↦ omega (arith, m, n, a.count) ]
      ]

      -- a state that was there stays; another is the child
      same_states : (i : ℕ) → i < states_in (entered w t p (inputs_row x)).head → state_at (entered w t p (inputs_row x)) i ≡ state_at (entered w t' p (inputs_row x)) i
      same_states i l = elim (dec_lt i (states_in t.head)) [
        | yes h ↦ states_stay w a.sound g.kept.stay i h ∙ a.same i h ∙ sym (states_stay w a.sound' g'.kept.stay i (omega (arith, h, a.count)))
        | no n ↦ elim (settled w a.sound there g) [
          | inl (_, _, m) ↦ absurd (omega (arith, l, m, n))
          | inr (q, m, _) ↦
              let e : i ≡ one = omega (arith, l, m, n, q) in
              ap (state_at (entered w t p (inputs_row x))) e
              ∙ child_next w a.sound there g
              ∙ next
              ∙ sym (child_next w a.sound' there' g')
              ∙ ap (state_at (entered w t' p (inputs_row x))) (sym (e ∙ same_child))
        ]
      ]

      pub entered_alike : Alike (entered w t p (inputs_row x)) (entered w t' p (inputs_row x))
      entered_alike = record {
        sound = g.kept.sound;
        sound' = g'.kept.sound;
        stamp = g.kept.stamp ∙ a.stamp ∙ sym g'.kept.stamp;
        ranking = g.kept.ranking ∙ a.ranking ∙ sym g'.kept.ranking;
        count = same_count;
        rows = g.kept.stay.rows ∙ a.rows ∙ sym g'.kept.stay.rows;
        cursor_room = g.kept.stay.cursor_room ∙ a.cursor_room ∙ sym g'.kept.stay.cursor_room;
        matched_room = g.kept.stay.matched_room ∙ a.matched_room ∙ sym g'.kept.stay.matched_room;
        same = same_states;
      }

      -- the child lists the same rules
      pub same_listed : rules_at (entered w t p (inputs_row x)) one ≡ rules_at (entered w t' p (inputs_row x)) other
      same_listed = same_rules entered_alike one g.leads.child ∙ ap (rules_at (entered w t' p (inputs_row x))) same_child
