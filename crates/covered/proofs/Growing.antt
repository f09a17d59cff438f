-- A state more: by build, the root, and by entering. Assumes nothing.
use mathlib.Core.Path.{◌≡◌, refl, sym, ◌∙◌}
use mathlib.Core.Bool.{true}
use mathlib.Core.List.{List, [], ◌∷◌}
use Prim.Native.Nat.{ℕ, ◌+◌, ◌-◌, ◌*◌, ◌≤◌, ◌<◌}
use native.Mathlib.Nat.{zero-add}
use native.Mathlib.Omega.{arith}
use lib.ListN.{length, get_or}
use lib.Seq.{sets, length-sets}
use Rattle.theory.specs.States.{State, root, enter}
use Rattle.lent.specs.Pool.{ends_in}
use Rattle.lent.proofs.Placing.{sets_before, sets_inside, sets_after}
use Rattle.selector.specs.Tags.{Tags, step_matches}
use Rattle.sheet.specs.Shape.{sheet_shape}
use Rattle.table.specs.Tables.{Table, selectors_of, states_in, cursors_in, matched_in, cursor_ends, matched_ends, state_at}
use Rattle.table.specs.Entering.{roots_of, built, grown, grown_head, grown_states}
use Rattle.table.proofs.Rooms.{RoomFor}
use Rattle.covered.proofs.Known.{known_root, known_more}
use Rattle.covered.proofs.Chained.{chained_none, chained_state}
use Rattle.covered.proofs.Columns.{EndToEnd, none_there, more_stays, more_end_to_end, more_list}
use Rattle.covered.proofs.Rows.{row_before, row_new}
use Rattle.covered.proofs.Found.{state_is}
use Rattle.covered.proofs.Sound.{Sound}
use Rattle.covered.proofs.Keeps.{StatesStay, Kept, states_stay, leads_stay}

module _ (w : List ℕ) (t : Table) where
  -- ---- by entering

  module _ (st : State) (s : Sound w t) (r : RoomFor t.head (length t.states) (length t.cursors) (length t.matched) st) where
    abbrev n : ℕ
    n = states_in t.head

    abbrev counts : List ℕ
    counts = (n + 1) ∷ (cursors_in t.head + length st.cursors) ∷ (matched_in t.head + length st.matched) ∷ []

    abbrev row : List ℕ
    row = (cursors_in t.head + length st.cursors) ∷ (matched_in t.head + length st.matched) ∷ 0 ∷ []

    head_new : (i : ℕ) → 2 ≤ i → i < 5 → get_or (grown_head t.head st) i 0 ≡ get_or counts (i - 2) 0
    head_new i g h = sets_inside t.head 2 counts i g h (omega (arith, s.eight))

    end_before : (c : ℕ) → c < 3 → (k : ℕ) → k < n → ends_in (grown_states t.head t.states st) c 3 k ≡ ends_in t.states c 3 k
    end_before c h k l = row_before 3 n t.states row c h k l

    end_new : (c : ℕ) → c < 3 → ends_in (grown_states t.head t.states st) c 3 n ≡ get_or row c 0
    end_new c h = row_new 3 n t.states row c h (omega (arith, r.rows))

    pub grown_count : states_in (grown t st).head ≡ states_in t.head + 1
    unfolding grown
    grown_count = head_new 2 (omega arith) (omega arith)

    pub grown_stay : StatesStay t (grown t st)
    unfolding grown
    grown_stay =
        let e2 = head_new 2 (omega arith) (omega arith) in
        let e3 = head_new 3 (omega arith) (omega arith) in
        let e4 = head_new 4 (omega arith) (omega arith) in
        record {
          rows = length-sets t.states (3 * n) row;
          cursor_room = length-sets t.cursors (cursors_in t.head) st.cursors;
          matched_room = length-sets t.matched (matched_in t.head) st.matched;
          more = rw e2 (omega arith);
          more_cursors = rw e3 (omega arith);
          more_matched = rw e4 (omega arith);
          cursors = more_stays st.cursors s.cursors (end_before 0 (omega arith)) (end_new 0 (omega arith)) r.cursors;
          matched = more_stays st.matched s.matched (end_before 1 (omega arith)) (end_new 1 (omega arith)) r.matched;
        }

    pub grown_new : state_at (grown t st) (states_in t.head) ≡ st
    unfolding grown
    grown_new = state_is
        (more_list st.cursors s.cursors (end_before 0 (omega arith)) (end_new 0 (omega arith)) r.cursors)
        (more_list st.matched s.matched (end_before 1 (omega arith)) (end_new 1 (omega arith)) r.matched)

    module _ (p : ℕ) (x : Tags) (l : p < states_in t.head) (e : st ≡ enter step_matches (selectors_of w) (state_at t p) x)
        (none : (k : ℕ) → k < states_in t.head → state_at t k ≡ st → ⊥) where
      grown_sound : Sound w (grown t st)
      unfolding grown
      grown_sound =
          let e1 = sets_before t.head 2 counts 1 (omega arith) in
          let e2 = head_new 2 (omega arith) (omega arith) in
          let e3 = head_new 3 (omega arith) (omega arith) in
          let e4 = head_new 4 (omega arith) (omega arith) in
          let e5 = sets_after t.head 2 counts 5 (omega arith) in
          record {
            sheet = s.sheet;
            eight = length-sets t.head 2 counts ∙ s.eight;
            few = rw e2 (omega (arith, r.few));
            ranking = rw e1 s.ranking;
            rows = rw (e2, length-sets) (omega (arith, r.rows));
            cursors = rw (e2, e3) (more_end_to_end st.cursors s.cursors (end_before 0 (omega arith)) (end_new 0 (omega arith)) r.cursors);
            matched = rw (e2, e4) (more_end_to_end st.matched s.matched (end_before 1 (omega arith)) (end_new 1 (omega arith)) r.matched);
            transitions = rw e5 s.transitions;
            known = rw e2 (known_more step_matches (selectors_of w) p x s.known (states_stay w s grown_stay) l (grown_new ∙ e) (λ k h q. none k h (q ∙ sym e)));
            moves = λ k h. leads_stay w s grown_stay (s.moves k (rw e5 at h));
            subjects = λ k h. s.subjects k (rw e5 at h);
            chains = rw (e2, e5) (chained_state s.chains (λ k h. (s.moves k h).parent) (end_before 2 (omega arith)) (end_new 2 (omega arith)));
          }

      pub grown_kept : Kept w t (grown t st)
      unfolding grown
      grown_kept = record {
        sound = grown_sound;
        stamp = sets_before t.head 2 counts 0 (omega arith);
        ranking = sets_before t.head 2 counts 1 (omega arith);
        stay = grown_stay;
        more_moves = rw (sets_after t.head 2 counts 5 (omega arith)) (omega arith);
        moves = λ k h. record { words = λ c g ne. refl };
      }

  -- ---- by build

  module _ (stamp ranking : ℕ) (shape : sheet_shape w ≡ true) (eight : length t.head ≡ 8) (ranks : ranking ≤ 1) (rows : 3 ≤ length t.states)
      (room : length (roots_of w) ≤ length t.cursors) where
    abbrev start : List ℕ
    start = stamp ∷ ranking ∷ 1 ∷ length (roots_of w) ∷ 0 ∷ 0 ∷ []

    abbrev first : List ℕ
    first = length (roots_of w) ∷ 0 ∷ 0 ∷ []

    pub built_word : (i : ℕ) → i < 6 → get_or (built w stamp ranking t).head i 0 ≡ get_or (stamp ∷ ranking ∷ 1 ∷ length (roots_of w) ∷ 0 ∷ 0 ∷ []) i 0
    unfolding built
    built_word i h = let z : i - 0 ≡ i = omega arith in sets_inside t.head 0 start i (omega arith) (omega arith) (omega arith) ∙ rw z

    built_end : (c : ℕ) → c < 3 → ends_in (sets t.states 0 first) c 3 0 ≡ get_or first c 0
    built_end c h = row_new 3 0 t.states first c h (omega arith)

    new_cursors : cursor_ends (sets t.states 0 first) 0 ≡ 0 + length (roots_of w)
    new_cursors = built_end 0 (omega arith) ∙ sym (zero-add (length (roots_of w)))

    no_matched : matched_ends (sets t.states 0 first) 0 ≡ 0
    no_matched = built_end 1 (omega arith)

    root_there_lem : 0 + length (roots_of w) ≤ length t.cursors
    root_there_lem = omega arith

    built_cursors : EndToEnd (cursor_ends (sets t.states 0 first)) 1 (length (roots_of w)) (sets t.cursors 0 (roots_of w))
    built_cursors = rw (zero-add (length (roots_of w))) at (more_end_to_end {ends' = cursor_ends (sets t.states 0 first)} (roots_of w) (none_there (cursor_ends t.states) t.cursors) (λ k h. absurd (omega arith)) new_cursors root_there_lem)

    built_matched : EndToEnd (matched_ends (sets t.states 0 first)) 1 0 t.matched
    built_matched = more_end_to_end [] (none_there (matched_ends t.states) t.matched) (λ k h. absurd (omega arith)) no_matched (omega arith)

    pub built_root : state_at (built w stamp ranking t) 0 ≡ root (selectors_of w)
    unfolding built
    built_root = state_is
        (more_list (roots_of w) (none_there (cursor_ends t.states) t.cursors) (λ k h. absurd (omega arith)) new_cursors root_there_lem)
        (more_list [] (none_there (matched_ends t.states) t.matched) (λ k h. absurd (omega arith)) no_matched (omega arith))

    pub built_sound : Sound w (built w stamp ranking t)
    built_sound =
        let e1 = built_word 1 (omega arith) in
        let e2 = built_word 2 (omega arith) in
        let e3 = built_word 3 (omega arith) in
        let e4 = built_word 4 (omega arith) in
        let e5 = built_word 5 (omega arith) in
        record {
          sheet = shape;
          eight = unfold built in length-sets t.head 0 start ∙ eight;
          few = rw e2 (omega arith);
          ranking = rw e1 ranks;
          rows = rw e2 (unfold built in rw length-sets (omega arith));
          cursors = rw (e2, e3) (unfold built in built_cursors);
          matched = rw (e2, e4) (unfold built in built_matched);
          transitions = rw e5 (omega arith);
          known = rw e2 (known_root step_matches (selectors_of w) built_root);
          moves = λ k h. absurd (omega arith);
          subjects = λ k h. absurd (omega arith);
          chains = rw (e2, e5) (unfold built in chained_none (λ p h. let z : p ≡ 0 = omega arith in rw z (built_end 2 (omega arith))));
        }
