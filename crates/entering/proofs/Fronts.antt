-- Entering with its refusals, by each way through the code. Assumes nothing.
use mathlib.Core.Path.{◌≡◌, refl, sym, ap, ◌∙◌}
use mathlib.Core.Bool.{Bool, true, false, not}
use mathlib.Core.List.{List, [], ◌∷◌}
use Prim.Native.Nat.{ℕ, ◌+◌, ◌<◌}
use native.Mathlib.Omega.{arith}
use lib.Dec.{eqb}
use borrow.Author.Tests.{ne_eqb, ltb-true, not-true, not-false}
use Rattle.theory.proofs.Lists.{and_left, and_right, or_second}
use Rattle.lent.specs.Refusals.{number_of, told, answered, check, first_of}
use Rattle.lent.specs.declared.Refusal.{Refusal}
use Rattle.lent.proofs.Refusals.{first_stop, first_go, first_clear, refusal_number, refused_first}
use Rattle.selector.specs.Rows.{row_at}
use Rattle.selector.specs.Checks.{row_fits, tags_ascend}
use Rattle.sheet.specs.Shape.{sheet_shape}
use Rattle.table.specs.Tables.{Table, table, states_in, stamp_in}
use Rattle.table.specs.Shape.{table_shape}
use Rattle.table.specs.Entering.{lacks_room, child_of}
use Rattle.table.specs.Calls.{broken, not_a_state, state_checks, subject_checks, state_verdict, enter_verdict}
use Rattle.std.specs.Prelude.{Option, Some, None, Result, Ok, Err, ok_or}
use Rattle.matcher.specs.declared.MatchState.{MatchState}
use Rattle.entering.specs.Answers.{entering_told, Enter, Enters, front_verdict}
use Rattle.entering.proofs.Entered.{told_at, told_none}

-- ---- the number where there is room, or else the refusal

room_told : Result ℕ Refusal → ℕ
room_told (Ok k) = k + 1
room_told (Err x) = 0

room_there : (r : Option ℕ) (k : ℕ) → Ok k ≡ ok_or r Refusal.NoRoom → r ≡ Some k
unfolding room_told
room_there (Some a) k e = let q : k + 1 ≡ a + 1 = ap room_told e in ap Some (omega arith)
room_there None k e = let q : k + 1 ≡ 0 = ap room_told e in absurd (omega arith)

refusal_in : Result ℕ Refusal → Refusal
refusal_in (Ok k) = Refusal.NoRoom
refusal_in (Err x) = x

room_lacking : (r : Option ℕ) (x : Refusal) → Err x ≡ ok_or r Refusal.NoRoom → (r ≡ None) × (x ≡ Refusal.NoRoom)
unfolding room_told refusal_in
room_lacking (Some a) x e = let q : 0 ≡ a + 1 = ap room_told e in absurd (omega arith)
room_lacking None x e = (refl, ap refusal_in e)

module _ (w : List ℕ) (t : Table) (number stamp : ℕ) where
  -- ---- the first four refusals: of the state, then of the row

  module _ (row : List ℕ) where
    pub front_state : (r : Refusal) → number_of r ≡ state_verdict w t number stamp → number_of r ≡ front_verdict w t number stamp row
    unfolding state_verdict front_verdict
    front_state r e = first_stop (state_checks w t number stamp) (subject_checks row) (number_of r) e (refusal_number r)

    module _ (e : 0 ≡ state_verdict w t number stamp) where
      front_row : (r : ℕ) → r ≡ first_of (subject_checks row) → r ≡ front_verdict w t number stamp row
      unfolding state_verdict front_verdict
      front_row r f = first_go (state_checks w t number stamp) (subject_checks row) 0 r e refl refl f

      module _ (b : Bool) (f : b ≡ row_fits 16 row 0) where
        pub front_over : b ≡ false → 2 ≡ front_verdict w t number stamp row
        unfolding first_of
        front_over h = front_row 2 (rw (← f, h))

        module _ (h : b ≡ true) (a : Bool) (g : a ≡ tags_ascend (row_at 16 row 0)) where
          pub front_unsorted : a ≡ false → 1 ≡ front_verdict w t number stamp row
          unfolding first_of
          front_unsorted i = front_row 1 (rw (← f, h, ← g, i))

          pub front_fine : a ≡ true → 0 ≡ front_verdict w t number stamp row
          unfolding first_of
          front_fine i = front_row 0 (rw (← f, h, ← g, i))

  -- ---- the whole call

  module _ (row : List ℕ) where
    module _ (x : Refusal) (e : number_of x ≡ front_verdict w t number stamp row) (given : List ℕ) (q : row ≡ given) where
      stopped : number_of x ≡ enter_verdict w t number stamp given
      unfolding front_verdict enter_verdict
      stopped = rw (← q) (first_stop _ (check 5 (lacks_room w t number row) ∷ []) (number_of x) e (refusal_number x))

      pub refused_told : (l : List ℕ) → told x ≡ answered (enter_verdict w t number stamp given) l
      unfolding front_verdict enter_verdict
      refused_told l = refused_first _ x l refl stopped

      pub enter_refused : (r : Result MatchState Refusal)
          → entering_told r ≡ answered (enter_verdict w t number stamp given) (0 ∷ child_of w t number given ∷ stamp ∷ [])
          → Enter w t number stamp given r t
      enter_refused r f = record { answer = f; memory = rw (← stopped, ne_eqb (number_of x) 0 (refusal_number x)) }

    module _ (e : 0 ≡ front_verdict w t number stamp row) (given : List ℕ) (q : row ≡ given) where
      -- the last refusal
      last : (r : ℕ) → r ≡ first_of (check 5 (lacks_room w t number row) ∷ []) → r ≡ enter_verdict w t number stamp given
      unfolding front_verdict enter_verdict
      last r f = rw (← q) (first_go _ (check 5 (lacks_room w t number row) ∷ []) 0 r e refl refl f)

      module _ (r : Option ℕ) (t' : Table) (u : Enters w t number row r t') where
        pub enter_entered : (k : ℕ) → Ok k ≡ ok_or r Refusal.NoRoom → Enter w t number stamp given (Ok (record { number = k; stamp = stamp })) t'
        unfolding first_of
        enter_entered k f =
            let (o, p) = told_at (lacks_room w t number row) (child_of w t number row) k (sym (room_there r k f) ∙ u.answer) in
            let n = last 0 (rw o) in
            record { answer = rw (← n, ← q, p); memory = rw (← n, ← q) (rw o at u.memory) }

        pub enter_full : (x : Refusal) → Err x ≡ ok_or r Refusal.NoRoom → (out : Result MatchState Refusal) → entering_told out ≡ told x → Enter w t number stamp given out t'
        unfolding first_of
        enter_full x f out g =
            let (none, full) = room_lacking r x f in
            let o = told_none (lacks_room w t number row) (child_of w t number row) (sym none ∙ u.answer) in
            let n = last 5 (rw o) in
            record { answer = rw (← n) (g ∙ ap told full); memory = rw (← n) (rw o at u.memory) }

pub ruleset fronts = (front_state, front_over, front_unsorted, front_fine, not-true, not-false)

-- where none of the four counts, what the rest relies on is there
pub front_passed : (w h s c m tr : List ℕ) (number stamp : ℕ) (row : List ℕ) → 0 ≡ front_verdict w (table h s c m tr) number stamp row
    → ((sheet_shape w ≡ true) × (table_shape w (table h s c m tr) ≡ true) × (number < states_in h)) × ((row_fits 16 row 0 ≡ true) × (tags_ascend (row_at 16 row 0) ≡ true))
unfolding front_verdict broken not_a_state
front_passed w h s c m tr number stamp row e =
    let (a, f) = first_clear 11 (broken w (table h s c m tr)) _ (omega arith) (sym e) in
    let (n, g) = first_clear 4 (not_a_state h number stamp) _ (omega arith) f in
    let (b, i) = first_clear 2 (not (row_fits 16 row 0)) _ (omega arith) g in
    let (d, _) = first_clear 1 (not (tags_ascend (row_at 16 row 0))) [] (omega arith) i in
    let fine = not-false _ a in
    ((and_left (sheet_shape w) _ fine, and_right (sheet_shape w) _ fine, ltb-true number (states_in h) (not-false _ (or_second (not (eqb stamp (stamp_in h))) _ n))), (not-false _ b, not-false _ d))
