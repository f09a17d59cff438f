-- What `walk` lends is never too short for the root, nor for a list of changed properties. Assumes nothing.
use mathlib.Core.Path.{◌≡◌, refl, sym, ◌∙◌}
use mathlib.Core.Bool.{Bool, true, false}
use mathlib.Core.Logic.{◌≢◌, inl, inr}
use mathlib.Core.List.{List, [], ◌∷◌}
use Prim.Native.Nat.{ℕ, ◌≤◌, ◌<◌}
use native.Mathlib.Omega.{arith}
use lib.ListN.{length, length-replicate}
use borrow.Author.Tests.{le-ltb}
use Rattle.lent.specs.Refusals.{check, first_of}
use Rattle.lent.proofs.Refusals.{above, first_stop, first_go}
use Rattle.sheet.specs.Shape.{sheet_shape}
use Rattle.sheet.proofs.Shaped.{shaped}
use Rattle.given.specs.Given.{Group}
use Rattle.table.specs.Tables.{Table, ranking_in, states_in}
use Rattle.table.specs.Shape.{table_shape}
use Rattle.table.specs.Calls.{broken, not_a_state, build_verdict}
use Rattle.changeset.specs.Sets.{too_short}
use Rattle.changes.specs.Asked.{asked, differing}
use Rattle.changes.proofs.Keep.{keep_length}
use Rattle.changes.proofs.Asked.{changed_asked}
use Rattle.changes.proofs.Room.{asked_fits}
use Rattle.looking.specs.Calls.{rules_at}
use Rattle.looking.proofs.Listed.{rules_are, rules_rise}
use Rattle.cascade.specs.Calls.{changed_in, pair_checks, pair_verdict, changed_verdict}
use Rattle.cascade.proofs.Verdicts.{pair_passed}
use Rattle.covered.specs.Covered.{Covered}
use Rattle.covered.proofs.Reached.{covered_sheet, covered_shaped}
use Rattle.replies.specs.Walking.{changed_room}
use Rattle.house.specs.declared.Making.{Making}
use Rattle.house.specs.House.{lent_table}
use Rattle.house.specs.Memory.{state_in, FedSheet}
use Rattle.house.proofs.Never.{build_never_refused}

-- THE THEOREM: where the records have come to kind 8, the sheet is built, whatever room there is for transitions
pub build_has_room : {input : List ℕ} {m : Making} {w : List ℕ} {g : Group} {m' : Making} {w' : List ℕ} {g' : Group} (room : ℕ)
    → FedSheet input m w g m' w' g'
    → state_in m'.stage ≡ 3
    → build_verdict w' m'.ranking (lent_table room).states (lent_table room).cursors ≡ 0
build_has_room {m' = m'} {w' = w'} room f e = let (shape, ranks) = f.made.stands.ready e in build_never_refused w' m'.ranking room shape ranks

module _ (w : List ℕ) (t : Table) (e : (sheet_shape w ≡ true) × (table_shape w t ≡ true)) (old new : ℕ) where
  -- those that change are among the properties of rules that one side alone lists
  changed_few : old < states_in t.head → new < states_in t.head → length (changed_in w t old new) ≤ 4096
  changed_few h k =
      let are = rules_are w t.head t.states t.cursors t.matched t.transitions e old h (rules_at t old) refl in
      let are' = rules_are w t.head t.states t.cursors t.matched t.transitions e new k (rules_at t new) refl in
      let up = rules_rise w t.head t.states t.cursors t.matched t.transitions e old h (rules_at t old) refl in
      let up' = rules_rise w t.head t.states t.cursors t.matched t.transitions e new k (rules_at t new) refl in
      let fits = asked_fits (shaped w e.0) (rules_at t old) (rules_at t new) are are' up up' in
      rw (changed_asked w e.0 (ranking_in t.head) (rules_at t old) (rules_at t new) are are') (omega (arith, fits, keep_length (differing w (ranking_in t.head) (rules_at t old) (rules_at t new)) (asked w (rules_at t old) (rules_at t new))))

  -- so that the call refuses just where the states are none
  pub changed_is_pair : (stamp stamp' : ℕ) → changed_verdict w t old stamp new stamp' changed_room ≡ pair_verdict w t old stamp new stamp'
  unfolding changed_verdict pair_verdict
  changed_is_pair stamp stamp' =
      let v = pair_verdict w t old stamp new stamp' in
      let tests = pair_checks w t old stamp new stamp' in
      let last = too_short (changed_in w t old new) changed_room ∷ [] in
      elim (above v) [
        | inl z ↦
            let p = pair_passed w t.head t.states t.cursors t.matched t.transitions old stamp new stamp' v refl z in
            sym (first_go tests last v 0 refl z refl (fits (changed_few p.1.0 p.1.1))) ∙ sym z
        | inr l ↦ sym (first_stop tests last v refl (λ z. omega arith))
      ]
    where
      fits : length (changed_in w t old new) ≤ 4096 → 0 ≡ first_of (too_short (changed_in w t old new) changed_room ∷ [])
      fits h = unfold first_of in rw (le-ltb (length changed_room) (length (changed_in w t old new)) (rw length-replicate h))

pair_few : (a b c : Bool) → first_of (check 11 a ∷ check 4 b ∷ check 4 c ∷ []) ≢ 8
unfolding first_of
pair_few true b c e = omega arith
pair_few false true c e = omega arith
pair_few false false true e = omega arith
pair_few false false false e = omega arith

-- THE THEOREM: in a table of the sheet, of whatever states it is asked, the changed list is never refused for want of room
pub changed_has_room : {w : List ℕ} {t : Table} → Covered w t → (old oldStamp new newStamp : ℕ) → changed_verdict w t old oldStamp new newStamp changed_room ≢ 8
unfolding pair_verdict
changed_has_room {w} {t} c old oldStamp new newStamp =
    rw (changed_is_pair w t (covered_sheet w c, covered_shaped w c) old new oldStamp newStamp)
    (pair_few (broken w t) (not_a_state t.head old oldStamp) (not_a_state t.head new newStamp))
