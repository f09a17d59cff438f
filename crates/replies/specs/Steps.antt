-- A record after kind 8 in its steps: the items, an enter's call, the line. For contracts within and cores alone. Assumes nothing.
use Rattle.std.specs.Prelude.{◌≡◌, Bool, cond, ◌&&◌, List, [], ℕ, ◌<◌, length, eqb, ltb, Option, Some, None, Result, Ok, Err}
use Rattle.lent.specs.declared.Refusal.{Refusal}
use Rattle.lent.specs.Refusals.{verdict_of}
use Rattle.table.specs.Tables.{Table, states_in}
use Rattle.table.specs.Entering.{lacks_room, child_of, entered}
use Rattle.looking.specs.Calls.{rules_at, winner_in}
use Rattle.cascade.specs.Calls.{changed_in}
use Rattle.covered.specs.Covered.{Covered}
use Rattle.records.specs.declared.Record.{Record}
use Rattle.records.specs.Rows.{empty_row}
use Rattle.wording.specs.Lines.{state_line, changed_line, winner_line}
use Rattle.replies.specs.Walking.{item_fault, with_fit}

-- a number that is no state's is refused by 4
abbrev pub lost_in : List ℕ → ℕ → ℕ
lost_in head k = cond (ltb k (states_in head)) 0 4

-- the old state's number is tested first
abbrev pub lost_either : List ℕ → ℕ → ℕ → ℕ
lost_either head old new = cond (ltb old (states_in head)) (lost_in head new) 4

-- the items after a record, and the refusal that is known before the call: all but an enter's for want of room
pub data ItemsTaken (head items : List ℕ) (r : Record) (fault : ℕ) (items' : List ℕ) : Type 0 where
  item : r.kind ≡ 9 → (fault ≡ item_fault items r.first) × (items' ≡ with_fit items r.first r.second) → ItemsTaken head items r fault items'
  entering : r.kind ≡ 10 → fault ≡ lost_in head r.first → items' ≡ empty_row 16 → ItemsTaken head items r fault items'
  changing : r.kind ≡ 11 → fault ≡ lost_either head r.first r.second → items' ≡ items → ItemsTaken head items r fault items'
  winning : r.kind ≡ 12 → fault ≡ lost_in head r.first → items' ≡ items → ItemsTaken head items r fault items'
  misplaced : (r.kind ≡ 9 → ⊥) → (r.kind ≡ 10 → ⊥) → (r.kind ≡ 11 → ⊥) → (r.kind ≡ 12 → ⊥) → fault ≡ 10 → items' ≡ items → ItemsTaken head items r fault items'

-- a call of entering is made: for an enter that nothing refuses before
abbrev pub enters_by : ℕ → ℕ → Bool
enters_by kind fault = eqb kind 10 && eqb fault 0

-- the child of an enter that was accepted
abbrev pub child_in : Result (Option ℕ) Refusal → Option ℕ
child_in (Ok child) = child
child_in (Err refusal) = None

-- the refusal, the child and the table after an enter, if it is one
pub record EntersIf (w : List ℕ) (t : Table) (kind parent fault : ℕ) (row : List ℕ) (e : Result (Option ℕ) Refusal) (t' : Table) : Type 0 where
  pub refusal : verdict_of e ≡ cond (enters_by kind fault) (cond (lacks_room w t parent row) 5 0) fault
  pub child : child_in e ≡ cond (enters_by kind fault) (cond (lacks_room w t parent row) None (Some (child_of w t parent row))) None
  pub memory : t' ≡ cond (enters_by kind fault) (cond (lacks_room w t parent row) t (entered w t parent row)) t

-- what the calls that only read rely on
pub record Tellable (w : List ℕ) (t : Table) (r : Record) (fault : ℕ) : Type 0 where
  pub matched : length t.matched ≡ 4096
  pub changing : fault ≡ 0 → r.kind ≡ 11 → Covered w t × (r.first < states_in t.head) × (r.second < states_in t.head)
  pub winning : fault ≡ 0 → r.kind ≡ 12 → Covered w t × (r.first < states_in t.head) × (r.second < 65536)

-- what is printed of a record whose call is made: `accepted_line`, over the table after it, of an enter's child
unfoldable pub told_line : List ℕ → Table → Record → Option ℕ → List ℕ
told_line w t r (Some child) = state_line child (rules_at t child)
told_line w t r None =
    cond (eqb r.kind 11) (changed_line (changed_in w t r.first r.second))
    (cond (eqb r.kind 12) (winner_line w r.second (winner_in w t r.first r.second)) [])
