-- One record of those up to kind 8, over lent memory. For contracts within and cores alone. Assumes nothing.
use Rattle.std.specs.Prelude.{◌≡◌, cond, true, false, List, [], ◌∷◌, ℕ, ◌+◌, ◌≤◌, ◌<◌, length, drop, eqb, Result}
use Rattle.lent.specs.declared.Refusal.{Refusal}
use Rattle.lent.specs.declared.Refusal.TheVariants.{NotAscending, OverSize, CombinatorCount, NotAState, NoRoom, CodeOutOfRange, NoSourceIndex, BufferTooShort, NoSuchRule, BadRecord, BrokenShape}
use Rattle.given.specs.Given.{Group}
use Rattle.records.specs.declared.Record.{Record}
use Rattle.records.specs.Records.{known, kind_of, size_of, is_whole, record_in, Narrow}
use Rattle.gather.specs.declared.Filled.{Filled}
use Rattle.gather.specs.Memory.{Takes}
use Rattle.wording.specs.Lines.{refused_line}
use Rattle.house.specs.declared.Making.{Making}
use Rattle.house.specs.declared.Stage.{Stage}
use Rattle.house.specs.declared.Stage.TheVariants.{Stopped}
use Rattle.house.specs.declared.Found.{Found}
use Rattle.house.specs.declared.Found.TheVariants.{Whole, Short, Unknown}
use Rattle.house.specs.House.{Phase, walks, Outcome, stops, leads, built_of, outcome}
use Rattle.house.specs.Memory.{Cut, state_in, verdict_in, added_in, phase_of, Before, Stands, MadeSoFar}

-- at another stage
abbrev pub staged : Making → Stage → Making
staged m stage = record { stage = stage; ranking = m.ranking; stamp = m.stamp; offset = m.offset; at = m.at; filled = m.filled }

-- "10 adds a byte offset": a record's own
abbrev pub placed : Refusal → ℕ → Refusal
placed NotAscending offset = NotAscending
placed OverSize offset = OverSize
placed CombinatorCount offset = CombinatorCount
placed NotAState offset = NotAState
placed NoRoom offset = NoRoom
placed CodeOutOfRange offset = CodeOutOfRange
placed NoSourceIndex offset = NoSourceIndex
placed BufferTooShort offset = BufferTooShort
placed NoSuchRule offset = NoSuchRule
placed (BadRecord at) offset = BadRecord offset
placed BrokenShape offset = BrokenShape

-- refused there
abbrev pub refusing : Making → Refusal → Making
refusing m refusal = staged m (Stopped (placed refusal m.offset))

-- the same, at another place
abbrev pub moved : Making → ℕ → ℕ → Making
moved m offset at = record { stage = m.stage; ranking = m.ranking; stamp = m.stamp; offset = offset; at = at; filled = m.filled }

-- the phase that an accepted record has led to
abbrev pub next_phase : ℕ → Making → List ℕ → Group → Phase
next_phase room m w g = cond (eqb (state_in m.stage) 3) (walks (built_of room w m.ranking m.stamp)) (phase_of m w g)

-- what the record did that has left this
unfoldable pub did : ℕ → Making → List ℕ → Group → Outcome
did room m w g = cond (eqb (state_in m.stage) 2) (stops (refused_line (verdict_in m.stage) m.offset)) (leads [] (next_phase room m w g))

-- A record did this; a refused one changed nothing
pub record Does (m : Making) (w : List ℕ) (g : Group) (r : Record) (m' : Making) (w' : List ℕ) (g' : Group) : Type 0 where
  pub does : (room : ℕ) → outcome room (phase_of m w g) m.offset r ≡ did room m' w' g'
  pub stands : Stands m' w' g'
  pub keeps : state_in m'.stage ≡ 2 → (m' ≡ staged m m'.stage) × (w' ≡ w) × (g' ≡ g)
  -- "10 adds a byte offset": this record's own, as `refusing` says
  pub adds : verdict_in m'.stage ≡ 10 → added_in m'.stage ≡ m.offset ∷ []
  pub quiet : (state_in m'.stage ≡ 2 → ⊥) → verdict_in m'.stage ≡ verdict_in m.stage
  pub some : state_in m'.stage ≡ 0 → ⊥

-- taken, but not yet passed
pub record Took (m : Making) (w : List ℕ) (g : Group) (r : Record) (m' : Making) (w' : List ℕ) (g' : Group) : Type 0 where
  pub done : Does m w g r m' w' g'
  pub at : m'.at ≡ m.at
  pub offset : m'.offset ≡ m.offset

-- passed, if it was accepted
pub record Past (m : Making) (size : ℕ) (r : Making) : Type 0 where
  pub stays : state_in m.stage ≡ 2 → r ≡ m
  pub goes : (state_in m.stage ≡ 2 → ⊥) → r ≡ moved m r.offset (m.at + size)
  pub reach : (state_in m.stage ≡ 2 → ⊥) → m.offset + size < 18446744073709551616 → r.offset ≡ m.offset + size

-- the one at the front of the bytes, taken and passed
pub record TookFront (m : Making) (w : List ℕ) (g : Group) (bytes : List ℕ) (m' : Making) (w' : List ℕ) (g' : Group) : Type 0 where
  pub done : Does m w g (record_in bytes) m' w' g'
  pub goes : (state_in m'.stage ≡ 2 → ⊥) → m'.at ≡ m.at + size_of (kind_of bytes)
  pub reach : (state_in m'.stage ≡ 2 → ⊥) → m.offset + size_of (kind_of bytes) < 18446744073709551616 → m'.offset ≡ m.offset + size_of (kind_of bytes)

-- what stands ahead in a piece: a record to take, a byte that is no kind, or none
pub record Ahead (input : List ℕ) (m : Making) (found : Found) : Type 0 where
  pub takes : found ≡ Whole → (state_in m.stage ≤ 1) × (m.at < length input) × (is_whole (drop m.at input) ≡ true)
  pub unknown : found ≡ Unknown → (state_in m.stage ≤ 1) × (m.at < length input) × (known (kind_of (drop m.at input)) ≡ false)
  pub cut : found ≡ Short → state_in m.stage ≤ 1 → Cut (drop m.at input)

-- the record there, in numbers that fit: a kind of the table, and a place for what follows
pub record ItemAt (input : List ℕ) (at : ℕ) (r : Record) : Type 0 where
  pub read : r ≡ record_in (drop at input)
  pub narrow : Narrow r
  pub known : r.kind ≤ 12
  pub room : at + size_of r.kind < 18446744073709551616

-- a sheet's first record was taken, if none was before and the piece begins with one that is whole
pub record Opens (input : List ℕ) (m : Making) (w : List ℕ) (g : Group) (m' : Making) (w' : List ℕ) : Type 0 where
  pub made : MadeSoFar input m w g m' w' g
  pub later : state_in m'.stage ≡ 0 → is_whole (drop m'.at input) ≡ false

-- after the first: passed, or refused, in whatever memory it was taken
pub record GoesOn (m : Making) (r : Record) (t : Result Filled Refusal) (m' : Making) : Type 0 where
  pub goes : (w : List ℕ) (g : Group) (w' : List ℕ) (g' : Group) (bytes : List ℕ) → Before m w g → state_in m.stage ≡ 1 → r ≡ record_in bytes
      → Takes w m.filled g r t w' g' → TookFront m w g bytes m' w' g'
