-- Records fed in pieces, over lent memory: how far they lead, and what they print. Assumes nothing.
use Rattle.std.specs.Prelude.{◌≡◌, Bool, cond, true, false, List, [], ◌∷◌, ◌++◌, ℕ, ◌+◌, ◌≤◌, ◌<◌, length, take, drop, replicate, eqb}
use Rattle.lent.specs.Refusals.{number_of, added}
use Rattle.sheet.specs.Layout.{SHEET-WORDS}
use Rattle.sheet.specs.Shape.{sheet_shape}
use Rattle.given.specs.Given.{Group}
use Rattle.table.specs.Tables.{Table}
use Rattle.records.specs.Records.{known, kind_of, is_whole, record_in}
use Rattle.gather.specs.declared.OpenKind.TheVariants.{Nothing}
use Rattle.gather.specs.Memory.{open_of, Roomy, Sound}
use Rattle.wording.specs.Lines.{refused_line}
use Rattle.replies.specs.Walking.{walking}
use Rattle.replies.specs.Memory.{Ready}
use Rattle.house.specs.declared.Making.{Making}
use Rattle.house.specs.declared.Stage.{Stage}
use Rattle.house.specs.declared.Stage.TheVariants.{Unbegun, Begun, Stopped, Done}
use Rattle.house.specs.declared.Found.{Found}
use Rattle.house.specs.declared.Found.TheVariants.{Whole, Short, Unknown}
use Rattle.house.specs.declared.Walked.{Walked}
use Rattle.house.specs.House.{Phase, first, making, walks, stops, leads, built_of, outcome, reached}

-- Inputs are below 2^64 bytes: what is left ends below that
abbrev pub Below : ℕ → List ℕ → Type 0
Below offset bytes = offset + length bytes < 18446744073709551616

-- The record at the front is refused: by what it does, or with 10 if its byte is no kind
pub data Refused (room : ℕ) (phase : Phase) (offset : ℕ) (bytes : List ℕ) (verdict : ℕ) : Type 0 where
  whole : is_whole bytes ≡ true → outcome room phase offset (record_in bytes) ≡ stops (refused_line verdict offset) → Refused room phase offset bytes verdict
  unknown : 1 ≤ length bytes → known (kind_of bytes) ≡ false → verdict ≡ 10 → Refused room phase offset bytes verdict

-- There is none to take: no byte, or a known kind that is cut short
pub record Cut (bytes : List ℕ) : Type 0 where
  pub short : is_whole bytes ≡ false
  pub begun : 1 ≤ length bytes → known (kind_of bytes) ≡ true

-- ---- what stands at the front: a record, the beginning of one, or a byte that is no kind

abbrev pub found_of : Bool → Bool → Found
found_of is_kind all = cond is_kind (cond all Whole Short) Unknown

-- ---- up to kind 8

-- how far the records have come, as a number: none yet (0), a sheet in the making (1), refused (2), the sheet's end (3)
abbrev pub state_in : Stage → ℕ
state_in Unbegun = 0
state_in Begun = 1
state_in (Stopped refusal) = 2
state_in Done = 3

-- the refusal's number, 0 for none
abbrev pub verdict_in : Stage → ℕ
verdict_in Unbegun = 0
verdict_in Begun = 0
verdict_in (Stopped refusal) = number_of refusal
verdict_in Done = 0

-- the byte offset that the refusal adds, if it adds one
abbrev pub added_in : Stage → List ℕ
added_in Unbegun = []
added_in Begun = []
added_in (Stopped refusal) = added refusal
added_in Done = []

-- the phase, by the state: 0 none yet, else in the making
unfoldable pub phase_of : Making → List ℕ → Group → Phase
phase_of m w g = cond (eqb (state_in m.stage) 0) first (making w (open_of m.filled g) m.ranking m.stamp)

-- what the records before have left
pub record Before (m : Making) (w : List ℕ) (g : Group) : Type 0 where
  pub awaits : state_in m.stage ≤ 1
  pub zeros : state_in m.stage ≡ 0 → w ≡ replicate SHEET-WORDS 0
  pub nothing : state_in m.stage ≡ 0 → m.filled.opening ≡ Nothing
  pub sound : Sound m.filled g
  pub shape : sheet_shape w ≡ true
  pub ranking : m.ranking ≤ 1

-- what may come next: a record (states 0 and 1), the walk (3)
pub record Stands (m : Making) (w : List ℕ) (g : Group) : Type 0 where
  pub before : state_in m.stage ≤ 1 → Before m w g
  pub ready : state_in m.stage ≡ 3 → (sheet_shape w ≡ true) × (m.ranking ≤ 1)
  pub room : Roomy g

-- the phase of the record that comes next, or that was refused: the walk at the sheet's end (3), `start` where none was taken
unfoldable pub phase_left : ℕ → Phase → Making → List ℕ → Group → Phase
phase_left room start m w g = cond (eqb (state_in m.stage) 3) (walks (built_of room w m.ranking m.stamp)) (cond (eqb m.at 0) start (phase_of m w g))

-- none was taken: nothing is changed, except that the first may be refused
pub record Still (m : Making) (w : List ℕ) (g : Group) (m' : Making) (w' : List ℕ) (g' : Group) : Type 0 where
  pub state : (state_in m'.stage ≡ 2 → ⊥) → state_in m'.stage ≡ state_in m.stage
  pub ranking : m'.ranking ≡ m.ranking
  pub stamp : m'.stamp ≡ m.stamp
  pub filled : m'.filled ≡ m.filled
  pub sheet : w' ≡ w
  pub lists : g' ≡ g

-- the bytes up to `at` were taken: nothing is printed, and a refused record leaves what the one before it left
pub record MadeSoFar (input : List ℕ) (m : Making) (w : List ℕ) (g : Group) (m' : Making) (w' : List ℕ) (g' : Group) : Type 0 where
  pub within : m'.at ≤ length input
  pub place : m.offset + m'.at < 18446744073709551616 → m'.offset ≡ m.offset + m'.at
  pub reaches : (room : ℕ) → m.offset + m'.at < 18446744073709551616
      → reached room (phase_of m w g) m.offset (take m'.at input) ≡ leads [] (phase_left room (phase_of m w g) m' w' g')
  pub refused : state_in m'.stage ≡ 2 → (room : ℕ) → Refused room (phase_left room (phase_of m w g) m' w' g') m'.offset (drop m'.at input) (verdict_in m'.stage)
  -- "10 adds a byte offset": the refused record's own
  pub adds : verdict_in m'.stage ≡ 10 → added_in m'.stage ≡ m'.offset ∷ []
  pub quiet : (state_in m'.stage ≡ 2 → ⊥) → verdict_in m'.stage ≡ verdict_in m.stage
  pub still : m'.at ≡ 0 → Still m w g m' w' g'
  pub first : state_in m'.stage ≡ 0 → m'.at ≡ 0
  pub stands : Stands m' w' g'

-- and more is awaited only where there is none to take
pub record FedSheet (input : List ℕ) (m : Making) (w : List ℕ) (g : Group) (m' : Making) (w' : List ℕ) (g' : Group) : Type 0 where
  pub made : MadeSoFar input m w g m' w' g'
  pub cut : state_in m'.stage ≤ 1 → Cut (drop m'.at input)

-- ---- after kind 8

-- the bytes up to `at` were taken: they print `lines`, and where the program ends the refusal of the next record comes after these
pub record WalkedSoFar (input : List ℕ) (offset : ℕ) (w : List ℕ) (t : Table) (items out : List ℕ) (r : Walked) (out' : List ℕ) (t' : Table) (items' : List ℕ) : Type 0 where
  pub within : r.at ≤ length input
  pub place : offset + r.at < 18446744073709551616 → r.offset ≡ offset + r.at
  pub lines : List ℕ
  pub reaches : (room : ℕ) → offset + r.at < 18446744073709551616
      → reached room (walks (walking w t items)) offset (take r.at input) ≡ leads lines (walks (walking w t' items'))
  pub refused : r.ends ≡ true → (room : ℕ) → Refused room (walks (walking w t' items')) r.offset (drop r.at input) 10
  pub size : length out' ≡ length out
  pub used : r.used ≤ length out'
  pub prints : take r.used out' ≡ lines ++ cond r.ends (refused_line 10 r.offset) []
  -- what stands past the lines stays
  pub rest : drop r.used out' ≡ drop r.used out
  pub ready : Ready w t' items'

-- and if none was taken, and the program does not end, there is none to take
pub record FedWalk (input : List ℕ) (offset : ℕ) (w : List ℕ) (t : Table) (items out : List ℕ) (r : Walked) (out' : List ℕ) (t' : Table) (items' : List ℕ) : Type 0 where
  pub walked : WalkedSoFar input offset w t items out r out' t' items'
  pub cut : r.at ≡ 0 → r.ends ≡ false → Cut input
