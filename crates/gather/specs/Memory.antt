-- What is open, in lent lists that are filled from the front: what the reader of records holds. Assumes nothing.
use Rattle.std.specs.Prelude.{◌≡◌, cond, true, List, ℕ, ◌+◌, ◌-◌, ◌*◌, ◌≤◌, ◌<◌, length, get_or, take, eqb, Result, Ok, Err}
use Rattle.lent.specs.Refusals.{added, verdict_of}
use Rattle.lent.specs.declared.Refusal.{Refusal}
use Rattle.selector.specs.Checks.{row_fits}
use Rattle.sheet.specs.Shape.{sheet_shape}
use Rattle.given.specs.Given.{Group, given}
use Rattle.records.specs.declared.Record.{Record}
use Rattle.gather.specs.declared.Filled.{Filled}
use Rattle.gather.specs.declared.OpenKind.{OpenKind}
use Rattle.gather.specs.declared.OpenKind.TheVariants.{Nothing, Direct, Rules}
use Rattle.gather.specs.Opened.{Open, nothing, direct, group, ids_given, last_of, closed}
use Rattle.gather.specs.Making.{closing_verdict, making_verdict, sheet_after, open_after}

-- The lists as far as they are filled; `m` are the lent ones
abbrev pub filled_of : Filled → Group → Group
filled_of f m =
    given
    (take (3 * f.rules) m.rules)
    (take (22 * f.steps) m.steps)
    (take f.combinators m.combinators)
    (take f.entries m.properties)
    (take f.entries m.kinds)
    (take f.entries m.numbers)

-- what is open: nothing, a direct style or a group, in these lists
abbrev pub open_in : OpenKind → Group → Open
open_in Nothing g = nothing
open_in (Direct origin) g = direct origin g
open_in (Rules origin) g = group origin g

unfoldable pub open_of : Filled → Group → Open
open_of f m = open_in f.opening (filled_of f m)

-- as a number: nothing (0), a direct style (1), a group (2)
abbrev pub kind_in : OpenKind → ℕ
kind_in Nothing = 0
kind_in (Direct origin) = 1
kind_in (Rules origin) = 2

abbrev pub origin_in : OpenKind → ℕ
origin_in Nothing = 0
origin_in (Direct origin) = origin
origin_in (Rules origin) = origin

-- what a 2, 3 or 8 opens: no list is filled yet
abbrev pub newly : OpenKind → Filled
newly o = record { opening = o; rules = 0; steps = 0; combinators = 0; entries = 0; ids = 0 }

-- the lent lists have room for whatever is accepted
pub record Roomy (m : Group) : Type 0 where
  pub rules : length m.rules ≡ 768
  pub steps : length m.steps ≡ 45056
  pub combinators : length m.combinators ≡ 2048
  pub properties : length m.properties ≡ 4096
  pub kinds : length m.kinds ≡ 4096
  pub numbers : length m.numbers ≡ 4096

-- what the records before have shown
pub record Sound (f : Filled) (m : Group) : Type 0 where
  pub room : Roomy m
  pub rules : f.rules ≤ 256
  pub steps : f.steps ≤ 8 * (f.rules - 1) + last_of (filled_of f m) 0
  pub last_steps : last_of (filled_of f m) 0 ≤ 8
  pub last_within : last_of (filled_of f m) 0 ≤ f.steps
  pub last_combinators : last_of (filled_of f m) 1 ≤ last_of (filled_of f m) 0
  pub combinators : f.combinators ≤ f.steps
  pub entries : f.entries ≤ 4096
  pub rows : (k : ℕ) → k < f.steps → row_fits 8 m.steps (22 * k) ≡ true
  pub ids : f.ids ≡ ids_given (filled_of f m)
  pub ids_fit_lem : f.ids ≤ 8192

-- ---- one record: what is filled then, or its refusal. A refused one changes nothing

-- how far the lists are filled then: as before where the record is refused
abbrev pub filled_by : Result Filled Refusal → Filled → Filled
filled_by (Ok after) before = after
filled_by (Err refusal) before = before

-- the byte offset that the refusal adds, 0 where none is added: who knows the record's place adds it
abbrev pub offset_of : Result Filled Refusal → ℕ
offset_of (Ok after) = 0
offset_of (Err refusal) = get_or (added refusal) 0 0

-- of a kind that only adds to what is open
pub record Adds (fault : ℕ) (f : Filled) (m : Group) (after : Open) (r : Result Filled Refusal) (m' : Group) : Type 0 where
  pub answer : verdict_of r ≡ fault
  -- a refusal 10 has offset 0: with its number that is the whole refusal
  pub offset : offset_of r ≡ 0
  pub opens : verdict_of r ≡ 0 → open_of (filled_by r f) m' ≡ after
  pub keeps : (verdict_of r ≡ 0 → ⊥) → (filled_by r f ≡ f) × (m' ≡ m)
  pub sound : Sound (filled_by r f) m'

-- of a kind that closes what is open, too: with the sheet's words; the lent lists are only read
pub record Closes (fault : ℕ) (w : List ℕ) (f : Filled) (m : Group) (after : Open) (r : Result Filled Refusal) (w' : List ℕ) : Type 0 where
  pub answer : verdict_of r ≡ closing_verdict fault w (open_of f m)
  pub offset : offset_of r ≡ 0
  pub sheet : w' ≡ cond (eqb (closing_verdict fault w (open_of f m)) 0) (closed w (open_of f m)) w
  pub opens : verdict_of r ≡ 0 → open_of (filled_by r f) m ≡ after
  pub keeps : (verdict_of r ≡ 0 → ⊥) → filled_by r f ≡ f
  pub sound : Sound (filled_by r f) m
  pub shape : sheet_shape w' ≡ true

-- of any kind
pub record Takes (w : List ℕ) (f : Filled) (m : Group) (r : Record) (taken : Result Filled Refusal) (w' : List ℕ) (m' : Group) : Type 0 where
  pub answer : verdict_of taken ≡ making_verdict w (open_of f m) r
  pub offset : offset_of taken ≡ 0
  pub sheet : w' ≡ cond (eqb (making_verdict w (open_of f m) r) 0) (sheet_after w (open_of f m) r) w
  pub opens : verdict_of taken ≡ 0 → open_of (filled_by taken f) m' ≡ open_after (open_of f m) r
  pub keeps : (verdict_of taken ≡ 0 → ⊥) → (filled_by taken f ≡ f) × (m' ≡ m)
  pub sound : Sound (filled_by taken f) m'
  pub shape : sheet_shape w' ≡ true
