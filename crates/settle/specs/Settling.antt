-- What the cores that write a table say. For contracts within and cores alone. Assumes nothing.
use Rattle.std.specs.Prelude.{◌≡◌, cond, ℕ, Option, Some, None}
use Rattle.theory.specs.States.{State}
use Rattle.table.specs.Tables.{Table}
use Rattle.table.specs.Entering.{number_in, state_lacks_room, holding}

-- r is the number of the state s in the table afterwards, or says that there is no room for it and nothing was written
pub record Settles (t : Table) (s : State) (r : Option ℕ) (t' : Table) : Type 0 where
  pub answer : r ≡ cond (state_lacks_room t s) None (Some (number_in t s))
  pub memory : t' ≡ cond (state_lacks_room t s) t (holding t s)
