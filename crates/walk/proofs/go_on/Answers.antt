use mathlib.Core.Path.{ap}
use Rattle.house.specs.Memory.{state_in}
use Rattle.walk.proofs.go_on.Goals as goal

-- `walk::go_on` meets its contract. Assumes nothing.

pub answer-requires : goal.answer-requires
answer-requires c = record { have_in_bounds = c.requires.have_in_bounds; sheet_value = c.requires.sheet_value (ap state_in c.in-Done.is) }
