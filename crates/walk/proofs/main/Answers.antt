use mathlib.Core.Path.{refl}
use borrow.Author.Rules.{rules}
use Rattle.walk.proofs.Laws.{zeros_roomy, in_buffer}
use Rattle.walk.proofs.main.Goals as goal

-- `walk::main` meets its contract. Assumes nothing.

pub read_sheet-s-requires : goal.read_sheet-s-requires
read_sheet-s-requires c = (refl, zeros_roomy)

pub go_on-requires : goal.go_on-requires
go_on-requires c = record { have_in_bounds = (in_buffer c.read_sheet-s.ensures.have (search rules), search rules); sheet_value = c.read_sheet-s.ensures.ready }
