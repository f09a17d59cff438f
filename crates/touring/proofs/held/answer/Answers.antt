use Rattle.touring.proofs.Laws.{ready_built}
use Rattle.touring.proofs.held.answer.Goals as goal

-- `touring::held::answer` meets its contract. Assumes nothing.

pub walk-requires : goal.walk-requires
walk-requires c = record { have_in_bounds = c.requires.have_in_bounds; ready = ready_built _ _ _ c.requires.sheet_value.0 c.requires.sheet_value.1 c.build.ensures }
