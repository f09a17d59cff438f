use Rattle.loading.proofs.Laws.{feeds_reads}
use Rattle.loading.proofs.held.turn_sheet.Goals as goal

-- `loading::held::turn_sheet` meets its contract. Assumes nothing.

pub returns : goal.returns
returns c = feeds_reads c.fill-n.ensures.1 c.sheet_first-making.ensures
