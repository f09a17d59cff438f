use Rattle.records.proofs.Rows.{next_fits_lem, id_is}
use borrow.Author.Rules.{rules}
use Rattle.records.proofs.held.put_id.Goals as goal

-- `records::held::put_id` meets its contract. Assumes nothing.

pub overflow_add-n : goal.overflow_add-n
overflow_add-n c = search (next_fits_lem, rules)

pub returns : goal.returns
returns c = search (id_is, rules)
