use Rattle.records.proofs.Records.{number_is}
use borrow.Author.Rules.{rules}
use Rattle.records.proofs.held.number.Goals as goal

-- `records::held::number` meets its contract. Assumes nothing.

pub returns : goal.returns
returns c = search (number_is c.args.bytes.now (λ i. (c.shared_slice_known-1.given i).fits), rules)
