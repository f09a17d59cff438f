use Rattle.records.proofs.Records.{kind_is}
use borrow.Author.Rules.{rules}
use Rattle.records.proofs.held.kind_of.Goals as goal

-- `records::held::kind_of` meets its contract. Assumes nothing.

pub returns : goal.returns
returns c = search (kind_is c.args.bytes.now (λ i. (c.shared_slice_known-1.given i).fits), rules)
