use Rattle.records.proofs.Records.{flag_known, whole_unknown, whole_size}
use borrow.Author.Rules.{rules}
use Rattle.records.proofs.held.is_whole.Goals as goal

-- `records::held::is_whole` meets its contract. Assumes nothing.

pub returns-then-not-is_known : goal.returns-then-not-is_known
returns-then-not-is_known c = search (whole_unknown, rules)

pub size_of-requires : goal.size_of-requires
size_of-requires c = search (flag_known, rules)

pub returns : goal.returns
returns c = search (whole_size, rules)
