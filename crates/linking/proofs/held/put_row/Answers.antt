use borrow.Author.Rules.{rules}
use Rattle.linking.proofs.Linking.{row_put}
use Rattle.linking.proofs.held.put_row.Goals as goal

pub returns : goal.returns
returns c = search (row_put, rules)
