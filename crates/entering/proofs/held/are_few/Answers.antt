use borrow.Author.Rules.{rules}
use Rattle.entering.proofs.Entered.{few_not, few_last}
use Rattle.entering.proofs.held.are_few.Goals as goal

pub returns-then-list_of-gt48 : goal.returns-then-list_of-gt48
returns-then-list_of-gt48 c = search (few_not, rules)

pub returns : goal.returns
returns c = search (few_last, rules)
