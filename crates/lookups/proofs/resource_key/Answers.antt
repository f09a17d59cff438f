use borrow.Author.Rules.{rules}
use Rattle.lookups.proofs.Answers.{places, resource_at}
use Rattle.lookups.proofs.resource_key.Goals as goal

pub returns-in-Some : goal.returns-in-Some
returns-in-Some c =
    resource_at _ _ _ _ _ _ c.in_ok-at.ensures _ _ _ c.in-Some.is c.wide.ensures c.word.ensures _ _ c.wide-in-Some.ensures c.word-in-Some.ensures _ c.resource_of.ensures

pub returns-in-None : goal.returns-in-None
returns-in-None c = search (places, rules)

pub returns-in_err-at : goal.returns-in_err-at
returns-in_err-at c = search (places, rules)
