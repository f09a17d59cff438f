use borrow.Author.Rules.{rules}
use Rattle.looking.proofs.Verdicts.{state_refused}
use Rattle.looking.proofs.Looking.{resource_found, resource_none}
use Rattle.looking.proofs.look.resource_key.Goals as goal

pub returns-in_err-found : goal.returns-in_err-found
returns-in_err-found c = search (state_refused, rules)

pub returns-in_default : goal.returns-in_default
returns-in_default c = resource_none _ _ _ _ _ _ _ _ _ c.in_ok-found.ensures.0 _ c.in_ok-found.ensures.1 c.in_default.is

pub returns : goal.returns
returns c = resource_found _ _ _ _ _ _ _ _ _ c.in_ok-found.ensures.0 _ c.in_ok-found.ensures.1 c.in-Some.is c.resource_of.ensures
