use borrow.Author.Rules.{rules}
use Rattle.looking.proofs.Verdicts.{state_refused}
use Rattle.looking.proofs.Looking.{plain_found, plain_none}
use Rattle.looking.proofs.look.get_entry_ref.Goals as goal

pub returns-in_err-found : goal.returns-in_err-found
returns-in_err-found c = search (state_refused, rules)

pub returns-in_default : goal.returns-in_default
returns-in_default c = plain_none _ _ _ _ _ _ _ _ _ c.in_ok-found.ensures.0 _ c.in_ok-found.ensures.1 c.in_default.is

pub returns : goal.returns
returns c = plain_found _ _ _ _ _ _ _ _ _ c.in_ok-found.ensures.0 _ c.in_ok-found.ensures.1 c.in-Some.is c.plain_of.ensures
