use borrow.Author.Rules.{rules}
use Rattle.looking.proofs.Verdicts.{state_refused}
use Rattle.looking.proofs.Looking.{kind_fits, kind_found, kind_none}
use Rattle.looking.proofs.look.value_kind.Goals as goal

pub kind_of-requires : goal.kind_of-requires
kind_of-requires c = kind_fits _ _ _ _ _ _ _ _ _ c.in_ok-found.ensures.0 _ c.in_ok-found.ensures.1 c.in-Some.is

pub returns-in_err-found : goal.returns-in_err-found
returns-in_err-found c = search (state_refused, rules)

pub returns-in_default : goal.returns-in_default
returns-in_default c = kind_none _ _ _ _ _ _ _ _ _ c.in_ok-found.ensures.0 _ c.in_ok-found.ensures.1 c.in_default.is

pub returns : goal.returns
returns c = kind_found _ _ _ _ _ _ _ _ _ c.in_ok-found.ensures.0 _ c.in_ok-found.ensures.1 c.in-Some.is c.kind_of.ensures
