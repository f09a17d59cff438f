use Rattle.merge.proofs.Storing.{lay_none, rule_next, rules_end}
use borrow.Author.Rules.{rules}
use Rattle.merge.proofs.held.put_held_rules.Goals as goal

pub loop-k-init : goal.loop-k-init
loop-k-init c = lay_none

pub loop-k-preserved : goal.loop-k-preserved
loop-k-preserved c = search (rule_next, rules)

pub returns : goal.returns
returns c = search (rules_end, rules)
