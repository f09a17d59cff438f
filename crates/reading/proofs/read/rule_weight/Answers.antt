use borrow.Author.Rules.{rules}
use Rattle.reading.proofs.Answers.{shape_there, number_there, weight_refused, weight_code, weight_told_lem}
use Rattle.reading.proofs.read.rule_weight.Goals as goal

pub returns-in_err-check_rule : goal.returns-in_err-check_rule
returns-in_err-check_rule c = search (shape_there, number_there, weight_refused, weight_code, weight_told_lem, rules)

pub returns-then-ranking-gt1 : goal.returns-then-ranking-gt1
returns-then-ranking-gt1 c = search (shape_there, number_there, weight_refused, weight_code, weight_told_lem, c.in_ok-check_rule.ensures, rules)

pub invariant_of-weight : goal.invariant_of-weight
invariant_of-weight c = record { in_shape = search (shape_there, c.in_ok-check_rule.ensures, rules) }

pub weight-requires : goal.weight-requires
weight-requires c = search (number_there, weight_refused, weight_code, weight_told_lem, c.in_ok-check_rule.ensures, rules)

pub returns : goal.returns
returns c = search (shape_there, number_there, weight_refused, weight_code, weight_told_lem, c.in_ok-check_rule.ensures, rules)
