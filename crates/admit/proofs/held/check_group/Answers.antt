use borrow.Author.Rules.{rules}
use Rattle.admit.proofs.Ladders.{group_origin, group_over, group_rule, group_index, group_few}
use Rattle.admit.proofs.held.check_group.Goals as goal

pub returns-then-origin-gt7 : goal.returns-then-origin-gt7
returns-then-origin-gt7 c = search (group_origin, rules)

pub returns-then-rules_over : goal.returns-then-rules_over
returns-then-rules_over c = search (group_over, rules)

pub check_rules-requires : goal.check_rules-requires
check_rules-requires c =
    group_few _ c.args.sheet.in_shape _ _ _ c.rules_over.ensures c.if-rules_over.false _ _ _ c.wide-ids.ensures c.word.ensures c.all_entries.ensures

pub returns-in_err-check_rules : goal.returns-in_err-check_rules
returns-in_err-check_rules c = search (group_rule, rules)

pub returns : goal.returns
returns c = search (group_index, c.in_ok-check_rules.ensures, rules)
