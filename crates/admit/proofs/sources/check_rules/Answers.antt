use borrow.Author.Rules.{rules}
use Rattle.admit.proofs.Rules.{judging_start, judging_stop, judging_next, judging_end, judged_rows}
use Rattle.admit.proofs.sources.check_rules.Goals as goal

pub loop-k-init : goal.loop-k-init
loop-k-init c = search (judging_start, rules)

pub returns-in_err-check_rule_from : goal.returns-in_err-check_rule_from
returns-in_err-check_rule_from c =
    let stop = judging_stop c.loop-k.invariant _ _ _ _ _ _ c.wide-step_count.ensures c.word.ensures c.wide-combinator_count.ensures c.word-in-loop-k.ensures c.wide-entry_count.ensures c.word-in-loop-k-2.ensures c.loop-k-test.true in
    search (stop, rules)

pub held_ids-t-requires : goal.held_ids-t-requires
held_ids-t-requires c =
    judged_rows c.loop-k.invariant _ _ _ _ _ _ c.wide-step_count.ensures c.word.ensures c.wide-combinator_count.ensures c.word-in-loop-k.ensures c.wide-entry_count.ensures c.word-in-loop-k-2.ensures c.loop-k-test.true
    c.in_ok-check_rule_from.ensures _ c.rest.ensures

pub loop-k-preserved : goal.loop-k-preserved
loop-k-preserved c =
    judging_next c.loop-k.invariant _ _ _ _ _ _ c.wide-step_count.ensures c.word.ensures c.wide-combinator_count.ensures c.word-in-loop-k.ensures c.wide-entry_count.ensures c.word-in-loop-k-2.ensures c.loop-k-test.true
    c.in_ok-check_rule_from.ensures _ c.rest.ensures _ c.held_ids-t.ensures

pub returns : goal.returns
returns c = search (judging_end, rules)
