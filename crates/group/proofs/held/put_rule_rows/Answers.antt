use borrow.Author.Rules.{rules}
use Rattle.group.proofs.Writing.{row_start, row_steps_fit, row_entries_fit, row_more, row_end}
use Rattle.group.proofs.held.put_rule_rows.Goals as goal

pub loop-k-init : goal.loop-k-init
loop-k-init c = search (row_start, rules)

pub overflow_cast-row-in-loop-k : goal.overflow_cast-row-in-loop-k
overflow_cast-row-in-loop-k c =
    row_steps_fit c.loop-k.invariant c.args.g.rules_room c.args.g.within.steps c.args.g.within.entries c.args.g.selectors c.args.g.entries c.loop-k-test.true _ _ c.word.ensures c.wide-step_end-in-loop-k.ensures

pub overflow_cast-row-in-loop-k-2 : goal.overflow_cast-row-in-loop-k-2
overflow_cast-row-in-loop-k-2 c =
    row_entries_fit c.loop-k.invariant c.args.g.rules_room c.args.g.within.steps c.args.g.within.entries c.args.g.selectors c.args.g.entries c.loop-k-test.true _ _ c.word-in-loop-k.ensures c.wide-entry_end-in-loop-k.ensures

pub loop-k-preserved : goal.loop-k-preserved
loop-k-preserved c =
    row_more c.loop-k.invariant c.args.g.rules_room c.args.g.within.steps c.args.g.within.entries c.args.g.selectors c.args.g.entries c.loop-k-test.true
    _ _ _ _ _ _ c.wide-r.ensures c.word.ensures c.wide-step_end-in-loop-k.ensures c.word-in-loop-k.ensures c.wide-entry_end-in-loop-k.ensures c.put_row.ensures

pub returns : goal.returns
returns c = search (row_end, rules)
