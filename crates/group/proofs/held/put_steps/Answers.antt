use native.Mathlib.Omega.{arith}
use borrow.Author.Rules.{rules}
use Rattle.group.proofs.Writing.{rule_start, count_few, ties_few, selector_rows, selector_codes, rule_more, rule_end}
use Rattle.group.proofs.held.put_steps.Goals as goal

pub loop-k-init : goal.loop-k-init
loop-k-init c = search (rule_start, rules)

pub put_selector-requires : goal.put_selector-requires
put_selector-requires c =
    let i = c.loop-k.invariant in
    let f = c.args.g.selectors in
    let h = c.loop-k-test.true in
    (omega (arith, i.steps_few, c.args.g.steps_room, c.wide-s.ensures), count_few i f h _ _ c.word.ensures c.wide-count.ensures, selector_rows i f h _ _ c.word.ensures c.wide-count.ensures _ _ c.rest.ensures c.rest-in-loop-k.ensures, selector_codes i f h _ _ c.word.ensures c.wide-count.ensures _ _ c.rest.ensures c.rest-in-loop-k.ensures)

pub overflow_add-p : goal.overflow_add-p
overflow_add-p c = let e = count_few c.loop-k.invariant c.args.g.selectors c.loop-k-test.true _ _ c.word.ensures c.wide-count.ensures in search rules

pub overflow_add-c : goal.overflow_add-c
overflow_add-c c = let e = ties_few c.loop-k.invariant c.args.g.selectors c.loop-k-test.true _ _ c.word-in-loop-k.ensures c.wide-c.ensures in search rules

pub loop-k-preserved : goal.loop-k-preserved
loop-k-preserved c = rule_more c.loop-k.invariant c.args.g.selectors c.loop-k-test.true _ _ c.word.ensures c.wide-count.ensures _ _ c.rest.ensures c.rest-in-loop-k.ensures _ _ _ c.word-in-loop-k.ensures c.wide-c.ensures c.put_selector.ensures

pub returns : goal.returns
returns c = rw c.wide-s.ensures at (rule_end c.loop-k.invariant (omega arith))
