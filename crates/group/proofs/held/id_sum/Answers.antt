use borrow.Author.Rules.{rules}
use Rattle.group.proofs.Writing.{id_start, ids_count, ids_rows, id_more, id_end}
use Rattle.group.proofs.held.id_sum.Goals as goal

pub loop-k-init : goal.loop-k-init
loop-k-init c = search (id_start, rules)

pub held_ids-sum-requires : goal.held_ids-sum-requires
held_ids-sum-requires c =
    let i = c.loop-k.invariant in
    let f = c.args.g.selectors in
    let h = c.loop-k-test.true in
    (ids_count i f h _ _ c.word.ensures c.wide-count.ensures _ c.rest.ensures, ids_rows i f h _ _ c.word.ensures c.wide-count.ensures _ c.rest.ensures)

pub loop-k-preserved : goal.loop-k-preserved
loop-k-preserved c =
    id_more c.loop-k.invariant c.args.g.selectors c.loop-k-test.true _ _ c.word.ensures c.wide-count.ensures _ c.rest.ensures _ c.held_ids-sum.ensures

pub returns : goal.returns
returns c = search (id_end, rules)
