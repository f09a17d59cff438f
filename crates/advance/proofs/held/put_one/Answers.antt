use borrow.Author.Rules.{rules}
use Rattle.advance.proofs.Cursors.{past_rules, past_steps, at_step_lem, cursor_low, sum_fits, step_there}
use Rattle.advance.proofs.held.put_one.Goals as goal

pub returns-then-word-r : goal.returns-then-word-r
returns-then-word-r c = search (past_rules, rules)

pub overflow_add-s : goal.overflow_add-s
overflow_add-s c = search (sum_fits, rules)

pub returns-then-end-s : goal.returns-then-end-s
returns-then-end-s c = search (past_steps, rules)

pub put_moved-requires : goal.put_moved-requires
put_moved-requires c =
    let there = step_there _ _ _ c.word.ensures c.args.sheet.in_shape c.if-word-r.false _ c.start_of.ensures _ c.cell-end.ensures c.if-end-s.false in
    record { sheet_value = (there, search (cursor_low, rules)); subject_value = search rules; free = c.put_kept-cursors.ensures.free; free_2 = search rules }

pub returns : goal.returns
returns c =
    at_step_lem _ _ c.requires.free c.requires.free_2 _ c.word.ensures c.if-word-r.false _ _ c.start_of.ensures c.cell-end.ensures c.if-end-s.false c.put_kept-cursors.ensures c.put_moved.ensures
