use borrow.Author.Rules.{rules}
use Rattle.sheet.proofs.ShapeLaws.{tests}
use Rattle.table.proofs.ShapeLaws.{subject_tests}
use Rattle.table.proofs.shape.subject_fine.Goals as goal

pub returns-then-not-is_at_most : goal.returns-then-not-is_at_most
returns-then-not-is_at_most c = rw (subject_tests c.args.transitions.now c.args.k _ c.subject_place-at.ensures) (search (tests, rules))

pub returns-then-not-is_at_most-2 : goal.returns-then-not-is_at_most-2
returns-then-not-is_at_most-2 c = rw (subject_tests c.args.transitions.now c.args.k _ c.subject_place-at.ensures) (search (tests, rules))

pub returns-then-not-is_at_most-3 : goal.returns-then-not-is_at_most-3
returns-then-not-is_at_most-3 c = rw (subject_tests c.args.transitions.now c.args.k _ c.subject_place-at.ensures) (search (tests, rules))

pub returns-then-not-is_at_most-4 : goal.returns-then-not-is_at_most-4
returns-then-not-is_at_most-4 c = rw (subject_tests c.args.transitions.now c.args.k _ c.subject_place-at.ensures) (search (tests, rules))

pub returns-then-not-ids_ascend : goal.returns-then-not-ids_ascend
returns-then-not-ids_ascend c = rw (subject_tests c.args.transitions.now c.args.k _ c.subject_place-at.ensures) (search (tests, rules))

pub returns : goal.returns
returns c = rw (subject_tests c.args.transitions.now c.args.k _ c.subject_place-at.ensures) (search (tests, rules))
