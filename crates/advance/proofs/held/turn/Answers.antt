use borrow.Author.Rules.{rules}
use Rattle.advance.proofs.Advanced.{least_cursors, least_rules, took}
use Rattle.advance.proofs.held.turn.Goals as goal

pub put_one-counts-requires : goal.put_one-counts-requires
put_one-counts-requires c = record { subject_value = search rules; free = search (least_cursors, rules); free_2 = search (least_rules, rules) }

pub returns : goal.returns
returns c = search (took, rules)
