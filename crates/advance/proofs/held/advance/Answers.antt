use borrow.Author.Rules.{rules}
use Rattle.advance.proofs.Advanced.{turns_start, turns_next, turns_less, turns_end, goes_true}
use Rattle.advance.proofs.held.advance.Goals as goal

pub loop-sheet-init : goal.loop-sheet-init
loop-sheet-init c = search (turns_start, rules)

pub turn-done-requires : goal.turn-done-requires
turn-done-requires c = record { subject_value = search rules; walks = search rules; root_value = search (goes_true, rules) }

pub loop-sheet-smaller : goal.loop-sheet-smaller
loop-sheet-smaller c = search (turns_less, rules)

pub loop-sheet-preserved : goal.loop-sheet-preserved
loop-sheet-preserved c = search (turns_next, rules)

pub returns : goal.returns
returns c = search (turns_end, rules)
