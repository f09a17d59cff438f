use borrow.Author.Rules.{rules}
use Rattle.linking.proofs.Linking.{number_left, link_same, not_kept, is_kept, is_kept_last}
use Rattle.linking.proofs.held.keep.Goals as goal

pub returns-then-not-transition_fits : goal.returns-then-not-transition_fits
returns-then-not-transition_fits c = search (not_kept, rules)

pub hook_last-requires : goal.hook_last-requires
hook_last-requires c = search (number_left, link_same, rules)

pub hook_first-requires : goal.hook_first-requires
hook_first-requires c =
    (search (number_left, rules), link_same _ _ _ _ _ _ c.word-n.ensures c.cell-first.ensures c.leads.ensures c.if-leads.false)

pub returns-then-leads : goal.returns-then-leads
returns-then-leads c = search (is_kept_last, rules)

pub returns-else-leads : goal.returns-else-leads
returns-else-leads c = search (is_kept, rules)
