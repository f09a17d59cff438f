use Rattle.changes.proofs.Marking.{style_asks, rule_asks, both_marked}
use Rattle.changes.proofs.held.resources.Goals as goal

pub mark_resources-requires : goal.mark_resources-requires
mark_resources-requires c = let asked = style_asks _ c.args.sheet.in_shape c.word.ensures c.wide-styles.ensures in record { base_bound = asked.0; by_index = asked.1 }

pub mark_resources-requires-2 : goal.mark_resources-requires-2
mark_resources-requires-2 c = let asked = rule_asks _ c.args.sheet.in_shape c.word-2.ensures c.wide-rules.ensures in record { base_bound = asked.0; by_index = asked.1 }

pub returns : goal.returns
returns c =
    both_marked _ _ _ _ _ _ _ _ c.args.sheet.in_shape c.word.ensures c.wide-styles.ensures c.word-2.ensures c.wide-rules.ensures c.mark_resources.ensures c.mark_resources-2.ensures
