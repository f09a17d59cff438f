use borrow.Author.Rules.{rules}
use Rattle.looking.proofs.Listed.{ranking_fits_lem, rules_are, rules_rise}
use Rattle.cascade.proofs.Listed.{changed_held}
use Rattle.cascade.proofs.held.changed_properties.Goals as goal

pub changed-requires : goal.changed-requires
changed-requires c =
    let (i, j) = c.requires.bound in
    let f = c.list_of.ensures in
    let g = c.list_of-2.ensures in
    record {
      sheet_value = ranking_fits_lem _ _ _ _ _ _ (c.args.sheet.in_shape, c.requires.sheet_value) _ c.word.ensures;
      are_rules = (rules_are _ _ _ _ _ _ (c.args.sheet.in_shape, c.requires.sheet_value) _ i _ f, rules_are _ _ _ _ _ _ (c.args.sheet.in_shape, c.requires.sheet_value) _ j _ g);
      value = (rules_rise _ _ _ _ _ _ (c.args.sheet.in_shape, c.requires.sheet_value) _ i _ f, rules_rise _ _ _ _ _ _ (c.args.sheet.in_shape, c.requires.sheet_value) _ j _ g);
    }

pub returns : goal.returns
returns c = search (changed_held, rules)
