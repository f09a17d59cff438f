use Rattle.winners.proofs.Reading.{style_sorted, style_held, rule_sorted, rule_held}
use Rattle.winners.proofs.held.holds.Goals as goal

pub contains-requires : goal.contains-requires
contains-requires c = style_sorted _ c.args.sheet.in_shape _ c.requires c.in-Style.is c.ids_in.ensures

pub contains-requires-in-Rule : goal.contains-requires-in-Rule
contains-requires-in-Rule c = rule_sorted _ c.args.sheet.in_shape _ c.requires c.in-Rule.is c.ids_in-in-Rule.ensures

pub returns-in-Style : goal.returns-in-Style
returns-in-Style c = style_held _ c.args.sheet.in_shape _ c.requires c.in-Style.is c.ids_in.ensures _ c.contains.ensures

pub returns-in-Rule : goal.returns-in-Rule
returns-in-Rule c = rule_held _ c.args.sheet.in_shape _ c.requires c.in-Rule.is c.ids_in-in-Rule.ensures _ c.contains-in-Rule.ensures
