use borrow.Author.Rules.{rules}
use Rattle.changes.proofs.Room.{first_asks, second_asks, all_listed}
use Rattle.changes.proofs.held.gather.Goals as goal

pub add_rules-some-requires : goal.add_rules-some-requires
add_rules-some-requires c = let p = c.requires in record { others_value = p.value.1; others_in_bounds = first_asks _ _ _ c.args.sheet.in_shape p.are_rules p.value p.in_bounds }

pub add_rules-requires : goal.add_rules-requires
add_rules-requires c =
    let p = c.requires in
    record { others_value = p.value.0; others_in_bounds = second_asks _ _ _ c.args.sheet.in_shape p.are_rules p.value p.in_bounds c.add_rules-some.ensures }

pub returns : goal.returns
returns c = search (all_listed, rules)
