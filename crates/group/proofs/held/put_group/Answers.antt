use Rattle.group.proofs.Writing.{group_asks, lists_long, group_put}
use Rattle.group.proofs.held.put_group.Goals as goal

pub invariant_of-g : goal.invariant_of-g
invariant_of-g c =
    let a = group_asks _ _ _ _ _ _ _ _ _ c.requires _ c.counts.ensures in
    record { within = a.0; rules_room = a.1; steps_room = a.2; selectors = a.3; entries = a.4 }

pub put_parts-requires : goal.put_parts-requires
put_parts-requires c = lists_long _ _ _ _ _ _ _ _ _ c.requires _ c.counts.ensures

pub returns : goal.returns
returns c = search (group_put, c.requires, c.counts.ensures, c.put_parts.ensures, c.group_counts.ensures, c.put_counts.ensures)
