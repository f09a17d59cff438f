use Rattle.given.proofs.Accepted.{cascade_accepted}
use Rattle.sheet.proofs.Shaped.{shaped}
use Rattle.given.proofs.Counting.{counts_within}
use Rattle.merge.proofs.Storing.{cascade_put}
use Rattle.merge.proofs.held.put_cascade.Goals as goal

pub invariant_of-a : goal.invariant_of-a
invariant_of-a c = record { in_shape = (cascade_accepted _ _ c.requires).other_shape }

pub invariant_of-a-2 : goal.invariant_of-a-2
invariant_of-a-2 c =
    let a = cascade_accepted _ _ c.requires in
    record { within = counts_within c.counts.ensures (shaped _ a.shape) }

pub returns : goal.returns
returns c =
    let a = cascade_accepted _ _ c.requires in
    cascade_put c.args.sheet.now _ _ _ _ _ _ a.other_shape c.counts.ensures c.put_rules.ensures c.put_styles.ensures c.cascade_counts.ensures c.put_counts.ensures
