use Rattle.group.proofs.Writing.{parts_put}
use Rattle.group.proofs.held.put_parts.Goals as goal

pub returns : goal.returns
returns c =
    parts_put _ _ _ _ _ _ _ _ _ _ _ _ _ _ _ _ _ _ c.third_sum.ensures c.wide.ensures c.put_entries.ensures c.put_steps.ensures c.put_rule_rows.ensures
