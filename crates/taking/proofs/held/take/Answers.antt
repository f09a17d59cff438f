use Rattle.taking.proofs.Taking.{takes_direct, takes_group, takes_end, takes_added}
use Rattle.taking.proofs.held.take.Goals as goal

pub returns-then-item-eq2 : goal.returns-then-item-eq2
returns-then-item-eq2 c = takes_direct _ _ _ _ _ _ c.if-item-eq2.true c.take_direct.ensures

pub returns-then-item-eq3 : goal.returns-then-item-eq3
returns-then-item-eq3 c = takes_group _ _ _ _ _ _ c.if-item-eq3.true c.take_group.ensures

pub returns-then-item-eq8 : goal.returns-then-item-eq8
returns-then-item-eq8 c = takes_end _ _ _ _ _ _ c.if-item-eq8.true c.take_end.ensures

pub returns : goal.returns
returns c =
    takes_added _ _ _ _ _ _ c.if-item-eq2.false c.if-item-eq3.false c.if-item-eq8.false c.requires.sheet_value c.take_added.ensures
