use mathlib.Core.Path.{refl}
use Rattle.taking.proofs.Taking.{adds_rule, adds_step, adds_requirement, adds_entry, adds_misplaced}
use Rattle.taking.proofs.held.take_added.Goals as goal

pub returns-then-item-eq4 : goal.returns-then-item-eq4
returns-then-item-eq4 c = adds_rule _ _ _ _ _ _ c.if-item-eq4.true c.take_rule.ensures

pub returns-then-item-eq5 : goal.returns-then-item-eq5
returns-then-item-eq5 c = adds_step _ _ _ _ _ _ c.if-item-eq5.true c.take_step.ensures

pub returns-then-item-eq6 : goal.returns-then-item-eq6
returns-then-item-eq6 c = adds_requirement _ _ _ _ _ _ c.if-item-eq6.true c.take_requirement.ensures

pub take_entry-requires : goal.take_entry-requires
take_entry-requires c =
    record { sheet_value = c.requires.sheet_value; sound = c.requires.sound; property_bound = c.requires.narrow.entry c.if-item-eq7.true }

pub returns-then-item-eq7 : goal.returns-then-item-eq7
returns-then-item-eq7 c = adds_entry _ _ _ _ _ _ c.if-item-eq7.true c.take_entry.ensures

pub returns : goal.returns
returns c =
    adds_misplaced _ _ _ _ _ c.requires.sound c.if-item-eq4.false c.if-item-eq5.false c.if-item-eq6.false c.if-item-eq7.false refl refl refl
