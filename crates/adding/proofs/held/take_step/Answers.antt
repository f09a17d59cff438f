use Rattle.gather.proofs.Opening.{not_rules}
use Rattle.gather.specs.Memory.{kind_in}
use mathlib.Core.Path.{ap}
use mathlib.Core.Path.{refl}
use Rattle.adding.proofs.Steps.{step_no_group, step_no_rule, first_asked, later_asked}
use Rattle.adding.proofs.held.take_step.Goals as goal

pub returns-in_default : goal.returns-in_default
returns-in_default c =
    step_no_group _ _ _ _ _ _ _ c.requires c.args.code _ (not_rules _ c.in_default.not-Rules) refl

pub returns-then-f-eq0 : goal.returns-then-f-eq0
returns-then-f-eq0 c =
    step_no_rule _ _ _ _ _ _ _ c.requires c.args.code _ (ap kind_in c.in-Rules.is) c.if-f-eq0.true refl

pub take_first_step-requires : goal.take_first_step-requires
take_first_step-requires c = let asked = first_asked _ _ _ _ _ _ _ c.requires (ap kind_in c.in-Rules.is) c.if-f-eq0.false _ c.word-n.ensures c.if-n-eq0.true in record { sound = asked.0; kind_value = asked.1 }

pub take_later_step-requires : goal.take_later_step-requires
take_later_step-requires c = let asked = later_asked _ _ _ _ _ _ _ c.requires (ap kind_in c.in-Rules.is) c.if-f-eq0.false _ c.word-n.ensures c.if-n-eq0.false in record { sound = asked.0; kind_value = asked.1 }
