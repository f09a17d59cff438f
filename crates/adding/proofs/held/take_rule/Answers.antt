use Rattle.gather.proofs.Opening.{not_rules}
use mathlib.Core.Path.{refl, ap}
use Rattle.gather.specs.Memory.{kind_in}
use Rattle.adding.proofs.Rules.{rule_outside, rule_over, rule_added}
use Rattle.adding.proofs.held.take_rule.Goals as goal

pub returns-in_default : goal.returns-in_default
returns-in_default c =
    rule_outside c.args.sheet.now _ _ _ _ _ _ _ c.requires.sound _ (not_rules _ c.in_default.not-Rules) refl

pub returns-then-wide-f-ge256 : goal.returns-then-wide-f-ge256
returns-then-wide-f-ge256 c =
    rule_over c.args.sheet.now _ _ _ _ _ _ _ c.requires.sound _ (ap kind_in c.in-Rules.is) _ _ c.wide.ensures c.word.ensures c.if-wide-f-ge256.true refl

pub returns : goal.returns
returns c =
    rule_added c.args.sheet.now _ _ _ _ _ _ _ c.requires.sound _ (ap kind_in c.in-Rules.is) _ _ c.wide.ensures c.word.ensures c.if-wide-f-ge256.false _ c.copy_into.ensures refl
