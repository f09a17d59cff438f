use mathlib.Core.Path.{refl}
use Rattle.cursor.proofs.Yielding.{cursor_steps, cursor_goes}
use Rattle.cursor.proofs.RuleCursorIterator.next.Goals as goal

pub returns-clause-steps : goal.returns-clause-steps
returns-clause-steps c = cursor_steps c.args.self.now (record c.args.self.now { index = c.index_after-self.result }) refl c.index_after-self.ensures c.rule_at-rule.result c.rule_at-rule.ensures

pub returns-clause-goes : goal.returns-clause-goes
returns-clause-goes c = cursor_goes c.args.self.now (record c.args.self.now { index = c.index_after-self.result }) refl c.index_after-self.ensures c.rule_at-rule.result c.rule_at-rule.ensures
