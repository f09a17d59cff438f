use borrow.Author.Rules.{rules}
use Rattle.keys.proofs.Reading.{rule_keyed}
use Rattle.keys.proofs.held.rule_key.Goals as goal

pub returns : goal.returns
returns c = search (rule_keyed, rules)
