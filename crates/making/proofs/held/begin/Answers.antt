use mathlib.Core.Path.{refl, ap}
use Rattle.house.specs.declared.Making.{Making}
use Rattle.making.proofs.Taking.{begin_kind, begin_ranking, begin_taken}
use borrow.Author.Rules.{rules}
use Rattle.making.proofs.held.begin.Goals as goal

-- `making::held::begin` meets its contract. Assumes nothing.

pub returns-then-item-ne1 : goal.returns-then-item-ne1
returns-then-item-ne1 c = (ap (λ (x : Making). x.at) c.refused.ensures, λ g b z. search (begin_kind, rules))

pub returns-then-item-gt1 : goal.returns-then-item-gt1
returns-then-item-gt1 c = (ap (λ (x : Making). x.at) c.refused-then-item-gt1.ensures, λ g b z. search (begin_ranking, rules))

pub returns : goal.returns
returns c = (refl, λ g b z. begin_taken _ _ g b z _ _ (search rules) (search rules) (search rules))
