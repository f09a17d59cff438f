use borrow.Author.Rules.{rules}
use Rattle.cascade.proofs.Written.{resources_broken, resources_listed}
use Rattle.cascade.proofs.resources.resource_dependent_properties.Goals as goal

pub returns-in_default : goal.returns-in_default
returns-in_default c = search (resources_broken, c.in_default.ensures.there, rules)

pub returns : goal.returns
returns c = rw (← c.in-Some.ensures.same) (search (resources_listed, c.in-Some.sheet.in_shape, rules))
