use Rattle.std.proofs.Common.{◌∙◌, rules, tests, nat_lt, take}
use Rattle.std.proofs.lemmas.Iterator.{YieldsList-from_slice}
use Rattle.std.proofs.lemmas.Iterator.Search.{any_from_yields_List}
use Rattle.selector.proofs.CheckLaws.{codes_any}
use Rattle.checks.proofs.held.codes_over.Goals as goal

pub returns : goal.returns
returns c =
    any_from_yields_List (λ x. nat_lt 1 x) _ _ c.any.result c.any.ensures.ran (YieldsList-from_slice (take c.args.c c.args.combinators.now) cc) (λ x b q k. search (rules, tests))
    ∙ codes_any c.args.combinators.now c.args.c c.requires
