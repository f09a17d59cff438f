use Rattle.std.proofs.Common.{◌∙◌, rules, tests}
use Rattle.std.proofs.lemmas.Iterator.{YieldsList-from_slice}
use Rattle.std.proofs.lemmas.Iterator.Search.{all_from_yields_List}
use Rattle.theory.specs.Lists.{member}
use Rattle.selector.proofs.RowLaws.{all_contained}
use Rattle.selector.proofs.held.all_in.Goals as goal

pub returns : goal.returns
returns c =
    all_from_yields_List (λ a. member a c.args.set.now) _ _ c.all.result c.all.ensures.ran (YieldsList-from_slice c.args.given.now cc) (λ x b q k. search (rules, tests))
    ∙ all_contained c.args.given.now c.args.set.now
