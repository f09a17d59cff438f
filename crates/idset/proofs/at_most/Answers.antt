use Rattle.std.proofs.Common.{◌∙◌, rules, tests, nat_le}
use Rattle.std.proofs.lemmas.Iterator.{YieldsList-from_slice}
use Rattle.std.proofs.lemmas.Iterator.Search.{all_from_yields_List}
use Rattle.idset.proofs.AtMost.{all_at_most}
use Rattle.idset.proofs.at_most.Goals as goal

pub returns : goal.returns
returns c =
    all_from_yields_List (λ n. nat_le n c.args.limit) _ _ c.all.result c.all.ensures.ran (YieldsList-from_slice c.args.numbers.now cc) (λ x b q k. search (rules, tests))
    ∙ all_at_most c.args.limit c.args.numbers.now
