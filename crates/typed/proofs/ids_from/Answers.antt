use Rattle.std.proofs.Common.{rules, tests, get_or}
use Rattle.typed.proofs.Laws.{given_all}
use Rattle.typed.proofs.ids_from.Goals as goal

pub returns : goal.returns
returns g c =
    let t = g.T.Tag in
    given_all _ (λ k. t.made (get_or c.args.words.now k 0)) (λ i y q k. search (rules, tests)) c.from_fn.result _ (t.made 0) c.from_fn.ensures.items
