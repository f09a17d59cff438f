use Rattle.winners.proofs.held.key.Goals as goal

pub returns-in-Style : goal.returns-in-Style
returns-in-Style c = rw c.in-Style.is (c.style_key.ensures c.args.ranking)
