use Rattle.typed.proofs.Laws.{copied}
use Rattle.typed.proofs.row_words.Goals as goal

pub returns : goal.returns
returns g c =
    let a = c.args in
    copied _ a.words.now _ _ a.at c.part.ensures c.copy_into.ensures
