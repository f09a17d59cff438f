use Rattle.std.proofs.Common.{◌≡◌, refl, arith}
use Rattle.typed.specs.Typed.{classes_from, pseudos_from}
use Rattle.typed.proofs.Laws.{classes_read, pseudos_read}
use Rattle.steps.proofs.SelectorStep.from_words.Goals as goal

pub returns : goal.returns
returns c =
    let w = c.args.w in
    let a : c.ids_from.result ≡ classes_from 8 w 6 = classes_read 8 w 6 16 _ c.ids_from.ensures (omega arith) in
    let b : c.ids_from-2.result ≡ pseudos_from 8 w 14 = pseudos_read 8 w 14 8 _ c.ids_from-2.ensures (omega arith) in
    rw (a, b) refl
