use mathlib.Core.Path.{◌∙◌}
use Rattle.loading.proofs.Laws.{turning_start, turning_before, turning_next, reads_size}
use borrow.Author.Rules.{rules}
use Rattle.loading.proofs.held.read_sheet.Goals as goal

-- `loading::held::read_sheet` meets its contract. Assumes nothing.

pub loop-init : goal.loop-init
loop-init c = search (turning_start, rules)

pub turn_sheet-s-requires : goal.turn_sheet-s-requires
turn_sheet-s-requires c = search (turning_before, rules)

pub returns-then-is_done : goal.returns-then-is_done
returns-then-is_done c = search (reads_size, rules)

pub loop-preserved : goal.loop-preserved
loop-preserved c =
    let i = c.loop.invariant in (
      turning_next i.1 c.turn_sheet-s.ensures c.is_done.ensures c.if-is_done.false,
      c.input-1.given ∙ i.1,
      c.sheet-1.given ∙ i.2,
      c.rules-1.given ∙ i.3,
      c.steps-1.given ∙ i.4,
      c.combinators-1.given ∙ i.5,
      c.properties-1.given ∙ i.6,
      c.kinds-1.given ∙ i.7,
      c.numbers-1.given ∙ i.8,
    )
