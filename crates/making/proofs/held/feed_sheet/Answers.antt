use mathlib.Core.Path.{refl, ◌∙◌}
use Rattle.making.proofs.Feeding.{turns_start, turn_before, turn_falls, turn_one, turns_end}
use Rattle.making.proofs.held.feed_sheet.Goals as goal

-- `making::held::feed_sheet` meets its contract. Assumes nothing.

pub loop-found-init : goal.loop-found-init
loop-found-init c =
    let o = c.open-m.ensures _ c.requires in
    (turns_start o c.ahead-found.ensures, refl, refl, refl, refl, refl, refl, refl)

pub item_at-item-requires : goal.item_at-item-requires
item_at-item-requires c =
    let t = c.loop-found.invariant.0.ahead.takes c.in-Whole.is in
    (t.1, t.2)

pub take-taken-requires : goal.take-taken-requires
take-taken-requires c =
    let o = c.open-m.ensures _ c.requires in
    let b = turn_before o c.loop-found.invariant.0 c.in-Whole.is in
    record { sheet_value = b.shape; sound = b.sound; narrow = c.item_at-item.ensures.narrow }

pub go_on-m-requires : goal.go_on-m-requires
go_on-m-requires c =
    let i = c.item_at-item.ensures in
    (i.known, i.room)

pub loop-found-smaller : goal.loop-found-smaller
loop-found-smaller c =
    let o = c.open-m.ensures _ c.requires in
    turn_falls o c.loop-found.invariant.0 c.in-Whole.is c.item_at-item.ensures c.take-taken.ensures c.go_on-m.ensures

pub loop-found-preserved : goal.loop-found-preserved
loop-found-preserved c =
    let o = c.open-m.ensures _ c.requires in
    let i = c.loop-found.invariant in (
      turn_one o i.0 c.in-Whole.is c.item_at-item.ensures c.take-taken.ensures c.go_on-m.ensures c.ahead-found-in-Whole.ensures,
      c.sheet-in-Whole-1.given ∙ i.1,
      c.rules-1.given ∙ i.2,
      c.steps-1.given ∙ i.3,
      c.combinators-1.given ∙ i.4,
      c.properties-1.given ∙ i.5,
      c.kinds-1.given ∙ i.6,
      c.numbers-1.given ∙ i.7,
    )

pub returns : goal.returns
returns c =
    let o = c.open-m.ensures _ c.requires in
    turns_end o c.loop-found.invariant.0 c.in_default.not-Whole c.end.ensures
