use mathlib.Core.Path.{refl, sym, ◌∙◌}
use native.Mathlib.Omega.{arith}
use Rattle.sheet.proofs.Shaped.{shaped}
use Rattle.adding.proofs.Requiring.{step_there, row_copied, row_asked, ids_less, item_refused, put_asked, ids_refused, required}
use Rattle.adding.proofs.held.put_requirement.Goals as goal

pub overflow_sub-at : goal.overflow_sub-at
overflow_sub-at c =
    let s = c.requires.sound in
    let i = c.requires.numbers_value.0 in
    let h = step_there _ _ s i in
    omega arith

pub returns-then-item_over : goal.returns-then-item_over
returns-then-item_over c =
    let s = c.requires.sound in
    let i = c.requires.numbers_value.0 in
    let e = row_copied _ _ s i _ _ _ refl c.part.ensures c.copy_into.ensures in
    item_refused _ _ s i _ e c.args.sheet.now c.args.which c.args.id c.requires.numbers_value.1 _ (sym c.item_over.ensures ∙ c.if-item_over.true) refl

pub held_ids-requires : goal.held_ids-requires
held_ids-requires c =
    let s = c.requires.sound in
    let i = c.requires.numbers_value.0 in
    let e = row_copied _ _ s i _ _ _ refl c.part.ensures c.copy_into.ensures in
    row_asked _ _ s i _ e

pub overflow_sub-others : goal.overflow_sub-others
overflow_sub-others c =
    let s = c.requires.sound in
    let i = c.requires.numbers_value.0 in
    let e = row_copied _ _ s i _ _ _ refl c.part.ensures c.copy_into.ensures in
    let h = ids_less _ _ s i _ e _ c.held_ids.ensures in
    omega arith

pub put_item-requires : goal.put_item-requires
put_item-requires c = (omega arith, sym c.item_over.ensures ∙ c.if-item_over.false)

pub held_ids-requires-2 : goal.held_ids-requires-2
held_ids-requires-2 c =
    let s = c.requires.sound in
    let i = c.requires.numbers_value.0 in
    let e = row_copied _ _ s i _ _ _ refl c.part.ensures c.copy_into.ensures in
    put_asked _ _ s i _ e c.args.which c.args.id (sym c.item_over.ensures ∙ c.if-item_over.false) _ c.put_item.ensures

pub overflow_add-ids : goal.overflow_add-ids
overflow_add-ids c =
    let s = c.requires.sound in
    let i = c.requires.numbers_value.0 in
    let h = s.ids_fit_lem in
    let few = c.held_ids-2.ensures.few in
    omega arith

pub overflow_add-wide : goal.overflow_add-wide
overflow_add-wide c =
    let s = c.requires.sound in
    let i = c.requires.numbers_value.0 in
    let h = s.ids_fit_lem in
    let few = c.held_ids-2.ensures.few in
    let sheet = (shaped c.args.sheet.now c.requires.sheet_value).ids in
    let u = c.wide.ensures ∙ c.word.ensures in
    omega arith

pub returns-then-wide-ids-gt8192 : goal.returns-then-wide-ids-gt8192
returns-then-wide-ids-gt8192 c =
    let s = c.requires.sound in
    let i = c.requires.numbers_value.0 in
    let e = row_copied _ _ s i _ _ _ refl c.part.ensures c.copy_into.ensures in
    ids_refused _ _ s i _ e c.args.which c.args.id (sym c.item_over.ensures ∙ c.if-item_over.false) _ c.put_item.ensures _ _ c.held_ids.ensures c.held_ids-2.ensures c.args.sheet.now c.requires.numbers_value.1 _ _ (c.wide.ensures ∙ c.word.ensures) c.if-wide-ids-gt8192.true refl

pub returns : goal.returns
returns c =
    let s = c.requires.sound in
    let i = c.requires.numbers_value.0 in
    let e = row_copied _ _ s i _ _ _ refl c.part.ensures c.copy_into.ensures in
    required _ _ s i _ e c.args.which c.args.id (sym c.item_over.ensures ∙ c.if-item_over.false) _ c.put_item.ensures _ _ c.held_ids.ensures c.held_ids-2.ensures c.args.sheet.now c.requires.numbers_value.1 _ _ (c.wide.ensures ∙ c.word.ensures) c.if-wide-ids-gt8192.false refl _ c.copy_into-2.ensures
