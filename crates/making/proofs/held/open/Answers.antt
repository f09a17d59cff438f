use Rattle.house.specs.Memory.{state_in}
use mathlib.Core.Path.{sym, ◌∙◌}
use native.Mathlib.Omega.{arith}
use borrow.Author.Tests.{not-false}
use Rattle.house.proofs.Front.{item_known, item_room}
use Rattle.house.proofs.Stages.{stage_later}
use Rattle.making.proofs.Taking.{moved_before}
use Rattle.making.proofs.Feeding.{open_later, open_none, open_first}
use borrow.Author.Rules.{rules}
use mathlib.Core.Path.{ap}
use mathlib.Core.Bool.{not}
use Rattle.making.proofs.held.open.Goals as goal

-- `making::held::open` meets its contract. Assumes nothing.

pub returns-in_default : goal.returns-in_default
returns-in_default c = λ g b. open_later _ _ _ g b (stage_later _ c.in_default.not-Unbegun)

pub returns-then-not-is_whole : goal.returns-then-not-is_whole
returns-then-not-is_whole c = λ g b. search (open_none, rules)

pub record_in-item-requires : goal.record_in-item-requires
record_in-item-requires c = sym c.is_whole.ensures ∙ not-false _ (ap not c.if-not-is_whole.false)

pub size_of-requires : goal.size_of-requires
size_of-requires c =
    item_known _ _ c.record_in-item.ensures.0 (sym c.is_whole.ensures ∙ not-false _ (ap not c.if-not-is_whole.false))

pub past-requires : goal.past-requires
past-requires c =
    let room = c.well_formed.0 in
    item_room _ _ c.record_in-item.ensures.0 (sym c.is_whole.ensures ∙ not-false _ (ap not c.if-not-is_whole.false)) _ _ 0 c.size_of.ensures.0 c.begin-begun.ensures.0 (omega arith)

pub returns : goal.returns
returns c =
    λ g b.
    open_first _ _ _ g b _ c.is_whole.ensures (ap not c.if-not-is_whole.false) _ c.record_in-item.ensures.0 _ _ (c.begin-begun.ensures.1 g (moved_before _ 0 b) (ap state_in c.in-Unbegun.is)) _ c.size_of.ensures.0 _ c.past.ensures
