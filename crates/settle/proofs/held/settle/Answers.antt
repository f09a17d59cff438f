use mathlib.Core.Path.{sym, ◌∙◌}
use borrow.Author.Tests.{not-false}
use borrow.Author.Rules.{rules}
use Rattle.settle.proofs.Growing.{settle_held, settle_full, settle_new}
use mathlib.Core.Path.{ap}
use mathlib.Core.Bool.{not}
use Rattle.settle.proofs.held.settle.Goals as goal

pub returns-then-k-n : goal.returns-then-k-n
returns-then-k-n c = search (settle_held, rules)

pub returns-then-not-room_for : goal.returns-then-not-room_for
returns-then-not-room_for c = search (settle_full, rules)

pub grow-requires : goal.grow-requires
grow-requires c = sym c.room_for.ensures ∙ not-false _ (ap not c.if-not-room_for.false)

pub returns : goal.returns
returns c = search (settle_new, rules)
