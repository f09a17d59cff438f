use Rattle.house.specs.Memory.{state_in}
use Prim.Native.Nat.{◌+◌, ◌-◌, ◌*◌}
use mathlib.Core.Path.{◌≡◌}
use lib.ListN.{length}
use Rattle.given.specs.Given.{given}
use Rattle.making.proofs.Feeding.{Turns}
use Rattle.making.proofs.held.feed_sheet.Given as goal

abbrev pub invariant-loop-found : goal.invariant-loop-found
invariant-loop-found l = Turns l.input l.initial.m l.initial.sheet (given l.initial.rules l.initial.steps l.initial.combinators l.initial.properties l.initial.kinds l.initial.numbers) l.m l.sheet (given l.rules l.steps l.combinators l.properties l.kinds l.numbers) l.found × (length l.sheet ≡ length l.initial.sheet) × (length l.rules ≡ length l.initial.rules) × (length l.steps ≡ length l.initial.steps) × (length l.combinators ≡ length l.initial.combinators) × (length l.properties ≡ length l.initial.properties) × (length l.kinds ≡ length l.initial.kinds) × (length l.numbers ≡ length l.initial.numbers)

abbrev pub decreases-loop-found : goal.decreases-loop-found
decreases-loop-found l = 3 * (length l.input - l.m.at) + (2 - state_in l.m.stage)
