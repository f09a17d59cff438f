use mathlib.Core.Path.{◌≡◌}
use lib.ListN.{length}
use Rattle.given.specs.Given.{given}
use Rattle.loading.proofs.Laws.{Turning}
use Rattle.loading.proofs.held.read_sheet.Given as goal

abbrev pub invariant-loop : goal.invariant-loop
invariant-loop l = Turning (length l.initial.input) l.s l.sheet (given l.rules l.steps l.combinators l.properties l.kinds l.numbers) × (length l.input ≡ length l.initial.input) × (length l.sheet ≡ length l.initial.sheet) × (length l.rules ≡ length l.initial.rules) × (length l.steps ≡ length l.initial.steps) × (length l.combinators ≡ length l.initial.combinators) × (length l.properties ≡ length l.initial.properties) × (length l.kinds ≡ length l.initial.kinds) × (length l.numbers ≡ length l.initial.numbers)
