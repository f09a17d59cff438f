use mathlib.Core.Path.{◌≡◌}
use Prim.Native.Nat.{◌≤◌}
use lib.ListN.{length}
use Rattle.table.specs.Tables.{table}
use Rattle.replies.specs.Memory.{Ready}
use Rattle.touring.proofs.held.walk.Given as goal

abbrev pub invariant-loop : goal.invariant-loop
invariant-loop l = (l.s.have ≤ length l.input) × (length l.out ≡ 131072) × Ready l.sheet (table l.head l.states l.cursors l.matched l.transitions) l.items × (length l.input ≡ length l.initial.input) × (length l.head ≡ length l.initial.head) × (length l.states ≡ length l.initial.states) × (length l.cursors ≡ length l.initial.cursors) × (length l.matched ≡ length l.initial.matched) × (length l.transitions ≡ length l.initial.transitions) × (length l.items ≡ length l.initial.items) × (length l.out ≡ length l.initial.out)
