use mathlib.Core.Path.{◌≡◌}
use lib.ListN.{length}
use Rattle.table.specs.Tables.{table}
use Rattle.walking.specs.Answering.{Ahead}
use Rattle.walking.proofs.Walking.{Going, left}
use Rattle.walking.proofs.held.feed_walk.Given as goal

abbrev pub invariant-loop-found : goal.invariant-loop-found
invariant-loop-found l = Going l.input l.offset l.sheet (table l.initial.head l.initial.states l.initial.cursors l.initial.matched l.initial.transitions) l.initial.items l.initial.out l.w l.out (table l.head l.states l.cursors l.matched l.transitions) l.items × Ahead l.input l.w l.found
    × (length l.head ≡ length l.initial.head) × (length l.states ≡ length l.initial.states) × (length l.cursors ≡ length l.initial.cursors) × (length l.matched ≡ length l.initial.matched) × (length l.transitions ≡ length l.initial.transitions) × (length l.items ≡ length l.initial.items) × (length l.out ≡ length l.initial.out)

abbrev pub decreases-loop-found : goal.decreases-loop-found
decreases-loop-found l = left l.input l.w
