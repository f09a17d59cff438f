-- The ways through `ends`, as laws. Assumes nothing.
use mathlib.Core.Path.{◌≡◌}
use mathlib.Core.Bool.{Bool, true, false}
use mathlib.Core.List.{List}
use Prim.Native.Nat.{ℕ, ◌<◌, ◌≤◌}
use lib.ListN.{length}
use borrow.Author.Tests.{le-leb, lt-leb, not-true, not-false}
use Rattle.lines.specs.Text.{Laid}
use Rattle.screen.specs.Ends.{at_front, TOO-LONG, CUT-SHORT, last_line, Ends}

pub front_is : (words before : List ℕ) (r : ℕ) (after : List ℕ) → Laid words before 0 r after → after ≡ at_front words before
unfolding at_front
front_is words before r after l = l.whole

module _ (too_long atEnd : Bool) (rest before : List ℕ) where
  pub ends_long : too_long ≡ true → (after : List ℕ) → after ≡ at_front TOO-LONG before → Ends too_long atEnd rest before true after
  unfolding last_line
  ends_long t after e = record { answer = rw t; buffer = rw t e }

  module _ (t : too_long ≡ false) where
    pub ends_not : atEnd ≡ false → Ends too_long atEnd rest before false before
    unfolding last_line
    ends_not a = record { answer = rw (t, a); buffer = rw (t, a) }

    module _ (a : atEnd ≡ true) where
      pub ends_cut : 0 < length rest → (after : List ℕ) → after ≡ at_front CUT-SHORT before → Ends too_long atEnd rest before true after
      unfolding last_line
      ends_cut h after e = record { answer = rw (t, a); buffer = rw (t, a, lt-leb (length rest) 0 h) e }

      pub ends_whole : length rest ≤ 0 → Ends too_long atEnd rest before true before
      unfolding last_line
      ends_whole h = record { answer = rw (t, a); buffer = rw (t, a, le-leb (length rest) 0 h) }

pub ruleset ends = (ends_long, ends_not, ends_cut, ends_whole, not-true, not-false)
