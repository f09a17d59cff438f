-- The ways through the functions, as laws. Assumes nothing.
use mathlib.Core.Path.{◌≡◌, refl}
use Rattle.screen.specs.Ends.{Ends}
use mathlib.Core.Bool.{Bool, false}
use mathlib.Core.List.{List}
use Prim.Native.Nat.{ℕ, ◌+◌, ◌-◌, ◌*◌, ◌≤◌, ◌<◌}
use native.Mathlib.Omega.{arith}
use lib.ListN.{length, take, drop, drop_of_length-le, length-take}
use lib.Dec.{ltb}
use borrow.Author.Tests.{le-leb, lt-leb}
use Rattle.lent.proofs.Pool.{rest_all}
use Rattle.lines.specs.Text.{word_at, first_words, Read}
use Rattle.items.specs.Items.{MOST, too_long, whole_at, end_of}

-- ---- too long

module _ (bytes : List ℕ) where
  pub long_short : length bytes < 8 → false ≡ too_long bytes
  unfolding too_long
  long_short h = rw (lt-leb 8 (length bytes) h)

  pub long_by : (w n : ℕ) → 8 ≤ length bytes → w ≡ n → n ≡ word_at bytes 4 → ltb MOST w ≡ too_long bytes
  unfolding too_long
  long_by w n h f g = rw (le-leb 8 (length bytes) h, f, g)

-- ---- where an item ends

module _ (bytes : List ℕ) (at : ℕ) where
  pub end_short : length bytes - at < 8 → at ≡ end_of bytes at
  unfolding end_of whole_at
  end_short h = rw (lt-leb 8 (length bytes - at) h)

  module _ (h : 8 ≤ length bytes - at) (w n : ℕ) (f : w ≡ n) (g : n ≡ word_at bytes (at + 4)) where
    pub end_long : MOST < w → at ≡ end_of bytes at
    unfolding end_of whole_at
    end_long k = rw (le-leb 8 (length bytes - at) h, ← g, ← f, lt-leb w MOST k)

    module _ (k : w ≤ MOST) where
      pub end_cut : length bytes - at < 8 + w * 4 → at ≡ end_of bytes at
      unfolding end_of whole_at
      end_cut l = rw (le-leb 8 (length bytes - at) h, ← g, ← f, le-leb w MOST k, lt-leb (8 + w * 4) (length bytes - at) l)

      pub end_whole : 8 + w * 4 ≤ length bytes - at → at + (8 + w * 4) ≡ end_of bytes at
      unfolding end_of whole_at
      end_whole l = rw (le-leb 8 (length bytes - at) h, ← g, ← f, le-leb w MOST k, le-leb (8 + w * 4) (length bytes - at) l)

pub ruleset ends = (end_short, end_long, end_cut, end_whole)

-- ---- the words that follow

pub body_short : (item into : List ℕ) → length item < 8 → Read (drop 8 item) into 0 into
unfolding first_words
body_short item into h = rw (drop_of_length-le item {i = 8} (omega arith)) record { count = omega arith; whole = refl }

pub body_is : (item into : List ℕ) (r : ℕ) (after : List ℕ) → Read (take (length item - 8) (drop 8 item)) into r after → Read (drop 8 item) into r after
body_is item into r after u = rw (← rest_all item 8) u

-- ---- the first bytes

module _ (bytes : List ℕ) (have r : ℕ) where
  pub of_taken : r ≤ length (take have bytes) → r ≤ have
  of_taken h = omega (arith, h, length-take have bytes)

  pub to_taken : r ≤ have → have ≤ length bytes → r ≤ length (take have bytes)
  to_taken h l = omega (arith, h, l, length-take have bytes)

-- ---- the last line

pub ends_by : (long end r : Bool) (rest before after : List ℕ) → Ends long end rest before r after → long ≡ too_long rest → Ends (too_long rest) end rest before r after
ends_by long end r rest before after e f = rw f at e
