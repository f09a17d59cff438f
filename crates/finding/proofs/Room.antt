-- The ways through the test for room. Assumes nothing.
use mathlib.Core.Path.{◌≡◌}
use mathlib.Core.Bool.{Bool, true, false, not}
use mathlib.Core.List.{List}
use Prim.Native.Nat.{ℕ, ◌+◌, ◌-◌, ◌*◌, ◌≤◌, ◌<◌}
use native.Mathlib.Omega.{arith}
use lib.ListN.{length}
use lib.Dec.{ltb}
use borrow.Author.Tests.{lt-ltb, le-ltb, le-leb, lt-leb, not-true, not-false}
use Rattle.table.specs.Tables.{states_in, cursors_in, matched_in}
use Rattle.table.specs.Entering.{fits, room_for}
use Rattle.finding.specs.States.{state}

module _ (room used more u : ℕ) (eu : u ≡ used) where
  pub fits_none : room < u → false ≡ fits room used more
  fits_none h = rw (lt-leb (used + more) room (omega arith))

  pub fits_less : u ≤ room → room - u < more → false ≡ fits room used more
  fits_less k h = rw (lt-leb (used + more) room (omega arith))

  pub fits_is : u ≤ room → more ≤ room - u → ltb (u + more) 4294967296 ≡ fits room used more
  fits_is k h = rw (le-leb (used + more) room (omega arith), eu)

module _ (h : List ℕ) (rs rc rm : ℕ) (nc nm : List ℕ) (n : ℕ) (en : n ≡ states_in h) where
  pub room_many : 512 ≤ n → false ≡ room_for h rs rc rm (state nc nm)
  unfolding room_for
  room_many l = rw (← en, le-ltb n 512 l)

  module _ (three k : ℕ) (et : three ≡ 3) (ek : k ≡ n) (few : n < 512) where
    pub room_rows : rs < three * (k + 1) → false ≡ room_for h rs rc rm (state nc nm)
    unfolding room_for
    room_rows l = rw (← en, lt-ltb n 512 few, lt-leb (3 * (n + 1)) rs (rw (et, ek) at l))

    module _ (rows : three * (k + 1) ≤ rs) (c : ℕ) (b : Bool) (ec : c ≡ cursors_in h) (eb : b ≡ fits rc c (length nc)) where
      pub room_cursors : not b ≡ true → false ≡ room_for h rs rc rm (state nc nm)
      unfolding room_for
      room_cursors l = rw (← en, lt-ltb n 512 few, le-leb (3 * (n + 1)) rs (rw (et, ek) at rows), ← ec, ← eb, not-true b l)

      pub room_is : not b ≡ false → (m : ℕ) (d : Bool) → m ≡ matched_in h → d ≡ fits rm m (length nm) → d ≡ room_for h rs rc rm (state nc nm)
      unfolding room_for
      room_is l m d em ed = rw (← en, lt-ltb n 512 few, le-leb (3 * (n + 1)) rs (rw (et, ek) at rows), ← ec, ← eb, not-false b l, ← em) ed
