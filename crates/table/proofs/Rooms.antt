-- What the test for a new state's room means. Assumes nothing.
use mathlib.Core.Path.{◌≡◌}
use mathlib.Core.Bool.{true, ◌&&◌}
use mathlib.Core.List.{List}
use Prim.Native.Nat.{ℕ, ◌+◌, ◌*◌, ◌≤◌, ◌<◌}
use lib.ListN.{length}
use lib.Dec.{ltb, leb}
use borrow.Author.Tests.{ltb-true, leb-true}
use Rattle.theory.specs.States.{State}
use Rattle.theory.proofs.Lists.{and_left, and_right}
use Rattle.table.specs.Tables.{states_in, cursors_in, matched_in}
use Rattle.table.specs.Entering.{room_for}

-- rs, rc, rm: the rooms for the states' words, for cursors and for matched rules
pub record RoomFor (h : List ℕ) (rs rc rm : ℕ) (x : State) : Type 0 where
  pub few : states_in h < 512
  pub rows : 3 * (states_in h + 1) ≤ rs
  pub cursors : cursors_in h + length x.cursors ≤ rc
  pub cursors_fit : cursors_in h + length x.cursors < 4294967296
  pub matched : matched_in h + length x.matched ≤ rm
  pub matched_fit : matched_in h + length x.matched < 4294967296

pub room_for_lem : (h : List ℕ) (rs rc rm : ℕ) (x : State) → room_for h rs rc rm x ≡ true → RoomFor h rs rc rm x
unfolding room_for
room_for_lem h rs rc rm x e =
    let cs = cursors_in h + length x.cursors in
    let ms = matched_in h + length x.matched in
    let r = and_right (ltb (states_in h) 512) _ e in
    let p = and_right (leb (3 * (states_in h + 1)) rs) _ r in
    let c = and_left (leb cs rc && ltb cs 4294967296) _ p in
    let m = and_right (leb cs rc && ltb cs 4294967296) _ p in
    record {
      few = ltb-true _ _ (and_left _ _ e);
      rows = leb-true _ _ (and_left _ _ r);
      cursors = leb-true cs rc (and_left _ (ltb cs 4294967296) c);
      cursors_fit = ltb-true cs 4294967296 (and_right (leb cs rc) _ c);
      matched = leb-true ms rm (and_left _ (ltb ms 4294967296) m);
      matched_fit = ltb-true ms 4294967296 (and_right (leb ms rm) _ m);
    }
