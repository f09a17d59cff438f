-- Laws of a style's checks, by each way through the code. Assumes nothing.
use mathlib.Core.Path.{◌≡◌, sym, ◌∙◌}
use mathlib.Core.Bool.{Bool, true, false, not}
use mathlib.Core.List.{List}
use Prim.Native.Nat.{ℕ, ◌+◌, ◌-◌, ◌≤◌, ◌<◌}
use native.Mathlib.Omega.{arith}
use lib.ListN.{length, take, drop, replicate}
use lib.Seq.{sets, sets-eq, take_at, length-take-le}
use lib.Dec.{ltb}
use borrow.Author.Tests.{lt-ltb, le-ltb, ltb-false}
use Rattle.theory.specs.Lists.{ascends, at_most}
use Rattle.theory.proofs.Lists.{or_first, or_second}
use Rattle.style.specs.Checks.{entries_over, kinds_over, properties_off}

-- ---- counts over their sizes

-- a count that is within its size and the lists
pub record Within (properties kinds numbers : List ℕ) (n : ℕ) : Type 0 where
  pub few : n ≤ 32
  pub in_properties : n ≤ length properties
  pub in_kinds : n ≤ length kinds
  pub in_numbers : n ≤ length numbers

module _ (properties kinds numbers : List ℕ) (n : ℕ) where
  pub over_size : 32 < n → true ≡ entries_over properties kinds numbers n
  unfolding entries_over
  over_size h = rw (lt-ltb 32 n h)

  pub over_properties : n ≤ 32 → length properties < n → true ≡ entries_over properties kinds numbers n
  unfolding entries_over
  over_properties g h = rw (le-ltb 32 n g, lt-ltb (length properties) n h)

  module _ (g : n ≤ 32) (h : n ≤ length properties) where
    pub over_kinds : length kinds < n → true ≡ entries_over properties kinds numbers n
    unfolding entries_over
    over_kinds k = rw (le-ltb 32 n g, le-ltb (length properties) n h, lt-ltb (length kinds) n k)

    pub over_numbers : n ≤ length kinds → ltb (length numbers) n ≡ entries_over properties kinds numbers n
    unfolding entries_over
    over_numbers k = rw (le-ltb 32 n g, le-ltb (length properties) n h, le-ltb (length kinds) n k)

  pub within : (b : Bool) → b ≡ entries_over properties kinds numbers n → b ≡ false → Within properties kinds numbers n
  unfolding entries_over
  within b e f =
      let o : entries_over properties kinds numbers n ≡ false = sym e ∙ f in
      let p = or_second (ltb 32 n) _ o in
      let q = or_second (ltb (length properties) n) _ p in
      record {
        few = ltb-false 32 n (or_first _ _ o);
        in_properties = ltb-false (length properties) n (or_first _ _ p);
        in_kinds = ltb-false (length kinds) n (or_first _ _ q);
        in_numbers = ltb-false (length numbers) n (or_second (ltb (length kinds) n) _ q);
      }

-- ---- kinds and ids

front : (l : List ℕ) (n : ℕ) → take (n - 0) (drop 0 l) ≡ take n l
front l n = let z : n - 0 ≡ n = omega arith in rw z

pub kinds_are : (kinds l : List ℕ) (n : ℕ) (b : Bool) → l ≡ take (n - 0) (drop 0 kinds) → b ≡ at_most 3 l → not b ≡ kinds_over kinds n
unfolding kinds_over
kinds_are kinds l n b e f = rw (f, e, front kinds n)

-- the first n of the widened words are the first n ids
module _ (properties words : List ℕ) (n : ℕ) (w : words ≡ sets (replicate 32 0) 0 (take n properties)) (g : n ≤ 32) (h : n ≤ length properties) where
  pub widened : take (n - 0) (drop 0 words) ≡ take n properties
  widened =
      let m = length-take-le n properties h in
      front words n
      ∙ (rw (w, sets-eq (take n properties) (replicate 32 0) 0 (omega arith)) (take_at (take n properties) (drop (0 + length (take n properties)) (replicate 32 0)) n m))

pub off_are : (properties words l : List ℕ) (n : ℕ) (b : Bool)
    → n ≤ 32
    → n ≤ length properties
    → words ≡ sets (replicate 32 0) 0 (take n properties)
    → l ≡ take (n - 0) (drop 0 words)
    → b ≡ ascends l
    → not b ≡ properties_off properties n
unfolding properties_off
off_are properties words l n b g h w e f = rw (f, e, widened properties words n w g h)
