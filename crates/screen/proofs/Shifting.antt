-- Bytes moved to the front one by one. Assumes nothing.
use mathlib.Core.Path.{◌≡◌, refl, ap, ◌∙◌}
use mathlib.Core.List.{List}
use Prim.Native.Nat.{ℕ, ◌+◌, ◌-◌, ◌≤◌}
use native.Mathlib.Omega.{arith}
use lib.ListN.{length, take, drop, length-drop}
use lib.Seq.{take_all, sets, sets-eq, take-append-le}
use Rattle.std.specs.List.{copy_within}

-- what `copy_within` leaves
pub shifted : (b : List ℕ) (at n : ℕ) → n ≡ length b → at ≤ length b → copy_within b at n 0 ≡ sets b 0 (drop at b)
shifted b at n e h =
    let k : length (drop at b) ≡ length b - at = length-drop at b in
    rw (e, sets-eq (drop at b) b 0 (omega (arith, k)), take_all (length b - at) (drop at b) (omega (arith, k)), k) refl

-- what was moved is at the front
front_moved : (b : List ℕ) (at n : ℕ) → at + n ≤ length b → take n (sets b 0 (drop at b)) ≡ take n (drop at b)
front_moved b at n h =
    ap (λ l. take n l) (sets-eq (drop at b) b 0 (omega (arith, length-drop at b))) ∙ take-append-le n (drop at b) _ (omega (arith, length-drop at b))

pub refilled : (b m e : List ℕ) (at have : ℕ) → at ≤ have → have ≤ length b → m ≡ sets b 0 (drop at b) → take (have - at) e ≡ take (have - at) m
    → take (have - at) e ≡ take (have - at) (drop at b)
refilled b m e at have l k s t = t ∙ ap (λ x. take (have - at) x) s ∙ front_moved b at (have - at) (omega arith)
