-- Laws of what a buffer holds. Assumes nothing.
use mathlib.Core.Path.{◌≡◌, sym, ap, ◌∙◌}
use mathlib.Core.List.{List, ◌++◌}
use Prim.Native.Nat.{ℕ, ◌+◌, ◌-◌, ◌≤◌}
use native.Mathlib.Omega.{arith}
use lib.ListN.{length, take, drop, length-append, length-drop}
use lib.Seq.{take_at, drop-drop, drop-append-add}
use Rattle.idset.specs.Buffers.{Holds}

module _ {l d e : List ℕ} {n : ℕ} (h : Holds l d n e) where
  -- the list stands first
  pub held_take : take n e ≡ l
  held_take = rw h.whole (take_at l (drop n d) n (sym h.count))

  -- the buffer is as long as before
  pub held_length : n ≤ length d → length e ≡ length d
  held_length g = rw (h.whole, length-append, length-drop) (omega (arith, h.count))

  -- one call after the other: what the second holds, it holds of the first buffer
  pub held_then : {m f : List ℕ} {r : ℕ} → Holds m e r f → n ≤ r → Holds m d r f
  held_then {m} {f} {r} k g =
      let s : r ≡ length l + (r - n) = omega (arith, h.count) in
      let t : drop r e ≡ drop r d = rw (h.whole, s, drop-append-add, drop-drop, ← h.count) in
      record { count = k.count; whole = k.whole ∙ ap (λ y. m ++ y) t }
