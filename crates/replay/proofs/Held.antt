-- What is sorted into a buffer is a set. Assumes nothing.
use mathlib.Core.Path.{◌≡◌}
use mathlib.Core.List.{List}
use Prim.Native.Nat.{ℕ, ◌≤◌, ◌-◌}
use native.Mathlib.Omega.{arith}
use lib.ListN.{length, take, drop, length-append, length-take, length-drop}
use Rattle.theory.specs.Lists.{sort}
use Rattle.theory.proofs.Lists.{sort_ascending, sort_length, ascends_is}
use Rattle.idset.specs.Buffers.{Holds}
use Rattle.idset.proofs.Buffers.{held_take}
use Rattle.replay.specs.Sets.{Set}

pub part_few : (body part : List ℕ) (from to : ℕ) → length body ≤ 4096 → part ≡ take (to - from) (drop from body) → length part ≤ 4096
part_few body part from to l e = rw (e, length-take, length-drop) (omega (arith, l))

pub set_held :
    (body part before after : List ℕ) (from to n : ℕ) → length body ≤ 4096 → part ≡ take (to - from) (drop from body) →
    Holds (sort part) before n after → Set after n
set_held body part before after from to n l e h =
    let few = part_few body part from to l e in
    record {
      within = rw (h.whole, length-append) (omega (arith, h.count));
      few = omega (arith, few, h.count, sort_length part);
      up = rw (held_take h) ((ascends_is (sort part)).1 (sort_ascending part));
    }
