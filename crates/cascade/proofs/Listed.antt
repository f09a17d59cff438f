-- What changes between the rules listed in two states. Assumes nothing.
use mathlib.Core.Path.{◌≡◌}
use mathlib.Core.List.{List}
use Prim.Native.Nat.{ℕ}
use Rattle.idset.specs.Buffers.{Holds}
use Rattle.lent.specs.Pool.{ends_in, list_at}
use Rattle.table.specs.Tables.{table, ranking_in}
use Rattle.changes.specs.Changes.{changed_of}
use Rattle.cascade.specs.Calls.{changed_in}

module _ (w h s c m tr : List ℕ) (ranking : ℕ) (f : ranking ≡ ranking_in h) where
  pub changed_held : (j k : ℕ) (old new : List ℕ) → old ≡ list_at (ends_in s 1 3) m j → new ≡ list_at (ends_in s 1 3) m k
      → {d d' : List ℕ} {n : ℕ} → Holds (changed_of w ranking old new) d n d' → Holds (changed_in w (table h s c m tr) j k) d n d'
  changed_held j k old new g i u = rw (f, g, i) at u
