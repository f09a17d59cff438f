-- A transition of a parent and a subject: where its subject stands, and the ways through `is_hit`. Assumes nothing.
use mathlib.Core.Path.{◌≡◌}
use mathlib.Core.Bool.{Bool, false}
use mathlib.Core.List.{List}
use Prim.Native.Nat.{ℕ, ◌<◌}
use native.Mathlib.Omega.{arith}
use borrow.Author.Tests.{eq-eqb, ne_eqb}
use Rattle.selector.specs.Tags.{Tags}
use Rattle.selector.specs.Rows.{row_at}
use Rattle.table.specs.Tables.{parent_at, subject_place}
use Rattle.table.specs.Entering.{same_subject, is_hit}

module _ (k at : ℕ) (e : at ≡ subject_place k) where
  pub place_low : k < 4294967296 → at < 999999999000
  place_low h = omega (arith, e)

  pub hit_subject : (transitions : List ℕ) (p v : ℕ) (x : Tags) (r : Bool)
      → v ≡ parent_at transitions k
      → v ≡ p
      → r ≡ same_subject (row_at 16 transitions at) x
      → r ≡ is_hit transitions p x k
  unfolding is_hit
  hit_subject transitions p v x r q h s = rw (← q, eq-eqb v p h, ← e) s

pub hit_other : (transitions : List ℕ) (p v : ℕ) (x : Tags) (k : ℕ) → v ≡ parent_at transitions k → (v ≡ p → ⊥) → false ≡ is_hit transitions p x k
unfolding is_hit
hit_other transitions p v x k e n = rw (← e, ne_eqb v p n)
