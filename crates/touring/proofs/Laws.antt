-- What a turn leaves is what the next requires, and what the table built at first is. Assumes nothing.
use mathlib.Core.Path.{◌≡◌, refl, sym, subst, ◌∙◌}
use mathlib.Core.Bool.{true}
use mathlib.Core.List.{List, [], ◌∷◌}
use Prim.Native.Nat.{ℕ, ◌≤◌}
use native.Mathlib.Omega.{arith}
use lib.ListN.{length, replicate, length-replicate}
use lib.Seq.{length-sets}
use Rattle.sheet.specs.Shape.{sheet_shape}
use Rattle.table.specs.Tables.{Table, table}
use Rattle.table.specs.Entering
use Rattle.covered.specs.Covered.Covered.{built}
use Rattle.records.specs.Rows.{empty_row}
use Rattle.replies.specs.Memory.{Ready}
use Rattle.house.specs.declared.Walked.{Walked}
use Rattle.house.specs.House.{lent_table}
use Rattle.house.specs.Memory.{FedWalk}
use Rattle.house.proofs.Never.{build_never_refused}

-- ---- numbers, as `omega` is dear at a need

pub reaches : {a b c : ℕ} → a ≤ b → b ≤ c → a ≤ c
reaches p q = omega arith

pub at_most_lem : {a b c : ℕ} → a ≤ b → c ≡ b → a ≤ c
at_most_lem p q = omega arith

-- ---- turns

pub walked_first : {l : List ℕ} {n offset : ℕ} {w : List ℕ} {t : Table} {items out : List ℕ} {r : Walked} {out' : List ℕ} {t' : Table} {items' : List ℕ}
    → FedWalk l offset w t items out r out' t' items'
    → length l ≡ n
    → (r.at ≤ n) × Ready w t' items'
walked_first f h = (omega (arith, f.walked.within), f.walked.ready)

-- the table built in zeroed memory, and no items
module _ (w : List ℕ) (stamp ranking : ℕ) where
  built_states : (t : Table) → length (Entering.built w stamp ranking t).states ≡ length t.states
  unfolding Entering.built
  built_states t = length-sets t.states 0 (length (Entering.roots_of w) ∷ 0 ∷ 0 ∷ [])

  built_matched : (t : Table) → (Entering.built w stamp ranking t).matched ≡ t.matched
  unfolding Entering.built
  built_matched t = refl

  built_ready : (room : ℕ) → sheet_shape w ≡ true → ranking ≤ 1 → Ready w (Entering.built w stamp ranking (lent_table room)) (empty_row 16)
  built_ready room shape ranks = record {
    covered = built (lent_table room) stamp ranking (refl, build_never_refused w ranking room shape ranks);
    states = built_states (lent_table room) ∙ length-replicate {A = ℕ} 1536 0;
    matched = rw (built_matched (lent_table room)) (length-replicate {A = ℕ} 4096 0);
    row = refl;
    fits = refl;
  }

  -- as `build` says it
  pub ready_built : {h s c : List ℕ}
      → sheet_shape w ≡ true
      → ranking ≤ 1
      → ((m t : List ℕ) → table h s c m t ≡ Entering.built w stamp ranking (table (replicate 8 0) (replicate 1536 0) (replicate 4096 0) m t))
      → Ready w (table h s c (replicate 4096 0) (replicate 83968 0)) (replicate 38 0)
  ready_built shape ranks e = subst (λ (t : Table). Ready w t (replicate 38 0)) (sym (e (replicate 4096 0) (replicate 83968 0))) (built_ready 2048 shape ranks)
