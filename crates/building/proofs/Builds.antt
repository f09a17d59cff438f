-- The ways out of `build`. Assumes nothing.
use mathlib.Core.Path.{◌≡◌, refl, sym, ◌∙◌}
use mathlib.Core.Bool.{Bool, true, false}
use mathlib.Core.List.{List, [], ◌∷◌}
use Prim.Native.Nat.{ℕ, ◌≤◌, ◌<◌}
use native.Mathlib.Omega.{arith}
use lib.ListN.{length, take}
use lib.Seq.{sets}
use borrow.Author.Tests.{lt-ltb, le-ltb, le-leb, lt-leb, ne_eqb}
use Rattle.idset.specs.Buffers.{Holds}
use Rattle.lent.specs.Refusals.{told, first_of}
use Rattle.lent.specs.declared.Refusal.{Refusal}
use Rattle.lent.specs.declared.Refusal.TheVariants.{BrokenShape, CodeOutOfRange, NoRoom}
use Rattle.idset.proofs.Buffers.{held_take}
use Rattle.sheet.specs.Shape.{sheet_shape}
use Rattle.table.specs.Tables.{table}
use Rattle.table.specs.Entering.{roots_of, root_lacks_room, built_head, built}
use Rattle.table.specs.Calls.{build_verdict}
use Rattle.building.specs.Answers.{Build}
use Rattle.std.specs.Prelude.{Ok, Err}

-- ---- by each way through the code

pub roots_few : {l d e : List ℕ} {n : ℕ} → Holds l d n e → length (take n e) ≡ n
roots_few h = rw (held_take h) (sym h.count)

-- what is written once the roots are collected
pub root_built_lem : (w : List ℕ) (stamp ranking : ℕ) (h s c d l : List ℕ) (n : ℕ) → Holds (roots_of w) d n l → (h' s' c' : List ℕ)
    → (h' ≡ built_head h stamp ranking (length (take n l))) × (s' ≡ sets s 0 (length (take n l) ∷ 0 ∷ 0 ∷ [])) × (c' ≡ sets c 0 (take n l))
    → (m t : List ℕ) → table h' s' c' m t ≡ built w stamp ranking (table h s c m t)
unfolding built
root_built_lem w stamp ranking h s c d l n q h' s' c' (x, y, z) m t = rw (x, y, z, held_take q)

module _ (w : List ℕ) (stamp ranking : ℕ) (h s c m t : List ℕ) where
  turned : (x : Refusal) (v : ℕ) → build_verdict w ranking s c ≡ v → (v ≡ 0 → ⊥) → told x ≡ v ∷ [] → Build w stamp ranking (table h s c m t) (Err x) (table h s c m t)
  turned x v e z q = record { answer = rw (e, ne_eqb v 0 z) q; memory = rw (e, ne_eqb v 0 z) }

  pub build_broken : false ≡ sheet_shape w → Build w stamp ranking (table h s c m t) (Err BrokenShape) (table h s c m t)
  unfolding build_verdict first_of
  build_broken e = turned BrokenShape 11 (rw (← e)) (λ z. omega arith) refl

  module _ (e : sheet_shape w ≡ true) where
    pub build_code : 1 < ranking → Build w stamp ranking (table h s c m t) (Err CodeOutOfRange) (table h s c m t)
    unfolding build_verdict first_of
    build_code g = turned CodeOutOfRange 6 (rw (e, lt-ltb 1 ranking g)) (λ z. omega arith) refl

    module _ (g : ranking ≤ 1) (d l : List ℕ) (n : ℕ) (q : Holds (roots_of w) d n l) (k : ℕ) (p : k ≡ 3) where
      pub build_row : length s < k → Build w stamp ranking (table h s c m t) (Err NoRoom) (table h s c m t)
      unfolding build_verdict first_of root_lacks_room
      build_row i = turned NoRoom 5 (rw (e, le-ltb 1 ranking g, lt-leb 3 (length s) (omega arith))) (λ z. omega arith) refl

      module _ (i : k ≤ length s) where
        pub build_cursors : length c < n → Build w stamp ranking (table h s c m t) (Err NoRoom) (table h s c m t)
        unfolding build_verdict first_of root_lacks_room
        build_cursors j = turned NoRoom 5 (rw (e, le-ltb 1 ranking g, le-leb 3 (length s) (omega arith), ← q.count, lt-leb n (length c) j)) (λ z. omega arith) refl

        pub build_built : n ≤ length c → (h' s' c' : List ℕ)
            → (h' ≡ built_head h stamp ranking (length (take n l))) × (s' ≡ sets s 0 (length (take n l) ∷ 0 ∷ 0 ∷ [])) × (c' ≡ sets c 0 (take n l))
            → Build w stamp ranking (table h s c m t) (Ok tt) (table h' s' c' m t)
        unfolding build_verdict first_of root_lacks_room
        build_built j h' s' c' x =
            let v : build_verdict w ranking s c ≡ 0 = rw (e, le-ltb 1 ranking g, le-leb 3 (length s) (omega arith), ← q.count, le-leb n (length c) j) in
            record { answer = rw v; memory = rw v (root_built_lem w stamp ranking h s c d l n q h' s' c' x m t) }
