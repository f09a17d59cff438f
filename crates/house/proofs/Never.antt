-- A sheet that records have made is never refused by `build`: the root has at most 256 cursors, and 4,096 are lent. Assumes nothing.
use mathlib.Core.Path.{◌≡◌}
use mathlib.Core.Bool.{true}
use mathlib.Core.List.{List, [], ◌∷◌}
use Prim.Native.Nat.{ℕ, suc, ◌≤◌}
use native.Mathlib.Omega.{arith}
use lib.ListN.{length, length-replicate}
use borrow.Author.Tests.{le-ltb, le-leb}
use Rattle.theory.specs.States.{Sheet, starts}
use Rattle.lent.specs.Refusals.{first_of}
use Rattle.sheet.specs.Shape.{sheet_shape}
use Rattle.sheet.proofs.Shaped.{shaped}
use Rattle.table.specs.Tables.{selectors_of}
use Rattle.table.specs.Entering.{roots_of, root_lacks_room}
use Rattle.table.specs.Calls.{build_verdict}
use Rattle.table.proofs.Selectors.{length_selectors}
use Rattle.house.specs.House.{lent_table}

-- a cursor for each rule at the most
starts_few : {Step : Type 0} (r : ℕ) (sheet : Sheet Step) → length (starts r sheet) ≤ length sheet
starts_few r [] = omega arith
starts_few r ([] ∷ sheet) = omega (arith, starts_few (suc r) sheet)
starts_few r ((p ∷ sel) ∷ sheet) = omega (arith, starts_few (suc r) sheet)

roots_few : (w : List ℕ) → sheet_shape w ≡ true → length (roots_of w) ≤ 256
roots_few w e = omega (arith, starts_few 0 (selectors_of w), length_selectors w, (shaped w e).rules)

build_fits : (w : List ℕ) (ranking : ℕ) (states cursors : List ℕ)
    → sheet_shape w ≡ true
    → ranking ≤ 1
    → 3 ≤ length states
    → 256 ≤ length cursors
    → build_verdict w ranking states cursors ≡ 0
unfolding build_verdict root_lacks_room first_of
build_fits w ranking states cursors shape ranks p q =
    rw (shape, le-ltb 1 ranking ranks, le-leb 3 (length states) p, le-leb (length (roots_of w)) (length cursors) (omega (arith, roots_few w shape)))

pub build_never_refused : (w : List ℕ) (ranking room : ℕ)
    → sheet_shape w ≡ true
    → ranking ≤ 1
    → build_verdict w ranking (lent_table room).states (lent_table room).cursors ≡ 0
build_never_refused w ranking room shape ranks =
    build_fits w ranking (lent_table room).states (lent_table room).cursors shape ranks (rw length-replicate (omega arith)) (rw length-replicate (omega arith))
