-- Zeroed memory is what no record has left yet. Assumes nothing.
use mathlib.Core.Path.{◌≡◌, refl, subst}
use mathlib.Core.Bool.{true}
use mathlib.Core.List.{List}
use Prim.Native.Nat.{ℕ, suc}
use native.Mathlib.Omega.{arith}
use lib.ListN.{replicate, length-replicate}
use Rattle.sheet.specs.Layout.{SHEET-WORDS}
use Rattle.sheet.specs.Laying.{emptied}
use Rattle.sheet.specs.Shape.{sheet_shape}
use Rattle.given.specs.Given.{Group}
use Rattle.laid.proofs.Emptied.{shape_emptied}
use Rattle.gather.specs.declared.OpenKind.TheVariants.{Nothing}
use Rattle.gather.specs.Memory.{newly, Roomy}
use Rattle.gather.proofs.Closing.{newly_sound}
use Rattle.house.specs.declared.Making.{Making}
use Rattle.house.specs.declared.Stage.TheVariants.{Unbegun}
use Rattle.house.specs.Memory.{Before}

-- no record yet
abbrev pub unstarted : Making
unstarted = record { stage = Unbegun; ranking = 0; stamp = 0; offset = 0; at = 0; filled = newly Nothing }

-- the counts of zeros are written as they are
zeros_emptied : (n : ℕ) → emptied (replicate (suc (suc (suc (suc (suc (suc (suc n))))))) 0) ≡ replicate (suc (suc (suc (suc (suc (suc (suc n))))))) 0
unfolding emptied
zeros_emptied n = refl

zeros_shaped : sheet_shape (replicate SHEET-WORDS 0) ≡ true
zeros_shaped = subst (λ (w : List ℕ). sheet_shape w ≡ true) (zeros_emptied 67009) (shape_emptied (replicate SHEET-WORDS 0) (rw length-replicate (omega arith)))

pub start_before : (g : Group) → Roomy g → Before unstarted (replicate SHEET-WORDS 0) g
start_before g room = record {
  awaits = omega arith;
  zeros = λ _. refl;
  nothing = λ _. refl;
  sound = newly_sound Nothing g room;
  shape = zeros_shaped;
  ranking = omega arith;
}
