use native.Mathlib.Omega.{arith}
use Rattle.style.proofs.CheckLaws.{over_size, over_properties, over_kinds, over_numbers}
use Rattle.style.proofs.held.entries_over.Goals as goal

pub returns-then-n-gt32 : goal.returns-then-n-gt32
returns-then-n-gt32 c = over_size _ _ _ _ (omega arith)

pub returns-then-properties-n : goal.returns-then-properties-n
returns-then-properties-n c = over_properties _ _ _ _ (omega arith) (omega arith)

pub returns-then-kinds-n : goal.returns-then-kinds-n
returns-then-kinds-n c = over_kinds _ _ _ _ (omega arith) (omega arith) (omega arith)

pub returns : goal.returns
returns c = over_numbers _ _ _ _ (omega arith) (omega arith) (omega arith)
