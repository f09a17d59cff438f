-- Equal numbers told are equal answers, so that the contract determines answer and memory. Assumes nothing.
use mathlib.Core.Path.{◌≡◌, sym, ◌∙◌}
use mathlib.Core.List.{List}
use Prim.Native.Nat.{ℕ}
use Rattle.std.specs.Prelude.{Result, ⊤}
use Rattle.lent.specs.declared.Refusal.{Refusal}
use Rattle.lent.proofs.Refusals.{done_distinct}
use Rattle.table.specs.Tables.{Table}
use Rattle.building.specs.Answers.{building_told, Build}

pub building_distinct : (a b : Result ⊤ Refusal) → building_told a ≡ building_told b → a ≡ b
building_distinct = done_distinct

-- ---- THEOREM: any two outcomes that the call's contract allows are equal, answer and memory

pub build_determined : {w : List ℕ} {stamp ranking : ℕ} {t : Table} {r r' : Result ⊤ Refusal} {u u' : Table}
    → Build w stamp ranking t r u → Build w stamp ranking t r' u' → (r ≡ r') × (u ≡ u')
build_determined {r = r} {r' = r'} p q = (building_distinct r r' (p.answer ∙ sym q.answer), p.memory ∙ sym q.memory)
