-- What building a table answers, and the memory with it. Assumes nothing.
use Rattle.std.specs.Prelude.{◌≡◌, cond, List, [], ◌∷◌, ℕ, eqb, Result, ⊤}
use Rattle.lent.specs.declared.Refusal.{Refusal}
use Rattle.lent.specs.Refusals.{answered, done_told}
use Rattle.table.specs.Tables.{Table}
use Rattle.table.specs.Entering.{built}
use Rattle.table.specs.Calls.{build_verdict}

-- ---- the answer as numbers: 0, or a refusal's own number

abbrev pub building_told : Result ⊤ Refusal → List ℕ
building_told r = done_told r

-- ---- answer and memory; a refused call changes no word

pub record Build (w : List ℕ) (stamp ranking : ℕ) (t : Table) (r : Result ⊤ Refusal) (t' : Table) : Type 0 where
  pub answer : building_told r ≡ answered (build_verdict w ranking t.states t.cursors) (0 ∷ [])
  pub memory : t' ≡ cond (eqb (build_verdict w ranking t.states t.cursors) 0) (built w stamp ranking t) t
