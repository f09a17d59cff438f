-- What a caller sees by the answer of `build`. Assumes nothing.
use mathlib.Core.Path.{◌≡◌}
use mathlib.Core.List.{List, []}
use Prim.Native.Nat.{ℕ}
use borrow.Author.Tests.{ne_eqb}
use Rattle.lent.specs.declared.Refusal.{Refusal}
use Rattle.table.specs.Tables.{Table}
use Rattle.table.specs.Entering.{built}
use Rattle.table.specs.Calls.{build_verdict}
use Rattle.lent.proofs.Answers.{accepted, refused}
use Rattle.building.specs.Answers.{Build}
use Rattle.std.specs.Prelude.{Ok, Err}

module _ {w : List ℕ} {stamp ranking : ℕ} {t t' : Table} where
  -- where the answer is `Ok`, the verdict is 0 and the memory is the built one;
  pub built_is : Build w stamp ranking t (Ok tt) t' → (build_verdict w ranking t.states t.cursors ≡ 0) × (t' ≡ built w stamp ranking t)
  built_is u = let z = accepted (build_verdict w ranking t.states t.cursors) [] _ u.answer in (z, rw z at u.memory)

  -- where it is a refusal, no word has changed
  pub build_refused_is : {r : Refusal} → Build w stamp ranking t (Err r) t' → t' ≡ t
  build_refused_is {r} u =
      let v = build_verdict w ranking t.states t.cursors in
      let n = refused v r [] u.answer in
      rw (ne_eqb v 0 n) at u.memory
