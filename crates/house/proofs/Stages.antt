-- The stage that a `match` has found, as a number. Assumes nothing.
use mathlib.Core.Path.{◌≡◌, refl, ap}
use mathlib.Core.Logic.{◌⊎◌, inl, inr}
use Prim.Native.Nat.{ℕ, ◌≤◌, ◌<◌}
use native.Mathlib.Omega.{arith}
use Rattle.lent.specs.declared.Refusal.{Refusal}
use Rattle.house.specs.declared.Stage.{Stage}
use Rattle.house.specs.declared.Stage.TheVariants.{Unbegun, Begun, Stopped, Done}
use Rattle.house.specs.Memory.{state_in}

pub stage_refused : {s : Stage} {r : Refusal} → s ≡ Stopped r → state_in s ≡ 2
stage_refused e = ap state_in e

pub stage_going : (s : Stage) → ((r : Refusal) → s ≡ Stopped r → ⊥) → state_in s ≡ 2 → ⊥
stage_going Unbegun n e = absurd (omega arith)
stage_going Begun n e = absurd (omega arith)
stage_going (Stopped r) n e = n r refl
stage_going Done n e = absurd (omega arith)

pub stage_later : (s : Stage) → (s ≡ Unbegun → ⊥) → state_in s ≡ 0 → ⊥
stage_later Unbegun n e = n refl
stage_later Begun n e = absurd (omega arith)
stage_later (Stopped r) n e = absurd (omega arith)
stage_later Done n e = absurd (omega arith)

-- records of the sheet are awaited
pub stage_awaits : {s : Stage} → (s ≡ Unbegun) ⊎ (s ≡ Begun) → state_in s ≤ 1
stage_awaits {s} (inl e) = let k : state_in s ≡ 0 = ap state_in e in omega arith
stage_awaits {s} (inr e) = let k : state_in s ≡ 1 = ap state_in e in omega arith

-- or no longer
pub stage_over : {s : Stage} → ((r : Refusal) × (s ≡ Stopped r)) ⊎ (s ≡ Done) → 1 < state_in s
stage_over {s} (inl (r, e)) = let k : state_in s ≡ 2 = ap state_in e in omega arith
stage_over {s} (inr e) = let k : state_in s ≡ 3 = ap state_in e in omega arith
