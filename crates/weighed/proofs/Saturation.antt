-- 01: "Prove that the Rust's saturation is never met." The Rust saturates at 4,294,967,295; no sum of a rule passes 64. Assumes nothing.
use mathlib.Core.Path.{◌≡◌, refl}
use mathlib.Core.Bool.{true}
use mathlib.Core.List.{List}
use Prim.Native.Nat.{ℕ, ◌+◌, ◌-◌, ◌<◌}
use native.Mathlib.Omega.{arith}
use Rattle.lent.specs.Pool.{start_of}
use Rattle.selector.specs.Weighing.{Unsaturated}
use Rattle.selector.proofs.Saturation.{counted_few, few_unsaturated}
use Rattle.sheet.specs.Layout.{rules_in, steps_in}
use Rattle.sheet.specs.Sheets.{rule_at, counts_for, rule_step_ends}
use Rattle.sheet.specs.Shape.{sheet_shape}
use Rattle.sheet.proofs.ReadLaws.{rule_steps, rule_steps_end}
use Rattle.weighed.proofs.Sums.{step_counted, counts_at, counts_spread}

-- The four sums of a rule of a sheet in its shape, and with them its weight in both rankings
pub rule_never_saturates : (w : List ℕ) (r : ℕ) → sheet_shape w ≡ true → r < rules_in w → Unsaturated (counts_for (rule_at w r).selector)
rule_never_saturates w r shape h =
    let from = start_of (rule_step_ends w) r in
    let n = rule_step_ends w r - from in
    let (up, few) = rule_steps w shape r h in
    let there : (i : ℕ) → i < n → from + i < steps_in w = λ i l. omega (arith, rule_steps_end w shape r h) in
    rw (counts_spread w r) (few_unsaturated (counts_at w) from n few (λ i l. counted_few (step_counted w (from + i) (shape, there i l) _ refl _ _ _ _ refl refl refl refl)))
