-- 01: "Prove that the Rust's saturation is never met." The Rust saturates at 4,294,967,295; no sum of a selector passes 64. Assumes nothing.
use mathlib.Core.Path.{◌≡◌, refl, sym}
use mathlib.Core.Bool.{true}
use mathlib.Core.List.{List}
use mathlib.Core.Option.{Option, none, some}
use Prim.Native.Nat.{ℕ, zero, suc, ◌+◌, ◌*◌, ◌≤◌, ◌<◌}
use native.Mathlib.Nat.{zero-add}
use native.Mathlib.Omega.{arith}
use Rattle.theory.specs.Lists.{spread, total}
use Rattle.theory.specs.Weight.{Counts}
use Rattle.theory.proofs.Lists.{sort_length}
use Rattle.lent.proofs.All.{all_at}
use Rattle.selector.specs.declared.Specificity.{Specificity}
use Rattle.selector.specs.Tags.{Tags}
use Rattle.selector.specs.Rows.{row_at, step_at}
use Rattle.selector.specs.Checks.{row_fits, selector_verdict}
use Rattle.selector.specs.Weighing.{is_set, counts_of, counts_in, Counted, Unsaturated}
use Rattle.selector.proofs.CheckLaws.{selector_passed}
use Rattle.selector.proofs.WeighLaws.{total_next, pseudos_few, classes_few}

set_few : (t : Option ℕ) → is_set t ≤ 1
set_few none = omega arith
set_few (some n) = omega arith

-- each count of a step whose row keeps to the sizes
pub record Few (c : Counts) : Type 0 where
  pub pseudos : c.pseudos ≤ 8
  pub classes : c.classes ≤ 8
  pub parts : c.parts ≤ 8
  pub types : c.types ≤ 8

step_few : (steps : List ℕ) (k : ℕ) → row_fits 8 steps (22 * k) ≡ true → Few (counts_of (step_at steps k))
unfolding counts_of row_at
step_few steps k h = record {
  pseudos = omega (arith, sort_length (row_at 8 steps (22 * k)).pseudos, pseudos_few steps (22 * k) (row_at 8 steps (22 * k)).pseudos h refl);
  classes = omega (arith, sort_length (row_at 8 steps (22 * k)).classes, classes_few steps (22 * k) (row_at 8 steps (22 * k)).classes h refl);
  parts = omega (arith, set_few (row_at 8 steps (22 * k)).part);
  types = omega (arith, set_few (row_at 8 steps (22 * k)).type);
}

pub counted_few : {t : Tags} {s : Specificity} → Counted t s → Few (counts_of t)
counted_few c = record {
  pseudos = omega (arith, c.pseudos, c.pseudos_few);
  classes = omega (arith, c.classes, c.classes_few);
  parts = omega (arith, c.parts, c.parts_few);
  types = omega (arith, c.types, c.types_few);
}

-- a count that is at most 8 in each step sums to at most 8 a step
total_few : (g : Counts → ℕ) (f : ℕ → Counts) (k n : ℕ) → ((i : ℕ) → i < n → g (f (k + i)) ≤ 8) → total g (spread f k n) ≤ 8 * n
total_few g f k zero h = unfold total in omega arith
total_few g f k (suc n) h = omega (arith, total_next g f k n, total_few g f k n (λ i l. h i (omega arith)), h n (omega arith))

pub few_unsaturated : (f : ℕ → Counts) (k n : ℕ) → n ≤ 8 → ((i : ℕ) → i < n → Few (f (k + i))) → Unsaturated (spread f k n)
few_unsaturated f k n h each =
    let p = total_few (λ x. x.pseudos) f k n (λ i l. (each i l).pseudos) in
    let q = total_few (λ x. x.classes) f k n (λ i l. (each i l).classes) in
    let r = total_few (λ x. x.parts) f k n (λ i l. (each i l).parts) in
    let t = total_few (λ x. x.types) f k n (λ i l. (each i l).types) in
    record { pseudos = omega arith; classes = omega arith; parts = omega arith; types = omega arith; ids = omega arith; tags = omega arith }

-- of an accepted selector. (Of a sheet's rule: `rule_never_saturates` in `weighed`)
pub never_saturates : (steps : List ℕ) (n : ℕ) (combinators : List ℕ) (c : ℕ) → selector_verdict steps n combinators c ≡ 0 → Unsaturated (counts_in steps n)
unfolding counts_in
never_saturates steps n combinators c z =
    let (few, rows) = selector_passed steps n combinators c (sym z) in
    few_unsaturated (λ k. counts_of (step_at steps k)) 0 n few (λ k l. rw (zero-add k) (step_few steps k (all_at _ n k l rows)))
