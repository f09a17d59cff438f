-- Calls that answer `Ok` make sheets: from what a caller sees to a made sheet. Assumes nothing.
use mathlib.Core.Path.{◌≡◌}
use mathlib.Core.List.{List}
use Prim.Native.Nat.{ℕ}
use lib.ListN.{length, replicate, length-replicate}
use borrow.Author.Tests.{le-ltb}
use native.Mathlib.Omega.{arith}
use Rattle.std.specs.Prelude.{Ok}
use Rattle.lent.specs.Refusals.{first_of}
use Rattle.sheet.specs.Layout
use Rattle.sheet.specs.Laying.{emptied}
use Rattle.given.specs.Given.{Group}
use Rattle.given.specs.Pushing.{empty_verdict, style_push_verdict, pushed_style, group_verdict, pushed_group, cascade_verdict, pushed_cascade}
use Rattle.builder.specs.Answers.{Push}
use Rattle.builder.proofs.Pushes.{pushed_is}
use Rattle.made.specs.Made.{Made, empty, style, group, cascade, Halves}

-- `after` is the memory that the call leaves: `builder::new`,
pub new_makes : (w after : List ℕ) → Push (empty_verdict w) w (emptied w) (Ok tt) after → Made after
new_makes w after p = let (z, e) = pushed_is p in rw e (empty w z)

module _ {w : List ℕ} (m : Made w) (after : List ℕ) where
  -- `push_style`,
  pub style_makes : (origin : ℕ) (properties kinds numbers : List ℕ) (n : ℕ) → Halves properties
      → Push (style_push_verdict w origin properties kinds numbers n) w (pushed_style w origin properties kinds numbers n) (Ok tt) after → Made after
  style_makes origin properties kinds numbers n u p = let (z, e) = pushed_is p in rw e (style m origin properties kinds numbers n u z)

  -- `push_rules` and `push_rule`,
  pub group_makes : (origin : ℕ) (g : Group) (n : ℕ) → Halves g.properties → Push (group_verdict w origin g n) w (pushed_group w origin g n) (Ok tt) after → Made after
  group_makes origin g n u p = let (z, e) = pushed_is p in rw e (group m origin g n u z)

  -- `push_cascade`
  pub cascade_makes : {v : List ℕ} → Made v → Push (cascade_verdict w v) w (pushed_cascade w v) (Ok tt) after → Made after
  cascade_makes k p = let (z, e) = pushed_is p in rw e (cascade m k z)

no_refusal : (w : List ℕ) → length w ≡ Layout.SHEET-WORDS → empty_verdict w ≡ 0
unfolding empty_verdict first_of
no_refusal w e = rw (le-ltb (length w) Layout.SHEET-WORDS (omega arith))

-- there are made sheets
pub some_made : Made (emptied (replicate Layout.SHEET-WORDS 0))
some_made = empty (replicate Layout.SHEET-WORDS 0) (no_refusal (replicate Layout.SHEET-WORDS 0) (length-replicate {A = ℕ} Layout.SHEET-WORDS 0))
