-- What a style that is not refused keeps to. Assumes nothing.
use mathlib.Core.Path.{◌≡◌, refl, sym}
use mathlib.Core.Bool.{true, false}
use mathlib.Core.List.{List, [], ◌∷◌}
use Prim.Native.Nat.{ℕ, zero, suc, ◌≤◌, ◌<◌}
use native.Mathlib.Omega.{arith}
use lib.ListN.{length, get_or, take}
use lib.Dec.{leb}
use borrow.Author.Tests.{leb-true, not-false}
use Rattle.theory.specs.Lists.{at_most}
use Rattle.theory.proofs.Lists.{and_left, and_right}
use Rattle.lent.proofs.Refusals.{first_clear}
use Rattle.style.specs.Checks.{entries_over, kinds_over, properties_off, style_verdict}
use Rattle.style.proofs.CheckLaws.{Within, within}

-- each of the first n kinds is at most 3
at_most_at : (limit : ℕ) (l : List ℕ) (n k : ℕ) → at_most limit (take n l) ≡ true → k < n → k < length l → get_or l k 0 ≤ limit
unfolding at_most
at_most_at limit l zero k e h g = absurd (omega arith)
at_most_at limit [] (suc n) k e h g = absurd (omega arith)
at_most_at limit (a ∷ l) (suc n) zero e h g = leb-true a limit (and_left _ _ e)
at_most_at limit (a ∷ l) (suc n) (suc k) e h g = at_most_at limit l n k (and_right (leb a limit) _ e) (omega arith) (omega arith)

pub kind_few : (kinds : List ℕ) (n k : ℕ) → kinds_over kinds n ≡ false → k < n → n ≤ length kinds → get_or kinds k 0 ≤ 3
unfolding kinds_over
kind_few kinds n k e h g = at_most_at 3 kinds n k (not-false _ e) h (omega arith)

-- what a style that is not refused keeps to
pub record Accepted (properties kinds numbers : List ℕ) (n : ℕ) : Type 0 where
  pub counted : Within properties kinds numbers n
  pub kinds_in : kinds_over kinds n ≡ false
  pub sorted : properties_off properties n ≡ false

module _ (properties kinds numbers : List ℕ) (n : ℕ) where
  pub accepted : 0 ≡ style_verdict properties kinds numbers n → Accepted properties kinds numbers n
  unfolding style_verdict
  accepted e =
      let (a, r) = first_clear 2 (entries_over properties kinds numbers n) _ (omega arith) (sym e) in
      let (b, s) = first_clear 6 (kinds_over kinds n) _ (omega arith) r in
      record {
        counted = within properties kinds numbers n _ refl a;
        kinds_in = b;
        sorted = (first_clear 1 (properties_off properties n) [] (omega arith) s).0;
      }
