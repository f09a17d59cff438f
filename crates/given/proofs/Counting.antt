-- Laws of the ids that a selector holds, and of a sheet's counts. Assumes nothing.
use mathlib.Core.Path.{◌≡◌, sym, ◌∙◌}
use mathlib.Core.List.{List, []}
use Prim.Native.Nat.{ℕ, ◌+◌}
use native.Mathlib.Omega.{arith}
use Rattle.theory.specs.Lists.{total}
use Rattle.theory.proofs.Spreads.{map_spread}
use Rattle.selector.specs.declared.Specificity.{Specificity}
use Rattle.selector.specs.Rows.{comb_before, step_at, selector_of}
use Rattle.selector.specs.Weighing.{counts_of, counts_in, Summed}
use Rattle.sheet.specs.Sheets.{counts_for}
use Rattle.sheet.specs.Laying.{ids_held}
use Rattle.sheet.proofs.Shaped.{Shaped}
use Rattle.given.specs.declared.Counts.{Counts}
use Rattle.given.specs.Leaves.{CountsOf, Within, Ids}

-- the counts of a selector are those of its rows, whatever its combinators
pub counts_for_lem : (steps combinators : List ℕ) (n : ℕ) → counts_for (selector_of steps combinators n) ≡ counts_in steps n
unfolding selector_of counts_in
counts_for_lem steps combinators n = map_spread (λ p. counts_of p.step) (λ k. record { comb = comb_before combinators k; step = step_at steps k }) 0 n

pub ids_counted : (steps combinators : List ℕ) (n : ℕ) → ids_held (selector_of steps combinators n) ≡ total (λ c. c.classes) (counts_in steps n) + total (λ c. c.pseudos) (counts_in steps n)
unfolding ids_held
ids_counted steps combinators n = rw (counts_for_lem steps combinators n)

pub ids_untied : (steps c d : List ℕ) (n : ℕ) → ids_held (selector_of steps c n) ≡ ids_held (selector_of steps d n)
ids_untied steps c d n = ids_counted steps c n ∙ sym (ids_counted steps d n)

-- the sum of what was counted
pub ids_summed : (steps : List ℕ) (n : ℕ) (s : Specificity) (a b : ℕ) → Summed (counts_in steps n) s → a ≡ s.1 → b ≡ s.0 → Ids steps n (a + b)
ids_summed steps n s a b h e f = record { same = rw (e, f, h.classes, h.pseudos) (sym (ids_counted steps [] n)); few = omega (arith, h.classes_few, h.pseudos_few) }

-- the counts of a shaped sheet
pub counts_within : {w : List ℕ} {c : Counts} → CountsOf w c → Shaped w → Within c
counts_within h s = record {
  rules = omega (arith, h.rules, s.rules);
  steps = omega (arith, h.steps, s.steps);
  ids = omega (arith, h.ids, s.ids);
  entries = omega (arith, h.entries, s.entries);
  styles = omega (arith, h.styles, s.styles);
  style_entries_lem = omega (arith, h.style_entries_lem, s.style_entries_lem);
  next = omega (arith, h.next, s.next);
}
