use native.Mathlib.Omega.{arith}
use borrow.Author.Rules.{rules}
use Rattle.matcher.proofs.Listed.{part_starts, part_ends, rules_found}
use Rattle.matcher.proofs.rules.matching_rules.Goals as goal

pub slice_bounds-result-count-2 : goal.slice_bounds-result-count-2
slice_bounds-result-count-2 c = search (part_starts, rules)

pub slice_bounds-result-start-2 : goal.slice_bounds-result-start-2
slice_bounds-result-start-2 c = search (part_starts, rules)

pub slice_bounds-result-end-2 : goal.slice_bounds-result-end-2
slice_bounds-result-end-2 c = part_ends _ _ _ _ c.in-Ok.ensures _ _ _ _ c.wide-from.ensures c.start_of.ensures c.wide-to.ensures c.cell.ensures

pub returns : goal.returns
returns c = rules_found _ _ _ _ c.in-Ok.ensures _ _ _ _ c.wide-from.ensures c.start_of.ensures c.wide-to.ensures c.cell.ensures _ _ (search rules) (search rules) (omega arith)
