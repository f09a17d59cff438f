use mathlib.Core.Path.{refl}
use native.Mathlib.Omega.{arith}
use borrow.Author.Rules.{rules}
use Rattle.table.proofs.Roots.{held_within}
use Rattle.cascade.proofs.Verdicts.{pair_passed}
use Rattle.cascade.proofs.Written.{held_part, changed_refused, changed_kept, changed_short, changed_listed}
use Rattle.cascade.proofs.change.changed_properties.Goals as goal

pub returns-in_err-check_pair : goal.returns-in_err-check_pair
returns-in_err-check_pair c = record { answer = search (changed_refused, rules); memory = changed_kept _ _ _ _ _ _ _ _ _ _ _ _ c.in_err-check_pair.ensures }

pub invariant_of-sheet : goal.invariant_of-sheet
invariant_of-sheet c =
    let asked = pair_passed _ _ _ _ _ _ _ _ _ _ _ c.in_ok-check_pair.ensures refl in record { in_shape = asked.0.0 }

pub changed_properties-n-requires : goal.changed_properties-n-requires
changed_properties-n-requires c =
    let asked = pair_passed _ _ _ _ _ _ _ _ _ _ _ c.in_ok-check_pair.ensures refl in record { sheet_value = asked.0.1; bound = asked.1 }

pub returns-then-out-n : goal.returns-then-out-n
returns-then-out-n c = changed_short _ _ _ _ _ _ _ _ _ _ _ c.in_ok-check_pair.ensures _ _ _ c.changed_properties-n.ensures (omega arith)

pub slice_bounds-list-end : goal.slice_bounds-list-end
slice_bounds-list-end c = search (held_within, rules)

pub slice_bounds-copy_into-end : goal.slice_bounds-copy_into-end
slice_bounds-copy_into-end c = search (held_part, rules)

pub returns : goal.returns
returns c = changed_listed _ _ _ _ _ _ _ _ _ _ _ c.in_ok-check_pair.ensures _ _ _ c.changed_properties-n.ensures (omega arith) _ c.copy_into.ensures
