use mathlib.Core.Path.{refl}
use borrow.Author.Rules.{rules}
use Rattle.table.proofs.Roots.{held_within}
use Rattle.cascade.proofs.Verdicts.{pair_passed, pair_refused, pair_told}
use Rattle.cascade.proofs.Written.{held_part, channels_held}
use Rattle.cascade.proofs.change.changed_channels.Goals as goal

pub returns-in_err-check_pair : goal.returns-in_err-check_pair
returns-in_err-check_pair c = search (pair_refused, rules)

pub invariant_of-sheet : goal.invariant_of-sheet
invariant_of-sheet c =
    let asked = pair_passed _ _ _ _ _ _ _ _ _ _ _ c.in_ok-check_pair.ensures refl in record { in_shape = asked.0.0 }

pub changed_properties-n-requires : goal.changed_properties-n-requires
changed_properties-n-requires c =
    let asked = pair_passed _ _ _ _ _ _ _ _ _ _ _ c.in_ok-check_pair.ensures refl in record { sheet_value = asked.0.1; bound = asked.1 }

pub slice_bounds-list-end : goal.slice_bounds-list-end
slice_bounds-list-end c = search (held_within, rules)

pub slice_bounds-affected_channels-end : goal.slice_bounds-affected_channels-end
slice_bounds-affected_channels-end c = search (held_part, rules)

pub returns : goal.returns
returns c = search (pair_told, channels_held, rules)
