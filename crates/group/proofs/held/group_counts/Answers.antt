use native.Mathlib.Omega.{arith}
use Rattle.group.proofs.Writing.{steps_asks, steps_fit_lem, steps_sum_fit, entry_sum_fits, entries_sum_fit, ids_fit_lem, ids_sum_fit, next_fits_lem, counts_after}
use Rattle.group.proofs.held.group_counts.Goals as goal

pub third_sum-step_total-requires : goal.third_sum-step_total-requires
third_sum-step_total-requires c = steps_asks c.args.g.within (omega arith) c.args.g.selectors c.args.g.entries

pub overflow_cast-result-2 : goal.overflow_cast-result-2
overflow_cast-result-2 c = steps_fit_lem c.args.g.within (omega arith) c.args.g.selectors c.args.g.entries _ c.third_sum-step_total.ensures

pub overflow_add-result-2 : goal.overflow_add-result-2
overflow_add-result-2 c = steps_sum_fit c.args.g.within (omega arith) c.args.g.selectors c.args.g.entries _ c.third_sum-step_total.ensures

pub overflow_cast-result-3 : goal.overflow_cast-result-3
overflow_cast-result-3 c = ids_fit_lem c.args.g.within (omega arith) c.args.g.selectors c.args.g.entries _ c.id_sum-id_total.ensures

pub overflow_add-result-3 : goal.overflow_add-result-3
overflow_add-result-3 c = ids_sum_fit c.args.g.within (omega arith) c.args.g.selectors c.args.g.entries _ c.id_sum-id_total.ensures

pub overflow_cast-result-4 : goal.overflow_cast-result-4
overflow_cast-result-4 c = entry_sum_fits c.args.g.within (omega arith) c.args.g.selectors c.args.g.entries _ c.third_sum-entry_total.ensures

pub overflow_add-result-4 : goal.overflow_add-result-4
overflow_add-result-4 c = entries_sum_fit c.args.g.within (omega arith) c.args.g.selectors c.args.g.entries _ c.third_sum-entry_total.ensures

pub overflow_add-result-5 : goal.overflow_add-result-5
overflow_add-result-5 c = next_fits_lem c.args.g.within (omega arith) c.args.g.selectors c.args.g.entries

pub returns : goal.returns
returns c = counts_after c.args.g.within (omega arith) c.args.g.selectors c.args.g.entries _ _ _ c.third_sum-step_total.ensures c.third_sum-entry_total.ensures c.id_sum-id_total.ensures
