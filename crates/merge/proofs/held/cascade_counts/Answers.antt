use native.Mathlib.Omega.{arith}
use Rattle.sheet.proofs.Shaped.{shaped}
use Rattle.given.proofs.Counting.{counts_within}
use Rattle.merge.proofs.Storing.{counts_added}
use Rattle.merge.proofs.held.cascade_counts.Goals as goal

pub overflow_add-result : goal.overflow_add-result
overflow_add-result c =
    let w = c.args.a.within in
    let o = counts_within c.counts-o.ensures (shaped _ c.args.a.other.in_shape) in
    record { fits = omega (arith, w.rules, o.rules) }

pub overflow_add-result-2 : goal.overflow_add-result-2
overflow_add-result-2 c =
    let w = c.args.a.within in
    let o = counts_within c.counts-o.ensures (shaped _ c.args.a.other.in_shape) in
    record { fits = omega (arith, w.steps, o.steps) }

pub overflow_add-result-3 : goal.overflow_add-result-3
overflow_add-result-3 c =
    let w = c.args.a.within in
    let o = counts_within c.counts-o.ensures (shaped _ c.args.a.other.in_shape) in
    record { fits = omega (arith, w.ids, o.ids) }

pub overflow_add-result-4 : goal.overflow_add-result-4
overflow_add-result-4 c =
    let w = c.args.a.within in
    let o = counts_within c.counts-o.ensures (shaped _ c.args.a.other.in_shape) in
    record { fits = omega (arith, w.entries, o.entries) }

pub overflow_add-result-5 : goal.overflow_add-result-5
overflow_add-result-5 c =
    let w = c.args.a.within in
    let o = counts_within c.counts-o.ensures (shaped _ c.args.a.other.in_shape) in
    record { fits = omega (arith, w.styles, o.styles) }

pub overflow_add-result-6 : goal.overflow_add-result-6
overflow_add-result-6 c =
    let w = c.args.a.within in
    let o = counts_within c.counts-o.ensures (shaped _ c.args.a.other.in_shape) in
    record { fits = omega (arith, w.style_entries_lem, o.style_entries_lem) }

pub returns : goal.returns
returns c = counts_added _ _ _ _ c.counts-o.ensures c.next_after.ensures
