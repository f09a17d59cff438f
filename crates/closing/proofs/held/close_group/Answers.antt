use mathlib.Core.Path.{sym}
use native.Mathlib.Omega.{arith}
use lib.Seq.{length-take-le}
use Rattle.gather.proofs.Opening.{steps_most, steps_room}
use Rattle.gather.proofs.Closing.{close_rules}
use Rattle.closing.proofs.held.close_group.Goals as goal

pub slice_bounds-push_rules-end : goal.slice_bounds-push_rules-end
slice_bounds-push_rules-end c =
    let s = c.requires.sound in
    sym (length-take-le _ _ (omega (arith, s.rules, s.room.rules)))

pub slice_bounds-push_rules-end-2 : goal.slice_bounds-push_rules-end-2
slice_bounds-push_rules-end-2 c =
    let s = c.requires.sound in
    sym (length-take-le _ _ (steps_room _ _ s))

pub slice_bounds-push_rules-end-3 : goal.slice_bounds-push_rules-end-3
slice_bounds-push_rules-end-3 c =
    let s = c.requires.sound in
    sym (length-take-le _ _ (omega (arith, s.combinators, s.room.combinators, steps_most _ _ s)))

pub slice_bounds-push_rules-end-4 : goal.slice_bounds-push_rules-end-4
slice_bounds-push_rules-end-4 c =
    let s = c.requires.sound in
    sym (length-take-le _ _ (omega (arith, s.entries, s.room.properties)))

pub slice_bounds-push_rules-end-5 : goal.slice_bounds-push_rules-end-5
slice_bounds-push_rules-end-5 c =
    let s = c.requires.sound in
    sym (length-take-le _ _ (omega (arith, s.entries, s.room.kinds)))

pub slice_bounds-push_rules-end-6 : goal.slice_bounds-push_rules-end-6
slice_bounds-push_rules-end-6 c =
    let s = c.requires.sound in
    sym (length-take-le _ _ (omega (arith, s.entries, s.room.numbers)))

pub returns : goal.returns
returns c =
    close_rules c.args.sheet.now _ _ c.requires.sound c.args.origin _ _ c.requires.sheet_value.1 c.push_rules.ensures
