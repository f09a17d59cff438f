use mathlib.Core.Path.{sym}
use native.Mathlib.Omega.{arith}
use lib.Seq.{length-take-le}
use Rattle.gather.proofs.Closing.{close_direct}
use Rattle.closing.proofs.held.close_style.Goals as goal

pub slice_bounds-push_style-end : goal.slice_bounds-push_style-end
slice_bounds-push_style-end c =
    let s = c.requires.sound in
    sym (length-take-le _ _ (omega (arith, s.entries, s.room.properties)))

pub slice_bounds-push_style-end-2 : goal.slice_bounds-push_style-end-2
slice_bounds-push_style-end-2 c =
    let s = c.requires.sound in
    sym (length-take-le _ _ (omega (arith, s.entries, s.room.kinds)))

pub slice_bounds-push_style-end-3 : goal.slice_bounds-push_style-end-3
slice_bounds-push_style-end-3 c =
    let s = c.requires.sound in
    sym (length-take-le _ _ (omega (arith, s.entries, s.room.numbers)))

pub returns : goal.returns
returns c =
    close_direct c.args.sheet.now _ _ c.requires.sound c.args.origin _ _ c.requires.sheet_value.1 c.push_style.ensures
