use Prim.Native.Nat.{ℕ}
use native.Mathlib.Omega.{arith}
use lib.ListN.{length-replicate}
use borrow.Author.Rules.{rules}
use Rattle.changes.proofs.Room.{listed_count, listed_asks, listed_changed}
use Rattle.changes.proofs.held.changed.Goals as goal

pub gather-n-requires : goal.gather-n-requires
gather-n-requires c = let p = c.requires in record { are_rules = p.are_rules; value = p.value; in_bounds = omega (arith, length-replicate {A = ℕ} 4096 0) }

pub slice_bounds-pick-end : goal.slice_bounds-pick-end
slice_bounds-pick-end c = listed_count c.gather-n.ensures

pub pick-requires : goal.pick-requires
pick-requires c =
    let p = c.requires in
    record { sheet_value = p.sheet_value; are_rules = p.are_rules; ids_in_bounds = listed_asks c.args.sheet.in_shape p.are_rules c.gather-n.ensures (search (c.words-1.given, rules)) }

pub returns : goal.returns
returns c =
    let p = c.requires in
    listed_changed c.args.sheet.in_shape p.are_rules c.gather-n.ensures _ c.pick.ensures
