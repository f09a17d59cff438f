use Rattle.gather.proofs.Opening.{not_rules}
use Rattle.gather.specs.Memory.{kind_in}
use mathlib.Core.Path.{ap}
use Rattle.adding.proofs.Entries.{count_fits, count_none, count_one}
use Prim.Native.Nat.{◌+◌, ◌-◌, ◌*◌}
use native.Mathlib.Omega.{arith}
use Rattle.adding.proofs.held.count_entry.Goals as goal

pub returns-in_default : goal.returns-in_default
returns-in_default c = count_none _ _ _ (not_rules _ c.in_default.not-Rules)

pub overflow_sub-at : goal.overflow_sub-at
overflow_sub-at c =
    let u = c.requires.le_rules (ap kind_in c.in-Rules.is) in
    omega (arith, u.0)

pub overflow_add-word : goal.overflow_add-word
overflow_add-word c = count_fits _ _ c.word.ensures (c.requires.le_rules (ap kind_in c.in-Rules.is)).1

pub returns : goal.returns
returns c =
    count_one _ c.args.rules.now _ (3 * c.args.f.rules - 3 + 2) _ (ap kind_in c.in-Rules.is) c.word.ensures c.put.ensures
