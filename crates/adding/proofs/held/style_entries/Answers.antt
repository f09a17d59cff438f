use Rattle.gather.proofs.Opening.{not_direct}
use Rattle.gather.specs.Memory.{kind_in}
use mathlib.Core.Path.{ap}
use Rattle.adding.proofs.Entries.{entries_direct, entries_rule}
use native.Mathlib.Omega.{arith}
use Rattle.adding.proofs.held.style_entries.Goals as goal

pub returns-in-Direct : goal.returns-in-Direct
returns-in-Direct c = entries_direct _ _ _ (ap kind_in c.in-Direct.is)

pub overflow_sub-f : goal.overflow_sub-f
overflow_sub-f c =
    let u = c.requires.1 (not_direct _ c.in_default.not-Direct) in
    omega (arith, u)

pub returns : goal.returns
returns c = entries_rule _ _ _ _ _ (not_direct _ c.in_default.not-Direct) c.word.ensures c.wide.ensures
