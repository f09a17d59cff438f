use Rattle.lent.proofs.Refusals.{of_is, above, past, of_rest}
use Rattle.lent.proofs.RefusalFromU32.from.Goals as goal

-- `lent::Refusal::of` meets its contract: a law for the numbers of the table, one for all others. Assumes nothing.

pub returns-in-1 : goal.returns-in-1
returns-in-1 c = of_is _ 1 c.in-1.is

pub returns-in-2 : goal.returns-in-2
returns-in-2 c = of_is _ 2 c.in-2.is

pub returns-in-3 : goal.returns-in-3
returns-in-3 c = of_is _ 3 c.in-3.is

pub returns-in-4 : goal.returns-in-4
returns-in-4 c = of_is _ 4 c.in-4.is

pub returns-in-5 : goal.returns-in-5
returns-in-5 c = of_is _ 5 c.in-5.is

pub returns-in-6 : goal.returns-in-6
returns-in-6 c = of_is _ 6 c.in-6.is

pub returns-in-7 : goal.returns-in-7
returns-in-7 c = of_is _ 7 c.in-7.is

pub returns-in-8 : goal.returns-in-8
returns-in-8 c = of_is _ 8 c.in-8.is

pub returns-in-9 : goal.returns-in-9
returns-in-9 c = of_is _ 9 c.in-9.is

pub returns-in-10 : goal.returns-in-10
returns-in-10 c = of_is _ 10 c.in-10.is

pub returns-in_default : goal.returns-in_default
returns-in_default c =
    let r = c.in_default.in_default-own.rest in
    of_rest _
    (past (past (past (past (past (past (past (past (past (past (above _) r.0.0.0.0.0.0.0.0.0.1) r.0.0.0.0.0.0.0.0.1) r.0.0.0.0.0.0.0.1) r.0.0.0.0.0.0.1) r.0.0.0.0.0.1) r.0.0.0.0.1) r.0.0.0.1) r.0.0.1) r.0.1) r.1)
