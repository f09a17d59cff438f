-- The table in five lists that are lent to be read. Assumes nothing.
use Rattle.table.specs.declared.Table as Lent
use Rattle.table.specs.Tables.{Table, table}

abbrev pub lent : Lent.Table → Table
lent t = table t.head.now t.states.now t.cursors.now t.matched.now t.transitions.now
