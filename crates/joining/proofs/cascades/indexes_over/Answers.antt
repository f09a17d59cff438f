use borrow.Author.Rules.{rules}
use Rattle.joining.proofs.Largest.{over_none, over_some}
use Rattle.joining.proofs.cascades.indexes_over.Goals as goal

-- src/cascades.rt:89:8

-- src/cascades.rt:90:9

-- src/cascades.rt:92:18

-- src/cascades.rt:92:13

-- src/cascades.rt:92:59

-- src/cascades.rt:92:54

-- src/cascades.rt:92:13

-- src/cascades.rt:86:1

pub returns-then-is_bare : goal.returns-then-is_bare
returns-then-is_bare c = search (over_none, rules)

pub returns : goal.returns
returns c = search (over_some, rules)
