use Rattle.merge.proofs.Storing.{lay_none, style_next, styles_end}
use borrow.Author.Rules.{rules}
use Rattle.merge.proofs.held.put_held_styles.Goals as goal

pub loop-k-init : goal.loop-k-init
loop-k-init c = lay_none

pub loop-k-preserved : goal.loop-k-preserved
loop-k-preserved c = search (style_next, rules)

pub returns : goal.returns
returns c = search (styles_end, rules)
