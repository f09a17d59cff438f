use borrow.Author.Rules.{rules}
use Rattle.builder.proofs.Pushes.{style_refused, style_pushed}
use Rattle.builder.proofs.push_style.Goals as goal

pub returns-in_err-check_style : goal.returns-in_err-check_style
returns-in_err-check_style c = search (style_refused, rules)

pub returns : goal.returns
returns c = search (style_pushed, c.in_ok-check_style.ensures, rules)
