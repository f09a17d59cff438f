use borrow.Author.Rules.{rules}
use Rattle.admit.proofs.Ladders.{style_origin, style_over, style_form, style_index, style_formable}
use Rattle.admit.proofs.held.check_style.Goals as goal

pub returns-then-origin-gt7 : goal.returns-then-origin-gt7
returns-then-origin-gt7 c = search (style_origin, rules)

pub returns-in_err-check_style_sizes : goal.returns-in_err-check_style_sizes
returns-in_err-check_style_sizes c = search (style_over, rules)

pub check_form-requires : goal.check_form-requires
check_form-requires c = style_formable _ _ _ _ _ _ c.in_ok-check_style_sizes.ensures

pub returns-in_err-check_form : goal.returns-in_err-check_form
returns-in_err-check_form c = search (style_form, c.in_ok-check_style_sizes.ensures, rules)

pub returns : goal.returns
returns c = search (style_index, c.in_ok-check_style_sizes.ensures, c.in_ok-check_form.ensures, rules)
