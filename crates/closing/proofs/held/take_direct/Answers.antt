use mathlib.Core.Path.{refl, ◌∙◌}
use native.Mathlib.Omega.{arith}
use Rattle.sheet.proofs.Shaped.{shaped}
use Rattle.gather.proofs.Closing.{newly_direct, closes_faulty, closes_refused, closes_opened, style_one, direct_origin, direct_over, direct_fine}
use Rattle.gather.specs.Memory.{kind_in}
use borrow.Author.Rules.{rules}
use Rattle.closing.proofs.held.take_direct.Goals as goal

pub returns-then-origin-gt7 : goal.returns-then-origin-gt7
returns-then-origin-gt7 c = closes_faulty c.args.sheet.now _ _ c.requires.sound c.requires.sheet_value _ _ _ (direct_origin c.args.sheet.now _ _ c.requires.sound c.args.origin c.if-origin-gt7.true) refl

pub overflow_add-wide : goal.overflow_add-wide
overflow_add-wide c =
    let few = (shaped c.args.sheet.now c.requires.sheet_value).styles in
    let u = c.wide.ensures ∙ c.word.ensures in
    let one = style_one (kind_in c.args.f.opening) _ c.open_styles.ensures in
    omega arith

pub returns-then-wide-open_styles-ge64 : goal.returns-then-wide-open_styles-ge64
returns-then-wide-open_styles-ge64 c =
    closes_faulty c.args.sheet.now _ _ c.requires.sound c.requires.sheet_value _ _ _ (direct_over c.args.sheet.now _ _ c.requires.sound c.args.origin c.if-origin-gt7.false _ _ (c.wide.ensures ∙ c.word.ensures) c.open_styles.ensures c.if-wide-open_styles-ge64.true) refl

pub returns-in_err-close : goal.returns-in_err-close
returns-in_err-close c =
    closes_refused c.args.sheet.now _ _ c.requires.sound c.requires.sheet_value _ _ _ (direct_fine c.args.sheet.now _ _ c.requires.sound c.args.origin c.if-origin-gt7.false _ _ (c.wide.ensures ∙ c.word.ensures) c.open_styles.ensures c.if-wide-open_styles-ge64.false) _ _ (search rules) c.in_err-close.ensures

pub returns : goal.returns
returns c =
    closes_opened c.args.sheet.now _ _ c.requires.sound c.requires.sheet_value _ _ _ (direct_fine c.args.sheet.now _ _ c.requires.sound c.args.origin c.if-origin-gt7.false _ _ (c.wide.ensures ∙ c.word.ensures) c.open_styles.ensures c.if-wide-open_styles-ge64.false) (λ k. omega (arith, c.shared_slice_known-4-1.given k)) c.in_ok-close.ensures _ _ (newly_direct c.args.origin _) c.opened.ensures
