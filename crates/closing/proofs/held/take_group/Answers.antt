use mathlib.Core.Path.{refl}
use native.Mathlib.Omega.{arith}
use Rattle.gather.proofs.Closing.{newly_rules, closes_faulty, closes_refused, closes_opened, group_origin, group_fine}
use borrow.Author.Rules.{rules}
use Rattle.closing.proofs.held.take_group.Goals as goal

pub returns-then-origin-gt7 : goal.returns-then-origin-gt7
returns-then-origin-gt7 c = closes_faulty c.args.sheet.now _ _ c.requires.sound c.requires.sheet_value _ _ _ (group_origin c.args.origin c.if-origin-gt7.true) refl

pub returns-in_err-close : goal.returns-in_err-close
returns-in_err-close c =
    closes_refused c.args.sheet.now _ _ c.requires.sound c.requires.sheet_value _ _ _ (group_fine c.args.origin c.if-origin-gt7.false) _ _ (search rules) c.in_err-close.ensures

pub returns : goal.returns
returns c =
    closes_opened c.args.sheet.now _ _ c.requires.sound c.requires.sheet_value _ _ _ (group_fine c.args.origin c.if-origin-gt7.false) (λ k. omega (arith, c.shared_slice_known-4-1.given k)) c.in_ok-close.ensures _ _ (newly_rules c.args.origin _) c.opened.ensures
