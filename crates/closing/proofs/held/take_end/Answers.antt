use native.Mathlib.Omega.{arith}
use mathlib.Core.Path.{refl}
use Rattle.gather.proofs.Closing.{newly_nothing, closes_refused, closes_opened}
use borrow.Author.Rules.{rules}
use Rattle.closing.proofs.held.take_end.Goals as goal

pub returns-in_err-close : goal.returns-in_err-close
returns-in_err-close c = closes_refused c.args.sheet.now _ _ c.requires.sound c.requires.sheet_value _ _ _ refl _ _ (search rules) c.in_err-close.ensures

pub returns : goal.returns
returns c =
    closes_opened c.args.sheet.now _ _ c.requires.sound c.requires.sheet_value _ _ _ refl (λ k. omega (arith, c.shared_slice_known-4-1.given k)) c.in_ok-close.ensures _ _ (newly_nothing _) c.opened.ensures
