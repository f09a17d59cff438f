use Rattle.gather.proofs.Closing.{close_nothing}
use Rattle.closing.proofs.held.close.Goals as goal

pub returns-in-Nothing : goal.returns-in-Nothing
returns-in-Nothing c = close_nothing c.args.sheet.now _ _ c.in-Nothing.is
