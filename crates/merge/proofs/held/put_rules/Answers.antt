use mathlib.Core.Path.{refl}
use Rattle.merge.proofs.Storing.{pool_asked, rules_laid}
use Rattle.merge.proofs.held.put_rules.Goals as goal

pub put_pool-requires : goal.put_pool-requires
put_pool-requires c = pool_asked _ _ c.args.a.other.in_shape c.word.ensures

pub returns : goal.returns
returns c =
    rules_laid c.args.a.c _ c.args.sheet.now _ _ _ c.args.a.other.in_shape _ _ c.word.ensures c.put_pool.ensures refl c.put_held_steps.ensures c.put_held_rules.ensures
