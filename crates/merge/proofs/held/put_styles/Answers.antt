use Rattle.merge.proofs.Storing.{style_pool_asked, styles_laid}
use Rattle.merge.proofs.held.put_styles.Goals as goal

pub put_pool-requires : goal.put_pool-requires
put_pool-requires c = style_pool_asked _ _ c.args.a.other.in_shape c.word.ensures

pub returns : goal.returns
returns c =
    styles_laid c.args.a.c _ c.args.sheet.now _ _ _ c.args.a.other.in_shape c.word.ensures c.put_pool.ensures c.put_held_styles.ensures
