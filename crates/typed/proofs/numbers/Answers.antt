use lib.ListN.{length-replicate}
use Rattle.std.proofs.Common.{refl, ap, ◌∙◌, ◌≢◌, ◌<◌, length, arith, below_more, get_or-set_other, get_or-set_same, length-set}
use Rattle.std.proofs.lemmas.List.{get_or_default}
use Rattle.typed.proofs.Laws.{spelled}
use Rattle.typed.proofs.numbers.Goals as goal

pub loop-k-init : goal.loop-k-init
loop-k-init g c = (rw length-replicate refl, λ j h. absurd (omega arith))

pub loop-k-preserved : goal.loop-k-preserved
loop-k-preserved g c =
    let (n, held) = c.loop-k.invariant in
    let e = c.type_inv.id-items in
    let lt : c.loop-k.k < length c.args.ids = omega arith in (
      simp length-set n,
      below_more _ _
          (λ j h. let ne : j ≢ c.loop-k.k = omega arith in rw get_or-set_other (held j h))
          (let there : c.loop-k.k < length c.loop-k.words = omega arith in rw get_or-set_same (c.number.ensures ∙ ap g.T.Tag.value (get_or_default c.args.ids c.loop-k.k _ _ lt))),
    )

pub returns : goal.returns
returns g c = let (n, held) = c.loop-k.invariant in spelled _ 0 _ _ n (λ k h. held k (omega arith))
