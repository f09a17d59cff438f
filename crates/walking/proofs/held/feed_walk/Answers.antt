use mathlib.Core.Path.{refl, ◌∙◌}
use Rattle.walking.proofs.Walking.{going_start, going_step, step_less, going_fed, going_room, end_room, next_whole, next_past}
use Rattle.walking.proofs.held.feed_walk.Goals as goal

-- `walking::held::feed_walk` meets its contract. Assumes nothing.

pub loop-found-init : goal.loop-found-init
loop-found-init c =
    let p = c.requires in
    (going_start p.0 p.1, c.ahead-found.ensures, refl, refl, refl, refl, refl, refl, refl)

pub record_in-item-requires : goal.record_in-item-requires
record_in-item-requires c =
    let i = c.loop-found.invariant in
    let t = i.1.takes c.in-Whole.is in
    next_whole t.0 t.1

pub reply-answer-requires : goal.reply-answer-requires
reply-answer-requires c =
    let i = c.loop-found.invariant in
    let t = i.1.takes c.in-Whole.is in
    record { ready = i.0.far.ready; room = going_room i.0 t.0; narrow = c.record_in-item.ensures.1 }

pub past_reply-w-requires : goal.past_reply-w-requires
past_reply-w-requires c =
    let i = c.loop-found.invariant in
    let t = i.1.takes c.in-Whole.is in
    next_past t.0 t.1 c.record_in-item.ensures.0 c.well_formed.0.0

pub loop-found-smaller : goal.loop-found-smaller
loop-found-smaller c =
    let i = c.loop-found.invariant in
    let t = i.1.takes c.in-Whole.is in
    step_less i.0 t.0 t.1 c.record_in-item.ensures.0 c.reply-answer.ensures c.past_reply-w.ensures

pub loop-found-preserved : goal.loop-found-preserved
loop-found-preserved c =
    let i = c.loop-found.invariant in
    let t = i.1.takes c.in-Whole.is in (
      going_step i.0 t.0 t.1 c.record_in-item.ensures.0 c.reply-answer.ensures c.past_reply-w.ensures,
      c.ahead-found-in-Whole.ensures,
      c.head-1.given ∙ i.2,
      c.states-1.given ∙ i.3,
      c.cursors-1.given ∙ i.4,
      c.matched-1.given ∙ i.5,
      c.transitions-1.given ∙ i.6,
      c.items-1.given ∙ i.7,
      c.out-1.given ∙ i.8,
    )

pub end-requires : goal.end-requires
end-requires c = end_room c.loop-found.invariant.0 c.loop-found.invariant.1

pub returns : goal.returns
returns c =
    let i = c.loop-found.invariant in
    going_fed i.0 i.1 c.in_default.not-Whole c.end.ensures
