use mathlib.Core.Path.{refl}
use borrow.Author.Rules.{rules}
use Rattle.replies.proofs.Replying.{told_few, told_changing, told_winning, tells_refused, tells_entered, tells_changed, tells_winner, tells_nothing}
use Rattle.replies.proofs.held.tell.Goals as goal

-- `replies::held::tell` meets its contract. Assumes nothing.

pub returns-in-Err : goal.returns-in-Err
returns-in-Err c = tells_refused _ _ _ _ _ _ c.in-Err.is c.number.ensures c.refused.ensures

pub state-requires : goal.state-requires
state-requires c = search (told_few, rules)

pub tell_changed-requires : goal.tell_changed-requires
tell_changed-requires c =
    record { covered = told_changing c.requires.tellable _ _ refl refl (search rules) (search rules); room = c.requires.room }

pub tell_winner-requires : goal.tell_winner-requires
tell_winner-requires c =
    record { covered = told_winning c.requires.tellable _ _ refl refl (search rules) (search rules); room = c.requires.room }

pub returns-in-Ok-Some : goal.returns-in-Ok-Some
returns-in-Ok-Some c = tells_entered _ _ _ _ _ _ c.in-Ok-Some.is (search rules) c.matching_rules.ensures c.state.ensures

pub returns-in-11 : goal.returns-in-11
returns-in-11 c = tells_changed _ _ _ _ _ _ c.in-Ok-None.is (search rules) c.in-11.is c.tell_changed.ensures

pub returns-in-12 : goal.returns-in-12
returns-in-12 c = tells_winner _ _ _ _ _ _ c.in-Ok-None.is (search rules) c.in-12.is c.tell_winner.ensures

pub returns-in_default : goal.returns-in_default
returns-in_default c = tells_nothing _ _ _ _ _ _ c.in-Ok-None.is (search rules) (search rules) (search rules)
