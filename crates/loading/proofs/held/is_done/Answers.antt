use mathlib.Core.Bool.{true≢false}
use Rattle.house.proofs.Stages.{stage_awaits}
use Rattle.loading.proofs.held.is_done.Goals as goal

-- `loading::held::is_done` meets its contract. Assumes nothing.

pub returns-in-Stopped : goal.returns-in-Stopped
returns-in-Stopped c = λ e. absurd (true≢false e)

pub returns-in-Unbegun : goal.returns-in-Unbegun
returns-in-Unbegun c = λ _. stage_awaits c.in-Unbegun.is
