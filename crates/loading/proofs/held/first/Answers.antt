use mathlib.Core.Path.{refl}
use Rattle.house.proofs.Starting.{start_before}
use Rattle.loading.proofs.held.first.Goals as goal

-- `loading::held::first` meets its contract. Assumes nothing.

pub returns : goal.returns
returns c = (refl, rw c.opened.ensures start_before)
