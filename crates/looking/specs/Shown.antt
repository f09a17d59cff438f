-- What is found in a state that may be none of the table's. For contracts within alone. Assumes nothing.
use Rattle.std.specs.Prelude.{◌≡◌, List, ℕ, Result, Ok, Err, Option}
use Rattle.lent.specs.Refusals.{number_of}
use Rattle.lent.specs.declared.Refusal.{Refusal}
use Rattle.table.specs.Tables.{Table}
use Rattle.table.specs.Calls.{state_verdict}
use Rattle.winners.specs.Best.{Finds}
use Rattle.winners.specs.declared.Found.{Found}
use Rattle.looking.specs.Calls.{entry_in}

-- the state's refusal, or the winner's entry of property p in an accepted state
abbrev pub Shows : List ℕ → Table → ℕ → ℕ → ℕ → Result (Option Found) Refusal → Type 0
Shows w t k stamp p (Ok f) = (0 ≡ state_verdict w t k stamp) × Finds (entry_in w t k p) f
Shows w t k stamp p (Err r) = number_of r ≡ state_verdict w t k stamp
