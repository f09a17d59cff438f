-- What a table's states win: 01, "Weight, winners, changes". The refusals are those of the matched list. Assumes nothing.
use Rattle.std.proofs.Math.Option.{Option}
use Rattle.std.specs.Prelude.{List, ℕ}
use Rattle.style.specs.Entries.{Entry}
use Rattle.table.specs.Tables.{Table, ranking_in, matched_at}
use Rattle.winners.specs.Winners.{Place, winner_of, entry_of}

-- ---- in the state that has number k; the ranking that the table was built with picks the weight

abbrev pub rules_at : Table → ℕ → List ℕ
rules_at t k = matched_at t.states t.matched k

-- the winner of property p
abbrev pub winner_in : List ℕ → Table → ℕ → ℕ → Option Place
winner_in w t k p = winner_of w (ranking_in t.head) (rules_at t k) p

-- its entry
abbrev pub entry_in : List ℕ → Table → ℕ → ℕ → Option Entry
entry_in w t k p = entry_of w (winner_in w t k p) p
