-- Winners and changes as one number, where one stands for every refusal. Assumes nothing.
use Rattle.std.specs.Prelude.{cond, List, ℕ, ◌+◌, eqb, length, Result, Ok, Err, Option as Optional, Some, None}
use Rattle.std.proofs.Math.Option.{Option, none, some}
use Rattle.std.proofs.lemmas.List.Edits.{sets}
use Rattle.lent.specs.declared.Refusal.{Refusal}
use Rattle.table.specs.Tables.{Table}
use Rattle.table.specs.Calls.{state_verdict}
use Rattle.winners.specs.Winners.{Place, style, rule}
use Rattle.winners.specs.Best.{place_in}
use Rattle.winners.specs.declared.Best.{Best}
use Rattle.looking.specs.declared.StyleSourceRef.{StyleSourceRef}
use Rattle.looking.specs.declared.StyleSourceRef.TheVariants as source
use Rattle.looking.specs.Calls.{winner_in}
use Rattle.cascade.specs.Calls.{changed_in, changed_verdict}
use Rattle.bench.specs.Numbers.{REFUSED, Outcome}

-- no source: no rule has this number
abbrev pub NOBODY : ℕ
NOBODY = 65537

-- the first direct style; rules have their own numbers, which are below
abbrev pub DIRECT : ℕ
DIRECT = 131072

abbrev pub place_number : Option Place → ℕ
place_number none = NOBODY
place_number (some (style d)) = DIRECT + d
place_number (some (rule r)) = r

abbrev pub best_number : Optional Best → ℕ
best_number b = place_number (place_in b)

abbrev pub winning_number : Result (Optional StyleSourceRef) Refusal → ℕ
winning_number (Ok None) = NOBODY
winning_number (Ok (Some (source.Direct d index))) = DIRECT + d
winning_number (Ok (Some (source.Rule r index))) = r
winning_number (Err r) = REFUSED

abbrev pub changing_number : Result ℕ Refusal → ℕ
changing_number (Ok n) = n
changing_number (Err r) = REFUSED

module _ (w : List ℕ) (t : Table) where
  -- the winner of a property in a state, unless the state is refused
  abbrev pub winner_number : ℕ → ℕ → ℕ → ℕ
  winner_number number stamp property = cond (eqb (state_verdict w t number stamp) 0) (place_number (winner_in w t number property)) REFUSED

  -- the properties that change, in front of a buffer; how many there are
  abbrev pub Changes : ℕ → ℕ → ℕ → ℕ → List ℕ → ℕ → List ℕ → Type 0
  Changes old oldStamp new newStamp before r after =
      Outcome (changed_verdict w t old oldStamp new newStamp before) (length (changed_in w t old new)) before (sets before 0 (changed_in w t old new)) r after
