-- One more source after those seen. For contracts within and cores alone. Assumes nothing.
use Rattle.std.specs.Prelude.{List, [], ◌∷◌, ◌++◌, ℕ, Option}
use Rattle.theory.specs.Cascade.{winner}
use Rattle.winners.specs.declared.Best.{Best}
use Rattle.winners.specs.Winners.{Place, key_at, holds_at}
use Rattle.winners.specs.Best.{Stands}

-- where b is the winner of some sources, c is that of these and then s
abbrev pub Next : List ℕ → ℕ → ℕ → Place → Option Best → Option Best → Type 0
Next w ranking p s b c = (l : List Place)
    → Stands w ranking p (winner (key_at w ranking) (holds_at w) l p) b
    → Stands w ranking p (winner (key_at w ranking) (holds_at w) (l ++ s ∷ []) p) c
