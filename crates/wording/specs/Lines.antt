-- The lines that `walk` prints, as bytes: 01, "House records and the program `walk`". Assumes nothing.
use Rattle.std.specs.Prelude.{◌≡◌, refl, cond, ℕ, zero, suc, ◌+◌, ◌/◌, ◌%◌, ◌≤◌, length, ltb}
use Rattle.std.proofs.Math.Option.{Option, none, some}
use mathlib.Core.List.{List, [], ◌∷◌, ◌++◌, flat_map}
use Rattle.std.proofs.lemmas.List.Edits.{sets}
use Rattle.io.specs.Digits.{hex_digit_ascii}
use Rattle.sheet.specs.Sheets.{style_at, rule_at}
use Rattle.winners.specs.Winners.{Place, style, rule}

-- A number in decimal, without leading zeros, in at most so many digits
unfoldable pub decimal_in : ℕ → ℕ → List ℕ
decimal_in zero n = []
decimal_in (suc k) n = cond (ltb n 10) (hex_digit_ascii n ∷ []) (decimal_in k (n / 10) ++ hex_digit_ascii (n % 10) ∷ [])

-- a number below 2^64 has at most 20
abbrev pub decimal : ℕ → List ℕ
decimal n = decimal_in 20 n

-- each number after a space
unfoldable pub spaced : List ℕ → List ℕ
spaced l = flat_map (λ n. 32 ∷ decimal n) l

-- "refused "
abbrev pub REFUSED : List ℕ
REFUSED = 114 ∷ 101 ∷ 102 ∷ 117 ∷ 115 ∷ 101 ∷ 100 ∷ 32 ∷ []

-- " at "
abbrev pub AT : List ℕ
AT = 32 ∷ 97 ∷ 116 ∷ 32 ∷ []

-- "state "
abbrev pub STATE : List ℕ
STATE = 115 ∷ 116 ∷ 97 ∷ 116 ∷ 101 ∷ 32 ∷ []

-- " matched "
abbrev pub MATCHED : List ℕ
MATCHED = 32 ∷ 109 ∷ 97 ∷ 116 ∷ 99 ∷ 104 ∷ 101 ∷ 100 ∷ 32 ∷ []

-- "changed "
abbrev pub CHANGED : List ℕ
CHANGED = 99 ∷ 104 ∷ 97 ∷ 110 ∷ 103 ∷ 101 ∷ 100 ∷ 32 ∷ []

-- "winner "
abbrev pub WINNER : List ℕ
WINNER = 119 ∷ 105 ∷ 110 ∷ 110 ∷ 101 ∷ 114 ∷ 32 ∷ []

-- ": none"
abbrev pub NONE : List ℕ
NONE = 58 ∷ 32 ∷ 110 ∷ 111 ∷ 110 ∷ 101 ∷ []

-- ": direct "
abbrev pub DIRECT : List ℕ
DIRECT = 58 ∷ 32 ∷ 100 ∷ 105 ∷ 114 ∷ 101 ∷ 99 ∷ 116 ∷ 32 ∷ []

-- ": rule "
abbrev pub RULE : List ℕ
RULE = 58 ∷ 32 ∷ 114 ∷ 117 ∷ 108 ∷ 101 ∷ 32 ∷ []

-- " source "
abbrev pub SOURCE : List ℕ
SOURCE = 32 ∷ 115 ∷ 111 ∷ 117 ∷ 114 ∷ 99 ∷ 101 ∷ 32 ∷ []

abbrev pub END : List ℕ
END = 10 ∷ []

-- "A refusal prints `refused N at OFFSET`"
unfoldable pub refused_line : ℕ → ℕ → List ℕ
refused_line n offset = REFUSED ++ (decimal n ++ (AT ++ (decimal offset ++ END)))

-- how many, and each: "list length and rules", "list length and properties"
abbrev pub listed : List ℕ → List ℕ
listed l = decimal (length l) ++ (58 ∷ [] ++ (spaced l ++ END))

-- "child state, list length and rules"
unfoldable pub state_line : ℕ → List ℕ → List ℕ
state_line n l = STATE ++ (decimal n ++ (MATCHED ++ listed l))

unfoldable pub changed_line : List ℕ → List ℕ
changed_line l = CHANGED ++ listed l

-- "property and winner": a rule's number and its source index; "A direct winner prints `direct S`, its source index."
abbrev pub source_text : List ℕ → Option Place → List ℕ
source_text w none = NONE
source_text w (some (style d)) = DIRECT ++ decimal (style_at w d).source
source_text w (some (rule r)) = RULE ++ (decimal r ++ (SOURCE ++ decimal (rule_at w r).source))

unfoldable pub winner_line : List ℕ → ℕ → Option Place → List ℕ
winner_line w p won = WINNER ++ (decimal p ++ (source_text w won ++ END))

-- ---- in a buffer: the text stands from `at` on, and the next place is after it
pub record Said (text before : List ℕ) (at r : ℕ) (after : List ℕ) : Type 0 where
  pub next : r ≡ at + length text
  pub whole : after ≡ sets before at text

-- room for the longest line: 4,096 numbers of 20 digits, each after a space, and the words before them
abbrev pub Room : ℕ → List ℕ → Type 0
Room at out = at + 87000 ≤ length out

-- ---- for example: "state 2 matched 2: 0 1", "refused 10 at 120"

state_said : state_line 2 (0 ∷ 1 ∷ []) ≡ 115 ∷ 116 ∷ 97 ∷ 116 ∷ 101 ∷ 32 ∷ 50 ∷ 32 ∷ 109 ∷ 97 ∷ 116 ∷ 99 ∷ 104 ∷ 101 ∷ 100 ∷ 32 ∷ 50 ∷ 58 ∷ 32 ∷ 48 ∷ 32 ∷ 49 ∷ 10 ∷ []
unfolding state_line decimal_in spaced flat_map
state_said = refl

refusal_said : refused_line 10 120 ≡ 114 ∷ 101 ∷ 102 ∷ 117 ∷ 115 ∷ 101 ∷ 100 ∷ 32 ∷ 49 ∷ 48 ∷ 32 ∷ 97 ∷ 116 ∷ 32 ∷ 49 ∷ 50 ∷ 48 ∷ 10 ∷ []
unfolding refused_line decimal_in
refusal_said = refl
