-- What the calls answer, as numbers: 0 and what is told, or a refusal's own number. Assumes nothing.
use Rattle.std.proofs.Math.Option.{Option, none, some}
use Rattle.std.specs.Prelude.{List, [], ◌∷◌, ℕ, Result, Option as Optional, Some, None}
use Rattle.lent.specs.Refusals.{answer_told}
use Rattle.lent.specs.declared.Refusal.{Refusal}
use Rattle.sheet.specs.Sheets.{style_at, rule_at}
use Rattle.winners.specs.Winners.{Place, style, rule}
use Rattle.looking.specs.declared.StyleSourceRef.{StyleSourceRef}
use Rattle.looking.specs.declared.StyleSourceRef.TheVariants as source

-- nobody, or a direct style (1) or a rule (2): its number and its source index
abbrev pub source_told : Optional StyleSourceRef → List ℕ
source_told None = 0 ∷ []
source_told (Some (source.Direct d index)) = 1 ∷ d ∷ index ∷ []
source_told (Some (source.Rule r index)) = 2 ∷ r ∷ index ∷ []

abbrev pub winning_told : Result (Optional StyleSourceRef) Refusal → List ℕ
winning_told = answer_told source_told

abbrev pub winner_told : List ℕ → Option Place → List ℕ
winner_told w none = 0 ∷ 0 ∷ []
winner_told w (some (style d)) = 0 ∷ 1 ∷ d ∷ (style_at w d).source ∷ []
winner_told w (some (rule r)) = 0 ∷ 2 ∷ r ∷ (rule_at w r).source ∷ []
