-- What the reading calls answer, as numbers: 0 and what was read, or a refusal's own number. Assumes nothing.
use Rattle.std.specs.Prelude.{◌≡◌, Bool, cond, not, ◌&&◌, List, [], ◌∷◌, ℕ, ◌+◌, length, drop, ltb, eqb, Result, Ok, Err, Option, Some, None}
use Rattle.std.proofs.Math.Option.{none, some}
use Rattle.std.proofs.Math.Option as math
use Rattle.theory.specs.Sizes
use Rattle.theory.specs.Paths.{Comb, child, descendant, Part}
use Rattle.lent.specs.declared.Refusal.{Refusal}
use Rattle.lent.specs.Refusals.{check, first_of, one_if, answered, answer_told, yes_told, number_told}
use Rattle.lent.specs.Pool.{start_of}
use Rattle.selector.specs.Tags.{Tags}
use Rattle.selector.specs.declared.SelectorCombinator.{SelectorCombinator}
use Rattle.selector.specs.declared.SelectorCombinator.TheVariants.{Child, Descendant}
use Rattle.steps.specs.declared.SelectorStep.{SelectorStep}
use Rattle.steps.specs.Steps.{asking, step_from}
use Rattle.style.specs.Entries.{Entry}
use Rattle.style.specs.Looking.{found_told}
use Rattle.sheet.specs.Layout
use Rattle.sheet.specs.Sheets.{Style, Rule, is_nil, rule_at, sheet_of, rule_step_ends}
use Rattle.sheet.specs.Shape.{sheet_shape}
use Rattle.reading.specs.declared.MatchRule.{MatchRule}
use Rattle.reading.specs.declared.DirectStyle.{DirectStyle}
use Rattle.reading.specs.declared.StyleEntry.{StyleEntry}

-- ---- each answer's numbers

abbrev pub counting_told : Result ℕ Refusal → List ℕ
counting_told r = number_told r

abbrev pub emptiness_told : Result Bool Refusal → List ℕ
emptiness_told r = yes_told r

abbrev pub rule_told : Result MatchRule Refusal → List ℕ
rule_told r = answer_told (λ m. m.origin ∷ m.source_index ∷ m.order ∷ m.step_count ∷ m.entry_count ∷ []) r

abbrev pub style_told : Result (Option DirectStyle) Refusal → List ℕ
style_told r = answer_told (λ o. found_told (λ d. d.origin ∷ d.source_index ∷ d.entry_count ∷ []) o) r

abbrev pub entry_told : Result (Option StyleEntry) Refusal → List ℕ
entry_told r = answer_told (λ o. found_told (λ e. e.property ∷ e.kind ∷ e.number ∷ []) o) r

abbrev pub combinator_number : SelectorCombinator → ℕ
combinator_number Child = 0
combinator_number Descendant = 1

abbrev pub combinator_told : Result (Option SelectorCombinator) Refusal → List ℕ
combinator_told r = answer_told (λ o. found_told (λ c. combinator_number c ∷ []) o) r

-- that a step is there is told as 1
abbrev pub step_told : Result (Option SelectorStep) Refusal → List ℕ
step_told r = answer_told (λ o. found_told (λ s. 1 ∷ []) o) r

-- the step that is found; the one that asks for nothing where there is none
abbrev pub step_of : Result (Option SelectorStep) Refusal → SelectorStep
step_of (Ok (Some s)) = s
step_of (Ok None) = asking None None
step_of (Err r) = asking None None

-- ---- when they refuse

-- a sheet alone: 11
unfoldable pub sheet_verdict : List ℕ → ℕ
sheet_verdict w = first_of (check 11 (not (sheet_shape w)) ∷ [])

-- "Rule by number 11, 9": "a rule number asked for is not below the rule count"
unfoldable pub rule_verdict : List ℕ → ℕ → ℕ
rule_verdict w r = first_of (check 11 (not (sheet_shape w)) ∷ check 9 (not (ltb r (Layout.rules_in w))) ∷ [])

-- Weight of a rule: 11, 9, 6
unfoldable pub weight_verdict : List ℕ → ℕ → ℕ → ℕ
weight_verdict w r ranking = first_of (check 11 (not (sheet_shape w)) ∷ check 9 (not (ltb r (Layout.rules_in w))) ∷ check 6 (ltb Sizes.RANKING ranking) ∷ [])

-- ---- what they answer

-- `StyleCascade::is_empty`: neither direct styles nor rules
unfoldable pub emptiness_of : List ℕ → List ℕ
emptiness_of w = answered (sheet_verdict w) (0 ∷ one_if (is_nil (sheet_of w).styles && is_nil (sheet_of w).rules) ∷ [])

abbrev pub rule_numbers : Rule → List ℕ
rule_numbers r = 0 ∷ r.origin ∷ r.source ∷ r.order ∷ length r.selector ∷ length r.entries ∷ []

abbrev pub style_numbers : Style → List ℕ
style_numbers d = 0 ∷ d.origin ∷ d.source ∷ length d.entries ∷ []

abbrev pub entry_numbers : math.Option Entry → List ℕ
entry_numbers none = 0 ∷ []
entry_numbers (some e) = 0 ∷ e.property ∷ e.kind ∷ e.number ∷ []

-- "0 child, 1 descendant"
abbrev pub comb_numbers : Comb → List ℕ
comb_numbers child = 0 ∷ 0 ∷ []
comb_numbers descendant = 0 ∷ 1 ∷ []

-- the combinator before a step
abbrev pub combinator_numbers : math.Option (Part Tags) → List ℕ
combinator_numbers none = 0 ∷ []
combinator_numbers (some p) = comb_numbers p.comb

-- direct style d and its entry i, where they are there
abbrev pub style_there : List ℕ → ℕ → List ℕ → List ℕ
style_there w d numbers = answered (sheet_verdict w) (cond (ltb d (Layout.styles_in w)) numbers (0 ∷ []))

-- Step i of rule r as a typed value, read from its row; the step that asks for nothing where there is none
pub record StepRead (w : List ℕ) (r i : ℕ) (a : Result (Option SelectorStep) Refusal) : Type 0 where
  pub verdict : step_told a ≡ answered (rule_verdict w r) (cond (ltb i (length (rule_at w r).selector)) (0 ∷ 1 ∷ []) (0 ∷ []))
  pub step : step_of a
      ≡ cond (eqb (rule_verdict w r) 0 && ltb i (length (rule_at w r).selector))
      (step_from (drop (Layout.step_place (start_of (rule_step_ends w) r + i)) w))
      (asking None None)
