-- Two answers that tell the same numbers are the same: what a contract says of an answer's numbers determines the answer. Assumes nothing.
use mathlib.Core.Path.{◌≡◌, refl, sym, ◌∙◌}
use mathlib.Core.Bool.{Bool, cond}
use mathlib.Core.List.{List, [], ◌∷◌}
use Prim.Native.Nat.{ℕ}
use lib.ListN.{get_or}
use lib.Dec.{eqb}
use Rattle.std.specs.Prelude.{Result, Ok, Err, Option, Some, None}
use Rattle.lent.specs.declared.Refusal.{Refusal}
use Rattle.lent.proofs.Refusals.{number_positive, told_distinct, answer_distinct, yes_distinct, number_distinct}
use Rattle.selector.specs.declared.SelectorCombinator.{SelectorCombinator}
use Rattle.selector.specs.declared.SelectorCombinator.TheVariants.{Child, Descendant}
use Rattle.steps.specs.declared.SelectorStep.{SelectorStep}
use Rattle.style.proofs.Distinct.{found_distinct}
use Rattle.reading.specs.declared.MatchRule.{MatchRule}
use Rattle.reading.specs.declared.DirectStyle.{DirectStyle}
use Rattle.reading.specs.declared.StyleEntry.{StyleEntry}
use Rattle.reading.specs.Reading.{counting_told, emptiness_told, rule_told, style_told, entry_told, combinator_number, combinator_told, step_told, step_of, StepRead}

pub counting_distinct : (a b : Result ℕ Refusal) → counting_told a ≡ counting_told b → a ≡ b
counting_distinct = number_distinct

pub emptiness_distinct : (a b : Result Bool Refusal) → emptiness_told a ≡ emptiness_told b → a ≡ b
emptiness_distinct = yes_distinct

pub rule_distinct : (a b : Result MatchRule Refusal) → rule_told a ≡ rule_told b → a ≡ b
rule_distinct =
    answer_distinct _
    (λ l. record { origin = get_or l 0 0; source_index = get_or l 1 0; order = get_or l 2 0; step_count = get_or l 3 0; entry_count = get_or l 4 0 })
    (λ m. refl)

pub style_distinct : (a b : Result (Option DirectStyle) Refusal) → style_told a ≡ style_told b → a ≡ b
style_distinct =
    found_distinct _ (λ n l. record { origin = n; source_index = get_or l 0 0; entry_count = get_or l 1 0 })
    (λ d. (d.origin, d.source_index ∷ d.entry_count ∷ [], refl, refl))

pub entry_distinct : (a b : Result (Option StyleEntry) Refusal) → entry_told a ≡ entry_told b → a ≡ b
entry_distinct =
    found_distinct _ (λ n l. record { property = n; kind = get_or l 0 0; number = get_or l 1 0 })
    (λ e. (e.property, e.kind ∷ e.number ∷ [], refl, refl))

read_combinator : ℕ → List ℕ → SelectorCombinator
read_combinator n l = cond (eqb n 0) Child Descendant

combinator_back : (c : SelectorCombinator) → (n : ℕ) × (l : List ℕ) × (combinator_number c ∷ [] ≡ n ∷ l) × (read_combinator n l ≡ c)
unfolding read_combinator
combinator_back Child = (0, [], refl, refl)
combinator_back Descendant = (1, [], refl, refl)

pub combinator_distinct : (a b : Result (Option SelectorCombinator) Refusal) → combinator_told a ≡ combinator_told b → a ≡ b
combinator_distinct = found_distinct (λ c. combinator_number c ∷ []) read_combinator combinator_back

-- `step_told` tells whether there is a step, and `step_of` which
pub step_distinct : (a b : Result (Option SelectorStep) Refusal) → step_told a ≡ step_told b → step_of a ≡ step_of b → a ≡ b
step_distinct (Ok (Some s)) (Ok (Some t)) e f = rw f
step_distinct (Ok (Some s)) (Ok None) e f = cc
step_distinct (Ok (Some s)) (Err r) e f = let (n, p) = number_positive r in cc
step_distinct (Ok None) (Ok (Some t)) e f = cc
step_distinct (Ok None) (Ok None) e f = refl
step_distinct (Ok None) (Err r) e f = let (n, p) = number_positive r in cc
step_distinct (Err r) (Ok (Some t)) e f = let (n, p) = number_positive r in cc
step_distinct (Err r) (Ok None) e f = let (n, p) = number_positive r in cc
step_distinct (Err r) (Err s) e f = rw (told_distinct r s e)

-- so that `StepRead` determines the whole answer
pub step_read_distinct : {w : List ℕ} {r i : ℕ} (a b : Result (Option SelectorStep) Refusal) → StepRead w r i a → StepRead w r i b → a ≡ b
step_read_distinct a b h k = step_distinct a b (h.verdict ∙ sym k.verdict) (h.step ∙ sym k.step)
