-- 01's "Marked examples": P1 to P8 as questions to public calls, each with the answer that 01 marks. Assumes nothing.
use mathlib.Core.List.{List, [], ◌∷◌, ◌++◌, flat_map, map}
use Rattle.std.specs.Prelude.{true, false, Ok, Err, Some, None, ℕ, ◌-◌, length, replicate}
use Rattle.lent.specs.Refusals.{answered}
use Rattle.selector.specs.declared.SelectorMismatch.TheVariants.{EmptySelectorWithNonEmptyPath, MissingSubject, TrailingSubjects, MissingDescendant}
use Rattle.selector.specs.Matching.{matching_told}
use Rattle.selector.specs.Diagnosing.{Fits, diagnosis_told, diagnosis_of}
use Rattle.typed.specs.declared.ClassId.{ClassId}
use Rattle.typed.specs.declared.SelectorInputs.{SelectorInputs}
use Rattle.typed.specs.Typed.{no_pseudos, inputs_of, inputs_row}
use Rattle.steps.specs.declared.SelectorStep.{SelectorStep}
use Rattle.steps.specs.Steps.{asking, asking_class, step_row, step_matching}
use Rattle.sheet.specs.Layout.{SHEET-WORDS}
use Rattle.sheet.specs.Laying.{emptied}
use Rattle.given.specs.Given.{Group, given}
use Rattle.given.specs.Pushing.{empty_verdict, group_verdict, pushed_group}
use Rattle.table.specs.Tables.{Table, matched_at}
use Rattle.table.specs.Tables
use Rattle.table.specs.Entering.{built, child_of, entered}
use Rattle.table.specs.Calls.{state_verdict, build_verdict, enter_verdict}
use Rattle.promises.specs.Walk.{subject}

-- ---- subjects and steps, as the constructors make them: "Types a, b, c"

abbrev class_id : ℕ → ClassId
class_id n = record { 0 = n }

-- `SelectorStep::type_tag`; `SelectorInputs::typed` is `subject`
abbrev pub step : ℕ → SelectorStep
step n = asking (Some (record { 0 = n })) None

abbrev a : ℕ
a = 1

abbrev b : ℕ
b = 2

abbrev c : ℕ
c = 3

-- "0 child, 1 descendant"; "a space is descendant"
abbrev child : ℕ
child = 0

abbrev descendant : ℕ
descendant = 1

-- `SelectorStep::class`, `with_class`, and `SelectorInputs::new`
abbrev requiring : ℕ → ℕ → SelectorStep
requiring i j = asking_class (asking_class (asking None None) (class_id i)) (class_id j)

abbrev having : List ℕ → SelectorInputs
having classes = inputs_of None None (map class_id classes ++ replicate (16 - length classes) (class_id 0)) (length classes) (no_pseudos 16) 0

-- ---- entering subject after subject

-- what is listed at last, after a 0, where each is entered under the state answered for the one before; or the number of the first refusal: each step is
-- what the contract of `enter_subject` says of answer and memory, the last what that of `matching_rules` does
unfoldable pub listed_along : List ℕ → Table → ℕ → ℕ → List SelectorInputs → List ℕ
listed_along w t number stamp [] = answered (state_verdict w t number stamp) (0 ∷ matched_at t.states t.matched number)
listed_along w t number stamp (x ∷ xs) =
    answered (enter_verdict w t number stamp (inputs_row x)) (listed_along w (entered w t number (inputs_row x)) (child_of w t number (inputs_row x)) stamp xs)

-- by the contract of `build`, with a stamp and a ranking, in memory that is lent
unfoldable pub listed_after : List ℕ → ℕ → ℕ → Table → List SelectorInputs → List ℕ
listed_after w stamp ranking t xs = answered (build_verdict w ranking t.states t.cursors) (listed_along w (built w stamp ranking t) 0 stamp xs)

-- by those of `builder::new` and `push_rules`: n rules of origin 0 in a sheet of their own
abbrev pub sheet_with : Group → ℕ → List ℕ
sheet_with g n = pushed_group (emptied (replicate SHEET-WORDS 0)) 0 g n

unfoldable pub listed_of : Group → ℕ → ℕ → ℕ → Table → List SelectorInputs → List ℕ
listed_of g n stamp ranking t xs =
    answered (empty_verdict (replicate SHEET-WORDS 0))
    (answered (group_verdict (emptied (replicate SHEET-WORDS 0)) 0 g n) (listed_after (sheet_with g n) stamp ranking t xs))

-- ---- the table

pub data Question : Type 0 where
  -- `diagnose_path`: steps, combinators, path
  diagnosed : List SelectorStep → List ℕ → List SelectorInputs → Question
  -- `SelectorStep::matches`
  matches : SelectorStep → SelectorInputs → Question
  -- `matching_rules` after entering: n rules of a group, and the subjects
  lists : Group → ℕ → List SelectorInputs → Question

-- room for four states
abbrev pub lent : Table
lent = Tables.table (replicate 8 0) (replicate 12 0) (replicate 4 0) (replicate 4 0) []

-- What the definitions answer that the calls' contracts cite, as numbers: 0 and what is told, or a refusal's own
abbrev pub answer : Question → List ℕ
answer (diagnosed steps combinators path) = diagnosis_of (flat_map step_row steps) (length steps) combinators (length combinators) (flat_map inputs_row path) (length path)
answer (matches s x) = step_matching s x
answer (lists g n xs) = listed_of g n 7 0 lent xs

pub record Example : Type 0 where
  pub question : Question
  pub expected : List ℕ

abbrev example : Question → List ℕ → Example
example q l = record { question = q; expected = l }

-- a rule without entries: a>b
abbrev pub one_rule : Group
one_rule = given (2 ∷ 1 ∷ 0 ∷ []) (step_row (step a) ++ step_row (step b)) (child ∷ []) [] [] []

unfoldable pub table : List Example
table =
    -- "P1 empty on []: fits."
    example (diagnosed [] [] []) (diagnosis_told (Ok Fits))
    -- "P2 empty on [a]: EmptySelectorWithNonEmptyPath."
    ∷ example (diagnosed [] [] (map subject (a ∷ []))) (diagnosis_told (Ok (Err EmptySelectorWithNonEmptyPath)))
    -- "P3 a b on [a,b,c]: TrailingSubjects 2, 2."
    ∷ example (diagnosed (map step (a ∷ b ∷ [])) (descendant ∷ []) (map subject (a ∷ b ∷ c ∷ []))) (diagnosis_told (Ok (Err (TrailingSubjects 2 2))))
    -- "P4 a b on [a,b,b]: fits."
    ∷ example (diagnosed (map step (a ∷ b ∷ [])) (descendant ∷ []) (map subject (a ∷ b ∷ b ∷ []))) (diagnosis_told (Ok Fits))
    -- "P5 a b>c on [a,b,a,b]: MissingSubject 2, 4."
    ∷ example (diagnosed (map step (a ∷ b ∷ c ∷ [])) (descendant ∷ child ∷ []) (map subject (a ∷ b ∷ a ∷ b ∷ []))) (diagnosis_told (Ok (Err (MissingSubject 2 4))))
    -- "P6 a b>c on [a,b,a]: MissingDescendant 1, 1."
    ∷ example (diagnosed (map step (a ∷ b ∷ c ∷ [])) (descendant ∷ child ∷ []) (map subject (a ∷ b ∷ a ∷ []))) (diagnosis_told (Ok (Err (MissingDescendant 1 1))))
    -- "P7 classes {2,5} within {2,3,5}: yes; within {2,6}: no."
    ∷ example (matches (requiring 2 5) (having (2 ∷ 3 ∷ 5 ∷ []))) (matching_told (Ok true))
    ∷ example (matches (requiring 2 5) (having (2 ∷ 6 ∷ []))) (matching_told (Ok false))
    -- "P8 entering c, a, b lists a>b.": rule 0
    ∷ example (lists one_rule 1 (map subject (c ∷ a ∷ b ∷ []))) (0 ∷ 0 ∷ [])
    ∷ []
