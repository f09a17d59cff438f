-- Steps by value, with typed numbers, the rows that they are written to and read from, and what is answered of a step: 01, "Subjects and steps".
-- Assumes nothing.
use Rattle.std.specs.Prelude.{cond, not, List, [], ◌∷◌, ℕ, ◌+◌, get_or, set, ltb, Option, Some, Ok}
use Rattle.theory.specs.Sizes
use Rattle.theory.specs.Weight.{weight_of}
use Rattle.lent.specs.Refusals.{check, first_of, answered}
use Rattle.selector.specs.Tags.{Tags, as_sets, step_matches}
use Rattle.selector.specs.Checks.{tags_ascend}
use Rattle.selector.specs.Matching.{matching_told}
use Rattle.selector.specs.Weighing.{counts_of, weight_told}
use Rattle.typed.specs.declared.TypeTag.{TypeTag}
use Rattle.typed.specs.declared.PartTag.{PartTag}
use Rattle.typed.specs.declared.ClassId.{ClassId}
use Rattle.typed.specs.declared.PseudoClassId.{PseudoClassId}
use Rattle.typed.specs.declared.SelectorInputs.{SelectorInputs}
use Rattle.typed.specs.Typed.{type_of, part_of, class_number, pseudo_number, tags_of, inputs_tags, no_classes, no_pseudos, row_of, classes_from, pseudos_from, row_type, row_part, over}
use Rattle.steps.specs.declared.SelectorStep.{SelectorStep}

-- What a step asks for, as given
unfoldable pub step_tags : SelectorStep → Tags
step_tags s = tags_of s.type_tag s.part_tag s.required_classes s.class_count s.required_pseudos s.pseudo_count

-- ---- what is made

abbrev pub step_of : Option TypeTag → Option PartTag → List ClassId → ℕ → List PseudoClassId → ℕ → SelectorStep
step_of t p classes n pseudos m = record {
  type_tag = t;
  part_tag = p;
  required_classes = classes;
  class_count = n;
  required_pseudos = pseudos;
  pseudo_count = m;
}

-- a step that asks for tags alone
abbrev pub asking : Option TypeTag → Option PartTag → SelectorStep
asking t p = step_of t p (no_classes 8) 0 (no_pseudos 8) 0

abbrev pub asking_type : SelectorStep → TypeTag → SelectorStep
asking_type s t = step_of (Some t) s.part_tag s.required_classes s.class_count s.required_pseudos s.pseudo_count

abbrev pub asking_part : SelectorStep → PartTag → SelectorStep
asking_part s p = step_of s.type_tag (Some p) s.required_classes s.class_count s.required_pseudos s.pseudo_count

-- One id more, after n. There is room for 8: the count of a ninth is 9 and stays, so that the step is refused wherever it is used.
-- "required classes and required pseudos 0 to 8 each as given"
abbrev pub added : {A : Type 0} → List A → ℕ → A → List A
added ids n id = cond (ltb n Sizes.STEP-IDS) (set ids n id) ids

abbrev pub raised : ℕ → ℕ
raised n = cond (ltb n Sizes.STEP-IDS) (n + 1) (Sizes.STEP-IDS + 1)

abbrev pub asking_class : SelectorStep → ClassId → SelectorStep
asking_class s c =
    step_of s.type_tag s.part_tag (added s.required_classes s.class_count c) (raised s.class_count) s.required_pseudos s.pseudo_count

abbrev pub asking_pseudo : SelectorStep → PseudoClassId → SelectorStep
asking_pseudo s c =
    step_of s.type_tag s.part_tag s.required_classes s.class_count (added s.required_pseudos s.pseudo_count c) (raised s.pseudo_count)

-- ---- rows

abbrev pub step_row : SelectorStep → List ℕ
step_row s =
    row_of 8 (type_of s.type_tag) (part_of s.part_tag) s.class_count s.pseudo_count (class_number s.required_classes) (pseudo_number s.required_pseudos)

abbrev pub step_with : Option TypeTag → Option PartTag → List ℕ → SelectorStep
step_with t p row = step_of t p (classes_from 8 row 6) (get_or row 4 0) (pseudos_from 8 row 14) (get_or row 5 0)

abbrev pub step_from : List ℕ → SelectorStep
step_from row = step_with (row_type row) (row_part row) row

-- ---- answers and refusals

-- Matching a step: 2 (step, then subject), 1
unfoldable pub step_verdict : SelectorStep → SelectorInputs → ℕ
step_verdict s x =
    first_of (check 2 (over Sizes.STEP-IDS s.class_count s.pseudo_count) ∷ check 2 (over Sizes.SUBJECT-IDS x.class_count x.pseudo_count) ∷ check 1 (not (tags_ascend (inputs_tags x))) ∷ [])

-- "A step's required ids may come in any order and repeated; they are sorted and made unique"
unfoldable pub step_matching : SelectorStep → SelectorInputs → List ℕ
step_matching s x = answered (step_verdict s x) (matching_told (Ok (step_matches (as_sets (step_tags s)) (inputs_tags x))))

-- Weighing a step: 2
unfoldable pub step_weighing : ℕ → SelectorStep → List ℕ
step_weighing ranking s =
    answered (first_of (check 2 (over Sizes.STEP-IDS s.class_count s.pseudo_count) ∷ [])) (weight_told (weight_of ranking (counts_of (as_sets (step_tags s)) ∷ [])))
