-- Demand 1 of the calls for which 01's "Order" has no line: their checks have the numbers of 01's table, in the order of its nearest line. See Demand1.antt.
-- Assumes nothing.
use mathlib.Core.Path.{◌≡◌, refl, ◌∙◌}
use mathlib.Core.Bool.{not}
use mathlib.Core.List.{List, [], ◌∷◌}
use Prim.Native.Nat.{ℕ}
use lib.ListN.{length, get_elem?}
use lib.Dec.{ltb, eqb}
use denote.Ref.{Bor}
use Rattle.std.specs.Prelude.{Bool, Result, Option, ⊤}
use Rattle.lent.specs.declared.Refusal.{Refusal}
use Rattle.selector.specs.declared.Specificity.{Specificity}
use Rattle.typed.specs.declared.TypeTag.{TypeTag}
use Rattle.typed.specs.declared.PartTag.{PartTag}
use Rattle.reading.specs.declared.DirectStyle.{DirectStyle}
use Rattle.reading.specs.declared.StyleEntry.{StyleEntry}
use Rattle.theory.specs.Sizes
use Rattle.theory.specs.Weight.{weight_of}
use Rattle.lent.specs.Refusals.{Check, check, answered, one_if}
use Rattle.selector.specs.Tags.{as_sets, step_matches}
use Rattle.selector.specs.Checks.{tags_ascend, selector_over, combinators_off, codes_over, selector_verdict}
use Rattle.selector.specs.Matching.{matching_told}
use Rattle.selector.specs.Weighing.{weighing_told, weighing_of, weight_told}
use Rattle.typed.specs.declared.SelectorInputs.{SelectorInputs}
use Rattle.typed.specs.declared.ClassId.{ClassId}
use Rattle.typed.specs.declared.PseudoClassId.{PseudoClassId}
use Rattle.typed.specs.Typed.{over, inputs_tags}
use Rattle.owned.specs.declared.SelectorInputsOwned.{SelectorInputsOwned}
use Rattle.owned.specs.Owned.{verdict_told, owned_verdict, Owned}
use Rattle.steps.specs.declared.SelectorStep.{SelectorStep}
use Rattle.steps.specs.Steps.{step_verdict, step_matching, step_weighing, step_tags}
use Rattle.style.specs.Checks.{entries_over, kinds_over, properties_off, style_verdict}
use Rattle.style.specs.Looking.{length_told, containing_told, position_told, kind_told, plain_told, resource_told, style_answer, containing_of, position_of, kind_of, plain_of, resource_of, found, Ids}
use Rattle.style.specs.declared.StyleValueKind.{StyleValueKind}
use Rattle.style.specs.declared.StyleValueRef.{StyleValueRef}
use Rattle.sheet.specs.Layout
use Rattle.sheet.specs.Shape.{sheet_shape}
use Rattle.sheet.specs.Sheets.{counts_for, rule_at, style_at}
use Rattle.reading.specs.Reading.{counting_told, emptiness_told, style_told, entry_told, sheet_verdict, weight_verdict, emptiness_of, style_numbers, entry_numbers, style_there}
use Rattle.given.specs.Pushing.{empty_verdict}
use Rattle.builder.specs.Answers.{pushing_told, Push}
use Rattle.changeset.specs.Sets as Sets
use Rattle.changeset.specs.Sets.{changing_told, Lists, set_of, union_of, set_verdict, union_verdict, count_verdict}
use Rattle.promises.specs.Refusing.{First, Refusing, Guarding}
use Rattle.promises.proofs.Ladders.{refusing, otherwise, guarding, yes_no_accepts, place_accepts, kind_accepts, plain_accepts, resource_accepts, entry_accepts, there_accepts}

-- ---- a sheet: 11. The empty one: 11 if there is no room for it

pub new_refuses : (w : List ℕ) {pushed after : List ℕ} {r : Result ⊤ Refusal} → Push (empty_verdict w) w pushed r after → Guarding (check 11 (ltb (length w) Layout.SHEET-WORDS) ∷ []) (pushing_told r) w after
unfolding empty_verdict
new_refuses w c = guarding refl _ (_, refl) c.answer c.memory

module _ (w : List ℕ) where
  abbrev pub of_sheet : List Check
  of_sheet = check 11 (not (sheet_shape w)) ∷ []

  pub rule_count_refuses : (r : Result ℕ Refusal) → counting_told r ≡ answered (sheet_verdict w) (0 ∷ Layout.rules_in w ∷ []) → Refusing of_sheet (counting_told r)
  unfolding sheet_verdict
  rule_count_refuses r e = refusing refl (_, refl) e

  pub style_count_refuses : (r : Result ℕ Refusal) → counting_told r ≡ answered (sheet_verdict w) (0 ∷ Layout.styles_in w ∷ []) → Refusing of_sheet (counting_told r)
  unfolding sheet_verdict
  style_count_refuses r e = refusing refl (_, refl) e

  pub sheet_is_empty_refuses : (r : Result Bool Refusal) → emptiness_told r ≡ emptiness_of w → Refusing of_sheet (emptiness_told r)
  unfolding emptiness_of sheet_verdict
  sheet_is_empty_refuses r e = refusing refl (_, refl) e

  module _ (number : ℕ) where
    pub style_refuses : (r : Result (Option DirectStyle) Refusal) → style_told r ≡ style_there w number (style_numbers (style_at w number)) → Refusing of_sheet (style_told r)
    unfolding sheet_verdict
    style_refuses r e = refusing refl (there_accepts (ltb number (Layout.styles_in w)) (style_numbers (style_at w number)) (_, refl)) e

    pub style_entry_refuses : (i : ℕ) (r : Result (Option StyleEntry) Refusal) → entry_told r ≡ style_there w number (entry_numbers (get_elem? (style_at w number).entries i)) → Refusing of_sheet (entry_told r)
    unfolding sheet_verdict
    style_entry_refuses i r e =
        refusing refl (there_accepts (ltb number (Layout.styles_in w)) (entry_numbers (get_elem? (style_at w number).entries i)) (entry_accepts (get_elem? (style_at w number).entries i))) e

-- ---- the weight of a rule, as a rule by number, and then 6: "the ranking .. over 1"

pub rule_weight_refuses : (w : List ℕ) (number ranking : ℕ) (r : Result Specificity Refusal)
    → weighing_told r ≡ answered (weight_verdict w number ranking) (weight_told (weight_of ranking (counts_for (rule_at w number).selector)))
    → Refusing (check 11 (not (sheet_shape w)) ∷ check 9 (not (ltb number (Layout.rules_in w))) ∷ check 6 (ltb Sizes.RANKING ranking) ∷ []) (weighing_told r)
unfolding weight_verdict
rule_weight_refuses w number ranking r e = refusing refl (_, refl) e

-- ---- as matching and diagnosis; of a selector alone, `specificity` (ranking 0) and `level3_specificity` (ranking 1): 2, 3, 6

pub specificity_refuses : (ranking : ℕ) (steps : List ℕ) (n : ℕ) (combinators : List ℕ) (c : ℕ) (r : Result Specificity Refusal) → weighing_told r ≡ weighing_of ranking steps n combinators c
    → Refusing (check 2 (selector_over steps n combinators c) ∷ check 3 (combinators_off n c) ∷ check 6 (codes_over combinators c) ∷ []) (weighing_told r)
unfolding weighing_of selector_verdict
specificity_refuses ranking steps n combinators c r e = refusing refl (_, refl) e

-- by value: a step on a subject, `SelectorStep::matches`, 2 (step, then subject), 1;

pub step_matches_refuses : (s : SelectorStep) (x : SelectorInputs) (r : Result Bool Refusal) → matching_told r ≡ step_matching s x
    → Refusing
    (check 2 (over Sizes.STEP-IDS s.class_count s.pseudo_count)
    ∷ check 2 (over Sizes.SUBJECT-IDS x.class_count x.pseudo_count)
    ∷ check 1 (not (tags_ascend (inputs_tags x)))
    ∷ [])
    (matching_told r)
unfolding step_matching step_verdict
step_matches_refuses s x r e = refusing refl (yes_no_accepts (step_matches (as_sets (step_tags s)) (inputs_tags x))) e

-- a step, its `specificity` and `level3_specificity`, 2;
pub step_specificity_refuses : (ranking : ℕ) (s : SelectorStep) (r : Result Specificity Refusal) → weighing_told r ≡ step_weighing ranking s
    → Refusing (check 2 (over Sizes.STEP-IDS s.class_count s.pseudo_count) ∷ []) (weighing_told r)
unfolding step_weighing
step_specificity_refuses ranking s r e = refusing refl (_, refl) e

-- a subject, `SelectorInputsOwned::new` and `with_part`, 2
pub owned_refuses : (t : Option TypeTag) (p : Option PartTag) (classes : List ClassId) (n : ℕ) (pseudos : List PseudoClassId) (m : ℕ) {r : Result SelectorInputsOwned Refusal}
    → Owned t p classes n pseudos m r → Refusing (check 2 (over Sizes.SUBJECT-IDS n m) ∷ []) (verdict_told r)
unfolding owned_verdict
owned_refuses t p classes n pseudos m c = refusing refl (_, refl) c.verdict

-- ---- a style alone: 2, 6, 1

module _ (properties kinds numbers : List ℕ) (n : ℕ) where
  abbrev pub of_style : List Check
  of_style = check 2 (entries_over properties kinds numbers n) ∷ check 6 (kinds_over kinds n) ∷ check 1 (properties_off properties n) ∷ []

  pub style_len_refuses : (r : Result ℕ Refusal) → length_told r ≡ style_answer properties kinds numbers n (0 ∷ n ∷ []) → Refusing of_style (length_told r)
  unfolding style_verdict
  style_len_refuses r e = refusing refl (_, refl) e

  -- it answers the front of the caller's list: an empty one where `len` refuses
  pub property_ids_refuses : {whole part : Bor (List ℕ)} → Ids properties kinds numbers n whole part → (k : ℕ) → First of_style k → (part.now ≡ []) × (part.ref_ptr ≡ whole.ref_ptr)
  unfolding style_verdict
  property_ids_refuses c k x = (c.ids ∙ otherwise refl _ [] k x, c.place)

  module _ (property : ℕ) where
    pub style_contains_refuses : (r : Result Bool Refusal) → containing_told r ≡ containing_of properties kinds numbers n property → Refusing of_style (containing_told r)
    unfolding style_verdict
    style_contains_refuses r e = refusing refl (_, refl) e

    pub style_position_refuses : (r : Result (Option ℕ) Refusal) → position_told r ≡ position_of properties kinds numbers n property → Refusing of_style (position_told r)
    unfolding style_verdict
    style_position_refuses r e = refusing refl (place_accepts _ n) e

    pub style_value_kind_refuses : (r : Result (Option StyleValueKind) Refusal) → kind_told r ≡ style_answer properties kinds numbers n (kind_of (found properties kinds numbers n property)) → Refusing of_style (kind_told r)
    unfolding style_verdict
    style_value_kind_refuses r e = refusing refl (kind_accepts (found properties kinds numbers n property)) e

    pub style_value_ref_refuses : (r : Result (Option StyleValueRef) Refusal) → plain_told r ≡ style_answer properties kinds numbers n (plain_of (found properties kinds numbers n property)) → Refusing of_style (plain_told r)
    unfolding style_verdict
    style_value_ref_refuses r e = refusing refl (plain_accepts (found properties kinds numbers n property)) e

    pub style_resource_key_refuses : (r : Result (Option ℕ) Refusal) → resource_told r ≡ style_answer properties kinds numbers n (resource_of (found properties kinds numbers n property)) → Refusing of_style (resource_told r)
    unfolding style_verdict
    style_resource_key_refuses r e = refusing refl (resource_accepts (found properties kinds numbers n property)) e

-- ---- change sets: 2, "a count is .. past the lent list it counts"; 8, "the buffer for an answer's list is too short"

pub from_property_ids_refuses : (ids : List ℕ) (n : ℕ) {out after : List ℕ} {r : Result ℕ Refusal} → Lists (set_verdict ids n out) (set_of ids n) out r after
    → Guarding (check 2 (ltb (length ids) n) ∷ check 8 (ltb (length out) (length (set_of ids n))) ∷ []) (changing_told r) out after
unfolding set_verdict
from_property_ids_refuses ids n c = guarding refl _ (_, refl) c.answer c.memory

pub union_refuses : (a : List ℕ) (n : ℕ) (b : List ℕ) (m : ℕ) {out after : List ℕ} {r : Result ℕ Refusal} → Lists (union_verdict a n b m out) (union_of a n b m) out r after
    → Guarding (check 2 (ltb (length a) n) ∷ check 2 (ltb (length b) m) ∷ check 8 (ltb (length out) (length (union_of a n b m))) ∷ []) (changing_told r) out after
unfolding union_verdict
union_refuses a n b m c = guarding refl _ (_, refl) c.answer c.memory

module _ (ids : List ℕ) (n : ℕ) where
  pub set_len_refuses : (r : Result ℕ Refusal) → changing_told r ≡ answered (count_verdict ids n) (0 ∷ length (set_of ids n) ∷ []) → Refusing (check 2 (ltb (length ids) n) ∷ []) (changing_told r)
  unfolding count_verdict
  set_len_refuses r e = refusing refl (_, refl) e

  pub set_is_empty_refuses : (r : Result Bool Refusal) → Sets.emptiness_told r ≡ answered (count_verdict ids n) (0 ∷ one_if (eqb (length (set_of ids n)) 0) ∷ [])
      → Refusing (check 2 (ltb (length ids) n) ∷ []) (Sets.emptiness_told r)
  unfolding count_verdict
  set_is_empty_refuses r e = refusing refl (_, refl) e
