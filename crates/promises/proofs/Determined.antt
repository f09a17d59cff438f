-- 01: "show any two allowed outcomes equal": each public call's contract, as its `ensures` says it, determines the outcome. Assumes nothing.
-- A slice's words before the call stand for `x.now` (`x.old` where it is lent to write), those after it for `x.new`; a slice that is not lent to write stays as it is.
use mathlib.Core.Path.{◌≡◌, refl, sym, ap, ◌∙◌}
use mathlib.Core.Bool.{true}
use mathlib.Core.List.{List, [], ◌∷◌, ◌++◌}
use Prim.Native.Nat.{ℕ, suc}
use lib.ListN.{length, get_elem?}
use lib.Dec.{eqb}
use denote.Ref.{Bor}
use Rattle.std.specs.Prelude.{Result, Option, Some, None, is_some, IfSome, ⊤}
use Rattle.lent.specs.declared.Refusal.{Refusal}
use Rattle.typed.specs.declared.TypeTag.{TypeTag}
use Rattle.typed.specs.declared.PartTag.{PartTag}
use Rattle.matcher.specs.declared.MatchState.{MatchState}
use Rattle.theory.specs.Weight.{weight_of}
use Rattle.lent.specs.Refusals.{Check, check, first_of, checks_below, verdict_of, answered, one_if}
use Rattle.property.specs.declared.PropertyId.{PropertyId}
use Rattle.selector.specs.Matching.{matching_told, matching_of}
use Rattle.selector.specs.Diagnosing.{diagnosis_told, diagnosis_of}
use Rattle.selector.specs.Weighing.{weighing_told, weighing_of, weight_told}
use Rattle.selector.proofs.Distinct.{matching_distinct, diagnosis_distinct, weighing_distinct}
use Rattle.typed.specs.declared.SelectorInputs.{SelectorInputs}
use Rattle.typed.specs.declared.ClassId.{ClassId}
use Rattle.typed.specs.declared.PseudoClassId.{PseudoClassId}
use Rattle.typed.specs.Typed.{inputs_row}
use Rattle.owned.specs.Owned.{Owned}
use Rattle.owned.proofs.Distinct.{owned_distinct}
use Rattle.steps.specs.declared.SelectorStep.{SelectorStep}
use Rattle.steps.specs.Steps.{step_matching, step_weighing}
use Rattle.style.specs.Looking.{length_told, containing_told, position_told, kind_told, plain_told, resource_told, style_answer, containing_of, position_of, kind_of, plain_of, resource_of, found, Ids}
use Rattle.style.proofs.Distinct.{length_distinct, containing_distinct, position_distinct, kind_distinct, plain_distinct, resource_distinct, ids_determined}
use Rattle.sheet.specs.Layout.{rules_in, styles_in, ids_in}
use Rattle.sheet.specs.Sheets.{counts_for, rule_at, style_at}
use Rattle.sheet.specs.Shape.{sheet_shape}
use Rattle.sheet.specs.declared.Sheet.{Sheet}
use Rattle.reading.specs.Reading.{counting_told, emptiness_told, rule_told, style_told, entry_told, combinator_told, sheet_verdict, rule_verdict, weight_verdict, emptiness_of, rule_numbers, style_numbers, entry_numbers, combinator_numbers, style_there, StepRead}
use Rattle.reading.proofs.Distinct.{counting_distinct, emptiness_distinct, rule_distinct, style_distinct, entry_distinct, combinator_distinct, step_read_distinct}
use Rattle.given.specs.Given.{Group}
use Rattle.given.specs.Pushing.{front_checks, index_checks, rule_checks, rules_over, all_entries_in, style_push_verdict, group_verdict, cascade_verdict}
use Rattle.builder.specs.Answers.{Push}
use Rattle.builder.proofs.Pushes.{push_determined}
use Rattle.table.specs.Tables.{Table, table}
use Rattle.table.specs.Calls.{state_verdict}
use Rattle.matcher.specs.Answers.{Part, Rules}
use Rattle.matcher.proofs.Distinct.{part_determined, rules_determined}
use Rattle.building.specs.Answers.{Build}
use Rattle.building.proofs.Distinct.{build_determined}
use Rattle.entering.specs.Answers.{Enter}
use Rattle.entering.proofs.Answers.{enter_determined}
use Rattle.cursor.specs.Yielding.{next_told, next_of, index_after}
use Rattle.cursor.proofs.Distinct as Cursor
use Rattle.cursor.specs.declared.RuleCursor.{RuleCursor}
use Rattle.cursor.specs.declared.Yielded.{Yielded}
use Rattle.bits.specs.Bits.{bits_in}
use Rattle.channels.specs.Channels.{channels_of, lowest_told, lowest_of}
use Rattle.channels.specs.declared.ChannelSet.{ChannelSet}
use Rattle.channels.proofs.Distinct.{lowest_determined, affected_determined}
use Rattle.changeset.specs.Sets as Sets
use Rattle.changeset.specs.Sets.{changing_told, Lists, set_of, count_verdict}
use Rattle.changeset.proofs.Distinct as SetAnswers
use Rattle.looking.specs.Calls.{winner_in, entry_in}
use Rattle.looking.specs.Answers.{winning_told, winner_told}
use Rattle.looking.proofs.Distinct.{winner_determined}
use Rattle.looking.proofs.Distinct as Looking
use Rattle.cascade.specs.Calls.{changed_in, pair_verdict}
use Rattle.cascade.specs.Answers.{channels_told}
use Rattle.cascade.proofs.Distinct.{channels_determined}
use Rattle.promises.specs.Determined.{Determined, DeterminedPart, plain}
use Rattle.promises.proofs.Checked.{plain_append, plain_below, checks_alike}

-- ---- any call

module _ {A : Type 0} where
  -- a contract that says what the answer, or the memory at exit, is. These calls have no other: `lent::Refusal`'s; those of `lent::words` and of `idset`;
  -- `lent::lists::address`, `cell`, `start_of`; `PropertyId::index`, `compare`; the constructors, `row` and `from_row` of `SelectorInputs` and `SelectorStep`;
  -- `Tag::number`, `tagged`; `typed::tag_flag`, `tag_number`, `tag_from_words`, `row_words`, `numbers`, `ids_from`; `SelectorCombinator::from`; those of `sheet::shape`, `table::shape`; those of `admit::sources`,
  -- `joining::cascades` and `matcher::states` that don't check; `root_state`; `cursor::index_after`; `CascadeEntryKey::compare`; `ChannelSet::contains`, `is_empty`, `len`.
  pub said_determined : (x : A) → Determined (λ r. r ≡ x)
  said_determined x a b p q = p ∙ sym q

  -- one that says what the answer tells, where answers that tell the same are the same
  pub told_determined : {tell : A → List ℕ} → ((a b : A) → tell a ≡ tell b → a ≡ b) → (x : List ℕ) → Determined (λ r. tell r ≡ x)
  told_determined distinct x a b p q = distinct a b (p ∙ sym q)

-- one that says the number of the refusal that a check finds, 0 for none, where none is 10 (`plain`)
pub checks_determined : (l : List Check) → plain l ≡ true → Determined (λ (r : Result ⊤ Refusal). verdict_of r ≡ first_of l)
checks_determined l p a b e f = checks_alike l p a b e f

-- of two parts
pairs : {A B : Type 0} {x y : A × B} → (x.0 ≡ y.0) × (x.1 ≡ y.1) → x ≡ y
pairs e = λ i. (e.0 i, e.1 i)

-- ---- property: `PropertyId::new`

pub property_determined : (index : ℕ) → Determined (λ (r : PropertyId). r.0 ≡ index)
property_determined index a b p q = ap (λ (n : ℕ). record { 0 = n }) (p ∙ sym q)

-- ---- sheet: `Sheet::of`. A sheet is its words, and a proof

abbrev pub words_in : Option Sheet → Option (Bor (List ℕ))
words_in (Some s) = Some s.words
words_in None = None

pub sheet_of_determined : (words : Bor (List ℕ)) (a b : Option Sheet) → is_some a ≡ sheet_shape words.now → IfSome a (λ s. s.words ≡ words)
    → is_some b ≡ sheet_shape words.now → IfSome b (λ s. s.words ≡ words) → words_in a ≡ words_in b
sheet_of_determined words (Some s) (Some t) e p f q = ap Some (p ∙ sym q)
sheet_of_determined words (Some s) None e p f q = cc
sheet_of_determined words None (Some t) e p f q = cc
sheet_of_determined words None None e p f q = refl

-- ---- selector: `matches_path`, `diagnose_path`; `specificity` (ranking 0), `level3_specificity` (ranking 1)

module _ (steps : List ℕ) (n : ℕ) (combinators : List ℕ) (c : ℕ) where
  pub matches_path_determined : (path : List ℕ) (m : ℕ) → Determined (λ r. matching_told r ≡ matching_of steps n combinators c path m)
  matches_path_determined path m = told_determined matching_distinct (matching_of steps n combinators c path m)

  pub diagnose_path_determined : (path : List ℕ) (m : ℕ) → Determined (λ r. diagnosis_told r ≡ diagnosis_of steps n combinators c path m)
  diagnose_path_determined path m = told_determined diagnosis_distinct (diagnosis_of steps n combinators c path m)

  pub specificity_determined : (ranking : ℕ) → Determined (λ r. weighing_told r ≡ weighing_of ranking steps n combinators c)
  specificity_determined ranking = told_determined weighing_distinct (weighing_of ranking steps n combinators c)

-- ---- owned: `SelectorInputsOwned::new` (no part), `with_part`; steps: `SelectorStep::matches`; `specificity`, `level3_specificity`

pub owned_determined : (t : Option TypeTag) (p : Option PartTag) (classes : List ClassId) (n : ℕ) (pseudos : List PseudoClassId) (m : ℕ) → Determined (Owned t p classes n pseudos m)
owned_determined t p classes n pseudos m a b h k = owned_distinct a b h k

pub step_matches_determined : (s : SelectorStep) (x : SelectorInputs) → Determined (λ r. matching_told r ≡ step_matching s x)
step_matches_determined s x = told_determined matching_distinct (step_matching s x)

pub step_specificity_determined : (ranking : ℕ) (s : SelectorStep) → Determined (λ r. weighing_told r ≡ step_weighing ranking s)
step_specificity_determined ranking s = told_determined weighing_distinct (step_weighing ranking s)

-- ---- lookups

module _ (properties kinds numbers : List ℕ) (n : ℕ) where
  pub len_determined : Determined (λ r. length_told r ≡ style_answer properties kinds numbers n (0 ∷ n ∷ []))
  len_determined = told_determined length_distinct (style_answer properties kinds numbers n (0 ∷ n ∷ []))

  -- the front of the caller's list `whole`
  pub property_ids_determined : (whole : Bor (List ℕ)) → DeterminedPart (Ids properties kinds numbers n whole)
  property_ids_determined whole a b p q = ids_determined p q

  module _ (property : ℕ) where
    pub contains_determined : Determined (λ r. containing_told r ≡ containing_of properties kinds numbers n property)
    contains_determined = told_determined containing_distinct (containing_of properties kinds numbers n property)

    pub position_determined : Determined (λ r. position_told r ≡ position_of properties kinds numbers n property)
    position_determined = told_determined position_distinct (position_of properties kinds numbers n property)

    abbrev told : List ℕ → List ℕ
    told accepted = style_answer properties kinds numbers n accepted

    pub style_kind_determined : Determined (λ r. kind_told r ≡ told (kind_of (found properties kinds numbers n property)))
    style_kind_determined = told_determined kind_distinct (told (kind_of (found properties kinds numbers n property)))

    pub style_ref_determined : Determined (λ r. plain_told r ≡ told (plain_of (found properties kinds numbers n property)))
    style_ref_determined = told_determined plain_distinct (told (plain_of (found properties kinds numbers n property)))

    pub style_resource_determined : Determined (λ r. resource_told r ≡ told (resource_of (found properties kinds numbers n property)))
    style_resource_determined = told_determined resource_distinct (told (resource_of (found properties kinds numbers n property)))

-- ---- sheet: what is read of the words w

module _ (w : List ℕ) where
  pub rule_count_determined : Determined (λ r. counting_told r ≡ answered (sheet_verdict w) (0 ∷ rules_in w ∷ []))
  rule_count_determined = told_determined counting_distinct (answered (sheet_verdict w) (0 ∷ rules_in w ∷ []))

  pub style_count_determined : Determined (λ r. counting_told r ≡ answered (sheet_verdict w) (0 ∷ styles_in w ∷ []))
  style_count_determined = told_determined counting_distinct (answered (sheet_verdict w) (0 ∷ styles_in w ∷ []))

  pub sheet_empty_determined : Determined (λ r. emptiness_told r ≡ emptiness_of w)
  sheet_empty_determined = told_determined emptiness_distinct (emptiness_of w)

  module _ (number : ℕ) where
    pub rule_determined : Determined (λ r. rule_told r ≡ answered (rule_verdict w number) (rule_numbers (rule_at w number)))
    rule_determined = told_determined rule_distinct (answered (rule_verdict w number) (rule_numbers (rule_at w number)))

    pub rule_step_determined : (i : ℕ) → Determined (StepRead w number i)
    rule_step_determined i a b h k = step_read_distinct a b h k

    pub rule_combinator_determined : (i : ℕ)
        → Determined (λ r. combinator_told r ≡ answered (rule_verdict w number) (combinator_numbers (get_elem? (rule_at w number).selector (suc i))))
    rule_combinator_determined i =
        told_determined combinator_distinct (answered (rule_verdict w number) (combinator_numbers (get_elem? (rule_at w number).selector (suc i))))

    pub rule_entry_determined : (i : ℕ) → Determined (λ r. entry_told r ≡ answered (rule_verdict w number) (entry_numbers (get_elem? (rule_at w number).entries i)))
    rule_entry_determined i = told_determined entry_distinct (answered (rule_verdict w number) (entry_numbers (get_elem? (rule_at w number).entries i)))

    pub rule_weight_determined : (ranking : ℕ)
        → Determined (λ r. weighing_told r ≡ answered (weight_verdict w number ranking) (weight_told (weight_of ranking (counts_for (rule_at w number).selector))))
    rule_weight_determined ranking =
        told_determined weighing_distinct (answered (weight_verdict w number ranking) (weight_told (weight_of ranking (counts_for (rule_at w number).selector))))

    pub style_determined : Determined (λ r. style_told r ≡ style_there w number (style_numbers (style_at w number)))
    style_determined = told_determined style_distinct (style_there w number (style_numbers (style_at w number)))

    pub style_entry_determined : (i : ℕ) → Determined (λ r. entry_told r ≡ style_there w number (entry_numbers (get_elem? (style_at w number).entries i)))
    style_entry_determined i = told_determined entry_distinct (style_there w number (entry_numbers (get_elem? (style_at w number).entries i)))

-- ---- checks alone: `matcher::states::check_state`; `admit::sources::check_style`, `check_group`; `joining::cascades::check_cascade`

pub check_state_determined : (w : List ℕ) (t : Table) (number stamp : ℕ) → Determined (λ (r : Result ⊤ Refusal). verdict_of r ≡ state_verdict w t number stamp)
unfolding state_verdict
check_state_determined w t number stamp = checks_determined _ refl

pub check_style_determined : (w : List ℕ) (origin : ℕ) (properties kinds numbers : List ℕ) (n : ℕ)
    → Determined (λ (r : Result ⊤ Refusal). verdict_of r ≡ style_push_verdict w origin properties kinds numbers n)
unfolding style_push_verdict
check_style_determined w origin properties kinds numbers n = checks_determined _ refl

rule_plain : (w : List ℕ) (g : Group) (k : ℕ) → plain (rule_checks (ids_in w) (all_entries_in w) g k) ≡ true
unfolding rule_checks
rule_plain w g k = refl

pub check_group_determined : (w : List ℕ) (origin : ℕ) (g : Group) (n : ℕ) → Determined (λ (r : Result ⊤ Refusal). verdict_of r ≡ group_verdict w origin g n)
unfolding group_verdict
check_group_determined w origin g n =
    let rules = checks_below n (rule_checks (ids_in w) (all_entries_in w) g) in
    let many = check 2 (rules_over w g.rules n) ∷ [] in
    let last = plain_append rules (index_checks w) (plain_below (rule_checks (ids_in w) (all_entries_in w) g) (rule_plain w g) n) refl in
    checks_determined _ (plain_append (front_checks w origin) (many ++ (rules ++ index_checks w)) refl (plain_append many (rules ++ index_checks w) refl last))

pub check_cascade_determined : (w v : List ℕ) → Determined (λ (r : Result ⊤ Refusal). verdict_of r ≡ cascade_verdict w v)
unfolding cascade_verdict
check_cascade_determined w v = checks_determined _ refl

-- ---- builder: `new`, `push_style`, `push_rules`, `push_rule`, `push_cascade`, each with its own verdict and its own words pushed; the sheet at exit

pub pushes_determined : (verdict : ℕ) (before pushed : List ℕ) → Determined (λ (o : Result ⊤ Refusal × List ℕ). Push verdict before pushed o.0 o.1)
pushes_determined verdict before pushed a b p q = pairs (push_determined p q)

-- ---- matcher, building, entering. `build` is lent the first three pieces of a table, and its contract holds whatever the other two are; `enter_subject` is lent all five

pub builds_determined : (w : List ℕ) (stamp ranking : ℕ) (head states cursors : List ℕ)
    → Determined (λ (o : Result ⊤ Refusal × List ℕ × List ℕ × List ℕ).
    (m t : List ℕ) → Build w stamp ranking (table head states cursors m t) o.0 (table o.1 o.2 o.3 m t))
builds_determined w stamp ranking head states cursors a b p q =
    let (e, f) = build_determined (p [] []) (q [] []) in
    λ i. (e i, (f i).head, (f i).states, (f i).cursors)

module _ (w : List ℕ) (t : Table) (number stamp : ℕ) where
  pub enters_determined : (x : SelectorInputs) → Determined (λ (o : Result MatchState Refusal × Table). Enter w t number stamp (inputs_row x) o.0 o.1)
  enters_determined x a b p q = pairs (enter_determined p q)

  pub matching_part_determined : Determined (Part w t number stamp)
  matching_part_determined a b p q = part_determined p q

  -- a part of the caller's list `whole`
  pub matching_rules_determined : (whole : Bor (List ℕ)) → DeterminedPart (Rules w t number stamp whole)
  matching_rules_determined whole a b p q = rules_determined p q

-- ---- cursor: `new` and `moved`, at an index; `rule_at`; `next`, with the cursor at exit; `step`

pub cursors_determined : (rules : Bor (List ℕ)) (index : ℕ) → Determined (λ (r : RuleCursor). (r.rules ≡ rules) × (r.index ≡ index))
cursors_determined rules index a b p q = Cursor.cursor_determined rules index p q

pub rule_at_determined : (rules : List ℕ) (index : ℕ) → Determined (λ r. next_told r ≡ next_of rules index)
rule_at_determined rules index a b p q = Cursor.next_determined rules index p q

pub next_determined : (c : RuleCursor)
    → Determined (λ (o : Option ℕ × RuleCursor).
    (next_told o.0 ≡ next_of c.rules.now c.index) × (o.1.rules ≡ c.rules) × (o.1.index ≡ index_after c.rules.now c.index))
next_determined c a b p q =
    pairs (Cursor.next_determined c.rules.now c.index p.0 q.0, Cursor.cursor_determined c.rules (index_after c.rules.now c.index) (p.1, p.2) (q.1, q.2))

pub step_determined : (rules : List ℕ) (index : ℕ) → Determined (λ (r : Yielded). (next_told r.rule ≡ next_of rules index) × (r.index ≡ index_after rules index))
step_determined rules index a b p q = Cursor.step_determined rules index p q

-- ---- channels: `affected_channels`, `ChannelSet::lowest`

pub affected_channels_determined : (masks ids : List ℕ) → Determined (λ (r : ChannelSet). r.0 ≡ channels_of masks ids)
affected_channels_determined masks ids a b p q = affected_determined masks ids p q

pub lowest_channel_determined : (mask : ℕ) → Determined (λ r. lowest_told r ≡ lowest_of (bits_in mask))
lowest_channel_determined mask a b p q = lowest_determined mask p q

-- ---- a list written into `out`, with `out` at exit: `changeset::from_property_ids`, `union`, `changed_properties`, `resource_dependent_properties`

pub listing_determined : (verdict : ℕ) (list out : List ℕ) → Determined (λ (o : Result ℕ Refusal × List ℕ). Lists verdict list out o.0 o.1)
listing_determined verdict list out a b p q = pairs (SetAnswers.lists_determined p q)

-- ---- changeset: `len`, `is_empty`

module _ (ids : List ℕ) (n : ℕ) where
  pub set_len_determined : Determined (λ r. changing_told r ≡ answered (count_verdict ids n) (0 ∷ length (set_of ids n) ∷ []))
  set_len_determined = told_determined SetAnswers.changing_distinct (answered (count_verdict ids n) (0 ∷ length (set_of ids n) ∷ []))

  pub set_empty_determined : Determined (λ r. Sets.emptiness_told r ≡ answered (count_verdict ids n) (0 ∷ one_if (eqb (length (set_of ids n)) 0) ∷ []))
  set_empty_determined = told_determined SetAnswers.emptiness_distinct (answered (count_verdict ids n) (0 ∷ one_if (eqb (length (set_of ids n)) 0) ∷ []))

-- ---- looking, cascade: `winning_source_for_id`, `value_kind`, `get_entry_ref`, `resource_key`; `changed_channels`

module _ (w : List ℕ) (t : Table) where
  module _ (number stamp property : ℕ) where
    pub winning_source_determined : Determined (λ r. winning_told r ≡ answered (state_verdict w t number stamp) (winner_told w (winner_in w t number property)))
    winning_source_determined a b p q = winner_determined w t number stamp property p q

    pub value_kind_determined : Determined (λ r. kind_told r ≡ answered (state_verdict w t number stamp) (kind_of (entry_in w t number property)))
    value_kind_determined a b p q = Looking.kind_determined w t number stamp property p q

    pub entry_ref_determined : Determined (λ r. plain_told r ≡ answered (state_verdict w t number stamp) (plain_of (entry_in w t number property)))
    entry_ref_determined a b p q = Looking.plain_determined w t number stamp property p q

    pub resource_key_determined : Determined (λ r. resource_told r ≡ answered (state_verdict w t number stamp) (resource_of (entry_in w t number property)))
    resource_key_determined a b p q = Looking.resource_determined w t number stamp property p q

  pub changed_channels_determined : (old oldStamp new newStamp : ℕ) (masks : List ℕ)
      → Determined (λ r. channels_told r ≡ answered (pair_verdict w t old oldStamp new newStamp) (0 ∷ channels_of masks (changed_in w t old new) ∷ []))
  changed_channels_determined old oldStamp new newStamp masks a b p q = channels_determined w t old oldStamp new newStamp masks p q
