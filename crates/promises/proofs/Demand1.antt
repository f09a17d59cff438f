-- Demand 1: "Each public call takes all input, ends, and checks for itself: bad input gets 01's numbered refusal exactly when 01 says, and a refused call changes
-- no lent memory." Assumes nothing.
-- That a call takes all input and ends is what the checker shows of each: no public function outside the modules `held` has a `requires` or takes a
-- type with an invariant, and a contract is proved of a function only if it ends. Here, of each call that can refuse, by its contract: its checks, in the order that 01 gives them; the first whose test holds gives
-- the number, which is told alone; where none holds, and only there, the call is accepted; and what was lent to write is left as it was by a refusal.
-- `Refusing checks told` says so of what the answer tells, `Guarding checks told before after` of that and of memory. There is always one number or none
-- (Ladders.antt, `decided`, `one_number`). Each test is defined in the specs/ of its crate, under its line of 01's table, and each size in theory's specs/Sizes; w is a sheet's words, t a table's.
-- Demand1Rest.antt has the calls for which 01's "Order" has no line. Refusal 10 is of house records, which no call here takes: `walk_of` (house, specs/House) says when,
-- and `pieces_print` (walked) that it is printed. The calls that only check (`admit`, `joining`, `matcher::states`) have the verdict of their answer for their contract
-- (`verdict_of`; that this fixes the answer: Determined.antt).
use mathlib.Core.Path.{◌≡◌, refl, ap, ◌∙◌}
use mathlib.Core.Logic.{◌↔◌, ◌⊎◌}
use mathlib.Core.Bool.{true, not}
use mathlib.Core.List.{List, [], ◌∷◌, ◌++◌}
use Prim.Native.Nat.{ℕ, suc, ◌+◌, ◌*◌, ◌<◌}
use native.Mathlib.Nat.{add-zero}
use lib.ListN.{length, get_elem?}
use lib.Dec.{ltb}
use denote.Ref.{Bor}
use Rattle.std.specs.Prelude.{Bool, Result, Option, ⊤}
use Rattle.lent.specs.declared.Refusal.{Refusal}
use Rattle.selector.specs.declared.SelectorCombinator.{SelectorCombinator}
use Rattle.steps.specs.declared.SelectorStep.{SelectorStep}
use Rattle.reading.specs.declared.MatchRule.{MatchRule}
use Rattle.reading.specs.declared.StyleEntry.{StyleEntry}
use Rattle.matcher.specs.declared.MatchState.{MatchState}
use Rattle.channels.specs.declared.ChannelSet.{ChannelSet}
use Rattle.looking.specs.declared.StyleSourceRef.{StyleSourceRef}
use Rattle.theory.specs.Sizes
use Rattle.theory.specs.Lists.{sum_below}
use Rattle.lent.specs.Refusals.{Check, check, checks_below, answered}
use Rattle.lent.proofs.Refusals.{positive_append, positive_below}
use Rattle.selector.specs.Rows.{row_at, selector_of}
use Rattle.selector.specs.Checks.{row_fits, tags_ascend, selector_over, path_over, combinators_off, codes_over, subjects_off, path_verdict}
use Rattle.selector.specs.Matching.{matching_told, matching_of, fits}
use Rattle.selector.specs.Diagnosing.{Diagnosis, diagnosis_told, diagnosis_of}
use Rattle.typed.specs.declared.SelectorInputs.{SelectorInputs}
use Rattle.typed.specs.Typed.{inputs_row}
use Rattle.style.specs.Checks.{entries_over, kinds_over, properties_off}
use Rattle.style.specs.Looking.{kind_told, plain_told, resource_told, kind_of, plain_of, resource_of}
use Rattle.style.specs.declared.StyleValueKind.{StyleValueKind}
use Rattle.style.specs.declared.StyleValueRef.{StyleValueRef}
use Rattle.sheet.specs.Layout
use Rattle.sheet.specs.Shape.{sheet_shape}
use Rattle.sheet.specs.Sheets.{rule_at}
use Rattle.sheet.specs.Laying.{ids_held}
use Rattle.reading.specs.Reading.{rule_told, entry_told, combinator_told, step_told, rule_verdict, rule_numbers, entry_numbers, combinator_numbers, StepRead}
use Rattle.given.specs.Given.{Group, step_count, combinator_count, entry_count, steps_from, combinators_from, properties_from, kinds_from, numbers_from, selector_given}
use Rattle.given.specs.Pushing.{all_entries_in, rules_over, sums_over, indexes_over, rule_checks, style_push_verdict, group_verdict, cascade_verdict, pushed_cascade}
use Rattle.builder.specs.Answers.{pushing_told, Push}
use Rattle.made.proofs.Pushed.{nothing_accepted, nothing_pushed}
use Rattle.table.specs.Tables.{Table}
use Rattle.table.specs.Entering.{root_lacks_room, lacks_room}
use Rattle.table.specs.Calls.{broken, not_a_state, build_verdict, state_verdict, enter_verdict}
use Rattle.matcher.specs.Answers.{listing_told, Part, Rules}
use Rattle.building.specs.Answers.{building_told, Build}
use Rattle.entering.specs.Answers.{entering_told, Enter}
use Rattle.channels.specs.Channels.{channels_of}
use Rattle.changeset.specs.Sets.{changing_told, Lists}
use Rattle.changes.specs.Changes.{resource_dependent}
use Rattle.looking.specs.Calls.{winner_in, entry_in}
use Rattle.looking.specs.Answers.{winning_told, winner_told}
use Rattle.cascade.specs.Calls.{changed_in, pair_verdict, changed_verdict, resource_verdict}
use Rattle.cascade.specs.Answers.{channels_told}
use Rattle.promises.specs.Refusing.{First, None, InTurn, Refusing, Guarding}
use Rattle.promises.proofs.Ladders.{refusing, otherwise, guarding, nested, yes_no_accepts, kind_accepts, plain_accepts, resource_accepts, entry_accepts, combinator_accepts, there_accepts, winner_accepts, diagnosis_accepts}

-- ---- "entering 11, 4, 2, 1, 5"

pub enter_subject_refuses : (w : List ℕ) (t : Table) (number stamp : ℕ) (x : SelectorInputs) {r : Result MatchState Refusal} {t' : Table} → Enter w t number stamp (inputs_row x) r t'
    → Guarding
    (check 11 (broken w t)
    ∷ check 4 (not_a_state t.head number stamp)
    ∷ check 2 (not (row_fits Sizes.SUBJECT-IDS (inputs_row x) 0))
    ∷ check 1 (not (tags_ascend (row_at 16 (inputs_row x) 0)))
    ∷ check 5 (lacks_room w t number (inputs_row x))
    ∷ [])
    (entering_told r) t t'
unfolding enter_verdict
enter_subject_refuses w t number stamp x c = guarding refl _ (_, refl) c.answer c.memory

-- ---- "Matched list and winner 11, 4."

module _ (w : List ℕ) (t : Table) (number stamp : ℕ) where
  abbrev pub of_state : List Check
  of_state = check 11 (broken w t) ∷ check 4 (not_a_state t.head number stamp) ∷ []

  pub matching_part_refuses : {r : Result (ℕ × ℕ) Refusal} → Part w t number stamp r → Refusing of_state (listing_told r)
  unfolding state_verdict
  matching_part_refuses c = refusing refl (_, refl) c.answer

  -- it has no number to tell, and answers a part of the buffer: an empty one, at its front, where `matching_part` refuses
  pub matching_rules_refuses : {whole part : Bor (List ℕ)} → Rules w t number stamp whole part → (n : ℕ) → First of_state n → (part.now ≡ []) × (part.ref_ptr ≡ whole.ref_ptr)
  unfolding state_verdict
  matching_rules_refuses {whole} c n x =
      let front = c.place ∙ ap (λ (k : ℕ). whole.ref_ptr.1 + 4 * k) (otherwise refl _ 0 n x) ∙ add-zero whole.ref_ptr.1 in
      (c.numbers ∙ otherwise refl _ [] n x, λ i. (c.block i, front i))

  module _ (property : ℕ) where
    pub winning_source_for_id_refuses : (r : Result (Option StyleSourceRef) Refusal) → winning_told r ≡ answered (state_verdict w t number stamp) (winner_told w (winner_in w t number property)) → Refusing of_state (winning_told r)
    unfolding state_verdict
    winning_source_for_id_refuses r e = refusing refl (winner_accepts w (winner_in w t number property)) e

    pub value_kind_refuses : (r : Result (Option StyleValueKind) Refusal) → kind_told r ≡ answered (state_verdict w t number stamp) (kind_of (entry_in w t number property)) → Refusing of_state (kind_told r)
    unfolding state_verdict
    value_kind_refuses r e = refusing refl (kind_accepts (entry_in w t number property)) e

    pub get_entry_ref_refuses : (r : Result (Option StyleValueRef) Refusal) → plain_told r ≡ answered (state_verdict w t number stamp) (plain_of (entry_in w t number property)) → Refusing of_state (plain_told r)
    unfolding state_verdict
    get_entry_ref_refuses r e = refusing refl (plain_accepts (entry_in w t number property)) e

    pub resource_key_refuses : (r : Result (Option ℕ) Refusal) → resource_told r ≡ answered (state_verdict w t number stamp) (resource_of (entry_in w t number property)) → Refusing of_state (resource_told r)
    unfolding state_verdict
    resource_key_refuses r e = refusing refl (resource_accepts (entry_in w t number property)) e

-- ---- "Rule by number 11, 9."

module _ (w : List ℕ) (number : ℕ) where
  abbrev pub of_rule : List Check
  of_rule = check 11 (not (sheet_shape w)) ∷ check 9 (not (ltb number (Layout.rules_in w))) ∷ []

  pub rule_refuses : (r : Result MatchRule Refusal) → rule_told r ≡ answered (rule_verdict w number) (rule_numbers (rule_at w number)) → Refusing of_rule (rule_told r)
  unfolding rule_verdict
  rule_refuses r e = refusing refl (_, refl) e

  module _ (i : ℕ) where
    pub rule_step_refuses : {r : Result (Option SelectorStep) Refusal} → StepRead w number i r → Refusing of_rule (step_told r)
    unfolding rule_verdict
    rule_step_refuses c = refusing refl (there_accepts (ltb i (length (rule_at w number).selector)) (0 ∷ 1 ∷ []) (_, refl)) c.verdict

    pub rule_combinator_refuses : (r : Result (Option SelectorCombinator) Refusal)
        → combinator_told r ≡ answered (rule_verdict w number) (combinator_numbers (get_elem? (rule_at w number).selector (suc i)))
        → Refusing of_rule (combinator_told r)
    unfolding rule_verdict
    rule_combinator_refuses r e = refusing refl (combinator_accepts (get_elem? (rule_at w number).selector (suc i))) e

    pub rule_entry_refuses : (r : Result (Option StyleEntry) Refusal) → entry_told r ≡ answered (rule_verdict w number) (entry_numbers (get_elem? (rule_at w number).entries i)) → Refusing of_rule (entry_told r)
    unfolding rule_verdict
    rule_entry_refuses r e = refusing refl (entry_accepts (get_elem? (rule_at w number).entries i)) e

-- ---- "Changed list 11, 4 (old, then new), 8; channels of two states 11, 4."

module _ (w : List ℕ) (t : Table) (old oldStamp new newStamp : ℕ) where
  pub changed_properties_refuses : {out after : List ℕ} {r : Result ℕ Refusal} → Lists (changed_verdict w t old oldStamp new newStamp out) (changed_in w t old new) out r after
      → Guarding
      (check 11 (broken w t)
      ∷ check 4 (not_a_state t.head old oldStamp)
      ∷ check 4 (not_a_state t.head new newStamp)
      ∷ check 8 (ltb (length out) (length (changed_in w t old new)))
      ∷ [])
      (changing_told r) out after
  unfolding changed_verdict
  changed_properties_refuses c = guarding refl _ (_, refl) c.answer c.memory

  pub changed_channels_refuses : (masks : List ℕ) (r : Result ChannelSet Refusal)
      → channels_told r ≡ answered (pair_verdict w t old oldStamp new newStamp) (0 ∷ channels_of masks (changed_in w t old new) ∷ [])
      → Refusing (check 11 (broken w t) ∷ check 4 (not_a_state t.head old oldStamp) ∷ check 4 (not_a_state t.head new newStamp) ∷ []) (channels_told r)
  unfolding pair_verdict
  changed_channels_refuses masks r e = refusing refl (_, refl) e

-- ---- "Resource-dependent list 11, 8."

pub resource_dependent_properties_refuses : (w : List ℕ) {out after : List ℕ} {r : Result ℕ Refusal} → Lists (resource_verdict w out) (resource_dependent w) out r after
    → Guarding (check 11 (not (sheet_shape w)) ∷ check 8 (ltb (length out) (length (resource_dependent w))) ∷ []) (changing_told r) out after
unfolding resource_verdict
resource_dependent_properties_refuses w c = guarding refl _ (_, refl) c.answer c.memory

-- ---- "Matching and diagnosis 2 (selector, then path), 3, 6, 1."

module _ (steps : List ℕ) (n : ℕ) (combinators : List ℕ) (c : ℕ) (path : List ℕ) (m : ℕ) where
  abbrev pub of_path : List Check
  of_path =
      check 2 (selector_over steps n combinators c)
      ∷ check 2 (path_over path m)
      ∷ check 3 (combinators_off n c)
      ∷ check 6 (codes_over combinators c)
      ∷ check 1 (subjects_off path m)
      ∷ []

  pub matches_path_refuses : (r : Result Bool Refusal) → matching_told r ≡ matching_of steps n combinators c path m → Refusing of_path (matching_told r)
  unfolding matching_of path_verdict
  matches_path_refuses r e = refusing refl (yes_no_accepts (fits steps n combinators path m)) e

  pub diagnose_path_refuses : (r : Result Diagnosis Refusal) → diagnosis_told r ≡ diagnosis_of steps n combinators c path m → Refusing of_path (diagnosis_told r)
  unfolding diagnosis_of path_verdict
  diagnose_path_refuses r e = refusing refl (diagnosis_accepts steps n combinators path m) e

-- ---- "Pushing a style 11, 6 (origin), 2, 6, 1, 7." Of 2: one direct style more, its entries, and those of the whole sheet

pub push_style_refuses : (w : List ℕ) (origin : ℕ) (properties kinds numbers : List ℕ) (n : ℕ) {pushed after : List ℕ} {r : Result ⊤ Refusal}
    → Push (style_push_verdict w origin properties kinds numbers n) w pushed r after
    → Guarding
    (check 11 (not (sheet_shape w))
    ∷ check 6 (ltb Sizes.ORIGIN origin)
    ∷ check 2 (ltb Sizes.STYLES (Layout.styles_in w + 1))
    ∷ check 2 (entries_over properties kinds numbers n)
    ∷ check 2 (ltb Sizes.SHEET-ENTRIES (all_entries_in w + n))
    ∷ check 6 (kinds_over kinds n)
    ∷ check 1 (properties_off properties n)
    ∷ check 7 (ltb Sizes.SOURCE-INDEX (Layout.next_in w))
    ∷ [])
    (pushing_told r) w after
unfolding style_push_verdict
push_style_refuses w origin properties kinds numbers n c = guarding refl _ (_, refl) c.answer c.memory

-- ---- "Pushing a group 11, 6 for the origin, 2 for the number of rules, then each rule in turn 2 (sheet sums so far included), 3, 6, 1, then 7; all or nothing."

module _ (w : List ℕ) (origin : ℕ) (g : Group) (n : ℕ) where
  abbrev pub before_rules : List Check
  before_rules = check 11 (not (sheet_shape w)) ∷ check 6 (ltb Sizes.ORIGIN origin) ∷ check 2 (rules_over w g.rules n) ∷ []

  -- rule k: of 2, its selector, its entries, and the ids and entries of the whole sheet with the rules before it; of 6, combinators and entry kinds
  abbrev pub rule_in_turn : ℕ → List Check
  rule_in_turn k =
      check 2 (selector_over (steps_from g k) (step_count g k) (combinators_from g k) (combinator_count g k))
      ∷ check 2 (entries_over (properties_from g k) (kinds_from g k) (numbers_from g k) (entry_count g k))
      ∷ check 2 (ltb Sizes.SHEET-IDS (Layout.ids_in w + sum_below (λ j. ids_held (selector_given g j)) k + ids_held (selector_of (steps_from g k) (combinators_from g k) (step_count g k))))
      ∷ check 2 (ltb Sizes.SHEET-ENTRIES (all_entries_in w + sum_below (entry_count g) k + entry_count g k))
      ∷ check 3 (combinators_off (step_count g k) (combinator_count g k))
      ∷ check 6 (codes_over (combinators_from g k) (combinator_count g k))
      ∷ check 6 (kinds_over (kinds_from g k) (entry_count g k))
      ∷ check 1 (properties_off (properties_from g k) (entry_count g k))
      ∷ []

  abbrev pub after_rules : List Check
  after_rules = check 7 (ltb Sizes.SOURCE-INDEX (Layout.next_in w)) ∷ []

  abbrev pub of_group : List Check
  of_group = before_rules ++ (checks_below n rule_in_turn ++ after_rules)

  -- `push_rules`; `push_rule` is a group of one, whose three counts are its arguments
  pub push_rules_refuses : {pushed after : List ℕ} {r : Result ⊤ Refusal} → Push (group_verdict w origin g n) w pushed r after → Guarding of_group (pushing_told r) w after
  unfolding group_verdict rule_checks
  push_rules_refuses c = guarding (positive_append (checks_below n rule_in_turn) after_rules (positive_below rule_in_turn (λ k. refl) n) refl) _ (_, refl) c.answer c.memory

  -- what these checks give: the first three; else those of the first rule in turn that has one; else the last
  pub group_gives : (m : ℕ) → First of_group m
      ↔ (First before_rules m ⊎ (None before_rules × (InTurn n rule_in_turn m ⊎ (((k : ℕ) → k < n → None (rule_in_turn k)) × First after_rules m))))
  group_gives m = nested before_rules rule_in_turn n after_rules m

-- ---- "Pushing a cascade 11, 2, 7; one without direct styles and rules is accepted and alters nothing." 11: the sheet, then the one that is pushed

pub push_cascade_refuses : (w v : List ℕ) {pushed after : List ℕ} {r : Result ⊤ Refusal} → Push (cascade_verdict w v) w pushed r after
    → Guarding
    (check 11 (not (sheet_shape w)) ∷ check 11 (not (sheet_shape v)) ∷ check 2 (sums_over w v) ∷ check 7 (indexes_over w v) ∷ [])
    (pushing_told r) w after
unfolding cascade_verdict
push_cascade_refuses w v c = guarding refl _ (_, refl) c.answer c.memory

pub push_bare_cascade : (w v : List ℕ) → sheet_shape w ≡ true → sheet_shape v ≡ true → Layout.styles_in v ≡ 0 → Layout.rules_in v ≡ 0 → {after : List ℕ} {r : Result ⊤ Refusal}
    → Push (cascade_verdict w v) w (pushed_cascade w v) r after → (pushing_told r ≡ 0 ∷ []) × (after ≡ w)
push_bare_cascade w v s s' no-styles no_rules c =
    let e = nothing_accepted w v s no-styles no_rules s' in
    (rw e at c.answer, rw e at c.memory ∙ nothing_pushed w v s no-styles no_rules)

-- ---- "Build 11 (sheet), 6, 5." It is lent three of the table's five pieces, and its contract says this whatever the other two are

pub build_refuses : (w : List ℕ) (stamp ranking : ℕ) (t : Table) {r : Result ⊤ Refusal} {t' : Table} → Build w stamp ranking t r t'
    → Guarding (check 11 (not (sheet_shape w)) ∷ check 6 (ltb Sizes.RANKING ranking) ∷ check 5 (root_lacks_room w t.states t.cursors) ∷ []) (building_told r) t t'
unfolding build_verdict
build_refuses w stamp ranking t c = guarding refl _ (_, refl) c.answer c.memory
