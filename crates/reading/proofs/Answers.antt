-- What the calls that read a sheet answer, by each way through the code. Assumes nothing.
use mathlib.Core.Path.{◌≡◌, refl, sym, ap, ◌∙◌}
use mathlib.Core.Bool.{Bool, true, false, not, cond}
use mathlib.Core.Option.{some}
use mathlib.Core.List.{List, [], ◌∷◌}
use Prim.Native.Nat.{ℕ, zero, suc, ◌+◌, ◌-◌, ◌*◌, ◌≤◌, ◌<◌}
use native.Mathlib.Numerals.{add-one}
use native.Mathlib.Omega.{arith}
use lib.ListN.{length, get_or, get_elem?, drop}
use lib.Dec.{ltb, eqb}
use mir.Syntax.{w16, w32}
use mir.Val.{Fits}
use borrow.Author.Tests.{lt-ltb, le-ltb, ne_eqb, eqb-true, eqb-false, ltb-true, not-true, not-false}
use Rattle.theory.specs.Lists.{spread}
use Rattle.theory.specs.Weight.{weight_of}
use Rattle.theory.proofs.Spreads.{length_spread}
use Rattle.lent.specs.Pool.{ends_in, start_of}
use Rattle.lent.specs.Refusals.{number_of, told, check, first_of, one_if, answered}
use Rattle.lent.specs.declared.Refusal.{Refusal}
use Rattle.lent.specs.declared.Refusal.TheVariants.{CodeOutOfRange}
use Rattle.lent.proofs.Refusals.{first_stop, first_go, first_clear, refusal_number, refused_first}
use Rattle.std.specs.Prelude.{Ok, Err, Some, None}
use Rattle.selector.specs.declared.SelectorCombinator.{SelectorCombinator}
use Rattle.selector.specs.declared.SelectorCombinator.TheVariants.{Child, Descendant}
use Rattle.selector.specs.Rows.{comb_of, combinator_of}
use Rattle.selector.specs.Weighing.{weight_told}
use Rattle.selector.specs.declared.Specificity.{Specificity}
use Rattle.steps.specs.declared.SelectorStep.{SelectorStep}
use Rattle.steps.specs.Steps.{asking, step_from}
use Rattle.sheet.specs.Layout
use Rattle.sheet.specs.Layout.{rules_in, steps_in, entries_in, styles_in, style_entries_in, step_place}
use Rattle.sheet.specs.Sheets.{is_nil, part_at, entry_at, rule_at, style_at, sheet_of, counts_for, weight_for, rule_step_ends, rule_entry_ends, style_entry_ends}
use Rattle.sheet.specs.Shape.{sheet_shape}
use Rattle.sheet.proofs.ReadLaws.{steps_few, entries_few, rule_steps_end, rule_entries_end, style_entries_end, rule_property_few, style_property_few, length_between, between_at, between_past}
use Rattle.weighed.specs.Weighing.{weight_from}
use Rattle.reading.specs.Reading.{sheet_verdict, rule_verdict, weight_verdict, emptiness_of, rule_numbers, style_numbers, entry_numbers, comb_numbers, combinator_number, combinator_numbers, style_there, StepRead}

-- ---- refusals

module _ (w : List ℕ) where
  -- the test of a sheet
  module _ (b : Bool) (e : b ≡ sheet_shape w) where
    pub verdict_broken : b ≡ false → 11 ≡ sheet_verdict w
    unfolding sheet_verdict first_of
    verdict_broken t = rw (← e, t)

    pub verdict_fine : b ≡ true → 0 ≡ sheet_verdict w
    unfolding sheet_verdict first_of
    verdict_fine t = rw (← e, t)

  -- what it refuses
  module _ (x : Refusal) (f : number_of x ≡ sheet_verdict w) where
    pub sheet_refused : (l : List ℕ) → told x ≡ answered (sheet_verdict w) l
    unfolding sheet_verdict
    sheet_refused l = refused_first _ x l refl f

    pub empty_refused : told x ≡ emptiness_of w
    unfolding emptiness_of
    empty_refused = sheet_refused _

    pub style_refused : (d : ℕ) (l : List ℕ) → told x ≡ style_there w d l
    style_refused d l = sheet_refused _

    pub rule_broken : (r : ℕ) → number_of x ≡ rule_verdict w r
    unfolding sheet_verdict rule_verdict
    rule_broken r = first_stop (check 11 (not (sheet_shape w)) ∷ []) _ (number_of x) f (refusal_number x)

  -- and what it lets through
  module _ (z : 0 ≡ sheet_verdict w) where
    sheet_there : sheet_shape w ≡ true
    unfolding sheet_verdict
    sheet_there = not-false _ (first_clear 11 (not (sheet_shape w)) [] (omega arith) (sym z)).0

    pub sheet_told : (l m : List ℕ) → l ≡ m → l ≡ answered (sheet_verdict w) m
    sheet_told l m h = rw (← z) h

    pub count_told : (n k : ℕ) → n ≡ k → 0 ∷ n ∷ [] ≡ answered (sheet_verdict w) (0 ∷ k ∷ [])
    count_told n k h = rw (← z, h)

    -- neither styles nor rules
    pub empty_styles : (n : ℕ) → n ≡ styles_in w → (n ≡ 0 → ⊥) → 0 ∷ 0 ∷ [] ≡ emptiness_of w
    unfolding emptiness_of sheet_of
    empty_styles n h k = let y : styles_in w ≡ suc (styles_in w - 1) = omega arith in rw (← z, y)

    pub empty_rules : (n : ℕ) → n ≡ styles_in w → n ≡ 0 → (m : ℕ) → m ≡ rules_in w → 0 ∷ cond (eqb m 0) 1 0 ∷ [] ≡ emptiness_of w
    unfolding emptiness_of sheet_of
    empty_rules n h k m g = let y : styles_in w ≡ 0 = omega arith in rw (← z, y, ← g) (by m)
      where
        by : (m : ℕ) → 0 ∷ cond (eqb m 0) 1 0 ∷ [] ≡ 0 ∷ one_if (is_nil (spread (rule_at w) 0 m)) ∷ []
        by zero = refl
        by (suc m) = rw (ne_eqb (suc m) 0 (λ q. omega arith))

    -- a rule by number
    module _ (r n : ℕ) (h : n ≡ rules_in w) where
      pub verdict_missing : n ≤ r → 9 ≡ rule_verdict w r
      unfolding rule_verdict first_of
      verdict_missing l = rw (sheet_there, ← h, le-ltb r n l)

      pub verdict_there : r < n → 0 ≡ rule_verdict w r
      unfolding rule_verdict first_of
      verdict_there l = rw (sheet_there, ← h, lt-ltb r n l)

pub ruleset verdicts = (verdict_broken, verdict_fine, rule_broken, verdict_missing, verdict_there, not-true, not-false)

pub ruleset counting = (sheet_refused, count_told)

pub ruleset empties = (empty_refused, empty_styles, empty_rules)

-- ---- a rule by number

pub rule_is : (w : List ℕ) (r o s d n m : ℕ)
    → o ≡ ends_in w Layout.RULE-ORIGIN Layout.RULE-WORDS r
    → s ≡ ends_in w Layout.RULE-SOURCE Layout.RULE-WORDS r
    → d ≡ ends_in w Layout.RULE-ORDER Layout.RULE-WORDS r
    → n ≡ rule_step_ends w r - start_of (rule_step_ends w) r
    → m ≡ rule_entry_ends w r - start_of (rule_entry_ends w) r
    → 0 ∷ o ∷ s ∷ d ∷ n ∷ m ∷ [] ≡ rule_numbers (rule_at w r)
unfolding rule_at
rule_is w r o s d n m e f g h k =
    rw (length_between (part_at w) (rule_step_ends w) r, length_between (entry_at w Layout.ENTRY Layout.ENTRY-ROOM) (rule_entry_ends w) r, e, f, g, h, k)

module _ (w : List ℕ) (r : ℕ) where
  pub rule_refused : (x : Refusal) → number_of x ≡ rule_verdict w r → (l : List ℕ) → told x ≡ answered (rule_verdict w r) l
  unfolding rule_verdict
  rule_refused x f l = refused_first _ x l refl f

  module _ (z : 0 ≡ rule_verdict w r) where
    pub rule_told_lem : (l m : List ℕ) → l ≡ m → l ≡ answered (rule_verdict w r) m
    rule_told_lem l m h = rw (← z) h

    -- the sheet is one, and the rule is there
    rule_there : (sheet_shape w ≡ true) × (r < rules_in w)
    unfolding rule_verdict
    rule_there =
        let (a, f) = first_clear 11 (not (sheet_shape w)) _ (omega arith) (sym z) in
        let (b, _) = first_clear 9 (not (ltb r (rules_in w))) [] (omega arith) f in
        (not-false _ a, ltb-true r (rules_in w) (not-false _ b))

    pub shape_there : sheet_shape w ≡ true
    shape_there = rule_there.0

    pub number_there : r < rules_in w
    number_there = rule_there.1

    -- element i of n, from `from` on: of its steps,
    module _ (n : ℕ) (f : n ≡ rule_step_ends w r - start_of (rule_step_ends w) r) (i from : ℕ) (g : from ≡ start_of (rule_step_ends w) r) (h : i < n) where
      pub step_below : from + i < steps_in w
      step_below = let (m, l) = rule_there in omega (arith, rule_steps_end w m r l)

      pub step_fits : Fits w32 (from + i)
      step_fits = let (m, l) = rule_there in record { fits = omega (arith, step_below, steps_few w m) }

    module _ (n : ℕ) (f : n ≡ rule_step_ends w r - start_of (rule_step_ends w) r) (i : ℕ) where
      pub combinator_none : n ≤ i → 0 ∷ [] ≡ answered (rule_verdict w r) (combinator_numbers (get_elem? (rule_at w r).selector (suc i)))
      unfolding rule_at
      combinator_none h = rule_told_lem _ _ (rw (between_past (part_at w) (rule_step_ends w) r n f (suc i) (omega arith)))

      pub combinator_last : n ≤ i + 1 → 0 ∷ [] ≡ answered (rule_verdict w r) (combinator_numbers (get_elem? (rule_at w r).selector (suc i)))
      unfolding rule_at
      combinator_last h = rule_told_lem _ _ (rw (between_past (part_at w) (rule_step_ends w) r n f (suc i) (omega arith)))

      pub combinator_found : i + 1 < n → (from : ℕ) → from ≡ start_of (rule_step_ends w) r → (l : List ℕ) → l ≡ combinator_numbers (some (part_at w (from + (i + 1))))
          → l ≡ answered (rule_verdict w r) (combinator_numbers (get_elem? (rule_at w r).selector (suc i)))
      unfolding rule_at
      combinator_found h from g l p = rule_told_lem l _ (p ∙ rw (add-one i, between_at (part_at w) (rule_step_ends w) r n f (suc i) (omega arith), g))

    -- and of its entries
    module _ (n : ℕ) (f : n ≡ rule_entry_ends w r - start_of (rule_entry_ends w) r) (i : ℕ) where
      pub entry_absent : n ≤ i → 0 ∷ [] ≡ answered (rule_verdict w r) (entry_numbers (get_elem? (rule_at w r).entries i))
      unfolding rule_at
      entry_absent h = rule_told_lem _ _ (ap entry_numbers (sym (between_past (entry_at w Layout.ENTRY Layout.ENTRY-ROOM) (rule_entry_ends w) r n f i h)))

      module _ (from : ℕ) (g : from ≡ start_of (rule_entry_ends w) r) (h : i < n) where
        entry_below : from + i < entries_in w
        entry_below = let (m, l) = rule_there in omega (arith, rule_entries_end w m r l)

        pub entry_fits : Fits w32 (from + i)
        entry_fits = let (m, l) = rule_there in record { fits = omega (arith, entry_below, (entries_few w m).0) }

        pub entry_held : get_or w (Layout.ENTRY + (from + i)) 0 ≤ 65535
        entry_held = let (m, l) = rule_there in rule_property_few w m (from + i) entry_below

        pub entry_found : (l : List ℕ) → l ≡ entry_numbers (some (entry_at w Layout.ENTRY Layout.ENTRY-ROOM (from + i)))
            → l ≡ answered (rule_verdict w r) (entry_numbers (get_elem? (rule_at w r).entries i))
        unfolding rule_at
        entry_found l p = rule_told_lem l _ (p ∙ rw (between_at (entry_at w Layout.ENTRY Layout.ENTRY-ROOM) (rule_entry_ends w) r n f i h, g))

-- ---- an entry

pub property_fits : (w : List ℕ) (base e e' at v : ℕ) → e' ≡ e → at ≡ base + e' → v ≡ get_or w at 0 → get_or w (base + e) 0 ≤ 65535 → Fits w16 v
property_fits w base e e' at v f g h k = record { fits = let z : v ≡ get_or w (base + e) 0 = h ∙ rw (g, f) in omega arith }

pub entry_is : (w : List ℕ) (base room e e' p k n : ℕ) → e' ≡ e → p ≡ get_or w (base + e') 0 → k ≡ get_or w (base + e' + room) 0 → n ≡ get_or w (base + e' + 2 * room) 0
    → 0 ∷ p ∷ k ∷ n ∷ [] ≡ entry_numbers (some (entry_at w base room e))
unfolding entry_at
entry_is w base room e e' p k n f g h i =
    let y : base + e + room ≡ base + room + e = omega arith in
    let z : base + e + 2 * room ≡ base + 2 * room + e = omega arith in
    rw (g, h, i, f, y, z)

-- ---- a combinator

pub before_is : (w : List ℕ) (s n : ℕ) → n ≡ ends_in w Layout.STEP-COMBINATOR Layout.STEP-WORDS s → (c : SelectorCombinator) → c ≡ combinator_of n
    → 0 ∷ combinator_number c ∷ [] ≡ combinator_numbers (some (part_at w s))
unfolding part_at
before_is w s n e c f = rw (f, ← e) (by (eqb n 0) refl)
  where
    by : (t : Bool) → eqb n 0 ≡ t → 0 ∷ combinator_number (cond t Child Descendant) ∷ [] ≡ comb_numbers (comb_of n)
    by true h = rw (eqb-true n 0 h)
    by false h = rw (ne_eqb n 0 (eqb-false n 0 h))

-- ---- a step

module _ (w : List ℕ) (r i : ℕ) where
  pub step_refused : (x : Refusal) → number_of x ≡ rule_verdict w r → StepRead w r i (Err x)
  step_refused x f =
      let n : eqb (rule_verdict w r) 0 ≡ false = ne_eqb _ 0 (λ z. refusal_number x (f ∙ z)) in
      record { verdict = rule_refused w r x f _; step = rw n }

  module _ (z : 0 ≡ rule_verdict w r) (n : ℕ) (f : n ≡ rule_step_ends w r - start_of (rule_step_ends w) r) where
    pub step_absent : n ≤ i → StepRead w r i (Ok None)
    unfolding rule_at
    step_absent h =
        let p : ltb i (length (rule_at w r).selector) ≡ false = rw (length_between (part_at w) (rule_step_ends w) r, ← f) (le-ltb i n h) in
        record { verdict = rw (← z, p); step = rw (← z, p) }

    pub step_found : i < n → (from : ℕ) → from ≡ start_of (rule_step_ends w) r → (at : ℕ) → at ≡ step_place (from + i) → (s : SelectorStep) → s ≡ step_from (drop at w)
        → StepRead w r i (Ok (Some s))
    unfolding rule_at
    step_found h from g at k s j =
        let p : ltb i (length (rule_at w r).selector) ≡ true = rw (length_between (part_at w) (rule_step_ends w) r, ← f) (lt-ltb i n h) in
        record { verdict = rw (← z, p); step = rw (← z, p) (j ∙ rw (k, g)) }

-- ---- a direct style

pub style_is : (w : List ℕ) (d o s n : ℕ)
    → o ≡ ends_in w Layout.STYLE-ORIGIN Layout.STYLE-WORDS d
    → s ≡ ends_in w Layout.STYLE-SOURCE Layout.STYLE-WORDS d
    → n ≡ style_entry_ends w d - start_of (style_entry_ends w) d
    → 0 ∷ o ∷ s ∷ n ∷ [] ≡ style_numbers (style_at w d)
unfolding style_at
style_is w d o s n e f g = rw (length_spread, e, f, g)

module _ (w : List ℕ) (z : 0 ≡ sheet_verdict w) (d c : ℕ) (x : c ≡ styles_in w) where
  pub style_absent : c ≤ d → (l : List ℕ) → 0 ∷ [] ≡ style_there w d l
  style_absent h l = sheet_told w z _ _ (rw (← x, le-ltb d c h))

  module _ (y : d < c) where
    pub style_told_lem : (l m : List ℕ) → l ≡ m → l ≡ style_there w d m
    style_told_lem l m h = sheet_told w z _ _ (rw (← x, lt-ltb d c y) h)

    module _ (n : ℕ) (f : n ≡ style_entry_ends w d - start_of (style_entry_ends w) d) (i : ℕ) where
      pub style_entry_absent : n ≤ i → 0 ∷ [] ≡ style_there w d (entry_numbers (get_elem? (style_at w d).entries i))
      unfolding style_at
      style_entry_absent h = style_told_lem _ _ (ap entry_numbers (sym (between_past (entry_at w Layout.STYLE-ENTRY Layout.STYLE-ENTRY-ROOM) (style_entry_ends w) d n f i h)))

      module _ (from : ℕ) (g : from ≡ start_of (style_entry_ends w) d) (h : i < n) where
        style_entry_below : from + i < style_entries_in w
        style_entry_below = omega (arith, style_entries_end w (sheet_there w z) d (rw (← x) y))

        pub style_entry_fits : Fits w32 (from + i)
        style_entry_fits = record { fits = omega (arith, style_entry_below, (entries_few w (sheet_there w z)).1) }

        pub style_entry_held : get_or w (Layout.STYLE-ENTRY + (from + i)) 0 ≤ 65535
        style_entry_held = style_property_few w (sheet_there w z) (from + i) style_entry_below

        pub style_entry_found : (l : List ℕ) → l ≡ entry_numbers (some (entry_at w Layout.STYLE-ENTRY Layout.STYLE-ENTRY-ROOM (from + i)))
            → l ≡ style_there w d (entry_numbers (get_elem? (style_at w d).entries i))
        unfolding style_at
        style_entry_found l p = style_told_lem l _ (p ∙ rw (between_at (entry_at w Layout.STYLE-ENTRY Layout.STYLE-ENTRY-ROOM) (style_entry_ends w) d n f i h, g))

pub ruleset styles = (style_refused, style_absent, style_told_lem, style_entry_absent, style_entry_fits, style_entry_held, style_entry_found)

-- ---- the weight of a rule

module _ (w : List ℕ) (r ranking : ℕ) where
  pub weight_refused : (x : Refusal) → number_of x ≡ rule_verdict w r → (l : List ℕ) → told x ≡ answered (weight_verdict w r ranking) l
  unfolding weight_verdict rule_verdict
  weight_refused x f l =
      refused_first _ x l refl
      (first_stop (check 11 (not (sheet_shape w)) ∷ check 9 (not (ltb r (rules_in w))) ∷ []) (check 6 (ltb 1 ranking) ∷ []) (number_of x) f (refusal_number x))

  module _ (z : 0 ≡ rule_verdict w r) where
    last : weight_verdict w r ranking ≡ first_of (check 6 (ltb 1 ranking) ∷ [])
    unfolding weight_verdict rule_verdict
    last = sym (first_go (check 11 (not (sheet_shape w)) ∷ check 9 (not (ltb r (rules_in w))) ∷ []) (check 6 (ltb 1 ranking) ∷ []) 0 _ z refl refl refl)

    pub weight_code : 1 < ranking → (l : List ℕ) → told CodeOutOfRange ≡ answered (weight_verdict w r ranking) l
    unfolding first_of
    weight_code h l = rw (last, lt-ltb 1 ranking h)

    pub weight_told_lem : ranking ≤ 1 → (s : Specificity) → weight_from s ≡ weight_for ranking (rule_at w r) → 0 ∷ s.0 ∷ s.1 ∷ s.2 ∷ s.3 ∷ [] ≡ answered (weight_verdict w r ranking) (weight_told (weight_of ranking (counts_for (rule_at w r).selector)))
    unfolding first_of
    weight_told_lem h s q = rw (last, le-ltb 1 ranking h, ← q)
