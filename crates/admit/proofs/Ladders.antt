-- Laws of the refusals of pushed sources, by each way through the code. Assumes nothing.
use mathlib.Core.Path.{◌≡◌, refl, sym, ap, ◌∙◌}
use mathlib.Core.Bool.{Bool, true, false, not}
use mathlib.Core.List.{List, [], ◌∷◌, ◌++◌}
use Prim.Native.Nat.{ℕ, ◌+◌, ◌-◌, ◌*◌, ◌/◌, ◌≤◌, ◌<◌}
use native.Mathlib.Omega.{arith}
use lib.ListN.{length}
use lib.Dec.{ltb}
use borrow.Author.Tests.{lt-ltb, le-ltb, not-false}
use Rattle.lent.specs.All.{all_below}
use Rattle.lent.specs.declared.Refusal.{Refusal}
use Rattle.lent.specs.Refusals.{number_of, Check, check, first_of, checks_below}
use Rattle.lent.proofs.Refusals.{refusal_number, first_stop, first_go, positive_below, first_hit, first_pass, first_end, first_clear}
use Rattle.selector.specs.Rows.{selector_of}
use Rattle.selector.specs.Checks.{row_fits, selector_over}
use Rattle.style.specs.Checks.{entries_over}
use Rattle.style.proofs.CheckLaws.{within}
use Rattle.sheet.specs.Layout
use Rattle.sheet.specs.Shape.{sheet_shape}
use Rattle.sheet.proofs.Shaped.{shaped}
use Rattle.sheet.specs.Laying.{ids_held}
use Rattle.given.specs.Given.{Group}
use Rattle.given.specs.Leaves.{Ids}
use Rattle.given.specs.Pushing.{front_checks, index_checks, all_entries_in, form_checks, style_size_checks, style_push_verdict, rules_over, rule_size_checks, rule_form_checks, one_rule_checks, rule_checks, group_verdict}
use Rattle.given.proofs.Counting.{ids_untied}
use Rattle.given.proofs.Accepted.{selector_sized, rule_sized, rules_sized, rule_numbers_lem}

-- ---- one test

-- of a flag that was negated
pub unless_hit : (k : ℕ) (b t : Bool) (l : List Check) → b ≡ t → not b ≡ true → k ≡ first_of (check k (not t) ∷ l)
unless_hit k b t l e f = first_hit k (not b) (not t) l (ap not e) f

pub unless_pass : (k r : ℕ) (b t : Bool) (l : List Check) → b ≡ t → not b ≡ false → r ≡ first_of l → r ≡ first_of (check k (not t) ∷ l)
unless_pass k r b t l e f g = first_pass k r (not b) (not t) l (ap not e) f g

-- of a number
pub limit_hit : (k n a : ℕ) (l : List Check) → n < a → k ≡ first_of (check k (ltb n a) ∷ l)
limit_hit k n a l h = first_hit k true (ltb n a) l (sym (lt-ltb n a h)) refl

pub limit_pass : (k r n a : ℕ) (l : List Check) → a ≤ n → r ≡ first_of l → r ≡ first_of (check k (ltb n a) ∷ l)
limit_pass k r n a l h g = first_pass k r false (ltb n a) l (sym (le-ltb n a h)) refl g

-- of a number x that was read, and is a
module _ (k n x a : ℕ) (e : x ≡ a) (l : List Check) where
  pub read_hit : n < x → k ≡ first_of (check k (ltb n a) ∷ l)
  read_hit h = limit_hit k n a l (omega arith)

  pub read_pass : x ≤ n → (r : ℕ) → r ≡ first_of l → r ≡ first_of (check k (ltb n a) ∷ l)
  read_pass h r g = limit_pass k r n a l (omega arith) g

-- of one more than such a number
module _ (k n x a : ℕ) (e : x ≡ a) (l : List Check) where
  pub next_hit : n ≤ x → k ≡ first_of (check k (ltb n (a + 1)) ∷ l)
  next_hit h = limit_hit k n (a + 1) l (omega arith)

  pub next_pass : x < n → (r : ℕ) → r ≡ first_of l → r ≡ first_of (check k (ltb n (a + 1)) ∷ l)
  next_pass h r g = limit_pass k r n (a + 1) l (omega arith) g

-- of a sum of such a number and another
module _ (k n x a y : ℕ) (e : x ≡ a) (l : List Check) where
  pub sum_hit : n < x + y → k ≡ first_of (check k (ltb n (a + y)) ∷ l)
  sum_hit h = limit_hit k n (a + y) l (omega arith)

  pub sum_pass : x + y ≤ n → (r : ℕ) → r ≡ first_of l → r ≡ first_of (check k (ltb n (a + y)) ∷ l)
  sum_pass h r g = limit_pass k r n (a + y) l (omega arith) g

-- of the ids counted with others
module _ (k most ids : ℕ) (steps combinators : List ℕ) (n x : ℕ) (e : Ids steps n x) (l : List Check) where
  pub ids_hit : most < ids + x → k ≡ first_of (check k (ltb most (ids + ids_held (selector_of steps combinators n))) ∷ l)
  ids_hit h = limit_hit k most _ l (omega (arith, e.same, ids_untied steps combinators [] n))

  pub ids_pass : ids + x ≤ most → (r : ℕ) → r ≡ first_of l → r ≡ first_of (check k (ltb most (ids + ids_held (selector_of steps combinators n))) ∷ l)
  ids_pass h r g = limit_pass k r most _ l (omega (arith, e.same, ids_untied steps combinators [] n)) g

pub ruleset ladder = (first_hit, first_pass, first_end, unless_hit, unless_pass, limit_hit, limit_pass, read_hit, read_pass, next_hit, next_pass, sum_hit, sum_pass)

-- ---- what a callee asks

pub entries_within : (properties kinds numbers : List ℕ) (n : ℕ) (b : Bool) → b ≡ entries_over properties kinds numbers n → b ≡ false → n ≤ 32
entries_within properties kinds numbers n b e f = (within properties kinds numbers n b e f).few

pub rows_sized : (steps : List ℕ) (n : ℕ) (combinators : List ℕ) (m : ℕ) (b : Bool) → b ≡ selector_over steps n combinators m → b ≡ false
    → (n ≤ 8) × (all_below n (λ j. row_fits 8 steps (22 * j)) ≡ true)
rows_sized steps n combinators m b e f = let s = selector_sized steps n combinators m (sym e ∙ f) in (s.few, s.rows)

-- ---- the number of rules

-- x, the sheet's count of rules, read and widened
module _ (w rules : List ℕ) (n y x : ℕ) (d : y ≡ x) (e : x ≡ Layout.rules_in w) (s : sheet_shape w ≡ true) where
  pub rules_few : y ≤ 256
  rules_few = omega (arith, (shaped w s).rules)

  pub rules_hit : 256 - y < n → true ≡ rules_over w rules n
  unfolding rules_over
  rules_hit h = rw (lt-ltb 256 (Layout.rules_in w + n) (omega (arith, rules_few)))

  pub rules_last : n ≤ 256 - y → ltb (length rules / 3) n ≡ rules_over w rules n
  unfolding rules_over
  rules_last h = rw (le-ltb 256 (Layout.rules_in w + n) (omega (arith, rules_few)))

-- ---- a source: the sheet's shape and the origin, before other checks

module _ (w : List ℕ) (origin : ℕ) (l : List Check) (s : sheet_shape w ≡ true) where
  origin_hit : 7 < origin → 6 ≡ first_of (front_checks w origin ++ l)
  origin_hit h = unless_pass 11 6 true (sheet_shape w) _ (sym s) refl (limit_hit 6 7 origin l h)

  origin_pass : origin ≤ 7 → (r : ℕ) → r ≡ first_of l → r ≡ first_of (front_checks w origin ++ l)
  origin_pass h r e = unless_pass 11 r true (sheet_shape w) _ (sym s) refl (limit_pass 6 r 7 origin l h e)

-- the shape as it was tested
module _ (w : List ℕ) (b : Bool) (e : b ≡ sheet_shape w) where
  pub style_shapeless : not b ≡ true → (origin : ℕ) (properties kinds numbers : List ℕ) (n : ℕ) → 11 ≡ style_push_verdict w origin properties kinds numbers n
  unfolding style_push_verdict
  style_shapeless f origin properties kinds numbers n = unless_hit 11 b (sheet_shape w) _ e f

  pub group_shapeless : not b ≡ true → (origin : ℕ) (g : Group) (n : ℕ) → 11 ≡ group_verdict w origin g n
  unfolding group_verdict
  group_shapeless f origin g n = unless_hit 11 b (sheet_shape w) _ e f

-- ---- a style onto a sheet in shape: each verdict in turn

module _ (w : List ℕ) (origin : ℕ) (properties kinds numbers : List ℕ) (n : ℕ) (s : sheet_shape w ≡ true) where
  pub style_origin : 7 < origin → 6 ≡ style_push_verdict w origin properties kinds numbers n
  unfolding style_push_verdict
  style_origin h = origin_hit w origin _ s h

  module _ (o : origin ≤ 7) where
    style_past : (r : ℕ) → r ≡ first_of (style_size_checks w properties kinds numbers n ++ (form_checks properties kinds n ++ index_checks w)) → r ≡ style_push_verdict w origin properties kinds numbers n
    unfolding style_push_verdict
    style_past r e = origin_pass w origin _ s o r e

    pub style_over : (r : Refusal) → number_of r ≡ first_of (style_size_checks w properties kinds numbers n) → number_of r ≡ style_push_verdict w origin properties kinds numbers n
    style_over r e = style_past (number_of r) (first_stop (style_size_checks w properties kinds numbers n) _ (number_of r) e (refusal_number r))

    module _ (y : 0 ≡ first_of (style_size_checks w properties kinds numbers n)) where
      pub style_form : (r : Refusal) → number_of r ≡ first_of (form_checks properties kinds n) → number_of r ≡ style_push_verdict w origin properties kinds numbers n
      style_form r e =
          style_past (number_of r) (first_go (style_size_checks w properties kinds numbers n) _ 0 (number_of r) y refl refl (first_stop (form_checks properties kinds n) _ (number_of r) e (refusal_number r)))

      pub style_index : 0 ≡ first_of (form_checks properties kinds n) → (r : ℕ) → r ≡ first_of (index_checks w) → r ≡ style_push_verdict w origin properties kinds numbers n
      style_index x r h = style_past r (first_go (style_size_checks w properties kinds numbers n) _ 0 r y refl refl (first_go (form_checks properties kinds n) _ 0 r x refl refl h))

-- what the checks of the form ask
pub style_formable : (s t : Bool) (properties kinds numbers : List ℕ) (n : ℕ) → 0 ≡ first_of (check 2 s ∷ check 2 (entries_over properties kinds numbers n) ∷ check 2 t ∷ [])
    → (n ≤ 32) × (n ≤ length properties) × (n ≤ length kinds)
style_formable s t properties kinds numbers n e =
    let (_, r) = first_clear 2 s _ (omega arith) (sym e) in
    let c = within properties kinds numbers n _ refl (first_clear 2 (entries_over properties kinds numbers n) _ (omega arith) r).0 in
    (c.few, c.in_properties, c.in_kinds)

-- ---- one rule, likewise

module _ (steps : List ℕ) (n : ℕ) (combinators : List ℕ) (m : ℕ) (properties kinds numbers : List ℕ) (l ids entries : ℕ) where
  pub rule_over : (r : Refusal) → number_of r ≡ first_of (rule_size_checks steps n combinators m properties kinds numbers l ids entries)
      → number_of r ≡ first_of (one_rule_checks steps n combinators m properties kinds numbers l ids entries)
  rule_over r e = first_stop (rule_size_checks steps n combinators m properties kinds numbers l ids entries) _ (number_of r) e (refusal_number r)

  module _ (f : 0 ≡ first_of (rule_size_checks steps n combinators m properties kinds numbers l ids entries)) where
    pub rule_tied : m ≤ length combinators
    rule_tied = (rule_sized steps n combinators m properties kinds numbers l ids entries (sym f)).selector.in_combinators

    pub rule_formable : (l ≤ 32) × (l ≤ length properties) × (l ≤ length kinds)
    rule_formable =
        let c = (rule_sized steps n combinators m properties kinds numbers l ids entries (sym f)).counted in
        (c.few, c.in_properties, c.in_kinds)

    rule_past : (r : ℕ) → r ≡ first_of (rule_form_checks n combinators m ++ form_checks properties kinds l) → r ≡ first_of (one_rule_checks steps n combinators m properties kinds numbers l ids entries)
    rule_past r e = first_go (rule_size_checks steps n combinators m properties kinds numbers l ids entries) _ 0 r f refl refl e

    pub rule_untied : (r : Refusal) → number_of r ≡ first_of (rule_form_checks n combinators m) → number_of r ≡ first_of (one_rule_checks steps n combinators m properties kinds numbers l ids entries)
    rule_untied r e = rule_past (number_of r) (first_stop (rule_form_checks n combinators m) _ (number_of r) e (refusal_number r))

    pub rule_form : 0 ≡ first_of (rule_form_checks n combinators m) → (r : ℕ) → r ≡ first_of (form_checks properties kinds l) → r ≡ first_of (one_rule_checks steps n combinators m properties kinds numbers l ids entries)
    rule_form y r e = rule_past r (first_go (rule_form_checks n combinators m) _ 0 r y refl refl e)

-- of lists that are what stands from some place on
pub rule_from : (steps steps' combinators combinators' properties properties' kinds kinds' numbers numbers' : List ℕ) (n m l ids entries r : ℕ)
    → steps' ≡ steps → combinators' ≡ combinators → properties' ≡ properties → kinds' ≡ kinds → numbers' ≡ numbers
    → r ≡ first_of (one_rule_checks steps' n combinators' m properties' kinds' numbers' l ids entries)
    → r ≡ first_of (one_rule_checks steps n combinators m properties kinds numbers l ids entries)
rule_from steps steps' combinators combinators' properties properties' kinds kinds' numbers numbers' n m l ids entries r a b c d e h = h ∙ rw (a, b, c, d, e)

-- ---- a group, likewise

module _ (w : List ℕ) (origin : ℕ) (g : Group) (n : ℕ) (s : sheet_shape w ≡ true) where
  pub group_origin : 7 < origin → 6 ≡ group_verdict w origin g n
  unfolding group_verdict
  group_origin h = origin_hit w origin _ s h

  module _ (z : origin ≤ 7) (o : Bool) (p : o ≡ rules_over w g.rules n) where
    pub group_over : o ≡ true → 2 ≡ group_verdict w origin g n
    unfolding group_verdict
    group_over h = origin_pass w origin _ s z 2 (first_hit 2 o (rules_over w g.rules n) _ p h)

    module _ (q : o ≡ false) (i₀ i e : ℕ) (j : i ≡ i₀) (k : i₀ ≡ Layout.ids_in w) (l : e ≡ all_entries_in w) where
      each_is : (v : ℕ) → v ≡ first_of (checks_below n (rule_checks i e g)) → v ≡ first_of (checks_below n (rule_checks (Layout.ids_in w) (all_entries_in w) g))
      each_is v u = u ∙ rw (j, k, l)

      group_past : (r : ℕ) → r ≡ first_of (checks_below n (rule_checks (Layout.ids_in w) (all_entries_in w) g) ++ index_checks w) → r ≡ group_verdict w origin g n
      unfolding group_verdict
      group_past r h = origin_pass w origin _ s z r (first_pass 2 r o (rules_over w g.rules n) _ p q h)

      pub group_rule : (r : Refusal) → number_of r ≡ first_of (checks_below n (rule_checks i e g)) → number_of r ≡ group_verdict w origin g n
      group_rule r u = group_past (number_of r) (first_stop (checks_below n (rule_checks (Layout.ids_in w) (all_entries_in w) g)) _ (number_of r) (each_is (number_of r) u) (refusal_number r))

      pub group_index : 0 ≡ first_of (checks_below n (rule_checks i e g)) → (r : ℕ) → r ≡ first_of (index_checks w) → r ≡ group_verdict w origin g n
      group_index u r h =
          let checks = rule_checks (Layout.ids_in w) (all_entries_in w) g in
          group_past r (first_go (checks_below n checks) _ 0 r (each_is 0 u) refl (positive_below checks (rule_numbers_lem (Layout.ids_in w) (all_entries_in w) g) n) h)

-- what its callees ask
pub group_few : (w : List ℕ) → sheet_shape w ≡ true → (rules : List ℕ) (n : ℕ) (o : Bool) → o ≡ rules_over w rules n → o ≡ false → (i₀ i e : ℕ) → i ≡ i₀ → i₀ ≡ Layout.ids_in w → e ≡ all_entries_in w
    → (n ≤ 256) × (i ≤ 8192) × (e ≤ 4096)
group_few w s rules n o p q i₀ i e j k l =
    let t = shaped w s in
    (omega (arith, (rules_sized w rules n (sym p ∙ q)).0), omega (arith, t.ids), omega (arith, t.entries))
