-- What an accepted push leaves: a sheet of good shape, which is the sheet before and what was pushed. Assumes nothing.
use mathlib.Core.Path.{◌≡◌, refl, sym, ap, ◌∙◌}
use mathlib.Core.Bool.{true}
use mathlib.Core.List.{List, [], ◌∷◌, ◌++◌, map}
use Prim.Native.Nat.{ℕ, ◌+◌, ◌<◌}
use native.Mathlib.Nat.{zero-add}
use native.Mathlib.Omega.{arith}
use lib.ListN.{length, get_or, length-append, get_or-append}
use lib.Seq.{get_or-append-add}
use borrow.Author.Tests.{le-ltb}
use Rattle.theory.specs.Lists.{spread, at_most, sum_below}
use Rattle.theory.proofs.Spreads.{length_spread, get_or_spread}
use Rattle.lent.specs.Refusals.{first_of}
use Rattle.lent.specs.Pool.{start_of}
use Rattle.sheet.specs.Layout
use Rattle.sheet.specs.Sheets.{Style, Rule, Sheet, rule_at, style_at, sheet_of}
use Rattle.sheet.specs.Shape.{sheet_shape}
use Rattle.sheet.specs.Laying.{lay}
use Rattle.sheet.proofs.Shaped.{Shaped, shaped}
use Rattle.laid.proofs.Frame.{length_lay, lay_others}
use Rattle.laid.proofs.Reading.{read_lay}
use Rattle.laid.proofs.Shaping.{good_few, shaped_ended, shape_lay}
use Rattle.laid.proofs.Emptied.{lay_nothing}
use Rattle.laid.proofs.Held.{steps_few, style_entries_few}
use Rattle.given.specs.Given.{style_given, Group, rules_given}
use Rattle.given.specs.Pushing.{all_entries_in, style_push_verdict, pushed_style, group_verdict, pushed_group, sums_over, indexes_of, shift_style, shift_rule, indexes_over, next_after, cascade_verdict, pushed_cascade}
use Rattle.given.proofs.Accepted.{style_accepted, group_accepted, cascade_accepted}
use Rattle.made.specs.Made.{Halves}
use Rattle.made.specs.Pushed.{Pushed}
use Rattle.made.proofs.Accepting.{Ready, style_ready, group_ready, cascade_ready}

-- ---- every push

pushed : {w : List ℕ} {styles : List Style} {rules : List Rule} {next : ℕ} → Ready w styles rules next → Pushed w styles rules next (lay styles rules next w)
pushed {w} {styles} {rules} {next} y =
    let t = shaped_ended w (shaped w y.shape) in
    record {
      shape = shape_lay next y.shape y.sizes y.entries_sum y.ids_sum y.good y.next_fits_lem;
      sheet = read_lay next y.sizes t (good_few y.good);
      size = length_lay styles rules next w;
      others = lay_others w styles rules next;
    }

-- what was there is unchanged, and the new rules and styles stand after it
module _ {A : Type 0} (f g : ℕ → A) (n m : ℕ) (new : List A) (e : spread g 0 m ≡ spread f 0 n ++ new) where
  more : m ≡ n + length new
  more = sym (length_spread g 0 m) ∙ ap length e ∙ length-append (spread f 0 n) new ∙ rw (length_spread f 0 n)

  at : (x : A) (i : ℕ) → i < m → g i ≡ get_or (spread f 0 n ++ new) i x
  at x i h = ap g (sym (zero-add i)) ∙ sym (get_or_spread g 0 m i x h) ∙ ap (λ (l : List A). get_or l i x) e

  before : (i : ℕ) → i < n → g i ≡ f i
  before i h =
      at (f i) i (omega (arith, more)) ∙ get_or-append (spread f 0 n) new (f i) i (omega (arith, length_spread f 0 n))
      ∙ get_or_spread f 0 n i (f i) h
      ∙ ap f (zero-add i)

  after : (x : A) (k : ℕ) → k < length new → g (n + k) ≡ get_or new k x
  after x k h = at x (n + k) (omega (arith, more)) ∙ rw (length_spread f 0 n) at (get_or-append-add (spread f 0 n) new k x)

module _ {w w' : List ℕ} {styles : List Style} {rules : List Rule} {next : ℕ} (p : Pushed w styles rules next w') where
  rules_are : spread (rule_at w') 0 (Layout.rules_in w') ≡ spread (rule_at w) 0 (Layout.rules_in w) ++ rules
  unfolding sheet_of
  rules_are = ap (λ (s : Sheet). s.rules) p.sheet

  styles_are : spread (style_at w') 0 (Layout.styles_in w') ≡ spread (style_at w) 0 (Layout.styles_in w) ++ styles
  unfolding sheet_of
  styles_are = ap (λ (s : Sheet). s.styles) p.sheet

  pub rules_more : Layout.rules_in w' ≡ Layout.rules_in w + length rules
  rules_more = more (rule_at w) (rule_at w') (Layout.rules_in w) (Layout.rules_in w') rules rules_are

  pub rules_kept : (r : ℕ) → r < Layout.rules_in w → rule_at w' r ≡ rule_at w r
  rules_kept = before (rule_at w) (rule_at w') (Layout.rules_in w) (Layout.rules_in w') rules rules_are

  pub rules_new : (x : Rule) (k : ℕ) → k < length rules → rule_at w' (Layout.rules_in w + k) ≡ get_or rules k x
  rules_new = after (rule_at w) (rule_at w') (Layout.rules_in w) (Layout.rules_in w') rules rules_are

  pub styles_new : (x : Style) (k : ℕ) → k < length styles → style_at w' (Layout.styles_in w + k) ≡ get_or styles k x
  styles_new = after (style_at w) (style_at w') (Layout.styles_in w) (Layout.styles_in w') styles styles_are

-- ---- each

pub style_pushed : (w : List ℕ) (origin : ℕ) (properties kinds numbers : List ℕ) (n : ℕ) → Halves properties → style_push_verdict w origin properties kinds numbers n ≡ 0
    → Pushed w (style_given origin (Layout.next_in w) properties kinds numbers n ∷ []) [] (Layout.next_in w + 1) (pushed_style w origin properties kinds numbers n)
unfolding pushed_style
style_pushed w origin properties kinds numbers n u e = pushed (style_ready (style_accepted w properties kinds numbers n origin e) u)

pub group_pushed : (w : List ℕ) (origin : ℕ) (g : Group) (n : ℕ) → Halves g.properties → group_verdict w origin g n ≡ 0
    → Pushed w [] (rules_given origin (Layout.next_in w) g n) (Layout.next_in w + 1) (pushed_group w origin g n)
unfolding pushed_group
group_pushed w origin g n u e = pushed (group_ready (group_accepted w origin g n e) u)

pub cascade_pushed : (w v : List ℕ) → cascade_verdict w v ≡ 0
    → Pushed w (map (shift_style (Layout.next_in w)) (sheet_of v).styles) (map (shift_rule (Layout.next_in w)) (sheet_of v).rules) (next_after (Layout.next_in w) (indexes_of (sheet_of v))) (pushed_cascade w v)
unfolding pushed_cascade
cascade_pushed w v e = pushed (cascade_ready (cascade_accepted w v e))

-- ---- the shape alone: all that the next push asks of the sheet

pub style_shaped : (w : List ℕ) (origin : ℕ) (properties kinds numbers : List ℕ) (n : ℕ) → Halves properties → sheet_shape w ≡ true → style_push_verdict w origin properties kinds numbers n ≡ 0
    → sheet_shape (pushed_style w origin properties kinds numbers n) ≡ true
style_shaped w origin properties kinds numbers n u s e = (style_pushed w origin properties kinds numbers n u e).shape

pub group_shaped : (w : List ℕ) (origin : ℕ) (g : Group) (n : ℕ) → Halves g.properties → sheet_shape w ≡ true → group_verdict w origin g n ≡ 0
    → sheet_shape (pushed_group w origin g n) ≡ true
group_shaped w origin g n u s e = (group_pushed w origin g n u e).shape

-- ---- "one without direct styles and rules is accepted and alters nothing"

module _ (w v : List ℕ) (s : sheet_shape w ≡ true) (no-styles : Layout.styles_in v ≡ 0) (no_rules : Layout.rules_in v ≡ 0) where
  pub nothing_accepted : sheet_shape v ≡ true → cascade_verdict w v ≡ 0
  unfolding cascade_verdict sums_over indexes_over sheet_of first_of at_most
  nothing_accepted t =
      let a = shaped w s in
      let b = shaped v t in
      let steps : Layout.steps_in v ≡ 0 = omega (arith, steps_few b) in
      rw (
        s,
        t,
        le-ltb 256 (Layout.rules_in w + Layout.rules_in v) (omega (arith, a.rules)),
        le-ltb 64 (Layout.styles_in w + Layout.styles_in v) (omega (arith, a.styles)),
        le-ltb 8192 (Layout.ids_in w + Layout.ids_in v) (omega (arith, a.ids, none_held b steps)),
        le-ltb 4096 (all_entries_in w + all_entries_in v) (omega (arith, a.entries, none_listed b, style_entries_few b)),
        no-styles,
        no_rules,
      )
    where
      none_held : Shaped v → Layout.steps_in v ≡ 0 → Layout.ids_in v ≡ 0
      none_held b z = sym (rw z at b.ids_sum) ∙ (unfold sum_below in refl)

      none_listed : Shaped v → Layout.entries_in v ≡ 0
      none_listed b = sym (rw no_rules at b.entries_end) ∙ (unfold start_of in refl)

  pub nothing_pushed : pushed_cascade w v ≡ w
  unfolding pushed_cascade sheet_of
  nothing_pushed = rw (no-styles, no_rules) (lay_nothing w (shaped w s).room)
