-- What an accepted push leaves, what is read back of it, and the numbers of the sheets that such pushes make. Assumes nothing.
use Rattle.std.specs.Prelude.{◌≡◌, true, List, ◌++◌, ℕ, ◌+◌, ◌≤◌, ◌<◌, length, get_or}
use Rattle.theory.specs.Sizes
use Rattle.selector.specs.Weighing.{Unsaturated}
use Rattle.sheet.specs.Layout
use Rattle.sheet.specs.Sheets.{Style, Rule, Sheet, counts_for, rule_at, style_at, sheet_of}
use Rattle.sheet.specs.Shape.{sheet_shape}
use Rattle.sheet.specs.Laying.{Free}
use Rattle.given.specs.Given.{Group, selector_given, entries_given}

-- ---- every push

-- these styles and rules after those that are there, and this next source index
abbrev pub added : Sheet → ℕ → List Style → List Rule → Sheet
added s next styles rules = record { next = next; styles = s.styles ++ styles; rules = s.rules ++ rules }

-- w' has good shape, and holds the sheet of w with these added
pub record Pushed (w : List ℕ) (styles : List Style) (rules : List Rule) (next : ℕ) (w' : List ℕ) : Type 0 where
  pub shape : sheet_shape w' ≡ true
  pub sheet : sheet_of w' ≡ added (sheet_of w) next styles rules
  -- "An accepted call leaves what stands past its answer in a lent buffer."
  pub size : length w' ≡ length w
  pub others : (i : ℕ) → Free w styles rules i → get_or w' i 0 ≡ get_or w i 0

-- ---- a pushed group

-- rule k of the group is there, and it is the one given: its steps with their ids "sorted and made unique", its entries, its origin, the source index taken, its order
pub record ReadBack (w : List ℕ) (origin : ℕ) (g : Group) (k : ℕ) (w' : List ℕ) : Type 0 where
  pub there : Layout.rules_in w + k < Layout.rules_in w'
  pub is : rule_at w' (Layout.rules_in w + k) ≡ record { origin = origin; source = Layout.next_in w; order = k; selector = selector_given g k; entries = entries_given g k }

-- ---- a made sheet

-- "Prove that the Rust's saturation is never met." No sum of matcher.rs is met where it saturates: `take_source_index`, the next index plus one; `offset_source_index`, the current
-- index plus one of a cascade's own; `next_source_index_after`, the largest so made plus one (all usize); and an order is no u32 that `try_from` cuts.
-- Each makes an index, a next index or an order of the sheet after an accepted push. (`next_order` is of `MatcherBuilder`, which is left behind)
-- Nor is one of `Selector::specificity`, whose sums are u32
pub record Bounded (w : List ℕ) : Type 0 where
  -- "Source indexes go to 65,535, the next one to 65,536."
  pub next : Layout.next_in w ≤ Sizes.NEXT-INDEX
  pub style_sources : (d : ℕ) → d < Layout.styles_in w → (style_at w d).source ≤ Sizes.SOURCE-INDEX
  pub rule_sources : (r : ℕ) → r < Layout.rules_in w → (rule_at w r).source ≤ Sizes.SOURCE-INDEX
  pub orders : (r : ℕ) → r < Layout.rules_in w → (rule_at w r).order < Sizes.RULES
  pub weights : (r : ℕ) → r < Layout.rules_in w → Unsaturated (counts_for (rule_at w r).selector)
