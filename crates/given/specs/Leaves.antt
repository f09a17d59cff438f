-- What the cores of the pushes require and say. For contracts within and cores alone. Assumes nothing.
use Rattle.std.specs.Prelude.{◌≡◌, true, List, [], ◌∷◌, ℕ, zero, suc, ◌+◌, ◌*◌, ◌≤◌, ◌<◌, get_or}
use Rattle.theory.specs.Lists.{sum_below}
use Rattle.theory.specs.Paths.{Part}
use Rattle.lent.specs.All.{all_below}
use Rattle.selector.specs.Tags.{Tags, as_sets}
use Rattle.selector.specs.Rows.{row_at, comb_of, selector_of}
use Rattle.selector.specs.Checks.{row_fits}
use Rattle.sheet.specs.Layout
use Rattle.lent.specs.Pool.{ends_in}
use Rattle.sheet.specs.Sheets.{rule_step_ends, rule_entry_ends, style_entry_ends, sheet_of}
use Rattle.sheet.specs.Laying.{ids_held}
use Rattle.given.specs.declared.Counts.{Counts}
use Rattle.given.specs.Given.{Group, step_count, combinator_count, entry_count, steps_from, combinators_from, selector_given}
use Rattle.given.specs.Pushing.{next_after, indexes_of}

-- ---- the counts of a sheet

pub record CountsOf (w : List ℕ) (c : Counts) : Type 0 where
  pub rules : c.rules ≡ Layout.rules_in w
  pub steps : c.steps ≡ Layout.steps_in w
  pub ids : c.ids ≡ Layout.ids_in w
  pub entries : c.entries ≡ Layout.entries_in w
  pub styles : c.styles ≡ Layout.styles_in w
  pub style_entries_lem : c.style_entries ≡ Layout.style_entries_in w
  pub next : c.next ≡ Layout.next_in w

-- within their sizes
pub record Within (c : Counts) : Type 0 where
  pub rules : c.rules ≤ 256
  pub steps : c.steps ≤ 2048
  pub ids : c.ids ≤ 8192
  pub entries : c.entries ≤ 4096
  pub styles : c.styles ≤ 64
  pub style_entries_lem : c.style_entries ≤ 2048
  pub next : c.next ≤ 65536

abbrev pub counts_list : Counts → List ℕ
counts_list c = c.rules ∷ c.steps ∷ c.ids ∷ c.entries ∷ c.styles ∷ c.style_entries ∷ c.next ∷ []

-- ---- steps

-- A given row with a combinator's code, as it is held
abbrev pub part_of : List ℕ → ℕ → ℕ → Part Tags
part_of rows at code = record { comb = comb_of code; step = as_sets (row_at 8 rows at) }

-- the code before step j: 0 before the first
abbrev pub code_before : List ℕ → ℕ → ℕ
code_before combinators zero = 0
code_before combinators (suc j) = get_or combinators j 0

-- r is how many ids n steps hold; combinators have no part in it
pub record Ids (steps : List ℕ) (n r : ℕ) : Type 0 where
  pub same : r ≡ ids_held (selector_of steps [] n)
  pub few : r ≤ 128

-- ---- what the checks have shown of a group's rule k

pub record SelectorFits (g : Group) (k : ℕ) : Type 0 where
  pub few : step_count g k ≤ 8
  pub ties : combinator_count g k ≤ 8
  pub rows : all_below (step_count g k) (λ j. row_fits 8 (steps_from g k) (22 * j)) ≡ true
  pub codes : (j : ℕ) → j < step_count g k → code_before (combinators_from g k) j ≤ 1

abbrev pub SelectorsFit : Group → ℕ → Type 0
SelectorsFit g n = (k : ℕ) → k < n → SelectorFits g k

abbrev pub EntriesFit : Group → ℕ → Type 0
EntriesFit g n = (k : ℕ) → k < n → entry_count g k ≤ 32

-- the sums over n rules
abbrev pub step_total : Group → ℕ → ℕ
step_total g n = sum_below (step_count g) n

abbrev pub entry_total : Group → ℕ → ℕ
entry_total g n = sum_below (entry_count g) n

abbrev pub id_total : Group → ℕ → ℕ
id_total g n = sum_below (λ k. ids_held (selector_given g k)) n

-- ---- a cascade's rows and counts

-- the row of rule k of v, its source index and its ends raised
abbrev pub held_row : Counts → List ℕ → ℕ → List ℕ
held_row c v k =
    ends_in v Layout.RULE-ORIGIN Layout.RULE-WORDS k
    ∷ (c.next + ends_in v Layout.RULE-SOURCE Layout.RULE-WORDS k)
    ∷ ends_in v Layout.RULE-ORDER Layout.RULE-WORDS k
    ∷ (c.steps + rule_step_ends v k)
    ∷ (c.entries + rule_entry_ends v k)
    ∷ []

abbrev pub held_style_row : Counts → List ℕ → ℕ → List ℕ
held_style_row c v k =
    ends_in v Layout.STYLE-ORIGIN Layout.STYLE-WORDS k
    ∷ (c.next + ends_in v Layout.STYLE-SOURCE Layout.STYLE-WORDS k)
    ∷ (c.style_entries + style_entry_ends v k)
    ∷ []

abbrev pub sum_counts : Counts → List ℕ → Counts
sum_counts c v = record {
  rules = c.rules + Layout.rules_in v;
  steps = c.steps + Layout.steps_in v;
  ids = c.ids + Layout.ids_in v;
  entries = c.entries + Layout.entries_in v;
  styles = c.styles + Layout.styles_in v;
  style_entries = c.style_entries + Layout.style_entries_in v;
  next = next_after c.next (indexes_of (sheet_of v));
}
