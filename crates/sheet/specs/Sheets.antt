-- A sheet, and the sheet that words hold: 01, "Weight, winners, changes". Assumes nothing.
use Rattle.std.specs.Prelude.{Bool, true, false, List, [], ◌∷◌, ◌++◌, map, ℕ, ◌+◌, ◌-◌, ◌*◌, get_or}
use Rattle.theory.specs.Lists.{spread}
use Rattle.theory.specs.Paths.{Part, Selector}
use Rattle.theory.specs.Weight.{Counts, Weight, weight_of, no_weight}
use Rattle.theory.specs.Cascade.{Key}
use Rattle.lent.specs.Pool.{ends_in, start_of}
use Rattle.selector.specs.Tags.{Tags}
use Rattle.selector.specs.Rows.{row_at, comb_of}
use Rattle.selector.specs.Weighing.{counts_of}
use Rattle.style.specs.Entries.{Entry}
use Rattle.sheet.specs.Layout

-- A direct style
pub record Style : Type 0 where
  pub origin : ℕ
  pub source : ℕ
  pub entries : List Entry

-- `MatchRule`
pub record Rule : Type 0 where
  pub origin : ℕ
  pub source : ℕ
  pub order : ℕ
  pub selector : Selector Tags
  pub entries : List Entry

pub record Sheet : Type 0 where
  -- the source index that the next push takes
  pub next : ℕ
  pub styles : List Style
  pub rules : List Rule

abbrev pub is_nil : {A : Type 0} → List A → Bool
is_nil [] = true
is_nil (x ∷ l) = false

-- ---- keys

-- A direct style or a rule
pub data Source : Type 0 where
  direct : Style → Source
  listed : Rule → Source

-- direct styles stand before rules
abbrev pub sources_of : Sheet → List Source
sources_of s = map direct s.styles ++ map listed s.rules

abbrev pub counts_for : Selector Tags → List Counts
counts_for sel = map (λ p. counts_of p.step) sel

abbrev pub weight_for : ℕ → Rule → Weight
weight_for ranking r = weight_of ranking (counts_for r.selector)

-- "A source's key is origin rank, weight, source index, order in its group. Direct styles have weight and order 0."
abbrev pub key_of : ℕ → Source → Key
key_of ranking (direct s) = record { origin = s.origin; weight = no_weight; source = s.source; order = 0 }
key_of ranking (listed r) = record { origin = r.origin; weight = weight_for ranking r; source = r.source; order = r.order }

-- ---- read out of words

-- f at each number of list k, where lists stand end to end
abbrev pub between : {A : Type 0} → (ℕ → A) → (ℕ → ℕ) → ℕ → List A
between f ends k = spread f (start_of ends k) (ends k - start_of ends k)

abbrev pub rule_step_ends : List ℕ → ℕ → ℕ
rule_step_ends w = ends_in w Layout.RULE-STEP-END Layout.RULE-WORDS

abbrev pub rule_entry_ends : List ℕ → ℕ → ℕ
rule_entry_ends w = ends_in w Layout.RULE-ENTRY-END Layout.RULE-WORDS

abbrev pub style_entry_ends : List ℕ → ℕ → ℕ
style_entry_ends w = ends_in w Layout.STYLE-ENTRY-END Layout.STYLE-WORDS

unfoldable pub part_at : List ℕ → ℕ → Part Tags
part_at w s = record { comb = comb_of (ends_in w Layout.STEP-COMBINATOR Layout.STEP-WORDS s); step = row_at 8 w (Layout.step_place s) }

-- entry e of the pool that stands at `base`, in three columns of `room` words each
unfoldable pub entry_at : List ℕ → ℕ → ℕ → ℕ → Entry
entry_at w base room e = record { property = get_or w (base + e) 0; kind = get_or w (base + room + e) 0; number = get_or w (base + 2 * room + e) 0 }

unfoldable pub rule_at : List ℕ → ℕ → Rule
rule_at w r = record {
  origin = ends_in w Layout.RULE-ORIGIN Layout.RULE-WORDS r;
  source = ends_in w Layout.RULE-SOURCE Layout.RULE-WORDS r;
  order = ends_in w Layout.RULE-ORDER Layout.RULE-WORDS r;
  selector = between (part_at w) (rule_step_ends w) r;
  entries = between (entry_at w Layout.ENTRY Layout.ENTRY-ROOM) (rule_entry_ends w) r;
}

unfoldable pub style_at : List ℕ → ℕ → Style
style_at w d = record {
  origin = ends_in w Layout.STYLE-ORIGIN Layout.STYLE-WORDS d;
  source = ends_in w Layout.STYLE-SOURCE Layout.STYLE-WORDS d;
  entries = between (entry_at w Layout.STYLE-ENTRY Layout.STYLE-ENTRY-ROOM) (style_entry_ends w) d;
}

unfoldable pub sheet_of : List ℕ → Sheet
sheet_of w = record { next = Layout.next_in w; styles = spread (style_at w) 0 (Layout.styles_in w); rules = spread (rule_at w) 0 (Layout.rules_in w) }
