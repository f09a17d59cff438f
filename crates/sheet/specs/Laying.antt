-- The words after direct styles and rules have been added to those of a sheet. Assumes nothing.
use Rattle.std.specs.Prelude.{◌⊎◌, ℕ, ◌+◌, ◌*◌, ◌≤◌, ◌<◌, length, replicate, take}
use mathlib.Core.List.{List, [], ◌∷◌, ◌++◌, map, flat_map}
use Rattle.std.proofs.lemmas.List.Edits.{sets}
use Rattle.theory.specs.Paths.{Comb, child, descendant, Part, Selector}
use Rattle.theory.specs.Lists.{total}
use Rattle.selector.specs.Tags.{Tags}
use Rattle.selector.specs.Rows.{tag_number}
use Rattle.selector.specs.Weighing.{is_set}
use Rattle.style.specs.Entries.{Entry}
use Rattle.sheet.specs.Layout
use Rattle.sheet.specs.Sheets.{Style, Rule, counts_for}

-- ---- rows

-- "0 child, 1 descendant"
abbrev pub code_of : Comb → ℕ
code_of child = 0
code_of descendant = 1

-- eight words: the ids, then zeros
abbrev pub id_words : List ℕ → List ℕ
id_words ids = take 8 (ids ++ replicate 8 0)

-- A step's row, whole: a tag that isn't set is written as 0 and 0, and so is every word past the ids
unfoldable pub step_words : Part Tags → List ℕ
step_words p =
    let t = p.step in
    is_set t.type
    ∷ tag_number t.type
    ∷ is_set t.part
    ∷ tag_number t.part
    ∷ length t.classes
    ∷ length t.pseudos
    ∷ (id_words t.classes ++ (id_words t.pseudos ++ code_of p.comb ∷ []))

abbrev pub steps_words : List Rule → List ℕ
steps_words rules = flat_map (λ r. flat_map step_words r.selector) rules

-- Rows of rules; the steps and entries before them end at s and e
unfoldable pub rule_words : ℕ → ℕ → List Rule → List ℕ
rule_words s e [] = []
rule_words s e (r ∷ l) =
    let s' = s + length r.selector in
    let e' = e + length r.entries in
    r.origin ∷ r.source ∷ r.order ∷ s' ∷ e' ∷ rule_words s' e' l

unfoldable pub style_words : ℕ → List Style → List ℕ
style_words e [] = []
style_words e (d ∷ l) = let e' = e + length d.entries in d.origin ∷ d.source ∷ e' ∷ style_words e' l

-- ---- what is added in all

abbrev pub rule_entries : List Rule → List Entry
rule_entries rules = flat_map (λ r. r.entries) rules

abbrev pub style_entries : List Style → List Entry
style_entries styles = flat_map (λ d. d.entries) styles

abbrev pub steps_of : List Rule → Selector Tags
steps_of rules = flat_map (λ r. r.selector) rules

-- the ids of a selector, as held
unfoldable pub ids_held : Selector Tags → ℕ
ids_held sel = total (λ c. c.classes) (counts_for sel) + total (λ c. c.pseudos) (counts_for sel)

-- ---- the words after

-- n entries into the pool at `base`, after those that it holds
unfoldable pub lay_entries : ℕ → ℕ → ℕ → List Entry → List ℕ → List ℕ
lay_entries base room e l w =
    sets (sets (sets w (base + e) (map (λ x. x.property) l)) (base + room + e) (map (λ x. x.kind) l)) (base + 2 * room + e) (map (λ x. x.number) l)

-- rules after r rules with s steps and e entries
unfoldable pub lay_rules : ℕ → ℕ → ℕ → List Rule → List ℕ → List ℕ
lay_rules r s e rules w =
    sets
    (sets (lay_entries Layout.ENTRY Layout.ENTRY-ROOM e (rule_entries rules) w) (Layout.step_place s) (steps_words rules))
    (Layout.RULE-ORIGIN + Layout.RULE-WORDS * r)
    (rule_words s e rules)

-- direct styles after d styles with e entries
unfoldable pub lay_styles : ℕ → ℕ → List Style → List ℕ → List ℕ
lay_styles d e styles w =
    sets
    (lay_entries Layout.STYLE-ENTRY Layout.STYLE-ENTRY-ROOM e (style_entries styles) w)
    (Layout.STYLE-ORIGIN + Layout.STYLE-WORDS * d)
    (style_words e styles)

-- the counts after
unfoldable pub count_words : List Style → List Rule → ℕ → List ℕ → List ℕ
count_words styles rules next w =
    (Layout.rules_in w + length rules)
    ∷ (Layout.steps_in w + length (steps_of rules))
    ∷ (Layout.ids_in w + ids_held (steps_of rules))
    ∷ (Layout.entries_in w + length (rule_entries rules))
    ∷ (Layout.styles_in w + length styles)
    ∷ (Layout.style_entries_in w + length (style_entries styles))
    ∷ next
    ∷ []

-- After the styles and the rules that it holds, these: each row and each entry at the next free place, then the counts. Every other word stays
unfoldable pub lay : List Style → List Rule → ℕ → List ℕ → List ℕ
lay styles rules next w =
    sets
    (lay_styles (Layout.styles_in w) (Layout.style_entries_in w) styles (lay_rules (Layout.rules_in w) (Layout.steps_in w) (Layout.entries_in w) rules w))
    0
    (count_words styles rules next w)

-- Those words, 01: "An accepted call leaves what stands past its answer in a lent buffer". The word at i stands before n words that are put at `at`, or after them:
abbrev pub Beside : ℕ → ℕ → ℕ → Type 0
Beside at n i = (i < at) ⊎ (at + n ≤ i)

-- it is no count, and stands in no row and no entry that is added
pub record Free (w : List ℕ) (styles : List Style) (rules : List Rule) (i : ℕ) : Type 0 where
  pub counts : 7 ≤ i
  pub rule_rows : Beside (Layout.RULE-ORIGIN + Layout.RULE-WORDS * Layout.rules_in w) (Layout.RULE-WORDS * length rules) i
  pub step_rows : Beside (Layout.step_place (Layout.steps_in w)) (Layout.STEP-WORDS * length (steps_of rules)) i
  pub properties : Beside (Layout.ENTRY + Layout.entries_in w) (length (rule_entries rules)) i
  pub kinds : Beside (Layout.ENTRY + Layout.ENTRY-ROOM + Layout.entries_in w) (length (rule_entries rules)) i
  pub numbers : Beside (Layout.ENTRY + 2 * Layout.ENTRY-ROOM + Layout.entries_in w) (length (rule_entries rules)) i
  pub style_rows : Beside (Layout.STYLE-ORIGIN + Layout.STYLE-WORDS * Layout.styles_in w) (Layout.STYLE-WORDS * length styles) i
  pub style_properties : Beside (Layout.STYLE-ENTRY + Layout.style_entries_in w) (length (style_entries styles)) i
  pub style_kinds : Beside (Layout.STYLE-ENTRY + Layout.STYLE-ENTRY-ROOM + Layout.style_entries_in w) (length (style_entries styles)) i
  pub style_numbers_lem : Beside (Layout.STYLE-ENTRY + 2 * Layout.STYLE-ENTRY-ROOM + Layout.style_entries_in w) (length (style_entries styles)) i

-- The empty sheet: its counts are 0
unfoldable pub emptied : List ℕ → List ℕ
emptied w = sets w 0 (replicate 7 0)
