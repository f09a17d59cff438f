-- Which source wins a property, and its entry: 01, "Weight, winners, changes". Assumes nothing.
use Rattle.std.specs.Prelude.{Bool, true, false, List, ◌++◌, map, ℕ, ◌<◌, length, get_or}
use Rattle.std.proofs.Math.Option.{Option, none, some}
use Rattle.theory.specs.Lists.{spread}
use Rattle.theory.specs.Cascade.{Key, winner, winning_key}
use Rattle.style.specs.Entries.{Entry, look_up}
use Rattle.sheet.specs.Layout.{rules_in, styles_in}
use Rattle.sheet.specs.Sheets.{Source, direct, listed, key_of, style_at, rule_at}

-- A source by its number in the sheet: a direct style or a rule
pub data Place : Type 0 where
  style : ℕ → Place
  rule : ℕ → Place

abbrev pub source_at : List ℕ → Place → Source
source_at w (style d) = direct (style_at w d)
source_at w (rule r) = listed (rule_at w r)

abbrev pub entries_of : Source → List Entry
entries_of (direct s) = s.entries
entries_of (listed r) = r.entries

-- the entry of a property in a source
abbrev pub entry_at : List ℕ → Place → ℕ → Option Entry
entry_at w s p = look_up p (entries_of (source_at w s))

abbrev pub is_there : {A : Type 0} → Option A → Bool
is_there none = false
is_there (some a) = true

-- the source holds the property
unfoldable pub holds_at : List ℕ → Place → ℕ → Bool
holds_at w s p = is_there (entry_at w s p)

-- it has one key for all its properties
unfoldable pub key_at : List ℕ → ℕ → Place → ℕ → Key
key_at w ranking s p = key_of ranking (source_at w s)

-- "direct styles and listed rules", "direct before rules"
unfoldable pub places_for : List ℕ → List ℕ → List Place
places_for w rules = spread style 0 (styles_in w) ++ map rule rules

-- numbers of rules that the sheet has
abbrev pub AreRules : List ℕ → List ℕ → Type 0
AreRules w rules = (i : ℕ) → i < length rules → get_or rules i 0 < rules_in w

-- "The greatest key among direct styles and listed rules that hold the property wins."
abbrev pub winner_of : List ℕ → ℕ → List ℕ → ℕ → Option Place
winner_of w ranking rules p = winner (key_at w ranking) (holds_at w) (places_for w rules) p

abbrev pub winning_key_of : List ℕ → ℕ → List ℕ → ℕ → Option Key
winning_key_of w ranking rules p = winning_key (key_at w ranking) (holds_at w) (places_for w rules) p

-- its entry of the property, and no other's: "the next source is not tried"
unfoldable pub entry_of : List ℕ → Option Place → ℕ → Option Entry
entry_of w none p = none
entry_of w (some s) p = entry_at w s p
