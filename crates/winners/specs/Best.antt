-- The best source so far, by value. For contracts within and cores alone. Assumes nothing.
use Rattle.std.specs.Prelude.{◌≡◌, Bool, true, List, ℕ, ltb, Option as Optional, Some, None}
use Rattle.std.proofs.Math.Option.{Option, none, some, map}
use Rattle.theory.specs.Cascade.{Key, compare_keys, is_one}
use Rattle.style.specs.Entries.{Entry}
use Rattle.sheet.specs.Layout.{rules_in, styles_in}
use Rattle.keys.specs.Keys.{key_from}
use Rattle.winners.specs.declared.Best.{Best}
use Rattle.winners.specs.declared.Found.{Found}
use Rattle.winners.specs.declared.Source.{Source}
use Rattle.winners.specs.declared.Source.TheVariants as source
use Rattle.winners.specs.Winners.{Place, style, rule, key_at}

abbrev pub place_of : Source → Place
place_of (source.Style d) = style d
place_of (source.Rule r) = rule r

abbrev pub place_in : Optional Best → Option Place
place_in None = none
place_in (Some b) = some (place_of b.source)

abbrev pub key_in : Optional Best → Option Key
key_in None = none
key_in (Some b) = some (key_from b.key)

-- b is this source for the property p, with its key
pub record Stands (w : List ℕ) (ranking p : ℕ) (o : Option Place) (b : Optional Best) : Type 0 where
  pub place : place_in b ≡ o
  pub key : key_in b ≡ map (λ s. key_at w ranking s p) o

-- a key is greater than that of the best so far, or there is none
abbrev pub beats_key : Key → Option Key → Bool
beats_key k none = true
beats_key k (some b) = is_one (compare_keys k b)

-- the sheet has a source of this number
abbrev pub is_place : List ℕ → Option Place → Bool
is_place w none = true
is_place w (some (style d)) = ltb d (styles_in w)
is_place w (some (rule r)) = ltb r (rules_in w)

-- what was found is this entry's kind and number, or there is none
abbrev pub Finds : Option Entry → Optional Found → Type 0
Finds o None = o ≡ none
Finds o (Some f) = (e : Entry) × (o ≡ some e) × (f.kind ≡ e.kind) × (f.number ≡ e.number)
