-- Keys, winners and changes: 01, "Weight, winners, changes". Assumes nothing.
use Rattle.std.specs.Prelude.{◌≡◌, refl, ◌≢◌, Bool, true, false, cond, not, List, [], ◌∷◌, ◌++◌, ℕ, zero, suc, ◌%◌, ◌<◌, T, eqb, ℤ, pos, negsuc}
use Rattle.std.proofs.Math.Option.{Option, none, some, map}
use Rattle.std.proofs.Math.ListN.{get_elem?}
use Rattle.theory.specs.Sizes
use Rattle.theory.specs.Lists.{compare, select, member}
use Rattle.theory.specs.Weight.{Weight, weight_numbers, no_weight}

-- "A source's key is origin rank, weight, source index, order in its group."
pub record Key : Type 0 where
  pub origin : ℕ
  pub weight : Weight
  pub source : ℕ
  pub order : ℕ

abbrev pub key_numbers : Key → List ℕ
key_numbers k = k.origin ∷ weight_numbers k.weight ++ k.source ∷ k.order ∷ []

-- "Comparing two keys answers -1, 0 or 1"
unfoldable pub compare_keys : Key → Key → ℤ
compare_keys a b = compare (key_numbers a) (key_numbers b)

-- 1 and nothing else
abbrev pub is_one : ℤ → Bool
is_one (pos (suc zero)) = true
is_one (pos zero) = false
is_one (pos (suc (suc n))) = false
is_one (negsuc n) = false

abbrev pub is_zero : ℤ → Bool
is_zero (pos zero) = true
is_zero (pos (suc n)) = false
is_zero (negsuc n) = false

-- Over any type of sources: a key belongs to a source and a property, and a source holds some properties
module _ {Source : Type 0} (key : Source → ℕ → Key) (holds : Source → ℕ → Bool) where
  -- "The greatest key among direct styles and listed rules that hold the property wins", and of equal keys the first
  pub record Wins (sources : List Source) (p : ℕ) (s : Source) : Type 0 where
    pub at : ℕ
    pub is : get_elem? sources at ≡ some s
    pub has : T (holds s p)
    -- nobody who holds the property has a greater key,
    pub greatest : (j : ℕ) (t : Source) → get_elem? sources j ≡ some t → T (holds t p) → compare_keys (key t p) (key s p) ≢ pos 1
    -- and those before have a lesser one
    pub earliest : (j : ℕ) (t : Source) → j < at → get_elem? sources j ≡ some t → T (holds t p) → compare_keys (key t p) (key s p) ≡ negsuc 0

  -- s, unless what wins among the later ones has a greater key
  abbrev pub against : ℕ → Source → Option Source → Option Source
  against p s none = some s
  against p s (some t) = cond (is_one (compare_keys (key t p) (key s p))) (some t) (some s)

  unfoldable pub winner : List Source → ℕ → Option Source
  winner [] p = none
  winner (s ∷ l) p = cond (holds s p) (against p s (winner l p)) (winner l p)

  abbrev pub winning_key : List Source → ℕ → Option Key
  winning_key sources p = map (λ s. key s p) (winner sources p)

-- "presence included"
abbrev pub same_key : Option Key → Option Key → Bool
same_key none none = true
same_key none (some b) = false
same_key (some a) none = false
same_key (some a) (some b) = is_zero (compare_keys a b)

module _ {Source : Type 0} (key : Source → ℕ → Key) (holds : Source → ℕ → Bool) where
  -- "Changed properties, ascending: those whose winning key differs, presence included."
  unfoldable pub changed : List Source → List Source → List ℕ
  changed old new = select (λ p. not (same_key (winning_key key holds old p) (winning_key key holds new p))) Sizes.PROPERTY-IDS

-- The new answers at the properties listed, the old ones elsewhere
unfoldable pub mend : {A : Type 0} → List ℕ → (ℕ → A) → (ℕ → A) → ℕ → A
mend ids old new p = cond (member p ids) (new p) (old p)

-- ---- for example, keys: a greater origin beats a greater weight, that a greater source index, and that a greater order

abbrev key_of : ℕ → ℕ → ℕ → ℕ → Key
key_of origin pseudos source order = record { origin = origin; weight = record { first = pseudos; second = 0; third = 0; fourth = 0 }; source = source; order = order }

origin_first : compare_keys (key_of 1 0 0 0) (key_of 0 1 1 1) ≡ pos 1
unfolding compare_keys compare
origin_first = refl

weight_next : compare_keys (key_of 0 1 0 0) (key_of 0 0 1 1) ≡ pos 1
unfolding compare_keys compare
weight_next = refl

source_next : compare_keys (key_of 0 0 1 0) (key_of 0 0 0 1) ≡ pos 1
unfolding compare_keys compare
source_next = refl

order_last : compare_keys (key_of 0 0 0 0) (key_of 0 0 0 1) ≡ negsuc 0
unfolding compare_keys compare
order_last = refl

-- ---- for example, winners: sources are numbers, odd ones of origin 1 and even ones of origin 0, else with equal keys; all hold property 7 and no other

abbrev sample_key : ℕ → ℕ → Key
sample_key s p = record { origin = s % 2; weight = no_weight; source = 0; order = 0 }

abbrev sample_holds : ℕ → ℕ → Bool
sample_holds s p = eqb p 7

-- the greatest key, and the first of equal ones
first_of_equals : winner sample_key sample_holds (2 ∷ 1 ∷ 3 ∷ []) 7 ≡ some 1
unfolding winner compare_keys compare
first_of_equals = refl

-- nobody who does not hold it
nobody_holds : winner sample_key sample_holds (2 ∷ 1 ∷ 3 ∷ []) 8 ≡ none
unfolding winner
nobody_holds = refl

-- what is listed is mended, and nothing else
mended : mend (7 ∷ []) (λ p. 0) (λ p. p) 7 ≡ 7
unfolding mend member
mended = refl

not_mended : mend (7 ∷ []) (λ p. 0) (λ p. p) 8 ≡ 0
unfolding mend member
not_mended = refl
