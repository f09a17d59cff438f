-- In a made sheet equal keys are equal places, and what a covered table lists are places of its sheet. Assumes nothing.
use mathlib.Core.Path.{◌≡◌, ap, ◌∙◌, subst}
use mathlib.Core.Logic.{inl, inr}
use mathlib.Core.Option.{some}
use mathlib.Core.List.Memᴰ
use mathlib.Core.List.{List, [], ◌∷◌, ◌++◌}
use Prim.Native.Nat.{ℕ, zero, suc, ◌+◌, ◌<◌}
use native.Mathlib.Nat.{zero-add}
use native.Mathlib.Omega.{arith}
use native.Mathlib.Decide.{ℕ_discrete}
use lib.ListN.{length, get_elem?}
use Rattle.theory.specs.Lists.{◌∈◌, spread}
use Rattle.theory.specs.States.{State}
use Rattle.theory.proofs.Lists.{append_in}
use Rattle.theory.proofs.Keys.{keys_zero}
use Rattle.theory.proofs.Winners.{Told}
use Rattle.theory.proofs.Spreads.{length_spread, get_elem?-spread, map_spread}
use Rattle.sheet.specs.Layout.{rules_in, styles_in}
use Rattle.sheet.specs.Sheets.{direct, listed, sources_of, style_at, rule_at, sheet_of}
use Rattle.made.specs.Made.{Made}
use Rattle.made.proofs.Promises.{made_differ}
use Rattle.table.specs.Tables.{Table, states_in}
use Rattle.winners.specs.Winners.{Place, style, rule, source_at, holds_at, key_at, places_for}
use Rattle.looking.specs.Calls.{rules_at}
use Rattle.covered.specs.Covered.{Covered}
use Rattle.covered.proofs.Held.{spread_in}
use Rattle.covered.proofs.Sound.{rule_exists_lem}
use Rattle.covered.proofs.Reached.{covered_sound}

-- the sheet has a source of this number
abbrev pub Within : List ℕ → Place → Type 0
Within w (style d) = d < styles_in w
Within w (rule r) = r < rules_in w

-- ---- where it stands among the sheet's sources

module _ {A : Type 0} where
  at_first : (l m : List A) (i : ℕ) (a : A) → get_elem? l i ≡ some a → get_elem? (l ++ m) i ≡ some a
  at_first [] m i a e = let z : ◌≡◌ {A = ℕ} 0 1 = cc in absurd (omega arith)
  at_first (x ∷ l) m zero a e = e
  at_first (x ∷ l) m (suc i) a e = at_first l m i a e

  at_second : (l m : List A) (n i : ℕ) → length l ≡ n → get_elem? (l ++ m) (n + i) ≡ get_elem? m i
  at_second [] m n i e = let z : n + i ≡ i = omega arith in rw z
  at_second (x ∷ l) m zero i e = absurd (omega arith)
  at_second (x ∷ l) m (suc n) i e = let z : suc n + i ≡ suc (n + i) = omega arith in rw z (at_second l m n i (omega arith))

abbrev position : List ℕ → Place → ℕ
position w (style d) = d
position w (rule r) = styles_in w + r

sources_are : (w : List ℕ) → sources_of (sheet_of w) ≡ spread (λ d. direct (style_at w d)) 0 (styles_in w) ++ spread (λ r. listed (rule_at w r)) 0 (rules_in w)
unfolding sheet_of
sources_are w = rw (map_spread direct (style_at w) 0 (styles_in w), map_spread listed (rule_at w) 0 (rules_in w))

at_position : (w : List ℕ) (s : Place) → Within w s → get_elem? (sources_of (sheet_of w)) (position w s) ≡ some (source_at w s)
at_position w (style d) h =
    rw (sources_are w) (at_first (spread (λ d. direct (style_at w d)) 0 (styles_in w)) (spread (λ r. listed (rule_at w r)) 0 (rules_in w)) d (direct (style_at w d)) (get_elem?-spread (λ d. direct (style_at w d)) 0 (styles_in w) d h ∙ rw zero-add))
at_position w (rule r) h =
    rw (sources_are w) (at_second (spread (λ d. direct (style_at w d)) 0 (styles_in w)) (spread (λ r. listed (rule_at w r)) 0 (rules_in w)) (styles_in w) r (length_spread _ 0 (styles_in w))
    ∙ get_elem?-spread (λ r. listed (rule_at w r)) 0 (rules_in w) r h
    ∙ rw zero-add)

one_place : (w : List ℕ) (s s' : Place) → Within w s → Within w s' → position w s ≡ position w s' → s ≡ s'
one_place w (style d) (style d') h h' e = ap style e
one_place w (style d) (rule r) h h' e = absurd (omega arith)
one_place w (rule r) (style d) h h' e = absurd (omega arith)
one_place w (rule r) (rule r') h h' e = let q : r ≡ r' = omega arith in ap rule q

-- ---- "distinct sources never have equal keys"

module _ {w : List ℕ} (made : Made w) (ranking : ℕ) where
  pub keys_tell : (s s' : Place) (p p' : ℕ) → Within w s → Within w s' → key_at w ranking s p ≡ key_at w ranking s' p' → s ≡ s'
  unfolding key_at
  keys_tell s s' p p' h h' e = elim (ℕ_discrete (position w s) (position w s')) [
    | yes q ↦ one_place w s s' h h' q
    | no q ↦ absurd (made_differ made (position w s) (position w s') q (source_at w s) (source_at w s') (at_position w s h) (at_position w s' h') ranking e)
  ]

  pub places_told : (l : List Place) (p : ℕ) → ((s : Place) → s ∈ l → Within w s) → Told (key_at w ranking) (holds_at w) l p
  places_told l p within s s' i i' h h' e = keys_tell s s' p p (within s i) (within s' i') (keys_zero (key_at w ranking s p) (key_at w ranking s' p) e)

-- ---- direct styles and listed rules are places of the sheet

pub places_within : (w rules : List ℕ) → ((r : ℕ) → r ∈ rules → r < rules_in w) → (s : Place) → s ∈ places_for w rules → Within w s
unfolding places_for
places_within w rules below s m = elim ((append_in (spread style 0 (styles_in w)) _ s).0 m) [
  | inl i ↦ let (d, h, e) = (spread_in style (styles_in w) s).0 i in subst (Within w) e h
  | inr i ↦ let (r, j, e) = Memᴰ.of_map rule rules i in subst (Within w) e (below r j)
]

pub listed_below : {w : List ℕ} {t : Table} → Covered w t → (k : ℕ) → k < states_in t.head → (r : ℕ) → r ∈ rules_at t k → r < rules_in w
listed_below {w} c k h r m =
    let s = covered_sound w c in
    let (path, e) = s.known.after k h in
    rule_exists_lem w s.sheet path r (subst (λ (z : State). r ∈ z.matched) e m)
