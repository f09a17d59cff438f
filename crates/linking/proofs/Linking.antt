-- The ways through the keeping of a transition. Assumes nothing.
use mathlib.Core.Path.{◌≡◌, refl, sym, ap, ◌∙◌}
use mathlib.Core.Bool.{Bool, true, false, cond, not}
use mathlib.Core.List.{List, [], ◌∷◌}
use Prim.Native.Nat.{ℕ, suc, ◌+◌, ◌-◌, ◌*◌, ◌≤◌, ◌<◌}
use native.Mathlib.Omega.{arith}
use lib.ListN.{length, set}
use lib.Seq.{sets}
use lib.Dec.{ltb, leb}
use borrow.Author.Tests.{lt-ltb, le-ltb, ltb-true, not-true, not-false}
use Rattle.theory.proofs.Lists.{and_left}
use Rattle.lent.specs.Pool.{address_of}
use Rattle.lent.proofs.Placing.{sets_append}
use Rattle.table.specs.Tables.{table, transitions_in, first_link, next_link}
use Rattle.table.proofs.Chains.{leads_some, leads_below}
use Rattle.table.specs.Entering.{leads, transition_fits, last_from, with_row, hooked, kept}

-- ---- tests

module _ (n room : ℕ) where
  pub no_number : n ≡ 4294967295 → false ≡ transition_fits n room
  unfolding transition_fits
  no_number e = rw (le-ltb n 4294967295 (omega arith))

  pub fits_here : (k l : ℕ) → n < 4294967296 → (n ≡ 4294967295 → ⊥) → k ≡ 41 → l ≡ n → leb (k * (l + 1)) room ≡ transition_fits n room
  unfolding transition_fits
  fits_here k l f h ek el = rw (lt-ltb n 4294967295 (omega arith), ek, el)

  pub number_left : (count : ℕ) (b : Bool) → n ≡ count → b ≡ transition_fits n room → not b ≡ false → count < 4294967295
  unfolding transition_fits
  number_left count b en eb e = rw (← en) (ltb-true _ _ (and_left (ltb n 4294967295) _ (sym eb ∙ not-false b e)))

pub link_some : (count l : ℕ) → leads count l ≡ true → 0 < l
link_some count l e = leads_some count l _ refl e

pub count_some : (count l : ℕ) → leads count l ≡ true → 1 ≤ count
count_some count l e = omega (arith, leads_some count l _ refl e, leads_below count l _ refl e)

-- the same of equal numbers
pub link_same : (count l n k : ℕ) (b d : Bool) → n ≡ count → k ≡ l → d ≡ leads n k → d ≡ b → leads count l ≡ b
link_same count l n k b d e f g h = rw (← e, ← f) (sym g ∙ h)

-- ---- the last link

-- the rest of the chain, from link on, ends where the whole does; a turn takes the number of turns from `turn` to the next
pub record Following (t : List ℕ) (count first link turn : ℕ) : Type 0 where
  pub whole : last_from t count first (count - 1) ≡ last_from t count link (count - turn)
  pub there : leads count link ≡ true
  pub some : 0 < link

abbrev pub IsLast : List ℕ → ℕ → ℕ → ℕ → Type 0
IsLast t count first link = (link ≡ last_from t count first (count - 1)) × (leads count link ≡ true)

pub follow_start : (t : List ℕ) (count first : ℕ) → leads count first ≡ true → Following t count first first 1
follow_start t count first e = record { whole = refl; there = e; some = link_some count first e }

module _ {t : List ℕ} {count first link turn : ℕ} (w : Following t count first link turn) where
  follow_at : turn < count → last_from t count first (count - 1) ≡ cond (leads count (next_link t (link - 1))) (last_from t count (next_link t (link - 1)) (count - (turn + 1))) link
  unfolding last_from
  follow_at h = let e : count - turn ≡ suc (count - (turn + 1)) = omega arith in w.whole ∙ ap (λ (n : ℕ). last_from t count link n) e

  module _ (v : ℕ) (b : Bool) (ev : v ≡ next_link t (link - 1)) (eb : b ≡ leads count v) (h : turn < count) where
    pub follow_here : b ≡ false → IsLast t count first link
    follow_here e = (sym (follow_at h ∙ rw (← ev, ← eb, e)), w.there)

    pub follow_next : b ≡ true → Following t count first v (turn + 1)
    follow_next e = let l : leads count v ≡ true = sym eb ∙ e in record { whole = follow_at h ∙ rw (← ev, l); there = l; some = link_some count v l }

  pub follow_end : count ≤ turn → IsLast t count first link
  unfolding last_from
  follow_end h = let e : count - turn ≡ 0 = omega arith in (sym (w.whole ∙ rw e), w.there)

-- ---- a transition's row, and its link

pub row_put : (t t₁ t' : List ℕ) (n p child : ℕ) (row : List ℕ) (k l : ℕ)
    → k ≡ address_of 0 41 n
    → t₁ ≡ sets t k (p ∷ child ∷ 0 ∷ [])
    → l ≡ address_of 3 41 n
    → t' ≡ sets t₁ l row
    → t' ≡ with_row t n p child row
row_put t t₁ t' n p child row k l ek e el f =
    let a : k ≡ 41 * n = omega arith in
    let b : l ≡ 41 * n + 3 = omega arith in
    f ∙ rw (e, a, b) (sets_append t (41 * n) (p ∷ child ∷ 0 ∷ []) row)

pub first_hooked : (h s t h' s' t' : List ℕ) (p child : ℕ) (row : List ℕ) (n at : ℕ)
    → leads (transitions_in h) (first_link s p) ≡ false
    → n ≡ transitions_in h
    → t' ≡ with_row t n p child row
    → at ≡ address_of 2 3 p
    → s' ≡ set s at (n + 1)
    → h' ≡ set h 5 (n + 1)
    → (c m : List ℕ) → table h' s' c m t' ≡ hooked (table h s c m t) p child row
unfolding hooked
first_hooked h s t h' s' t' p child row n at e en et ea es eh c m = rw (e, et, es, eh, ea, en)

pub last_hooked : (h t h' t₁ t' : List ℕ) (p child : ℕ) (row : List ℕ) (first n last at : ℕ)
    → leads (transitions_in h) first ≡ true
    → n ≡ transitions_in h
    → IsLast t n first last
    → t₁ ≡ with_row t n p child row
    → at ≡ address_of 2 41 (last - 1)
    → t' ≡ set t₁ at (n + 1)
    → h' ≡ set h 5 (n + 1)
    → (s c m : List ℕ) → first ≡ first_link s p → table h' s c m t' ≡ hooked (table h s c m t) p child row
unfolding hooked
last_hooked h t h' t₁ t' p child row first n last at e en el er ea et eh s c m ef = rw (← ef, e, et, er, eh, ea, el.0, en)

-- ---- keeping

module _ (h s t : List ℕ) (p child : ℕ) (row : List ℕ) (n : ℕ) (b : Bool) (en : n ≡ transitions_in h) (eb : b ≡ transition_fits n (length t)) where
  pub not_kept : not b ≡ true → (c m : List ℕ) → table h s c m t ≡ kept (table h s c m t) p child row
  unfolding kept
  not_kept e c m = rw (← en, ← eb, not-true b e)

  pub is_kept : {h' s' t' : List ℕ}
      → not b ≡ false
      → ((c m : List ℕ) → table h' s' c m t' ≡ hooked (table h s c m t) p child row)
      → (c m : List ℕ) → table h' s' c m t' ≡ kept (table h s c m t) p child row
  unfolding kept
  is_kept e g c m = rw (← en, ← eb, not-false b e) (g c m)

  pub is_kept_last : {h' t' : List ℕ} {first : ℕ}
      → not b ≡ false
      → first ≡ first_link s p
      → ((s c m : List ℕ) → first ≡ first_link s p → table h' s c m t' ≡ hooked (table h s c m t) p child row)
      → (c m : List ℕ) → table h' s c m t' ≡ kept (table h s c m t) p child row
  is_kept_last e f g = is_kept e (λ c m. g s c m f)
