-- Where a property stands, by the search's ways out. Assumes nothing.
use mathlib.Core.Path.{◌≡◌, refl, sym, ap, ◌∙◌}
use mathlib.Core.Bool.{Bool, true, false}
use mathlib.Core.List.{List, [], ◌∷◌}
use mathlib.Core.Logic.{⊎_elim}
use Prim.Native.Nat.{ℕ, suc, ◌-◌, ◌≤◌, ◌<◌}
use native.Mathlib.Omega.{arith}
use lib.ListN.{length, get_or, take, drop, replicate}
use lib.Seq.{sets, get_or-take, length-take-le}
use lib.Dec.{ltb, eqb}
use borrow.Author.Tests.{lt-ltb, le-ltb, ltb-false, eq-eqb, ne_eqb, eqb-true, eqb-false, not-false}
use Rattle.theory.specs.Lists.{ascends, member}
use Rattle.theory.proofs.Lists.{le_or_lt}
use Rattle.idset.specs.Buffers.{rank}
use Rattle.idset.proofs.Search.{rank_skip, rank_here, found_at, found_out}
use Rattle.style.specs.Checks.{properties_off}
use Rattle.style.specs.Looking.{place_of}
use Rattle.style.proofs.CheckLaws.{widened}

-- ---- where a property stands

pub place_here : (p a : ℕ) (l : List ℕ) → a ≡ p → place_of p (a ∷ l) ≡ 0
unfolding place_of
place_here p a l h = rw (eq-eqb a p h)

pub place_skip : (p a : ℕ) (l : List ℕ) → (a ≡ p → ⊥) → place_of p (a ∷ l) ≡ suc (place_of p l)
unfolding place_of
place_skip p a l h = rw (ne_eqb a p h)

pub ltb_suc : (a b : ℕ) → ltb (suc a) (suc b) ≡ ltb a b
ltb_suc a b =
    ⊎_elim (λ h. le-ltb (suc a) (suc b) (omega arith) ∙ sym (le-ltb a b h)) (λ h. lt-ltb (suc a) (suc b) (omega arith) ∙ sym (lt-ltb a b h)) (le_or_lt b a)

-- it is a member where its place is below the length
pub member_place : (p : ℕ) (l : List ℕ) → member p l ≡ ltb (place_of p l) (length l)
unfolding member
member_place p [] = unfold place_of in refl
member_place p (a ∷ l) = by (eqb a p) refl (member_place p l)
  where
    by : (t : Bool) → eqb a p ≡ t → member p l ≡ ltb (place_of p l) (length l) → member p (a ∷ l) ≡ ltb (place_of p (a ∷ l)) (suc (length l))
    by true e r = rw (place_here p a l (eqb-true a p e), e) (sym (lt-ltb 0 (suc (length l)) (omega arith)))
    by false e r = rw (place_skip p a l (eqb-false a p e), e) (r ∙ sym (ltb_suc (place_of p l) (length l)))

place_length : (p : ℕ) (l : List ℕ) → place_of p l ≤ length l
place_length p [] = unfold place_of in omega arith
place_length p (a ∷ l) = by (eqb a p) refl (place_length p l)
  where
    by : (t : Bool) → eqb a p ≡ t → place_of p l ≤ length l → place_of p (a ∷ l) ≤ suc (length l)
    by true e r = rw (place_here p a l (eqb-true a p e)) (omega arith)
    by false e r = rw (place_skip p a l (eqb-false a p e)) (omega arith)

-- no member stands at the length
place_none : (p : ℕ) (l : List ℕ) → member p l ≡ false → place_of p l ≡ length l
place_none p l e = omega (arith, place_length p l, ltb-false (place_of p l) (length l) (sym (member_place p l) ∙ e))

-- what is at its rank stands there
place_rank : (p : ℕ) (l : List ℕ) → rank p l < length l → get_or l (rank p l) 0 ≡ p → place_of p l ≡ rank p l
place_rank p [] h e = absurd (omega arith)
place_rank p (a ∷ l) h e =
    ⊎_elim (λ q. let r = rank_here p a l q in rw r (place_here p a l (rw r at e)))
    (λ q. let r = rank_skip p a l q in rw r (place_skip p a l (λ s. omega arith) ∙ ap suc (place_rank p l (omega arith) (rw r at e))))
    (le_or_lt p a)

-- the ways out of `place`, by the widened ids
module _ (properties words l : List ℕ) (n p at : ℕ)
    (g : n ≤ 32)
    (h : n ≤ length properties)
    (w : words ≡ sets (replicate 32 0) 0 (take n properties))
    (e : l ≡ take (n - 0) (drop 0 words)) where
  ids_here : l ≡ take n properties
  ids_here = e ∙ widened properties words n w g h

  pub ids_sorted : properties_off properties n ≡ false → ascends l ≡ true
  unfolding properties_off
  ids_sorted o = rw ids_here (not-false _ o)

  module _ (r : at ≡ rank p l) where
    word_here : at < n → get_or words at 0 ≡ get_or l at 0
    word_here b = let z : n - 0 ≡ n = omega arith in rw (e, z) (sym (get_or-take n words at 0 b))

    at_length : length l ≡ n
    at_length = ap length ids_here ∙ length-take-le n properties h

    pub place_found : at < n → get_or words at 0 ≡ p → at ≡ place_of p (take n properties)
    place_found b f =
        rw (← ids_here)
        (r ∙ sym (place_rank p l (omega (arith, r, at_length)) (rw r at (sym (word_here b) ∙ f))))

    pub place_other : properties_off properties n ≡ false → at < n → (get_or words at 0 ≡ p → ⊥) → n ≡ place_of p (take n properties)
    place_other o b f =
        rw (← ids_here)
        (sym at_length ∙ sym (place_none p l (sym (found_at p at l r (ids_sorted o) (omega (arith, at_length))) ∙ ne_eqb (get_or l at 0) p (λ q. f (word_here b ∙ q)))))

    pub place_past : n ≤ at → n ≡ place_of p (take n properties)
    place_past b = rw (← ids_here) (sym at_length ∙ sym (place_none p l (sym (found_out p at l r (omega (arith, at_length))))))
