-- Laws of lists stored one after the other: what stands inside, before and after them. Assumes nothing.
use mathlib.Core.Path.{◌≡◌, refl, ap, ◌∙◌}
use mathlib.Core.Logic.{◌⊎◌, inl, inr}
use mathlib.Core.List.{List, [], ◌∷◌, ◌++◌}
use Prim.Native.Nat.{ℕ, zero, suc, ◌+◌, ◌-◌, ◌≤◌, ◌<◌}
use native.Mathlib.Nat.{add-zero}
use native.Mathlib.Omega.{arith}
use native.Mathlib.Decide.{dec_lt}
use lib.ListN.{length, get_or, take, drop, set, length-set, drop_of_length-le}
use lib.Seq.{sets, length-sets, set-get_or, get_or-set_same, get_or-set_other, drop-cons}

-- ---- one list

-- one list after another is one list
pub sets_append : (w : List ℕ) (a : ℕ) (x y : List ℕ) → sets (sets w a x) (a + length x) y ≡ sets w a (x ++ y)
sets_append w a [] y = rw add-zero
sets_append w a (v ∷ x) y = let z : a + suc (length x) ≡ suc a + length x = omega arith in rw z (sets_append (set w a v) (suc a) x y)

pub sets_before : (w : List ℕ) (a : ℕ) (x : List ℕ) (i : ℕ) → i < a → get_or (sets w a x) i 0 ≡ get_or w i 0
sets_before w a [] i h = refl
sets_before w a (v ∷ x) i h = sets_before (set w a v) (suc a) x i (omega arith) ∙ get_or-set_other w a i v 0 (λ e. omega arith)

pub sets_after : (w : List ℕ) (a : ℕ) (x : List ℕ) (i : ℕ) → a + length x ≤ i → get_or (sets w a x) i 0 ≡ get_or w i 0
sets_after w a [] i h = refl
sets_after w a (v ∷ x) i h = sets_after (set w a v) (suc a) x i (omega arith) ∙ get_or-set_other w a i v 0 (λ e. omega arith)

pub sets_inside : (w : List ℕ) (a : ℕ) (x : List ℕ) (i : ℕ) → a ≤ i → i < a + length x → i < length w → get_or (sets w a x) i 0 ≡ get_or x (i - a) 0
sets_inside w a [] i h k l = absurd (omega arith)
sets_inside w a (v ∷ x) i h k l = elim (dec_lt a i) [
  | yes m ↦ let z : i - a ≡ suc (i - suc a) = omega arith in
      rw z (sets_inside (set w a v) (suc a) x i (omega arith) (omega arith) (rw length-set l))
  | no m ↦ let e : i ≡ a = omega arith in
      let z : a - a ≡ 0 = omega arith in
      rw (e, z) (sets_before (set w a v) (suc a) x a (omega arith) ∙ get_or-set_same w a v 0 (omega arith))
]

-- storing what is there changes nothing
pub sets_same : (w : List ℕ) (a n : ℕ) → sets w a (take n (drop a w)) ≡ w
sets_same w a zero = refl
sets_same w a (suc n) = elim (dec_lt a (length w)) [
  | yes h ↦ rw (drop-cons w a 0 h) (ap (λ l. sets l (suc a) (take n (drop (suc a) w))) (set-get_or w a 0) ∙ sets_same w (suc a) n)
  | no h ↦ let g : length w ≤ a = omega arith in rw (drop_of_length-le w g)
]

-- ---- several

-- a list, and where it is stored
pub record Placed : Type 0 where
  pub at : ℕ
  pub words : List ℕ

abbrev pub placed : ℕ → List ℕ → Placed
placed a x = record { at = a; words = x }

-- each stored in its turn
abbrev pub writes : List Placed → List ℕ → List ℕ
writes [] w = w
writes (p ∷ ps) w = writes ps (sets w p.at p.words)

-- no list stands at i
abbrev pub Outside : ℕ → List Placed → Type 0
Outside i [] = Unit {0}
Outside i (p ∷ ps) = ((i < p.at) ⊎ (p.at + length p.words ≤ i)) × Outside i ps

pub writes_append : (ps qs : List Placed) (w : List ℕ) → writes (ps ++ qs) w ≡ writes qs (writes ps w)
writes_append [] qs w = refl
writes_append (p ∷ ps) qs w = writes_append ps qs (sets w p.at p.words)

pub length_writes : (ps : List Placed) (w : List ℕ) → length (writes ps w) ≡ length w
length_writes [] w = refl
length_writes (p ∷ ps) w = length_writes ps (sets w p.at p.words) ∙ length-sets w p.at p.words

sets_outside : (w : List ℕ) (a : ℕ) (x : List ℕ) (i : ℕ) → (i < a) ⊎ (a + length x ≤ i) → get_or (sets w a x) i 0 ≡ get_or w i 0
sets_outside w a x i (inl h) = sets_before w a x i h
sets_outside w a x i (inr h) = sets_after w a x i h

pub writes_outside : (ps : List Placed) (w : List ℕ) (i : ℕ) → Outside i ps → get_or (writes ps w) i 0 ≡ get_or w i 0
writes_outside [] w i o = refl
writes_outside (p ∷ ps) w i o = writes_outside ps (sets w p.at p.words) i o.1 ∙ sets_outside w p.at p.words i o.0

pub writes_inside : (ps : List Placed) (p : Placed) (qs : List Placed) (w : List ℕ) (i : ℕ)
    → p.at ≤ i
    → i < p.at + length p.words
    → i < length w
    → Outside i qs
    → get_or (writes (ps ++ p ∷ qs) w) i 0 ≡ get_or p.words (i - p.at) 0
writes_inside [] p qs w i h k l o = writes_outside qs (sets w p.at p.words) i o ∙ sets_inside w p.at p.words i h k l
writes_inside (q ∷ ps) p qs w i h k l o = writes_inside ps p qs (sets w q.at q.words) i h k (rw length-sets l) o
