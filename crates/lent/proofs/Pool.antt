-- Laws of lists end to end over a pool. Assumes nothing.
use mathlib.Core.Path.{◌≡◌, refl, sym, ◌∙◌}
use mathlib.Core.List.{List, [], ◌∷◌}
use mathlib.Core.Logic.{⊎_elim}
use Prim.Native.Nat.{ℕ, zero, suc, ◌+◌, ◌-◌, ◌*◌, ◌≤◌, ◌<◌}
use native.Mathlib.Nat.{eq-or-lt_of_le, le_of_suc-le-suc, mul-le-mul}
use native.Mathlib.Omega.{arith}
use lib.ListN.{length, get_or, take, drop, length-drop, drop_of_length-le}
use lib.Seq.{take-nil, take_all}
use mir.Syntax.{w64}
use mir.Val.{Fits}
use Rattle.lent.specs.Pool.{address_of, ends_in, start_of, list_at}

-- ---- reading

-- an address made of three u32 is a u64
product : (s r : ℕ) → s < 4294967296 → r < 4294967296 → s * r ≤ 4294967295 * 4294967295
product s r h k = mul-le-mul {n₂ = 4294967295} {m₂ = 4294967295} (omega arith) (omega arith)

pub stride_fits : (s r : ℕ) → s < 4294967296 → r < 4294967296 → Fits w64 (s * r)
stride_fits s r h k = record { fits = omega (arith, product s r h k) }

pub address_fits : (b s r : ℕ) → b < 4294967296 → s < 4294967296 → r < 4294967296 → Fits w64 (b + s * r)
address_fits b s r g h k = record { fits = omega (arith, product s r h k) }

-- what `address`, `cell`, `start_of`, `part` and `list_of` return, by what they call
pub address_is : (b s r b' s' r' : ℕ) → b' ≡ b → s' ≡ s → r' ≡ r → b' + s' * r' ≡ address_of b s r
address_is b s r b' s' r' e f g = rw (e, f, g)

pub cell_is : (words : List ℕ) (base stride row at v : ℕ) → at ≡ address_of base stride row → v ≡ get_or words at 0 → v ≡ ends_in words base stride row
unfolding ends_in
cell_is words base stride row at v e f = f ∙ rw e

pub start_first : (ends : ℕ → ℕ) (k : ℕ) → k ≡ 0 → 0 ≡ start_of ends k
unfolding start_of
start_first ends k e = rw e

pub start_later : (ends : ℕ → ℕ) (k v : ℕ) → (k ≡ 0 → ⊥) → v ≡ ends (k - 1) → v ≡ start_of ends k
unfolding start_of
start_later ends zero v h e = absurd (h refl)
start_later ends (suc k) v h e = let p : suc k - 1 ≡ k = omega arith in rw p at e

start_next : (ends : ℕ → ℕ) (k : ℕ) → start_of ends (suc k) ≡ ends k
unfolding start_of
start_next ends k = refl

pub list_is : (ends : ℕ → ℕ) (pool : List ℕ) (k from to from' to' : ℕ) (l : List ℕ)
    → from ≡ start_of ends k
    → to ≡ ends k
    → from' ≡ from
    → to' ≡ to
    → l ≡ take (to' - from') (drop from' pool)
    → l ≡ list_at ends pool k
unfolding list_at
list_is ends pool k from to from' to' l e f g h p = p ∙ rw (g, h, e, f)

module _ (l : List ℕ) (from to : ℕ) where
  pub part_none : to ≤ from → [] ≡ take (to - from) (drop from l)
  part_none h = let z : to - from ≡ 0 = omega arith in rw z

  pub part_past : length l ≤ from → [] ≡ take (to - from) (drop from l)
  part_past h = rw (drop_of_length-le l h) (sym (take-nil (to - from)))

  pub part_rest : length l < to → take (length l - from) (drop from l) ≡ take (to - from) (drop from l)
  part_rest h = take_all (length l - from) (drop from l) (simp length-drop (omega arith)) ∙ sym (take_all (to - from) (drop from l) (simp length-drop (omega arith)))

-- and those of `rest`
pub rest_none : {A : Type 0} (l : List A) (from : ℕ) → length l ≤ from → [] ≡ drop from l
rest_none l from h = sym (drop_of_length-le l h)

pub rest_all : {A : Type 0} (l : List A) (from : ℕ) → take (length l - from) (drop from l) ≡ drop from l
rest_all l from = take_all (length l - from) (drop from l) (simp length-drop (omega arith))

-- ---- ends

-- none of the first n lists ends before its start
abbrev pub Rising : ℕ → (ℕ → ℕ) → Type 0
Rising n ends = (k : ℕ) → k < n → start_of ends k ≤ ends k

-- the starts never fall
pub starts_rise : (ends : ℕ → ℕ) (n i j : ℕ) → Rising n ends → i ≤ j → j ≤ n → start_of ends i ≤ start_of ends j
starts_rise ends n i zero r h g = let e : i ≡ 0 = omega arith in rw e (omega arith)
starts_rise ends n i (suc j) r h g =
    ⊎_elim (λ q. rw q (omega arith))
    (λ l. omega (arith, starts_rise ends n i j r (le_of_suc-le-suc l) (omega arith), r j g, start_next ends j))
    (eq-or-lt_of_le h)

-- a list that ends at e is told by what stands below e
part_below : (s e : ℕ) (l : List ℕ) → take (e - s) (drop s l) ≡ drop s (take e l)
part_below zero e l = let z : e - 0 ≡ e = omega arith in rw z
part_below (suc s) zero l = let z : 0 - suc s ≡ 0 = omega arith in rw z
part_below (suc s) (suc e) [] = take-nil (suc e - suc s)
part_below (suc s) (suc e) (a ∷ l) = let z : suc e - suc s ≡ e - s = omega arith in rw z (part_below s e l)

-- list j is the same where its start and its end are, and the pools agree below its end
pub list_kept : (ends ends' : ℕ → ℕ) (pool pool' : List ℕ) (j : ℕ)
    → start_of ends' j ≡ start_of ends j
    → ends' j ≡ ends j
    → take (ends j) pool' ≡ take (ends j) pool
    → list_at ends' pool' j ≡ list_at ends pool j
unfolding list_at
list_kept ends ends' pool pool' j p q r =
    rw (p, q, part_below (start_of ends j) (ends j) pool', part_below (start_of ends j) (ends j) pool, r)
