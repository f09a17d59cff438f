-- The loop that joins masks, from the first to the last. Assumes nothing.
use mathlib.Core.Path.{◌≡◌, refl, sym, ap, ap₂, ◌∙◌}
use mathlib.Core.List.{List}
use Prim.Native.Nat.{ℕ, zero, suc, ◌+◌, ◌*◌, ◌/◌, ◌%◌, ◌≤◌, ◌<◌, max}
use native.Mathlib.Nat.{max-le}
use native.Mathlib.Numerals.{add-one, unary_clauses}
use native.Mathlib.Omega.{arith}
use lib.Arith.{bin_ind}
use lib.ListN.{length, get_or, drop, drop_of_length-le}
use lib.Seq.{drop-cons}
use lib.Bits.{bit_or, or_step, or_shr, or_zero_r}
use Rattle.channels.specs.Channels.{channels_of}

-- ---- masks may be joined in any order

max_assoc : (x y z : ℕ) → max (max x y) z ≡ max x (max y z)
max_assoc zero y z = simp unary_clauses refl
max_assoc (suc x) zero z = simp unary_clauses refl
max_assoc (suc x) (suc y) zero = simp unary_clauses refl
max_assoc (suc x) (suc y) (suc z) = simp unary_clauses (ap suc (max_assoc x y z))

or_odd : (a b : ℕ) → bit_or a b % 2 ≡ max (a % 2) (b % 2)
or_odd a b =
    let few : max (a % 2) (b % 2) ≤ 1 = max-le (omega arith) (omega arith) in
    omega (arith, or_step a b, few)

or_assoc : (a b c : ℕ) → bit_or (bit_or a b) c ≡ bit_or a (bit_or b c)
or_assoc =
    bin_ind (λ (n : ℕ). (b c : ℕ) → bit_or (bit_or n b) c ≡ bit_or n (bit_or b c)) (λ b c. refl) (λ n more b c.
    or_step (bit_or n b) c
    ∙ ap₂ (λ (x y : ℕ). x * 2 + y)
    (ap (λ (x : ℕ). bit_or x (c / 2)) (or_shr n b 1) ∙ more (b / 2) (c / 2) ∙ ap (bit_or (n / 2)) (sym (or_shr b c 1)))
    (ap (λ (x : ℕ). max x (c % 2)) (or_odd n b) ∙ max_assoc (n % 2) (b % 2) (c % 2) ∙ ap (max (n % 2)) (sym (or_odd b c)))
    ∙ sym (or_step n (bit_or b c)))

-- ---- at i: what is there, and the masks left, make the whole

pub record Joining (masks ids : List ℕ) (set i : ℕ) : Type 0 where
  pub within : i ≤ length ids
  pub left : channels_of masks ids ≡ bit_or set (channels_of masks (drop i ids))

pub join_start : {masks ids : List ℕ} → Joining masks ids 0 0
join_start = record { within = omega arith; left = refl }

module _ {masks ids : List ℕ} {set i : ℕ} (j : Joining masks ids set i) where
  pub join_next : {mask : ℕ} → i < length ids → mask ≡ get_or masks (get_or ids i 0) 0 → Joining masks ids (bit_or set mask) (i + 1)
  unfolding channels_of
  join_next {mask} h e =
      let rest = channels_of masks (drop (suc i) ids) in
      let one : channels_of masks (drop i ids) ≡ bit_or mask rest = rw (e, drop-cons ids i 0 h) refl in
      record { within = omega arith; left = rw (add-one i) (j.left ∙ ap (bit_or set) one ∙ sym (or_assoc set mask rest)) }

  pub join_end : length ids ≤ i → set ≡ channels_of masks ids
  unfolding channels_of
  join_end h = sym (j.left ∙ rw (drop_of_length-le ids h) (or_zero_r set))
