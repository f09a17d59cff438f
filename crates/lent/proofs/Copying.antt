-- Storing a list word by word, as far as there are words. Assumes nothing.
use mathlib.Core.Path.{◌≡◌, refl, sym, ap, ◌∙◌}
use mathlib.Core.List.{List, [], ◌∷◌}
use Prim.Native.Nat.{ℕ, suc, ◌+◌, ◌≤◌, ◌<◌}
use native.Mathlib.Numerals.{add-one}
use native.Mathlib.Omega.{arith}
use lib.ListN.{length, get_or, drop, set, length-set, drop_of_length-le}
use lib.Seq.{sets, set_out, drop-cons}

-- stores past the end do nothing
pub sets_out : {A : Type 0} (l : List A) (i : ℕ) (vs : List A) → length l ≤ i → sets l i vs ≡ l
sets_out l i [] h = refl
sets_out l i (v ∷ vs) h = rw (set_out l i v h) (sets_out l (suc i) vs (omega arith))

-- the words d are now e, and what is left of the list from j on is still to be stored
pub record Copying {A : Type 0} (d : List A) (at : ℕ) (list : List A) (j : ℕ) (e : List A) : Type 0 where
  pub within : j ≤ length list
  pub size : length e ≡ length d
  pub left : sets e (at + j) (drop j list) ≡ sets d at list

pub copy_start : {A : Type 0} (d : List A) (at : ℕ) (list : List A) → Copying d at list 0 d
copy_start d at list = let z : at + 0 ≡ at = omega arith in record { within = omega arith; size = refl; left = rw z }

module _ {A : Type 0} {d : List A} {at : ℕ} {list : List A} {j : ℕ} {e : List A} (c : Copying d at list j e) where
  pub copy_one : (x : A) → j < length list → Copying d at list (j + 1) (set e (at + j) (get_or list j x))
  copy_one x h =
      let n : at + (j + 1) ≡ suc (at + j) = omega arith in
      record {
        within = omega arith;
        size = length-set e (at + j) (get_or list j x) ∙ c.size;
        left = rw (n, add-one j) (sym (ap (λ l. sets e (at + j) l) (drop-cons list j x h)) ∙ c.left);
      }

  pub copy_end : length list ≤ j → e ≡ sets d at list
  copy_end h = rw (drop_of_length-le list h) at c.left

  pub copy_out : length e ≤ at + j → e ≡ sets d at list
  copy_out h = sym (sets_out e (at + j) (drop j list) h) ∙ c.left
