-- Laws of the rows that items fill. Assumes nothing.
use mathlib.Core.Path.{◌≡◌, refl, sym, ◌∙◌}
use mathlib.Core.Bool.{false}
use mathlib.Core.List.{List, [], ◌∷◌}
use Prim.Native.Nat.{ℕ, ◌+◌, ◌≤◌, ◌<◌}
use native.Mathlib.Omega.{arith}
use native.Mathlib.Decide.{dec_lt}
use lib.ListN.{length, get_or, set, length-set}
use lib.Seq.{sets, length-sets}
use lib.Dec.{leb, ltb}
use mir.Syntax.{w32}
use mir.Val.{Fits}
use borrow.Author.Tests.{ltb-false, lt-ltb, le-ltb, le-leb, lt-leb, ne_eqb}
use Rattle.records.specs.Rows.{count_place, id_place, tag_place, with_tag, with_id, with_item, item_over}

-- ---- where things stand

module _ (which : ℕ) where
  pub count_class : which ≡ 2 → 4 ≡ count_place which
  count_class e = rw e refl

  pub count_pseudo : (which ≡ 2 → ⊥) → 5 ≡ count_place which
  count_pseudo n = rw (ne_eqb which 2 n)

  pub id_class : (size : ℕ) → which ≡ 2 → 6 ≡ id_place size which
  id_class size e = rw e refl

  pub id_pseudo : (size : ℕ) → (which ≡ 2 → ⊥) → 6 + size ≡ id_place size which
  id_pseudo size n = rw (ne_eqb which 2 n)

  pub tag_type : which ≡ 0 → 0 ≡ tag_place which
  tag_type e = rw e refl

  pub tag_part : (which ≡ 0 → ⊥) → 2 ≡ tag_place which
  tag_part n = rw (ne_eqb which 0 n)

-- ---- an item over the size

module _ (size which : ℕ) (row : List ℕ) where
  pub over_tag : which < 2 → false ≡ item_over size which row
  unfolding item_over
  over_tag h = rw (lt-ltb which 2 h)

  pub over_id : (at n : ℕ) → 2 ≤ which → at ≡ count_place which → n ≡ get_or row at 0 → leb size n ≡ item_over size which row
  unfolding item_over
  over_id at n h p e = rw (le-ltb which 2 h, ← p, ← e) (same n)
    where
      same : (n : ℕ) → leb size n ≡ ltb size (n + 1)
      same n = elim (dec_lt n size) [
        | yes l ↦ lt-leb size n l ∙ sym (le-ltb size (n + 1) (omega arith))
        | no l ↦ le-leb size n (omega arith) ∙ sym (lt-ltb size (n + 1) (omega arith))
      ]

  -- one that is not over it has a place
  pub room_left : 2 ≤ which → item_over size which row ≡ false → get_or row (count_place which) 0 < size
  unfolding item_over
  room_left h e = let g = ltb-false size (get_or row (count_place which) 0 + 1) (rw (le-ltb which 2 h) at e) in omega (arith, g)

  pub few_left : size ≤ 16 → 2 ≤ which → item_over size which row ≡ false → get_or row (count_place which) 0 ≤ 16
  few_left l h e = omega (arith, room_left h e)

-- ---- an item put

pub tag_is : (which id : ℕ) (row : List ℕ) (place : ℕ) (after : List ℕ) → place ≡ tag_place which → after ≡ sets row place (1 ∷ id ∷ []) → after ≡ with_tag which id row
tag_is which id row place after p e = e ∙ rw p

pub next_fits_lem : (which : ℕ) (row : List ℕ) (at n : ℕ) → at ≡ count_place which → n ≡ get_or row at 0 → get_or row (count_place which) 0 ≤ 16 → Fits w32 (n + 1)
next_fits_lem which row at n p e h = let g : n ≤ 16 = rw (e, p) h in record { fits = omega arith }

module _ (size which id : ℕ) (row : List ℕ) where
  pub id_is : (at n place m : ℕ) (between after : List ℕ)
      → at ≡ count_place which
      → n ≡ get_or row at 0
      → place ≡ id_place size which
      → m ≡ n
      → between ≡ set row (place + m) id
      → after ≡ set between at (n + 1)
      → after ≡ with_id size which id row
  id_is at n place m between after p q r w x y = y ∙ rw (x, w, r, q, p)

  item_tag : which < 2 → with_tag which id row ≡ with_item size which id row
  unfolding with_item
  item_tag h = rw (lt-ltb which 2 h)

  item_id : 2 ≤ which → with_id size which id row ≡ with_item size which id row
  unfolding with_item
  item_id h = rw (le-ltb which 2 h)

  pub tag_put : (after : List ℕ) → which < 2 → after ≡ with_tag which id row → after ≡ with_item size which id row
  tag_put after h e = e ∙ item_tag h

  pub id_put : (after : List ℕ) → 2 ≤ which → after ≡ with_id size which id row → after ≡ with_item size which id row
  id_put after h e = e ∙ item_id h

  pub item_length : length (with_item size which id row) ≡ length row
  item_length = elim (dec_lt which 2) [
    | yes h ↦ rw (← item_tag h) (length-sets row (tag_place which) (1 ∷ id ∷ []))
    | no h ↦ let g : 2 ≤ which = omega arith in
        rw (← item_id g) (length-set (set row (id_place size which + get_or row (count_place which) 0) id) (count_place which) (get_or row (count_place which) 0 + 1)
        ∙ length-set row (id_place size which + get_or row (count_place which) 0) id)
  ]
