-- Laws of subjects by value, and of rows, over the size of their arrays. Assumes nothing.
use mathlib.Core.Path.{◌≡◌, refl, sym, ap, ◌∙◌, subst}
use mathlib.Core.Logic.{⊎_elim}
use mathlib.Core.Option as maybe
use Rattle.std.specs.Prelude.{Option}
use mathlib.Core.List.{List, [], ◌∷◌}
use Prim.Native.Nat.{ℕ, zero, suc, ◌+◌, ◌-◌, ◌≤◌, ◌<◌}
use native.Mathlib.Nat.{zero-add}
use native.Mathlib.Omega.{arith}
use lib.ListN.{length, get_or, take, drop, set, replicate, length-drop}
use lib.Seq.{sets, take_all, get_or-take, get_or-drop, take-append-le, drop_at, drop-drop}
use Rattle.theory.specs.Lists.{spread}
use Rattle.theory.proofs.Spreads.{length_spread, take_spread, spread_same, spread_shift, spread_list}
use Rattle.theory.proofs.Lists.{le_or_lt}
use Rattle.std.specs.Array.{IsFromFnResult, IsFromFnResultFrom}
use denote.Param.Members.{Mut}
use Rattle.std.specs.Fn.{Called}
use Rattle.typed.specs.declared.ClassId.{ClassId}
use Rattle.typed.specs.declared.PseudoClassId.{PseudoClassId}
use Rattle.typed.specs.declared.TypeTag.{TypeTag}
use Rattle.typed.specs.declared.PartTag.{PartTag}
use Rattle.typed.specs.declared.SelectorInputs.{SelectorInputs}
use Rattle.selector.specs.Rows.{tag_of, tag_number, row_at}
use Rattle.selector.specs.Weighing.{is_set}
use Rattle.typed.specs.Typed.{type_of, part_of, class_number, pseudo_number, inputs_tags}
use Rattle.typed.specs.Typed.{row_with, row_of, inputs_row, row_type, row_part, inputs_with, inputs_from, classes_from, pseudos_from}

-- ---- a list spelled out place by place

spread_next : {A : Type 0} (f : ℕ → A) (k n : ℕ) → spread (λ j. f (suc j)) k n ≡ spread f (suc k) n
spread_next f k zero = refl
spread_next f k (suc n) = ap (λ l. f (suc k) ∷ l) (spread_next f (suc k) n)

sets_nil : (i : ℕ) (l : List ℕ) → sets [] i l ≡ []
sets_nil i [] = refl
sets_nil i (v ∷ l) = sets_nil (suc i) l

sets_cons : (a : ℕ) (d : List ℕ) (i : ℕ) (l : List ℕ) → sets (a ∷ d) (suc i) l ≡ a ∷ sets d i l
sets_cons a d i [] = refl
sets_cons a d i (v ∷ l) = sets_cons a (set d i v) (suc i) l

-- a list stored over zeros, as far as there are any
pub sets_spread : (n : ℕ) (l : List ℕ) → sets (replicate n 0) 0 l ≡ spread (λ k. get_or l k 0) 0 n
sets_spread zero l = sets_nil 0 l
sets_spread (suc n) [] = ap (λ r. 0 ∷ r) (sets_spread n [] ∙ spread_next (λ k. get_or [] k 0) 0 n)
sets_spread (suc n) (a ∷ l) = sets_cons a (replicate n 0) 0 l ∙ ap (λ r. a ∷ r) (sets_spread n l ∙ spread_next (λ k. get_or (a ∷ l) k 0) 0 n)

pub copied : (n : ℕ) (words l w : List ℕ) (at : ℕ) → l ≡ take (length words - at) (drop at words) → w ≡ sets (replicate n 0) 0 l → w ≡ spread (λ k. get_or (drop at words) k 0) 0 n
copied n words l w at e f = f ∙ ap (sets (replicate n 0) 0) (e ∙ take_all (length words - at) (drop at words) (simp length-drop (omega arith))) ∙ sets_spread n (drop at words)

-- a list is what its elements are
pub spelled : {A : Type 0} (l : List A) (d : A) (h : ℕ → A) (n : ℕ) → length l ≡ n → ((k : ℕ) → k < n → get_or l k d ≡ h k) → l ≡ spread h 0 n
spelled l d h n e f = sym (spread_list l d) ∙ rw e (spread_same (λ i. get_or l i d) h 0 n (λ i p q. f i (omega arith)))

-- what a closure gave at each number below n, where it gives h of that number and stays as it is
module _ {F B : Type 0} {g : Mut F (ℕ × Unit {0}) B} (f : F) (h : ℕ → B) (gives : (i : ℕ) (y : B) (q : F) → Called g f (i, tt) y q → (q ≡ f) × (y ≡ h i)) where
  given_at : (ys : List B) (i n : ℕ) (p : F) → p ≡ f → IsFromFnResultFrom g p ys i n → (j : ℕ) (d : B) → i ≤ j → j < i + n → get_or ys j d ≡ h j
  given_at ys i zero p e w j d le lt = absurd (omega arith)
  given_at ys i (suc n) p e (q, y, at, c, rest) j d le lt =
      let r = gives i y q (subst (λ (x : F). Called g x (i, tt) y q) e c) in
      ⊎_elim
      (λ z. let w : i ≡ j = omega arith in subst (λ (x : ℕ). get_or ys x d ≡ h x) w (at.1 d ∙ r.1))
      (λ z. given_at ys (i + 1) n q r.0 rest j d (omega arith) (omega arith))
      (le_or_lt j i)

  pub given_all : (ys : List B) (n : ℕ) (d : B) → IsFromFnResult g f ys n → ys ≡ spread h 0 n
  given_all ys n d w = spelled ys d h n w.long (λ k lt. given_at ys 0 n f refl w.each k d (omega arith) (omega arith))

-- ids read from a part of a row are read from the row
pub ids_read : {A : Type 0} (made : ℕ → A) (w : List ℕ) (at m n : ℕ) → n ≤ m → spread (λ k. made (get_or (take m (drop at w)) k 0)) 0 n ≡ spread (λ k. made (get_or w k 0)) at n
ids_read made w at m n h =
    let z : at + 0 ≡ at = omega arith in
    spread_same (λ k. made (get_or (take m (drop at w)) k 0)) (λ k. made (get_or w (at + k) 0)) 0 n (λ i p q. ap made (get_or-take m (drop at w) i 0 (omega arith) ∙ get_or-drop at w i 0))
    ∙ spread_shift (λ k. made (get_or w k 0)) at 0 n
    ∙ rw z refl

pub classes_read : (size : ℕ) (w : List ℕ) (at m : ℕ) (ids : List ClassId) → ids ≡ spread (λ k. record { 0 = get_or (take m (drop at w)) k 0 }) 0 size → size ≤ m → ids ≡ classes_from size w at
classes_read size w at m ids e h = e ∙ ids_read (λ n. record { 0 = n }) w at m size h

pub pseudos_read : (size : ℕ) (w : List ℕ) (at m : ℕ) (ids : List PseudoClassId) → ids ≡ spread (λ k. record { 0 = get_or (take m (drop at w)) k 0 }) 0 size → size ≤ m → ids ≡ pseudos_from size w at
pseudos_read size w at m ids e h = e ∙ ids_read (λ n. record { 0 = n }) w at m size h

-- ---- rows

tag_back : (t : maybe.Option ℕ) → tag_of (is_set t) (tag_number t) ≡ t
tag_back maybe.none = refl
tag_back (maybe.some n) = refl

module _ (size tf t pf p n m : ℕ) (class pseudo : ℕ → ℕ) where
  pub row_classes : (k : ℕ) → k ≤ size → take k (drop 6 (row_with size tf t pf p n m class pseudo)) ≡ spread class 0 k
  row_classes k h =
      take-append-le k (spread class 0 size) (spread pseudo 0 size) (rw length_spread h) ∙ take_spread class 0 k size h

  pub row_pseudos : (k : ℕ) → k ≤ size → take k (drop (6 + size) (row_with size tf t pf p n m class pseudo)) ≡ spread pseudo 0 k
  row_pseudos k h = ap (take k) (sym (drop-drop size 6 _) ∙ drop_at (spread class 0 size) (spread pseudo 0 size) size (length_spread class 0 size)) ∙ take_spread pseudo 0 k size h

-- what a row says is what was written
pub row_tags : (size n m : ℕ) (t p : maybe.Option ℕ) (class pseudo : ℕ → ℕ) → n ≤ size → m ≤ size
    → row_at size (row_of size t p n m class pseudo) 0 ≡ record { type = t; part = p; classes = spread class 0 n; pseudos = spread pseudo 0 m }
unfolding row_at
row_tags size n m t p class pseudo h g =
    rw (zero-add (6 + size), tag_back t, tag_back p, row_classes size (is_set t) (tag_number t) (is_set p) (tag_number p) n m class pseudo n h, row_pseudos size (is_set t) (tag_number t) (is_set p) (tag_number p) n m class pseudo m g)

pub inputs_row_lem : (x : SelectorInputs) → x.class_count ≤ 16 → x.pseudo_count ≤ 16 → row_at 16 (inputs_row x) 0 ≡ inputs_tags x
unfolding inputs_tags
inputs_row_lem x h g = row_tags 16 x.class_count x.pseudo_count (type_of x.type_tag) (part_of x.part_tag) (class_number x.classes) (pseudo_number x.pseudos) h g

-- a row read back, word by word
pub inputs_read : (row w : List ℕ) (t : Option TypeTag) (p : Option PartTag) (x : SelectorInputs)
    → w ≡ spread (λ k. get_or row k 0) 0 38 → t ≡ row_type w → p ≡ row_part w → x ≡ inputs_with t p w → x ≡ inputs_from row
inputs_read row w t p x e f g h = h ∙ rw (f, g, e)
