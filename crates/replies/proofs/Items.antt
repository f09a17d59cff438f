-- Items taken one by one, and the subject that they make. Assumes nothing.
use mathlib.Core.Path.{◌≡◌, refl, sym, ap, ◌∙◌}
use mathlib.Core.Bool.{Bool, true, false, not}
use mathlib.Core.List.{List, [], append-nil}
use Prim.Native.Nat.{ℕ, ◌+◌, ◌≤◌, ◌<◌}
use native.Mathlib.Nat.{zero-add}
use native.Mathlib.Omega.{arith}
use lib.ListN.{length, get_or, drop, replicate, drop_of_length-le}
use lib.Seq.{sets, sets-eq}
use lib.Dec.{ltb}
use borrow.Author.Tests.{ltb-false, lt-ltb, le-ltb, not-true}
use Rattle.theory.specs.Lists.{ascends, sort, spread}
use Rattle.theory.proofs.Lists.{and_left, and_right, and_both, sort_ascending, sort_length, ascends_is}
use Rattle.theory.proofs.Spreads.{length_spread, get_or_spread, spread_same, spread_list}
use Rattle.std.specs.Prelude.{Option, Result}
use Rattle.lent.specs.declared.Refusal.{Refusal}
use Rattle.lent.specs.Refusals.{first_of}
use Rattle.selector.specs.Rows.{row_at}
use Rattle.selector.specs.Checks.{row_fits, tags_ascend}
use Rattle.typed.specs.declared.ClassId.{ClassId}
use Rattle.typed.specs.declared.PseudoClassId.{PseudoClassId}
use Rattle.typed.specs.declared.TypeTag.{TypeTag}
use Rattle.typed.specs.declared.PartTag.{PartTag}
use Rattle.typed.specs.declared.SelectorInputs.{SelectorInputs}
use Rattle.typed.specs.Typed.{class_number, pseudo_number, inputs_tags, inputs_row, inputs_from, row_type, row_part, classes_from, pseudos_from}
use Rattle.owned.specs.declared.SelectorInputsOwned.{SelectorInputsOwned}
use Rattle.owned.specs.Owned.{owned_verdict, owned_of, owned_inputs, inputs_held, Owned}
use Rattle.covered.specs.Rooms.{Proper}
use Rattle.covered.proofs.Accepted.{row_tags}
use Rattle.records.specs.Rows.{empty_row, with_item, item_over}
use Rattle.replies.specs.Walking.{subject_of, item_fault, with_fit}

-- ---- an item, by each way through the code

module _ (row : List ℕ) (which id : ℕ) where
  -- the answer, and the row after
  abbrev Takes : ℕ → List ℕ → Type 0
  Takes r row' = (r ≡ item_fault row which) × (row' ≡ with_fit row which id)

  pub item_unknown : 3 < which → Takes 10 row
  unfolding item_fault with_fit first_of
  item_unknown h = (rw (lt-ltb 3 which h), rw (lt-ltb 3 which h))

  module _ (h : which ≤ 3) (b : Bool) (e : b ≡ item_over 16 which row) where
    pub item_over_lem : b ≡ true → Takes 2 row
    unfolding item_fault with_fit first_of
    item_over_lem f = (rw (le-ltb 3 which h, ← e, f), rw (le-ltb 3 which h, ← e, f))

    pub item_put : b ≡ false → (row' : List ℕ) → row' ≡ with_item 16 which id row → Takes 0 row'
    unfolding item_fault with_fit first_of
    item_put f row' q = (rw (le-ltb 3 which h, ← e, f), q ∙ rw (le-ltb 3 which h, ← e, f))

  pub item_fits : (b : Bool) → b ≡ item_over 16 which row → b ≡ false → item_over 16 which row ≡ false
  item_fits b e f = sym e ∙ f

-- ---- the row of the subject

pub owned_subject : (items : List ℕ) (x : SelectorInputs) → x ≡ inputs_from items → (r : Result SelectorInputsOwned Refusal)
    → Owned x.type_tag x.part_tag x.classes x.class_count x.pseudos x.pseudo_count r
    → (row : List ℕ) → row ≡ inputs_row (inputs_held r) → row ≡ inputs_row (subject_of items)
unfolding subject_of
owned_subject items x e r o row q =
    let f : inputs_held r ≡ subject_of items = rw e at o.inputs in
    q ∙ ap (λ (y : SelectorInputs). inputs_row y) f

-- a list spelled out as ids, and read back
spelled : {A : Type 0} (make : ℕ → A) (number : A → ℕ) (none : A) → ((n : ℕ) → number (make n) ≡ n) → (l : List ℕ) → length l ≤ 16
    → spread (λ k. number (get_or (spread (λ j. make (get_or l j 0)) 0 16) k none)) 0 (length l) ≡ l
spelled make number none back l h =
    spread_same _ (λ k. get_or l k 0) 0 (length l) (λ i _ g. ap number (get_or_spread (λ j. make (get_or l j 0)) 0 16 i none (omega arith)) ∙ back (get_or l (0 + i) 0) ∙ rw (zero-add i))
    ∙ spread_list l 0

owned_proper : (t : Option TypeTag) (p : Option PartTag) (classes pseudos : List ℕ) → length classes ≤ 16 → length pseudos ≤ 16 → ascends classes ≡ true → ascends pseudos ≡ true
    → Proper (owned_of t p classes pseudos)
unfolding inputs_tags
owned_proper t p classes pseudos h g e f =
    let a = spelled {A = ClassId} (λ n. record { 0 = n }) (λ c. c.0) (record { 0 = 0 }) (λ n. refl) classes h in
    let b = spelled {A = PseudoClassId} (λ n. record { 0 = n }) (λ c. c.0) (record { 0 = 0 }) (λ n. refl) pseudos g in
    record { classes = h; pseudos = g; rise = rw (a, b) (and_both _ _ e f) }

sorted_few : (f : ℕ → ℕ) (n : ℕ) → n ≤ 16 → length (sort (spread f 0 n)) ≤ 16
sorted_few f n h = omega (arith, sort_length (spread f 0 n), length_spread f 0 n)

sorted_rises : (l : List ℕ) → ascends (sort l) ≡ true
sorted_rises l = (ascends_is (sort l)).1 (sort_ascending l)

module _ (items : List ℕ) (f : row_fits 16 items 0 ≡ true) where
  classes_few : get_or items 4 0 ≤ 16
  classes_few = ltb-false 16 (get_or items 4 0) (not-true _ (and_left _ _ f))

  pseudos_few : get_or items 5 0 ≤ 16
  pseudos_few = ltb-false 16 (get_or items 5 0) (not-true _ (and_right (not (ltb 16 (get_or items 4 0))) _ f))

  subject_is : subject_of items
      ≡ owned_of (row_type items) (row_part items) (sort (spread (class_number (classes_from 16 items 6)) 0 (get_or items 4 0))) (sort (spread (pseudo_number (pseudos_from 16 items 22)) 0 (get_or items 5 0)))
  unfolding subject_of owned_inputs owned_verdict first_of
  subject_is = rw (le-ltb 16 (get_or items 4 0) classes_few, le-ltb 16 (get_or items 5 0) pseudos_few)

  -- "sorted as for an owned subject": refusals 2 and 1 let it pass
  pub subject_proper : Proper (subject_of items)
  subject_proper = rw subject_is
      (owned_proper (row_type items) (row_part items) _ _ (sorted_few _ _ classes_few) (sorted_few _ _ pseudos_few) (sorted_rises _) (sorted_rises _))

pub proper_fits : {x : SelectorInputs} → Proper x → row_fits 16 (inputs_row x) 0 ≡ true
proper_fits {x} p = rw (le-ltb 16 x.class_count p.classes, le-ltb 16 x.pseudo_count p.pseudos)

pub proper_rises : {x : SelectorInputs} → Proper x → tags_ascend (row_at 16 (inputs_row x) 0) ≡ true
proper_rises p = rw (row_tags p) p.rise

-- ---- the items are taken

pub emptied : (items row : List ℕ) → length items ≡ 38 → row ≡ sets items 0 (replicate 38 0) → row ≡ empty_row 16
emptied items row e f =
    let rest : drop 38 items ≡ [] = drop_of_length-le items {i = 38} (omega (arith, e)) in
    f ∙ sets-eq (replicate 38 0) items 0 (omega (arith, e)) ∙ rw rest (append-nil (empty_row 16))
