-- Laws of owned subjects, by each way through the code. Assumes nothing.
use mathlib.Core.Path.{◌≡◌, sym, ◌∙◌}
use mathlib.Core.List.{List}
use Prim.Native.Nat.{ℕ, ◌≤◌, ◌<◌}
use native.Mathlib.Nat.{zero-add}
use native.Mathlib.Omega.{arith}
use lib.ListN.{length, get_or, set, replicate, length-replicate}
use lib.Seq.{sets, sets-eq}
use mir.Syntax.{w32}
use mir.Val.{Fits}
use borrow.Author.Tests.{lt-ltb, le-ltb}
use Rattle.theory.specs.Lists.{sort, spread}
use Rattle.theory.proofs.Lists.{sort_length}
use Rattle.idset.specs.Buffers.{Holds}
use Rattle.lent.specs.Refusals.{first_of}
use Rattle.lent.specs.declared.Refusal.TheVariants.{OverSize}
use Rattle.typed.specs.declared.ClassId.{ClassId}
use Rattle.typed.specs.declared.PseudoClassId.{PseudoClassId}
use Rattle.typed.specs.declared.TypeTag.{TypeTag}
use Rattle.typed.specs.declared.PartTag.{PartTag}
use Rattle.typed.specs.declared.SelectorInputs.{SelectorInputs}
use Rattle.std.specs.Prelude.{Option, Ok, Err}
use Rattle.selector.proofs.RowLaws.{words_few}
use Rattle.selector.specs.Rows.{tag_number, words_from}
use Rattle.selector.specs.Weighing.{is_set}
use Rattle.typed.specs.Typed.{type_of, part_of, class_number, pseudo_number, inputs_of, inputs_row, inputs_with}
use Rattle.typed.proofs.Laws.{sets_spread, row_classes, row_pseudos}
use Rattle.owned.specs.Owned.{owned_verdict, ids_row, owned_inputs, Owned}

-- a list held over zeros, spelled out place by place
padded : {l e : List ℕ} {n r : ℕ} → Holds l (replicate n 0) r e → length l ≤ n → e ≡ spread (λ k. get_or l k 0) 0 n
padded {l} {e} {n} {r} h g =
    h.whole ∙ rw (h.count, ← zero-add (length l)) (sym (sets-eq l (replicate n 0) 0 (rw length-replicate (omega arith)))) ∙ sets_spread n l

pub sorted_fits : (l words d e : List ℕ) (at n i : ℕ) → Holds (sort l) d i e → l ≡ words_from words at n → n ≤ 16 → Fits w32 i
sorted_fits l words d e at n i h q g = omega (arith, h.count, sort_length l, words_few 16 words l at n q g)

pub sorted_spelled : (given l m c s mid row : List ℕ) (i j : ℕ) → l ≡ words_from given 6 (get_or given 4 0) → m ≡ words_from given 22 (get_or given 5 0)
    → (get_or given 4 0 ≤ 16) × (get_or given 5 0 ≤ 16) → Holds (sort l) (replicate 16 0) i c → Holds (sort m) (replicate 16 0) j s
    → mid ≡ sets (set (set (replicate 38 0) 4 i) 5 j) 6 c → row ≡ sets mid 22 s
    → row ≡ ids_row (sort (words_from given 6 (get_or given 4 0))) (sort (words_from given 22 (get_or given 5 0)))
sorted_spelled given l m c s mid row i j e f g h k u q =
    let a = padded {n = 16} h (omega (arith, sort_length l, words_few 16 given l 6 (get_or given 4 0) e g.0)) in
    let b = padded {n = 16} k (omega (arith, sort_length m, words_few 16 given m 22 (get_or given 5 0) f g.1)) in
    q ∙ rw (u, a, b, h.count, k.count, e, f)

module _ (t : Option TypeTag) (p : Option PartTag) (classes : List ClassId) (n : ℕ) (pseudos : List PseudoClassId) (m : ℕ) where
  pub owned_classes : 16 < n → Owned t p classes n pseudos m (Err OverSize)
  unfolding owned_verdict owned_inputs first_of
  owned_classes h = record { verdict = rw (lt-ltb 16 n h); inputs = rw (lt-ltb 16 n h) }

  pub owned_pseudos : n ≤ 16 → 16 < m → Owned t p classes n pseudos m (Err OverSize)
  unfolding owned_verdict owned_inputs first_of
  owned_pseudos g h = record { verdict = rw (le-ltb 16 n g, lt-ltb 16 m h); inputs = rw (le-ltb 16 n g, lt-ltb 16 m h) }

  module _ (x : SelectorInputs) (row : List ℕ) (e : x ≡ inputs_of t p classes n pseudos m) (f : row ≡ inputs_row x) (h : n ≤ 16) (g : m ≤ 16) where
    pub owned_class_count : get_or row 4 0 ≤ 16
    owned_class_count = rw (f, e) h

    pub owned_pseudo_count : get_or row 5 0 ≤ 16
    owned_pseudo_count = rw (f, e) g

    pub owned_accepted : (y : SelectorInputs) (sorted : List ℕ)
        → sorted ≡ ids_row (sort (words_from row 6 (get_or row 4 0))) (sort (words_from row 22 (get_or row 5 0))) → y ≡ inputs_with t p sorted
        → Owned t p classes n pseudos m (Ok (record { inputs = y }))
    unfolding owned_verdict owned_inputs first_of
    owned_accepted y sorted q k =
        let a = row_classes 16 (is_set (type_of t)) (tag_number (type_of t)) (is_set (part_of p)) (tag_number (part_of p)) n m (class_number classes) (pseudo_number pseudos) n h in
        let b = row_pseudos 16 (is_set (type_of t)) (tag_number (type_of t)) (is_set (part_of p)) (tag_number (part_of p)) n m (class_number classes) (pseudo_number pseudos) m g in
        record { verdict = rw (le-ltb 16 n h, le-ltb 16 m g); inputs = k ∙ rw (le-ltb 16 n h, le-ltb 16 m g, q, f, e, a, b) }
