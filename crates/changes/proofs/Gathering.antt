-- Ids that go into an ascending list, one after the other or many at once, in any order. Assumes nothing.
use mathlib.Core.Path.{◌≡◌, sym, ap, ◌∙◌}
use mathlib.Core.Logic.{inl, inr}
use mathlib.Core.Bool.{Bool, true, false, cond}
use mathlib.Core.List.{List, [], ◌∷◌, ◌++◌, flat_map, append-nil}
use Prim.Native.Nat.{ℕ, suc, ◌+◌, ◌≤◌, ◌<◌}
use native.Mathlib.Numerals.{add-one}
use native.Mathlib.Omega.{arith}
use lib.ListN.{length, get_or, take, drop, length-append, length-take, take-append-drop}
use lib.Seq.{take-suc, take_all, length-take-le}
use Rattle.theory.specs.Lists.{Ascending, ascends, inserted, sort, member}
use Rattle.theory.proofs.Lists.{append_in, flat_map_append, ascends_is, sort_in, sort_ascending, insert_length}
use Rattle.theory.proofs.Spreads.{flat_map_one}
use Rattle.lent.specs.Pool.{list_at}
use Rattle.idset.specs.Buffers.{Holds}
use Rattle.idset.proofs.Buffers.{held_take, held_length, held_then}
use Rattle.sheet.specs.Layout.{ENTRY}
use Rattle.sheet.specs.Sheets.{rule_entry_ends}
use Rattle.changeset.proofs.Marks.{sort_ext, sort_ascended}
use Rattle.changes.specs.Within.{properties_of, properties_without}

-- ---- sorted lists by their members

-- sorting twice is sorting once
pub sort_more : (a b d : List ℕ) → sort (b ++ sort (a ++ d)) ≡ sort ((a ++ b) ++ d)
sort_more a b d = sort_ext (b ++ sort (a ++ d)) ((a ++ b) ++ d) (λ c.
    let i = append_in b (sort (a ++ d)) c in
    let j = sort_in (a ++ d) c in
    let k = append_in a d c in
    let l = append_in (a ++ b) d c in
    let m = append_in a b c in (
      λ h. l.1 (elim (i.0 h) [ inl x ↦ inl (m.1 (inr x)) | inr x ↦ elim (k.0 (j.0 x)) [ inl y ↦ inl (m.1 (inl y)) | inr y ↦ inr y ] ]),
      λ h. i.1 (elim (l.0 h) [ inl x ↦ elim (m.0 x) [ inl y ↦ inr (j.1 (k.1 (inl y))) | inr y ↦ inl y ] | inr x ↦ inr (j.1 (k.1 (inr x))) ]),
    ))

pub sort_first : (a d : List ℕ) → sort (sort a ++ d) ≡ sort (a ++ d)
sort_first a d = sort_ext (sort a ++ d) (a ++ d) (λ c.
    let i = append_in (sort a) d c in
    let j = append_in a d c in
    let k = sort_in a c in
    (λ h. j.1 (elim (i.0 h) [ inl x ↦ inl (k.0 x) | inr x ↦ inr x ]), λ h. i.1 (elim (j.0 h) [ inl x ↦ inl (k.1 x) | inr x ↦ inr x ])))

-- one more id
pub insert_sorted : (x : ℕ) (l : List ℕ) → Ascending l → inserted x l ≡ sort ((x ∷ []) ++ l)
unfolding sort
insert_sorted x l p = ap (inserted x) (sym (sort_ascended l p))

-- ids are not lost, and as many come in at most
grows : (b l : List ℕ) → Ascending l → (length l ≤ length (sort (b ++ l))) × (length (sort (b ++ l)) ≤ length b + length l)
unfolding sort
grows [] l p = rw (sort_ascended l p) (omega arith)
grows (x ∷ b) l p = omega (arith, grows b l p, insert_length x (sort (b ++ l)))

-- ---- a buffer that gathers

-- e was d: with the ids that stood in its first `used` words those of `done` are in order in its first n
pub record Gathered (done d : List ℕ) (used n : ℕ) (e : List ℕ) : Type 0 where
  pub low : used ≤ n
  pub few : n ≤ used + length done
  pub holds : Holds (sort (done ++ take used d)) d n e

pub gather_start : {d : List ℕ} {used : ℕ} → used ≤ length d → ascends (take used d) ≡ true → Gathered [] d used used d
gather_start {d} {used} h up = record {
  low = omega arith;
  few = omega arith;
  holds = rw (sort_ascended (take used d) ((ascends_is (take used d)).0 up)) (record { count = sym (length-take-le used d h); whole = sym (take-append-drop used d) });
}

module _ {done d e : List ℕ} {used n : ℕ} (g : Gathered done d used n e) where
  pub gather_up : ascends (take n e) ≡ true
  gather_up = rw (held_take g.holds) ((ascends_is (sort (done ++ take used d))).1 (sort_ascending (done ++ take used d)))

  pub gather_size : used + length done ≤ length d → length e ≡ length d
  gather_size h = held_length g.holds (omega (arith, g.few))

  gather_more : (more : List ℕ) {f : List ℕ} {r : ℕ} → Holds (sort (more ++ take n e)) e r f → Gathered (done ++ more) d used r f
  gather_more more {f} {r} k =
      let l = sort (done ++ take used d) in
      let k' : Holds (sort (more ++ l)) e r f = rw (held_take g.holds) at k in
      let b = grows more l (sort_ascending (done ++ take used d)) in
      record {
        low = omega (arith, g.low, g.holds.count, k'.count, b);
        few = rw (length-append done more) (omega (arith, g.few, g.holds.count, k'.count, b));
        holds = rw (sort_more done more (take used d)) at (held_then g.holds k' (omega (arith, g.holds.count, k'.count, b)));
      }

-- ---- the ids of one rule

-- the ids `given` are those of rule r, and the first i of them are gathered
pub record Inserting (w : List ℕ) (r : ℕ) (given d : List ℕ) (used i n : ℕ) (e : List ℕ) : Type 0 where
  pub are : given ≡ properties_of w r
  pub room : used + length given ≤ length d
  pub gathered : Gathered (take i given) d used n e

pub inserting_start : {w given pool d : List ℕ} {r used : ℕ} → pool ≡ drop ENTRY w → given ≡ list_at (rule_entry_ends w) pool r
    → (used + length (properties_of w r) ≤ length d) × (ascends (take used d) ≡ true) → Inserting w r given d used 0 used d
inserting_start {w} {given} {pool} {d} {r} {used} p q h =
    let are : given ≡ properties_of w r = q ∙ rw p in
    record { are = are; room = rw are h.0; gathered = gather_start (omega (arith, h.0)) h.1 }

module _ {w given d e : List ℕ} {r used i n : ℕ} (s : Inserting w r given d used i n e) where
  pub inserting_size : length e ≡ length d
  inserting_size = let few : length (take i given) ≤ length given = rw length-take (omega arith) in gather_size s.gathered (omega (arith, s.room))

  -- as `insert` asks
  pub inserting_asks : i < length given → (n < length e) × (ascends (take n e) ≡ true)
  inserting_asks h = (omega (arith, inserting_size, s.room, s.gathered.few, length-take-le i given (omega arith)), gather_up s.gathered)

  pub inserting_next : {x m : ℕ} {f : List ℕ} → i < length given → x ≡ get_or given i 0 → Holds (inserted x (take n e)) e m f → Inserting w r given d used (i + 1) m f
  inserting_next {x} {m} {f} h q k = record {
    are = s.are;
    room = s.room;
    gathered = rw (add-one, take-suc given i 0 h, ← q) (gather_more s.gathered (x ∷ []) (rw (insert_sorted x (take n e) ((ascends_is (take n e)).0 (gather_up s.gathered))) at k));
  }

  pub inserting_end : length given ≤ i → Holds (sort (properties_of w r ++ take used d)) d n e
  inserting_end h = rw (take_all i given h, s.are) at s.gathered.holds

-- ---- those of the rules that are not among the others

module _ (w rules others : List ℕ) (i : ℕ) where
  without_part : length (properties_without w (take i rules) others) ≤ length (properties_without w rules others)
  unfolding properties_without
  without_part =
      let g : ℕ → List ℕ = λ r. cond (member r others) [] (properties_of w r) in
      let e : flat_map g rules ≡ flat_map g (take i rules) ++ flat_map g (drop i rules) = ap (flat_map g) (sym (take-append-drop i rules)) ∙ flat_map_append g (take i rules) (drop i rules) in
      rw (e, length-append (flat_map g (take i rules)) (flat_map g (drop i rules))) (omega arith)

  without_next : i < length rules
      → properties_without w (take (suc i) rules) others ≡ properties_without w (take i rules) others ++ cond (member (get_or rules i 0) others) [] (properties_of w (get_or rules i 0))
  unfolding properties_without
  without_next h =
      let g : ℕ → List ℕ = λ r. cond (member r others) [] (properties_of w r) in
      ap (flat_map g) (take-suc rules i 0 h) ∙ flat_map_append g (take i rules) (get_or rules i 0 ∷ []) ∙ ap (λ l. flat_map g (take i rules) ++ l) (flat_map_one g (get_or rules i 0))

pub record Asking (w rules others d : List ℕ) (used i n : ℕ) (e : List ℕ) : Type 0 where
  pub room : used + length (properties_without w rules others) ≤ length d
  pub gathered : Gathered (properties_without w (take i rules) others) d used n e

pub asking_start : {w rules others d : List ℕ} {used : ℕ} → (used + length (properties_without w rules others) ≤ length d) × (ascends (take used d) ≡ true)
    → Asking w rules others d used 0 used d
unfolding properties_without
asking_start h = record { room = h.0; gathered = unfold flat_map in gather_start (omega (arith, h.0)) h.1 }

module _ {w rules others d e : List ℕ} {used i n : ℕ} (s : Asking w rules others d used i n e) where
  pub asking_size : length e ≡ length d
  asking_size = gather_size s.gathered (omega (arith, s.room, without_part w rules others i))

  -- a rule that is not among the others: as `add_rule` asks
  pub asking_asks : {r : ℕ} {b : Bool} → i < length rules → r ≡ get_or rules i 0 → b ≡ member r others → b ≡ false → (n + length (properties_of w r) ≤ length e) × (ascends (take n e) ≡ true)
  asking_asks {r} h e t f =
      let out : member r others ≡ false = sym t ∙ f in
      let p = properties_without w (take i rules) others in
      let q = properties_of w r in
      let l : properties_without w (take (suc i) rules) others ≡ p ++ q = without_next w rules others i h ∙ rw (← e, out) in
      let m : length p + length q ≤ length (properties_without w rules others) = rw (l, length-append p q) at (without_part w rules others (suc i)) in
      (omega (arith, asking_size, s.room, s.gathered.few, m), gather_up s.gathered)

  pub asking_next : {r m : ℕ} {b : Bool} {f : List ℕ} → i < length rules → r ≡ get_or rules i 0 → b ≡ member r others → b ≡ false → Holds (sort (properties_of w r ++ take n e)) e m f
      → Asking w rules others d used (i + 1) m f
  asking_next {r} h e t o k = record { room = s.room; gathered = rw (add-one, without_next w rules others i h, ← e, ← t, o) (gather_more s.gathered (properties_of w r) k) }

  -- one that is
  pub asking_skip : {r : ℕ} {b : Bool} → i < length rules → r ≡ get_or rules i 0 → b ≡ member r others → b ≡ true → Asking w rules others d used (i + 1) n e
  asking_skip h e t o = record {
    room = s.room;
    gathered = rw (add-one, without_next w rules others i h, ← e, ← t, o, append-nil (properties_without w (take i rules) others)) s.gathered;
  }

  pub asking_end : length rules ≤ i → Holds (sort (properties_without w rules others ++ take used d)) d n e
  asking_end h = rw (take_all i rules h) at s.gathered.holds
