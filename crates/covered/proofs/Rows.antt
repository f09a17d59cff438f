-- Rows of a table's states and transitions: one row more, a link set, and what two rows with the same words hold. Assumes nothing.
use mathlib.Core.Path.{◌≡◌, refl, sym, ◌∙◌}
use mathlib.Core.Bool.{true}
use mathlib.Core.List.{List, ◌∷◌}
use Prim.Native.Nat.{ℕ, suc, ◌+◌, ◌-◌, ◌*◌, ◌≤◌, ◌<◌}
use native.Mathlib.Nat.{mul-suc, mul-le-mul}
use native.Mathlib.Omega.{arith}
use lib.ListN.{length, get_or, take, drop, set}
use lib.Seq.{sets, get_or-set_other}
use Rattle.theory.specs.Lists.{ascends, spread}
use Rattle.theory.proofs.Spreads.{part_spread, spread_same, spread_shift}
use Rattle.lent.specs.Pool.{address_of, ends_in}
use Rattle.lent.proofs.Placing.{sets_before, sets_inside}
use Rattle.selector.specs.Rows.{row_at}
use Rattle.table.specs.Tables.{parent_at, child_at, subject_place, subject_of}
use Rattle.table.proofs.Shaped.{SubjectShaped}

-- ---- a row after n others

module _ (stride n : ℕ) (words row : List ℕ) (c : ℕ) where
  -- words of earlier rows stay
  pub row_before : c < stride → (k : ℕ) → k < n → ends_in (sets words (stride * n) row) c stride k ≡ ends_in words c stride k
  unfolding ends_in
  row_before h k l =
      let b : stride * suc k ≤ stride * n = mul-le-mul {n₂ = stride} {m₂ = n} (omega arith) l in
      sets_before words (stride * n) row (c + stride * k) (omega (arith, mul-suc stride k))

  -- and its own are there
  pub row_new : c < length row → stride * n + length row ≤ length words → ends_in (sets words (stride * n) row) c stride n ≡ get_or row c 0
  unfolding ends_in
  row_new h l = let z : c + stride * n - stride * n ≡ c = omega arith in sets_inside words (stride * n) row (c + stride * n) (omega arith) (omega arith) (omega arith) ∙ rw z

-- ---- rows with the same words, but for the link

pub record SameRow (v : List ℕ) (a : ℕ) (w : List ℕ) (b : ℕ) : Type 0 where
  pub words : (c : ℕ) → c < 41 → (c ≡ 2 → ⊥) → ends_in v c 41 a ≡ ends_in w c 41 b

pub row_then : {u : List ℕ} {a : ℕ} {v : List ℕ} {b : ℕ} {w : List ℕ} {c : ℕ} → SameRow u a v b → SameRow v b w c → SameRow u a w c
row_then r s = record { words = λ c h ne. r.words c h ne ∙ s.words c h ne }

shifted : (w : List ℕ) (a n : ℕ) → a + n ≤ length w → take n (drop a w) ≡ spread (λ i. get_or w (a + i) 0) 0 n
shifted w a n h = let z : a + 0 ≡ a = omega arith in part_spread w 0 a n h ∙ sym (rw z at (spread_shift (λ i. get_or w i 0) a 0 n))

words_same : (v : List ℕ) (a : ℕ) (w : List ℕ) (b n : ℕ) → a + n ≤ length v → b + n ≤ length w → ((i : ℕ) → i < n → get_or v (a + i) 0 ≡ get_or w (b + i) 0) → take n (drop a v) ≡ take n (drop b w)
words_same v a w b n g h e = shifted v a n g ∙ spread_same (λ i. get_or v (a + i) 0) (λ i. get_or w (b + i) 0) 0 n (λ i p q. e i (omega arith)) ∙ sym (shifted w b n h)

module _ {v : List ℕ} {a : ℕ} {w : List ℕ} {b : ℕ} (s : SameRow v a w b) where
  pub same_parent : parent_at v a ≡ parent_at w b
  same_parent = s.words 0 (omega arith) (λ e. omega arith)

  pub same_child : child_at v a ≡ child_at w b
  same_child = s.words 1 (omega arith) (λ e. omega arith)

  subject_word : (j : ℕ) → j < 38 → get_or v (subject_place a + j) 0 ≡ get_or w (subject_place b + j) 0
  unfolding ends_in
  subject_word j h =
      let x : 3 + j + 41 * a ≡ subject_place a + j = omega arith in
      let y : 3 + j + 41 * b ≡ subject_place b + j = omega arith in
      rw (x, y) at (s.words (3 + j) (omega arith) (λ e. omega arith))

  subject_flag : get_or v (subject_place a) 0 ≡ get_or w (subject_place b) 0
  unfolding ends_in
  subject_flag = s.words 3 (omega arith) (λ e. omega arith)

  module _ (g : 41 * (a + 1) ≤ length v) (h : 41 * (b + 1) ≤ length w) (f : SubjectShaped w b) where
    ids_same : (j n : ℕ) → j + n ≤ 38 → take n (drop (subject_place a + j) v) ≡ take n (drop (subject_place b + j) w)
    ids_same j n l =
        words_same v (subject_place a + j) w (subject_place b + j) n (omega arith) (omega arith)
        (λ i m. let x : subject_place a + (j + i) ≡ subject_place a + j + i = omega arith in
        let y : subject_place b + (j + i) ≡ subject_place b + j + i = omega arith in
        rw (x, y) at (subject_word (j + i) (omega arith)))

    pub same_subject_lem : subject_of v a ≡ subject_of w b
    unfolding row_at
    same_subject_lem = rw (
      subject_flag,
      subject_word 1 (omega arith),
      subject_word 2 (omega arith),
      subject_word 3 (omega arith),
      subject_word 4 (omega arith),
      subject_word 5 (omega arith),
      ids_same 6 (get_or w (subject_place b + 4) 0) (omega (arith, f.classes)),
      ids_same 22 (get_or w (subject_place b + 5) 0) (omega (arith, f.pseudos)),
    )

    pub same_shaped : SubjectShaped v a
    same_shaped = record {
      type_flag = rw subject_flag f.type_flag;
      part_flag = rw (subject_word 2 (omega arith)) f.part_flag;
      classes = rw (subject_word 4 (omega arith)) f.classes;
      pseudos = rw (subject_word 5 (omega arith)) f.pseudos;
      classes_rise = rw same_subject_lem f.classes_rise;
      pseudos_rise = rw same_subject_lem f.pseudos_rise;
    }

-- ---- a link that is set

pub link_set : (w : List ℕ) (q v k : ℕ) → SameRow (set w (address_of 2 41 q) v) k w k
unfolding ends_in
link_set w q v k = record { words = λ c h ne. get_or-set_other w (address_of 2 41 q) (address_of c 41 k) v 0 (λ e. omega arith) }

-- ---- a subject's row that is accepted

pub record Fine (row : List ℕ) : Type 0 where
  pub long : length row ≡ 38
  pub type_flag : get_or row 0 0 ≤ 1
  pub part_flag : get_or row 2 0 ≤ 1
  pub classes : get_or row 4 0 ≤ 16
  pub pseudos : get_or row 5 0 ≤ 16
  pub classes_rise : ascends (row_at 16 row 0).classes ≡ true
  pub pseudos_rise : ascends (row_at 16 row 0).pseudos ≡ true

module _ (p child : ℕ) (row : List ℕ) where
  -- as the row of a transition
  pub whole_parent : parent_at (p ∷ child ∷ 0 ∷ row) 0 ≡ p
  unfolding ends_in
  whole_parent = refl

  pub whole_child : child_at (p ∷ child ∷ 0 ∷ row) 0 ≡ child
  unfolding ends_in
  whole_child = refl

  pub whole_subject : subject_of (p ∷ child ∷ 0 ∷ row) 0 ≡ row_at 16 row 0
  unfolding row_at
  whole_subject = refl

  pub whole_shaped : Fine row → SubjectShaped (p ∷ child ∷ 0 ∷ row) 0
  whole_shaped f = record {
    type_flag = f.type_flag;
    part_flag = f.part_flag;
    classes = f.classes;
    pseudos = f.pseudos;
    classes_rise = rw whole_subject f.classes_rise;
    pseudos_rise = rw whole_subject f.pseudos_rise;
  }
