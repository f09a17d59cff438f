-- Path calls on the tails of a path, the rows after the first j: where the whole is not refused, no tail is. Proofs for Demand2.antt. Assumes nothing.
use mathlib.Core.Path.{◌≡◌, refl, sym, ap, ◌∙◌}
use mathlib.Core.Bool.{Bool, true, false, not}
use mathlib.Core.List.{List, [], ◌∷◌}
use mathlib.Core.Logic.{◌↔◌}
use Prim.Native.Nat.{ℕ, zero, suc, ◌+◌, ◌-◌, ◌*◌, ◌/◌, ◌≤◌, ◌<◌}
use native.Mathlib.Nat.{add_assoc}
use native.Mathlib.Omega.{arith}
use native.Mathlib.Decide.{dec_le}
use lib.ListN.{length, get_or, drop, length-drop}
use lib.Seq.{get_or-drop, drop-nil}
use lib.Dec.{ltb}
use borrow.Author.Tests.{le-ltb, ltb-false, not-false}
use Rattle.std.specs.Prelude.{Result, Ok, Err}
use Rattle.lent.specs.declared.Refusal.{Refusal}
use Rattle.theory.specs.Paths.{Selector, FitsTail}
use Rattle.theory.proofs.Lists.{or_first, or_second}
use Rattle.theory.proofs.Level3.{represents_tail}
use Rattle.lent.specs.All.{all_below}
use Rattle.lent.specs.Refusals.{first_of}
use Rattle.lent.proofs.All.{all_at, all_intro}
use Rattle.lent.proofs.Refusals.{first_clear}
use Rattle.selector.specs.Tags.{Tags, step_matches}
use Rattle.selector.specs.Rows.{subject_at, selector_of, path_of}
use Rattle.selector.specs.Checks.{row_fits, selector_over, path_over, combinators_off, codes_over, tags_ascend, subjects_off, path_verdict}
use Rattle.selector.specs.Matching.{fits_from, fits, matching_told, matching_of}
use Rattle.selector.specs.Diagnosing.{Diagnosis, Fits, diagnose, diagnosis_told, diagnosis_of}
use Rattle.diagnosing.proofs.Agree.{diagnosis_fits}
use Rattle.matching.proofs.Answers.{told_is}
use Rattle.selector.proofs.Distinct.{matching_distinct, diagnosis_distinct}
use Rattle.matching.proofs.Fitting.{subject_drop, fits_level3}
use Rattle.promises.specs.Level3.{RepresentsLast}

-- ---- row i of the tail is row j + i

module _ (path : List ℕ) (j i : ℕ) where
  fits_drop : row_fits 16 (drop (38 * j) path) (38 * i) ≡ row_fits 16 path (38 * (j + i))
  fits_drop = let further : 38 * (j + i) ≡ 38 * j + 38 * i = omega arith in simp (get_or-drop, further, ← add_assoc)

  ascends_drop : tags_ascend (subject_at (drop (38 * j) path) i) ≡ tags_ascend (subject_at path (j + i))
  ascends_drop = ap tags_ascend (subject_drop path j i)

-- ---- the checks of a path

module _ (path : List ℕ) (m j : ℕ) (h : j ≤ m) where
  -- a test of every row
  rows_drop : (p q : ℕ → Bool) → ((i : ℕ) → q i ≡ p (j + i)) → not (all_below m p) ≡ false → not (all_below (m - j) q) ≡ false
  rows_drop p q same e = ap not (all_intro q (m - j) (λ i l. same i ∙ all_at p m (j + i) (omega arith) (not-false _ e)))

  over_drop : path_over path m ≡ false → path_over (drop (38 * j) path) (m - j) ≡ false
  unfolding path_over
  over_drop e =
      let few : m ≤ 32 = ltb-false 32 m (or_first (ltb 32 m) _ e) in
      let rest = or_second (ltb 32 m) _ e in
      let there : m ≤ length path / 38 = ltb-false (length path / 38) m (or_first (ltb (length path / 38) m) _ rest) in
      let long : length (drop (38 * j) path) ≡ length path - 38 * j = length-drop (38 * j) path in
      let left : m - j ≤ length (drop (38 * j) path) / 38 = rw long (omega arith) in
      rw (le-ltb 32 (m - j) (omega arith), le-ltb (length (drop (38 * j) path) / 38) (m - j) left)
      (rows_drop (λ i. row_fits 16 path (38 * i)) (λ i. row_fits 16 (drop (38 * j) path) (38 * i)) (fits_drop path j) (or_second (ltb (length path / 38) m) _ rest))

  off_drop : subjects_off path m ≡ false → subjects_off (drop (38 * j) path) (m - j) ≡ false
  unfolding subjects_off
  off_drop = rows_drop (λ i. tags_ascend (subject_at path i)) (λ i. tags_ascend (subject_at (drop (38 * j) path) i)) (ascends_drop path j)

  module _ (steps : List ℕ) (n : ℕ) (combinators : List ℕ) (c : ℕ) (z : path_verdict steps n combinators c path m ≡ 0) where
    cleared : (selector_over steps n combinators c ≡ false) × (path_over path m ≡ false) × (combinators_off n c ≡ false) × (codes_over combinators c ≡ false) × (subjects_off path m ≡ false)
    unfolding path_verdict
    cleared =
        let (a, r) = first_clear 2 (selector_over steps n combinators c) _ (omega arith) z in
        let (b, s) = first_clear 2 (path_over path m) _ (omega arith) r in
        let (d, t) = first_clear 3 (combinators_off n c) _ (omega arith) s in
        let (f, u) = first_clear 6 (codes_over combinators c) _ (omega arith) t in
        (a, b, d, f, (first_clear 1 (subjects_off path m) [] (omega arith) u).0)

    pub tail_accepted : path_verdict steps n combinators c (drop (38 * j) path) (m - j) ≡ 0
    unfolding path_verdict first_of
    tail_accepted = let (a, b, d, f, g) = cleared in rw (a, over_drop b, d, f, off_drop g)

-- ---- what a call that is not refused answers

abbrev found : Result Diagnosis Refusal → Diagnosis
found (Ok d) = d
found (Err r) = Fits

module _ (steps : List ℕ) (n : ℕ) (combinators : List ℕ) (c : ℕ) (path : List ℕ) (m : ℕ) (accepts : path_verdict steps n combinators c path m ≡ 0) where
  pub yes_fits : (r : Result Bool Refusal) → matching_told r ≡ matching_of steps n combinators c path m → (r ≡ Ok true) ↔ (fits steps n combinators path m ≡ true)
  unfolding matching_of
  yes_fits r e = at (fits steps n combinators path m) (matching_distinct r _ (e ∙ told_is steps n combinators c path m (sym accepts) _))
    where
      at : (b : Bool) → r ≡ Ok b → (r ≡ Ok true) ↔ (b ≡ true)
      at true q = (λ _. refl, λ _. q)
      at false q = (
        λ y. let z : ◌≡◌ {A = ℕ} 0 1 = ap (λ (a : Result Bool Refusal). get_or (matching_told a) 1 0) (sym q ∙ y) in absurd (omega arith),
        λ t. absurd (let z : ◌≡◌ {A = ℕ} 0 1 = cc in omega arith),
      )

  pub diagnosed_fits : (d : Result Diagnosis Refusal) → diagnosis_told d ≡ diagnosis_of steps n combinators c path m → (d ≡ Ok Fits) ↔ (fits steps n combinators path m ≡ true)
  unfolding diagnosis_of
  diagnosed_fits d f =
      let q = diagnosis_distinct d (Ok (diagnose steps n combinators path m)) (f ∙ told_is steps n combinators c path m (sym accepts) _) in
      let law = diagnosis_fits steps n combinators path m in
      (λ e. law.0 (ap found (sym q ∙ e)), λ t. q ∙ ap (λ (x : Diagnosis). Ok x) (law.1 t))

-- ---- some tail

-- a selector with steps fits no empty path
pub none_fits : (steps : List ℕ) (n : ℕ) (combinators path : List ℕ) → fits steps (suc n) combinators path 0 ≡ false
unfolding fits fits_from
none_fits steps zero combinators path = refl
none_fits steps (suc n) combinators path = refl

false_true : {A : Type 0} → false ≡ true → A
false_true e = absurd (let z : ◌≡◌ {A = ℕ} 0 1 = cc in omega arith)

-- it fits exactly if the selector represents the last element
pub tails_fit : (steps : List ℕ) (n : ℕ) (combinators path : List ℕ) (m : ℕ) → 0 < n
    → ((j : ℕ) × (j ≤ m) × (fits steps n combinators (drop (38 * j) path) (m - j) ≡ true)) ↔ RepresentsLast (selector_of steps combinators n) (path_of path m)
unfolding selector_of path_of
tails_fit steps zero combinators path m some = absurd (omega arith)
tails_fit steps (suc n) combinators path zero some = (
  λ (j, h, t). let e : 0 - j ≡ 0 = omega arith in false_true (sym (none_fits steps n combinators (drop (38 * j) path)) ∙ rw e at t),
  λ l. absurd l,
)
tails_fit steps (suc n) combinators path (suc m) some =
    let law = fits_level3 steps n combinators path m in
    (λ (j, h, t). law.0 (j, t), λ l. let (j, t) = law.1 l in (j, within j t, t))
  where
    within : (j : ℕ) → fits steps (suc n) combinators (drop (38 * j) path) (suc m - j) ≡ true → j ≤ suc m
    within j t = elim (dec_le j (suc m)) [
      | yes h ↦ h
      | no h ↦ let e : suc m - j ≡ 0 = omega arith in false_true (sym (none_fits steps n combinators (drop (38 * j) path)) ∙ rw e at t)
    ]

-- of plain lists
pub last_is : (sel : Selector Tags) (path : List Tags) → RepresentsLast sel path ↔ ((0 < length sel) × FitsTail step_matches sel path)
last_is [] path = (λ h. absurd h, λ h. absurd (omega (arith, h.0)))
last_is (p ∷ sel) [] = (λ h. absurd h, λ h. absurd (rw (drop-nil h.1.0) at h.1.1))
last_is (p ∷ sel) (x ∷ path) = let law = represents_tail step_matches p sel x path in (λ h. (omega arith, law.0 h), λ h. law.1 h.1)
