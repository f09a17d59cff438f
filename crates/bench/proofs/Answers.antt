-- The answers of winners and changes passed on, as laws. Assumes nothing.
use mathlib.Core.Path.{◌≡◌, refl, sym, ap, ◌∙◌}
use mathlib.Core.Bool.{cond}
use mathlib.Core.Option.{Option, none, some}
use mathlib.Core.List.{List, [], ◌∷◌}
use Prim.Native.Nat.{ℕ, zero, suc, ◌+◌}
use lib.Dec.{eqb}
use lib.ListN.{get_or, length}
use lib.Seq.{sets}
use borrow.Author.Tests.{ne_eqb}
use Rattle.std.specs.Prelude.{Result, Ok, Err, Option as Optional, Some, None}
use Rattle.lent.specs.declared.Refusal.{Refusal}
use Rattle.lent.specs.Refusals.{answered}
use Rattle.winners.specs.Winners.{Place, style, rule}
use Rattle.winners.specs.Best.{place_in, Stands}
use Rattle.winners.specs.declared.Best.{Best}
use Rattle.changeset.specs.Sets.{Lists}
use Rattle.lent.proofs.Answers.{accepted, refused}
use Rattle.looking.specs.declared.StyleSourceRef.{StyleSourceRef}
use Rattle.looking.specs.declared.StyleSourceRef.TheVariants as source
use Rattle.looking.specs.Answers.{winning_told, winner_told}
use Rattle.bench.specs.Numbers.{REFUSED, Outcome}
use Rattle.bench.proofs.Laws.{outcome_yes, outcome_no}
use Rattle.bench.specs.Winners.{NOBODY, DIRECT, place_number, best_number, winning_number, changing_number}

-- ---- the core's winner

pub best_is : {w : List ℕ} {ranking p : ℕ} {o : Option Place} (b : Optional Best) (r : ℕ) → Stands w ranking p o b → r ≡ best_number b → r ≡ place_number o
best_is b r s e = e ∙ ap place_number s.place

-- ---- the public call's winner

-- the number by the answer's numbers
by_kind : ℕ → ℕ → ℕ
by_kind zero n = NOBODY
by_kind (suc zero) n = DIRECT + n
by_kind (suc (suc k)) n = n

by_told : List ℕ → ℕ
by_told l = by_kind (get_or l 1 0) (get_or l 2 0)

place_told : (w : List ℕ) (o : Option Place) → by_told (winner_told w o) ≡ place_number o
unfolding by_told by_kind
place_told w none = refl
place_told w (some (style d)) = refl
place_told w (some (rule r)) = refl

-- an accepted answer begins with 0, and a refused one does not
module _ (w : List ℕ) (v : ℕ) (o : Option Place) (r : ℕ) where
  told_yes : (l : List ℕ) → 0 ∷ l ≡ answered v (winner_told w o) → r ≡ by_told (0 ∷ l) → r ≡ cond (eqb v 0) (place_number o) REFUSED
  told_yes l u e =
      let z = accepted v l (winner_told w o) u in
      let q : 0 ∷ l ≡ winner_told w o = rw z at u in
      rw z (e ∙ ap by_told q ∙ place_told w o)

  told_no : (v ≡ 0 → ⊥) → r ≡ REFUSED → r ≡ cond (eqb v 0) (place_number o) REFUSED
  told_no h e = rw (ne_eqb v 0 h) e

module _ (w : List ℕ) (v : ℕ) where
  pub winning_is : (o : Option Place) (a : Result (Optional StyleSourceRef) Refusal) (r : ℕ) → winning_told a ≡ answered v (winner_told w o) → r ≡ winning_number a → r ≡ cond (eqb v 0) (place_number o) REFUSED
  unfolding by_told by_kind
  winning_is o (Ok None) r u e = told_yes w v o r (0 ∷ []) u e
  winning_is o (Ok (Some (source.Direct d index))) r u e = told_yes w v o r (1 ∷ d ∷ index ∷ []) u e
  winning_is o (Ok (Some (source.Rule k index))) r u e = told_yes w v o r (2 ∷ k ∷ index ∷ []) u e
  winning_is none (Err x) r u e = told_no w v none r (refused v x _ u) e
  winning_is (some (style d)) (Err x) r u e = told_no w v (some (style d)) r (refused v x _ u) e
  winning_is (some (rule k)) (Err x) r u e = told_no w v (some (rule k)) r (refused v x _ u) e

-- ---- the public call's changes

pub changing_is : (v : ℕ) (list before : List ℕ) (a : Result ℕ Refusal) (after : List ℕ) (r : ℕ) → Lists v list before a after → r ≡ changing_number a
    → Outcome v (length list) before (sets before 0 list) r after
changing_is v list before (Ok n) after r u e =
    let z = accepted v (n ∷ []) _ u.answer in
    let q : 0 ∷ n ∷ [] ≡ 0 ∷ length list ∷ [] = rw z at u.answer in
    outcome_yes v (length list) before (sets before 0 list) after u.memory r z (e ∙ ap (λ (l : List ℕ). get_or l 1 0) q)
changing_is v list before (Err x) after r u e =
    outcome_no v (length list) before (sets before 0 list) after u.memory r (refused v x _ u.answer) e
