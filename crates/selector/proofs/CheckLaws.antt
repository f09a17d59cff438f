-- Laws of the checks, by each way through the code. Assumes nothing.
use mathlib.Core.Path.{◌≡◌, refl, sym, ap, ◌∙◌}
use mathlib.Core.Bool.{Bool, true, false, not, ◌&&◌, ◌||◌}
use mathlib.Core.List.{List, [], ◌∷◌}
use mathlib.Core.Logic.{⊎_elim}
use Prim.Native.Nat.{ℕ, zero, suc, ◌+◌, ◌*◌, ◌/◌, ◌≤◌, ◌<◌}
use native.Mathlib.Omega.{arith}
use lib.ListN.{length, get_or, take}
use lib.Seq.{take-suc}
use lib.Dec.{ltb, leb, eqb}
use borrow.Author.Tests.{lt-ltb, le-ltb, le-leb, lt-leb, ltb-false, not-false}
use Rattle.std.specs.List.{list_any}
use Rattle.std.proofs.lemmas.List.Folds.{list_any-append}
use Rattle.theory.specs.Lists.{ascends}
use Rattle.theory.proofs.Lists.{or_first, or_second, le_or_lt}
use Rattle.lent.specs.All.{all_below}
use Rattle.lent.specs.Refusals.{check, first_of}
use Rattle.lent.proofs.All.{Sofar, sofar_done, sofar_fails}
use Rattle.lent.proofs.Refusals.{first_clear}
use Rattle.selector.specs.Rows.{words_from, row_at}
use Rattle.selector.specs.Checks.{row_fits, selector_over, path_over, combinators_off, codes_over, tags_ascend, selector_verdict}

-- ---- one row

leb_not : (a b : ℕ) → leb a b ≡ not (ltb b a)
leb_not a b = ⊎_elim (λ p. rw (le-leb a b p, le-ltb b a p)) (λ q. rw (lt-leb a b q, lt-ltb b a q)) (le_or_lt a b)

module _ (size : ℕ) (words : List ℕ) (at w : ℕ) (e : w ≡ get_or words (at + 4) 0) where
  pub classes_over : size < w → false ≡ row_fits size words at
  classes_over h = rw (← e, lt-ltb size w h)

  pub pseudos_fit_lem : w ≤ size → (v : ℕ) → v ≡ get_or words (at + 5) 0 → leb v size ≡ row_fits size words at
  pseudos_fit_lem h v f = rw (← e, ← f, le-ltb size w h) (leb_not v size)

module _ (path : List ℕ) (at : ℕ) (l : List ℕ) (b : Bool) (e : l ≡ words_from path (at + 6) (get_or path (at + 4) 0)) (f : b ≡ ascends l) where
  pub classes_unsorted : b ≡ false → false ≡ tags_ascend (row_at 16 path at)
  unfolding row_at
  classes_unsorted t = rw (← e, ← f, t)

  pub pseudos_ascending : b ≡ true → (m : List ℕ) (r : Bool) → m ≡ words_from path (at + 22) (get_or path (at + 5) 0) → r ≡ ascends m → r ≡ tags_ascend (row_at 16 path at)
  unfolding row_at
  pseudos_ascending t m r g h = rw (← e, ← f, t, ← g) h

-- ---- all rows, and all codes

module _ {p : ℕ → Bool} {n i : ℕ} (s : Sofar p n i) where
  pub off_none : n ≤ i → false ≡ not (all_below n p)
  off_none h = ap not (sofar_done s h)

  pub off_one : (b : Bool) → i < n → b ≡ p i → b ≡ false → true ≡ not (all_below n p)
  off_one b h e t = ap not (sofar_fails s b h e t)

-- one of the first c codes
pub codes_any : (codes : List ℕ) (c : ℕ) → c ≤ length codes → list_any (λ x. ltb 1 x) (take c codes) ≡ codes_over codes c
unfolding codes_over all_below
codes_any codes zero h = refl
codes_any codes (suc c) h =
    ap (list_any (λ x. ltb 1 x)) (take-suc codes c 0 h)
    ∙ list_any-append (λ x. ltb 1 x) (take c codes) (get_or codes c 0 ∷ [])
    ∙ rw (codes_any codes c (omega arith)) (by (all_below c (λ j. not (ltb 1 (get_or codes j 0)))) (ltb 1 (get_or codes c 0)))
  where
    by : (a b : Bool) → (not a || (b || false)) ≡ not (a && not b)
    by true true = refl
    by true false = refl
    by false b = refl

-- ---- counts over their sizes

module _ (steps : List ℕ) (n : ℕ) (combinators : List ℕ) (c : ℕ) where
  pub over_steps : 8 < n → true ≡ selector_over steps n combinators c
  unfolding selector_over
  over_steps h = rw (lt-ltb 8 n h)

  pub over_rows : n ≤ 8 → length steps / 22 < n → true ≡ selector_over steps n combinators c
  unfolding selector_over
  over_rows g h = rw (le-ltb 8 n g, lt-ltb (length steps / 22) n h)

  module _ (g : n ≤ 8) (h : n ≤ length steps / 22) where
    pub over_combinators : length combinators < c → true ≡ selector_over steps n combinators c
    unfolding selector_over
    over_combinators k = rw (le-ltb 8 n g, le-ltb (length steps / 22) n h, lt-ltb (length combinators) c k)

    pub over_last : c ≤ length combinators → (b : Bool) → b ≡ all_below n (λ k. row_fits 8 steps (22 * k)) → not b ≡ selector_over steps n combinators c
    unfolding selector_over
    over_last k b e = rw (le-ltb 8 n g, le-ltb (length steps / 22) n h, le-ltb (length combinators) c k, e)

  -- a selector that is not over has its combinators
  pub combinators_there : (b : Bool) → b ≡ selector_over steps n combinators c → b ≡ false → c ≤ length combinators
  unfolding selector_over
  combinators_there b e f = ltb-false (length combinators) c (or_first _ _ (or_second (ltb (length steps / 22) n) _ (or_second (ltb 8 n) _ (sym e ∙ f))))

module _ (path : List ℕ) (m : ℕ) where
  pub over_places : 32 < m → true ≡ path_over path m
  unfolding path_over
  over_places h = rw (lt-ltb 32 m h)

  module _ (g : m ≤ 32) where
    pub over_place_rows : length path / 38 < m → true ≡ path_over path m
    unfolding path_over
    over_place_rows h = rw (le-ltb 32 m g, lt-ltb (length path / 38) m h)

    pub over_place_last : m ≤ length path / 38 → (b : Bool) → b ≡ all_below m (λ i. row_fits 16 path (38 * i)) → not b ≡ path_over path m
    unfolding path_over
    over_place_last h b e = rw (le-ltb 32 m g, le-ltb (length path / 38) m h, e)

  -- a path that is not over has at most 32 places
  pub places_few : (b : Bool) → b ≡ path_over path m → b ≡ false → m ≤ 32
  unfolding path_over
  places_few b e f = ltb-false 32 m (or_first _ _ (sym e ∙ f))

-- ---- the first that fails

pub none_off : (n c : ℕ) → n ≡ 0 → not (eqb c 0) ≡ combinators_off n c
none_off n c e = rw e

-- the two checks of the combinators have their verdict, and one more follows
pub first_kept : (s t u : Bool) (v : ℕ) → v ≡ first_of (check 3 s ∷ check 6 t ∷ []) → (v ≡ 0 → ⊥) → v ≡ first_of (check 3 s ∷ check 6 t ∷ check 1 u ∷ [])
unfolding first_of
first_kept true t u v e h = e
first_kept false true u v e h = e
first_kept false false u v e h = absurd (h e)

pub first_after : (s t u : Bool) (v r : ℕ) → v ≡ first_of (check 3 s ∷ check 6 t ∷ []) → v ≡ 0 → r ≡ first_of (check 1 u ∷ []) → r ≡ first_of (check 3 s ∷ check 6 t ∷ check 1 u ∷ [])
unfolding first_of
first_after true t u v r e z g = absurd (omega arith)
first_after false true u v r e z g = absurd (omega arith)
first_after false false u v r e z g = g

-- an accepted selector's counts are within their sizes
module _ (steps : List ℕ) (n : ℕ) (combinators : List ℕ) (c : ℕ) where
  pub selector_passed : 0 ≡ selector_verdict steps n combinators c → (n ≤ 8) × (all_below n (λ k. row_fits 8 steps (22 * k)) ≡ true)
  unfolding selector_verdict selector_over
  selector_passed e =
      let (o, _) = first_clear 2 (selector_over steps n combinators c) _ (omega arith) (sym e) in (
        ltb-false 8 n (or_first (ltb 8 n) _ o),
        not-false _ (or_second (ltb (length combinators) c) _ (or_second (ltb (length steps / 22) n) _ (or_second (ltb 8 n) _ o))),
      )
