-- Laws of lent rows: a tag, the ids, and a step against a subject, by each way through the code. Assumes nothing.
use mathlib.Core.Path.{◌≡◌, refl, sym, ap, ◌∙◌}
use mathlib.Core.Bool.{Bool, true, false, cond, not, ◌&&◌}
use mathlib.Core.Option.{Option}
use mathlib.Core.List.{List, [], ◌∷◌}
use Prim.Native.Nat.{ℕ, ◌+◌, ◌-◌, ◌≤◌}
use native.Mathlib.Omega.{arith}
use lib.ListN.{length, get_or, take, drop, length-take}
use lib.Dec.{eqb}
use borrow.Author.Tests.{eq-eqb, ne_eqb}
use Rattle.std.specs.List.{list_all}
use Rattle.theory.specs.Lists.{ascends, member, contained, sort}
use Rattle.theory.specs.Paths.{child, descendant}
use Rattle.theory.specs.States.{descends}
use Rattle.theory.proofs.Lists.{and_left, and_right, bool_ext, sort_in, contained_is}
use Rattle.selector.specs.Tags.{as_sets, tag_ok, step_matches}
use Rattle.selector.specs.Rows.{tag_of, words_from, row_at, comb_of}
use Rattle.selector.specs.Checks.{tags_ascend}

-- ---- a tag

pub tag_free : (w flag tag : ℕ) (has : Option ℕ) → w ≡ flag → w ≡ 0 → true ≡ tag_ok (tag_of flag tag) has
unfolding tag_ok
tag_free w flag tag has e z = rw (eq-eqb flag 0 (sym e ∙ z))

module _ (w flag tag w' flag' tag' : ℕ) (e : w ≡ flag) (n : w ≡ 0 → ⊥) (e' : w' ≡ flag') where
  pub tag_missing : w' ≡ 0 → false ≡ tag_ok (tag_of flag tag) (tag_of flag' tag')
  unfolding tag_ok
  tag_missing z = rw (ne_eqb flag 0 (λ q. n (e ∙ q)), eq-eqb flag' 0 (sym e' ∙ z))

  pub tag_both : (u u' : ℕ) → (w' ≡ 0 → ⊥) → u ≡ tag → u' ≡ tag' → eqb u u' ≡ tag_ok (tag_of flag tag) (tag_of flag' tag')
  unfolding tag_ok
  tag_both u u' n' f f' = rw (ne_eqb flag 0 (λ q. n (e ∙ q)), ne_eqb flag' 0 (λ q. n' (e' ∙ q)), f, f')

-- ---- ids

pub ids_are : (words l : List ℕ) (at w n count : ℕ) → w ≡ get_or words count 0 → n ≡ w → l ≡ take (at + n - at) (drop at words) → l ≡ words_from words at (get_or words count 0)
ids_are words l at w n count e f p = let q : at + n - at ≡ get_or words count 0 = omega arith in rw q at p

-- repeats and order do not count
contained_sort : (l m : List ℕ) → contained (sort l) m ≡ contained l m
contained_sort l m =
    bool_ext (contained (sort l) m) (contained l m)
    (λ e. (contained_is l m).1 (λ a h. (contained_is (sort l) m).0 e a ((sort_in l a).1 h)))
    (λ e. (contained_is (sort l) m).1 (λ a h. (contained_is l m).0 e a ((sort_in l a).0 h)))

-- each id is looked up
pub all_contained : (l m : List ℕ) → list_all (λ a. member a m) l ≡ contained l m
unfolding contained
all_contained [] m = refl
all_contained (a ∷ l) m = ap (λ b. member a m && b) (all_contained l m)

-- ---- a step's row against a subject's

module _ (path : List ℕ) (x : ℕ) (l : List ℕ) (a : tags_ascend (row_at 16 path x) ≡ true) where
  pub classes_ascend_lem : l ≡ words_from path (x + 6) (get_or path (x + 4) 0) → ascends l ≡ true
  unfolding row_at
  classes_ascend_lem e = rw e (and_left _ _ a)

  pub pseudos_ascend_lem : l ≡ words_from path (x + 22) (get_or path (x + 5) 0) → ascends l ≡ true
  unfolding row_at
  pseudos_ascend_lem e = rw e (and_right (ascends (row_at 16 path x).classes) _ a)

-- the part's words, two further on than the type's
part_word : (b : Bool) (steps : List ℕ) (s : ℕ) (path : List ℕ) (x : ℕ)
    → b ≡ tag_ok (tag_of (get_or steps (s + 2) 0) (get_or steps (s + 2 + 1) 0)) (tag_of (get_or path (x + 2) 0) (get_or path (x + 2 + 1) 0))
    → b ≡ tag_ok (tag_of (get_or steps (s + 2) 0) (get_or steps (s + 3) 0)) (tag_of (get_or path (x + 2) 0) (get_or path (x + 3) 0))
part_word b steps s path x e = let p : s + 2 + 1 ≡ s + 3 = omega arith in let q : x + 2 + 1 ≡ x + 3 = omega arith in rw (p, q) at e

module _ (steps : List ℕ) (s : ℕ) (path : List ℕ) (x : ℕ) (b : Bool)
    (e : b ≡ tag_ok (tag_of (get_or steps s 0) (get_or steps (s + 1) 0)) (tag_of (get_or path x 0) (get_or path (x + 1) 0))) where
  pub type_off : b ≡ false → false ≡ step_matches (as_sets (row_at 8 steps s)) (row_at 16 path x)
  unfolding step_matches row_at
  type_off t = rw (← e, t)

  module _ (t : b ≡ true) (b' : Bool)
      (e' : b' ≡ tag_ok (tag_of (get_or steps (s + 2) 0) (get_or steps (s + 2 + 1) 0)) (tag_of (get_or path (x + 2) 0) (get_or path (x + 2 + 1) 0))) where
    pub part_off : b' ≡ false → false ≡ step_matches (as_sets (row_at 8 steps s)) (row_at 16 path x)
    unfolding step_matches row_at
    part_off t' = rw (← e, t, ← part_word b' steps s path x e', t')

    module _ (t' : b' ≡ true) (l l' : List ℕ) (q : Bool)
        (f : l ≡ words_from steps (s + 6) (get_or steps (s + 4) 0)) (f' : l' ≡ words_from path (x + 6) (get_or path (x + 4) 0)) (g : q ≡ contained l l') where
      pub classes_off : q ≡ false → false ≡ step_matches (as_sets (row_at 8 steps s)) (row_at 16 path x)
      unfolding step_matches row_at
      classes_off u = rw (← e, t, ← part_word b' steps s path x e', t', contained_sort, ← f, ← f', ← g, u)

      pub row_matches : q ≡ true → (m m' : List ℕ) (r : Bool)
          → m ≡ words_from steps (s + 14) (get_or steps (s + 5) 0) → m' ≡ words_from path (x + 22) (get_or path (x + 5) 0) → r ≡ contained m m'
          → r ≡ step_matches (as_sets (row_at 8 steps s)) (row_at 16 path x)
      unfolding step_matches row_at
      row_matches u m m' r k k' j = rw (← e, t, ← part_word b' steps s path x e', t', contained_sort, ← f, ← f', ← g, u, contained_sort, ← k, ← k') j

-- ---- a combinator's code

pub descends_is : (code : ℕ) → descends (comb_of code) ≡ not (eqb code 0)
descends_is code = by (eqb code 0)
  where
    by : (b : Bool) → descends (cond b child descendant) ≡ not b
    by true = refl
    by false = refl

pub far_is : (w code : ℕ) → w ≡ code → not (eqb w 0) ≡ descends (comb_of code)
far_is w code e = rw e (sym (descends_is code))

-- ---- counts

-- at most as many words as asked for
pub words_few : (size : ℕ) (words l : List ℕ) (at n : ℕ) → l ≡ words_from words at n → n ≤ size → length l ≤ size
words_few size words l at n e h = rw (e, length-take) (omega arith)
