-- Laws of the loop over a group's rules. Assumes nothing.
use mathlib.Core.Path.{◌≡◌, refl, sym, ◌∙◌}
use mathlib.Core.Bool.{true}
use mathlib.Core.List.{List, []}
use Prim.Native.Nat.{ℕ, ◌+◌, ◌*◌, ◌≤◌, ◌<◌}
use native.Mathlib.Nat.{add-zero}
use native.Mathlib.Omega.{arith}
use lib.ListN.{drop}
use Rattle.theory.specs.Lists.{sum_below}
use Rattle.theory.proofs.Spreads.{sum_next}
use Rattle.lent.specs.All.{all_below}
use Rattle.lent.specs.declared.Refusal.{Refusal}
use Rattle.lent.specs.Refusals.{number_of, first_of, checks_below}
use Rattle.lent.proofs.Refusals.{refusal_number, Turns, turns_start, turns_next, turns_fails, turns_done}
use Rattle.selector.specs.Rows.{selector_of}
use Rattle.selector.specs.Checks.{row_fits}
use Rattle.sheet.specs.Laying.{ids_held}
use Rattle.given.specs.Given.{Group, step_count, combinator_count, entry_count, steps_from, combinators_from, selector_given}
use Rattle.given.specs.Pushing.{one_rule_checks, rule_checks}
use Rattle.given.specs.Leaves.{Ids, step_total, entry_total, id_total}
use Rattle.given.proofs.Counting.{ids_untied}
use Rattle.given.proofs.Accepted.{RuleAccepted, rule_accepted, rule_numbers_lem}

-- at rule k of n: its steps, combinators and entries begin at p, c and q, and there are t ids before it
pub record Judging (ids entries : ℕ) (g : Group) (n k p c q t : ℕ) : Type 0 where
  pub turns : Turns (rule_checks ids entries g) n k
  pub steps : p ≡ step_total g k
  pub combinators : c ≡ sum_below (combinator_count g) k
  pub listed : q ≡ entry_total g k
  pub held : t ≡ ids + id_total g k
  pub steps_few : p ≤ 8 * k
  pub combinators_few : c ≤ 8 * k
  pub listed_few : q ≤ 32 * k
  pub held_few : t ≤ 8192
  pub entries_few : entries + q ≤ 4096

pub judging_start : {ids entries : ℕ} {g : Group} {n : ℕ} → ids ≤ 8192 → entries ≤ 4096 → Judging ids entries g n 0 0 0 0 ids
unfolding sum_below
judging_start {ids} {entries} {g} h e = record {
  turns = turns_start (rule_numbers_lem ids entries g);
  steps = refl;
  combinators = refl;
  listed = refl;
  held = rw (add-zero ids);
  steps_few = omega arith;
  combinators_few = omega arith;
  listed_few = omega arith;
  held_few = h;
  entries_few = omega arith;
}

module _ {ids entries : ℕ} {g : Group} {n k p c q t : ℕ} (j : Judging ids entries g n k p c q t) where
  pub judging_end : n ≤ k → 0 ≡ first_of (checks_below n (rule_checks ids entries g))
  judging_end h = turns_done j.turns h

  -- its counts were read and widened
  module _ (x₀ x y₀ y z₀ z : ℕ) (a₀ : x ≡ x₀) (a : x₀ ≡ step_count g k) (b₀ : y ≡ y₀) (b : y₀ ≡ combinator_count g k) (d₀ : z ≡ z₀) (d : z₀ ≡ entry_count g k) (lt : k < n) where
    verdict_is : (v : ℕ) → v ≡ first_of (one_rule_checks (drop (22 * p) g.steps) x (drop c g.combinators) y (drop q g.properties) (drop q g.kinds) (drop q g.numbers) z t (entries + q)) → v ≡ first_of (rule_checks ids entries g k)
    unfolding rule_checks
    verdict_is v s = rw (a₀, a, b₀, b, d₀, d, j.steps, j.combinators, j.listed, j.held) at s

    -- it is refused
    pub judging_stop : (r : Refusal) → number_of r ≡ first_of (one_rule_checks (drop (22 * p) g.steps) x (drop c g.combinators) y (drop q g.properties) (drop q g.kinds) (drop q g.numbers) z t (entries + q))
        → number_of r ≡ first_of (checks_below n (rule_checks ids entries g))
    judging_stop r s = turns_fails j.turns (number_of r) lt (verdict_is (number_of r) s) (refusal_number r)

    -- or it is not
    module _ (s : 0 ≡ first_of (one_rule_checks (drop (22 * p) g.steps) x (drop c g.combinators) y (drop q g.properties) (drop q g.kinds) (drop q g.numbers) z t (entries + q))) where
      judged : RuleAccepted ids entries g k
      judged = rule_accepted ids entries g k (sym (verdict_is 0 s))

      steps_are : (l : List ℕ) → l ≡ drop (22 * p) g.steps → l ≡ steps_from g k
      steps_are l e = e ∙ rw j.steps

      -- what the counting of its ids asks
      pub judged_rows : (l : List ℕ) → l ≡ drop (22 * p) g.steps → (x ≤ 8) × (all_below x (λ i. row_fits 8 l (22 * i)) ≡ true)
      judged_rows l e = rw (a₀, a, steps_are l e) (judged.sized.selector.few, judged.sized.selector.rows)

      ids_next : (l : List ℕ) → l ≡ drop (22 * p) g.steps → (u : ℕ) → Ids l x u → t + u ≡ ids + id_total g (k + 1)
      unfolding selector_given
      ids_next l e u h =
          let f : u ≡ ids_held (selector_of (steps_from g k) (combinators_from g k) (step_count g k)) =
          rw (a₀, a, steps_are l e) at h.same ∙ ids_untied (steps_from g k) [] (combinators_from g k) (step_count g k) in
          omega (arith, f, j.held, sum_next (λ i. ids_held (selector_given g i)) k)

      pub judging_next : (l : List ℕ) → l ≡ drop (22 * p) g.steps → (u : ℕ) → Ids l x u → Judging ids entries g n (k + 1) (p + x) (c + y) (q + z) (t + u)
      unfolding selector_given
      judging_next l e u h =
          let r = judged.sized in
          let ties = judged.ties in
          let f = ids_next l e u h in
          record {
            turns = turns_next j.turns 0 lt (verdict_is 0 s) refl;
            steps = rw (sum_next (step_count g) k, j.steps, a₀, a);
            combinators = rw (sum_next (combinator_count g) k, j.combinators, b₀, b);
            listed = rw (sum_next (entry_count g) k, j.listed, d₀, d);
            held = f;
            steps_few = omega (arith, j.steps_few, r.selector.few);
            combinators_few = omega (arith, j.combinators_few, r.selector.few);
            listed_few = omega (arith, j.listed_few, r.counted.few);
            held_few = omega (arith, f, r.ids_sum, sum_next (λ i. ids_held (selector_given g i)) k);
            entries_few = omega (arith, j.listed, r.entries_sum);
          }
