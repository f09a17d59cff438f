-- The ways out of a push, and that its contract determines answer and memory. Assumes nothing.
use mathlib.Core.Path.{◌≡◌, refl, sym, ap, ◌∙◌}
use mathlib.Core.Bool.{true}
use mathlib.Core.List.{List, [], ◌∷◌, ◌++◌}
use Prim.Native.Nat.{ℕ, zero, suc, ◌≤◌, ◌<◌}
use native.Mathlib.Omega.{arith}
use lib.ListN.{length, get_or, replicate}
use lib.Seq.{sets}
use borrow.Author.Tests.{lt-ltb, le-ltb, ne_eqb}
use Rattle.std.specs.Prelude.{Result, Ok, Err, ⊤}
use Rattle.lent.specs.Refusals.{number_of, check, Check, first_of, checks_below}
use Rattle.lent.specs.declared.Refusal.{Refusal}
use Rattle.lent.specs.declared.Refusal.TheVariants.{BrokenShape}
use Rattle.lent.proofs.Refusals.{done_distinct, number_positive, refusal_number, named, named_append, named_below, refused_first, accepted_first}
use Rattle.sheet.specs.Layout
use Rattle.sheet.specs.Laying.{emptied}
use Rattle.given.specs.Given.{Group}
use Rattle.given.specs.Pushing
use Rattle.builder.specs.Answers.{Push, Pushes, pushing_told}

-- ---- any push whose verdict is the first of named checks

module _ (l : List Check) (known : named l ≡ true) (before pushed : List ℕ) where
  refused : (r : Refusal) → number_of r ≡ first_of l → Push (first_of l) before pushed (Err r) before
  refused r e = record { answer = refused_first l r _ known e; memory = rw (ne_eqb (first_of l) 0 (λ z. refusal_number r (e ∙ z))) }

  accepted : 0 ≡ first_of l → (after : List ℕ) → after ≡ pushed → Push (first_of l) before pushed (Ok tt) after
  accepted e after q = record { answer = accepted_first (first_of l) _ e; memory = rw (← e) q }

-- ---- the calls

module _ (w : List ℕ) where
  pub empty_refused : length w < Layout.SHEET-WORDS → Push (Pushing.empty_verdict w) w (emptied w) (Err BrokenShape) w
  unfolding Pushing.empty_verdict first_of
  empty_refused h = rw (lt-ltb (length w) Layout.SHEET-WORDS h) (record { answer = refl; memory = refl })

  pub empty_accepted : (after : List ℕ) → Layout.SHEET-WORDS ≤ length w → after ≡ sets w 0 (replicate 7 0) → Push (Pushing.empty_verdict w) w (emptied w) (Ok tt) after
  unfolding Pushing.empty_verdict first_of emptied
  empty_accepted after h q = rw (le-ltb (length w) Layout.SHEET-WORDS h) (record { answer = refl; memory = q })

module _ (w : List ℕ) (origin : ℕ) (properties kinds numbers : List ℕ) (n : ℕ) where
  pub style_refused : (r : Refusal) → number_of r ≡ Pushing.style_push_verdict w origin properties kinds numbers n
      → Push (Pushing.style_push_verdict w origin properties kinds numbers n) w (Pushing.pushed_style w origin properties kinds numbers n) (Err r) w
  unfolding Pushing.style_push_verdict
  style_refused r e = refused _ refl w _ r e

  pub style_pushed : 0 ≡ Pushing.style_push_verdict w origin properties kinds numbers n → (after : List ℕ) → after ≡ Pushing.pushed_style w origin properties kinds numbers n
      → Push (Pushing.style_push_verdict w origin properties kinds numbers n) w (Pushing.pushed_style w origin properties kinds numbers n) (Ok tt) after
  unfolding Pushing.style_push_verdict
  style_pushed e after q = accepted _ refl w _ e after q

rule_named : (ids entries : ℕ) (g : Group) (k : ℕ) → named (Pushing.rule_checks ids entries g k) ≡ true
unfolding Pushing.rule_checks
rule_named ids entries g k = refl

module _ (w : List ℕ) (origin : ℕ) (g : Group) (n : ℕ) where
  group_named : named
      (Pushing.front_checks w origin
      ++ (check 2 (Pushing.rules_over w g.rules n) ∷ []
      ++ (checks_below n (Pushing.rule_checks (Layout.ids_in w) (Pushing.all_entries_in w) g) ++ Pushing.index_checks w))) ≡ true
  group_named =
      named_append (checks_below n (Pushing.rule_checks (Layout.ids_in w) (Pushing.all_entries_in w) g)) (Pushing.index_checks w)
      (named_below (Pushing.rule_checks (Layout.ids_in w) (Pushing.all_entries_in w) g) (λ k. rule_named (Layout.ids_in w) (Pushing.all_entries_in w) g k) n) refl

  pub group_refused : (r : Refusal) → number_of r ≡ Pushing.group_verdict w origin g n → Push (Pushing.group_verdict w origin g n) w (Pushing.pushed_group w origin g n) (Err r) w
  unfolding Pushing.group_verdict
  group_refused r e = refused _ group_named w _ r e

  pub group_pushed : 0 ≡ Pushing.group_verdict w origin g n → (after : List ℕ) → after ≡ Pushing.pushed_group w origin g n
      → Push (Pushing.group_verdict w origin g n) w (Pushing.pushed_group w origin g n) (Ok tt) after
  unfolding Pushing.group_verdict
  group_pushed e after q = accepted _ group_named w _ e after q

module _ (w u : List ℕ) where
  pub cascade_refused : (r : Refusal) → number_of r ≡ Pushing.cascade_verdict w u → Push (Pushing.cascade_verdict w u) w (Pushing.pushed_cascade w u) (Err r) w
  unfolding Pushing.cascade_verdict
  cascade_refused r e = refused _ refl w _ r e

  pub cascade_pushed : 0 ≡ Pushing.cascade_verdict w u → (after : List ℕ) → after ≡ Pushing.pushed_cascade w u → Push (Pushing.cascade_verdict w u) w (Pushing.pushed_cascade w u) (Ok tt) after
  unfolding Pushing.cascade_verdict
  cascade_pushed e after q = accepted _ refl w _ e after q

-- ---- pushes by the refusal's number

module _ (verdict : ℕ) (before pushed : List ℕ) where
  pub number_refused : (r : Refusal) → number_of r ≡ verdict → Pushes verdict before pushed (number_of r) before
  number_refused r e = record { answer = e; memory = rw (ne_eqb verdict 0 (λ z. refusal_number r (e ∙ z))) }

  pub number_pushed : 0 ≡ verdict → (after : List ℕ) → after ≡ pushed → Pushes verdict before pushed 0 after
  number_pushed e after q = record { answer = e; memory = rw (← e) q }

-- ---- determined

-- equal numbers told are equal answers
pub pushing_distinct : (a b : Result ⊤ Refusal) → pushing_told a ≡ pushing_told b → a ≡ b
pushing_distinct = done_distinct

-- THEOREM: any two outcomes that a push's contract allows are equal, answer and memory
pub push_determined : {verdict : ℕ} {before pushed : List ℕ} {r r' : Result ⊤ Refusal} {after after' : List ℕ}
    → Push verdict before pushed r after → Push verdict before pushed r' after' → (r ≡ r') × (after ≡ after')
push_determined {r = r} {r' = r'} p q = (pushing_distinct r r' (p.answer ∙ sym q.answer), p.memory ∙ sym q.memory)

-- what a caller sees: where the answer is `Ok`, the verdict is 0 and the memory is the pushed one;
pub pushed_is : {verdict : ℕ} {before pushed after : List ℕ} → Push verdict before pushed (Ok tt) after → (verdict ≡ 0) × (after ≡ pushed)
pushed_is {verdict = zero} p = (refl, p.memory)
pushed_is {verdict = suc n} p =
    let q : 0 ∷ [] ≡ suc n ∷ [] = rw (ne_eqb (suc n) 0 (λ z. omega arith)) at p.answer in
    let z : 0 ≡ suc n = ap (λ (l : List ℕ). get_or l 0 0) q in
    absurd (omega arith)

-- where it is a refusal, no word has changed
pub refused_is : {verdict : ℕ} {before pushed after : List ℕ} {r : Refusal} → Push verdict before pushed (Err r) after → after ≡ before
refused_is {verdict = zero} {r = r} p =
    let (n, e) = number_positive r in
    let z : 0 ≡ suc n = sym (ap (λ (l : List ℕ). get_or l 0 0) p.answer) ∙ e in
    absurd (omega arith)
refused_is {verdict = suc n} p = rw (ne_eqb (suc n) 0 (λ z. omega arith)) at p.memory
