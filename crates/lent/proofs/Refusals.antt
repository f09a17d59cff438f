-- Laws of the refusals' numbers, and of the first test that holds. Assumes nothing.
use mathlib.Core.Path.{◌≡◌, refl, sym, ap, ◌∙◌, subst}
use mathlib.Core.Bool.{Bool, true, false, not, ◌&&◌, true≢false}
use mathlib.Core.List.{List, [], ◌∷◌, ◌++◌}
use mathlib.Core.Logic.{◌⊎◌, inl, inr, ⊎_elim}
use Prim.Native.Nat.{ℕ, zero, suc, ◌+◌, ◌≤◌, ◌<◌}
use native.Mathlib.Nat.{eq-or-lt_of_le, le_of_suc-le-suc}
use native.Mathlib.Numerals.{add-one}
use native.Mathlib.Omega.{arith}
use native.Mathlib.Decide.{dec_lt}
use lib.ListN.{get_or, get_or-eq_default}
use lib.Dec.{ltb, eqb}
use borrow.Author.Tests.{ltb-true, eq-eqb, ne_eqb}
use Rattle.theory.proofs.Lists.{and_left, and_right}
use Rattle.std.specs.Prelude.{Result, Ok, Err, ⊤}
use Rattle.lent.specs.Refusals.{number_of, added, told, refusals, refusal_of, Check, check, first_of, checks_below, answered, answer_told, yes_told, number_told, done_told}
use Rattle.lent.specs.declared.Refusal.{Refusal}
use Rattle.lent.specs.declared.Refusal.TheVariants.{NotAscending, OverSize, CombinatorCount, NotAState, NoRoom, CodeOutOfRange, NoSourceIndex, BufferTooShort, NoSuchRule, BadRecord, BrokenShape}

-- ---- numbers

-- the refusal with a number, as a `match` finds it
pub of_is : (n k : ℕ) → n ≡ k → get_or refusals k BrokenShape ≡ refusal_of n
unfolding refusal_of
of_is n k e = rw e

pub above : (n : ℕ) → (n ≡ 0) ⊎ (0 < n)
above zero = inl refl
above (suc n) = inr (omega arith)

-- a number that is 0 or above k, and isn't the next either
pub past : {k n : ℕ} → (n ≡ 0) ⊎ (k < n) → (n ≡ suc k → ⊥) → (n ≡ 0) ⊎ (suc k < n)
past (inl e) h = inl e
past (inr l) h = inr (omega arith)

pub of_rest : (n : ℕ) → (n ≡ 0) ⊎ (10 < n) → BrokenShape ≡ refusal_of n
unfolding refusal_of
of_rest n (inl e) = rw e
of_rest n (inr h) = elim (dec_lt 11 n) [
  | yes l ↦ sym (get_or-eq_default refusals BrokenShape l)
  | no l ↦ let e : n ≡ 11 = omega arith in rw e
]

-- a number of 01's table but 10 tells itself alone
pub told_of_lem : (n : ℕ) → 0 < n → n < 12 → (n ≡ 10 → ⊥) → told (refusal_of n) ≡ n ∷ []
unfolding refusal_of
told_of_lem zero h k x = absurd (omega arith)
told_of_lem (suc zero) h k x = refl
told_of_lem (suc (suc zero)) h k x = refl
told_of_lem (suc (suc (suc zero))) h k x = refl
told_of_lem (suc (suc (suc (suc zero)))) h k x = refl
told_of_lem (suc (suc (suc (suc (suc zero))))) h k x = refl
told_of_lem (suc (suc (suc (suc (suc (suc zero)))))) h k x = refl
told_of_lem (suc (suc (suc (suc (suc (suc (suc zero))))))) h k x = refl
told_of_lem (suc (suc (suc (suc (suc (suc (suc (suc zero)))))))) h k x = refl
told_of_lem (suc (suc (suc (suc (suc (suc (suc (suc (suc zero))))))))) h k x = refl
told_of_lem (suc (suc (suc (suc (suc (suc (suc (suc (suc (suc zero)))))))))) h k x = absurd (x refl)
told_of_lem (suc (suc (suc (suc (suc (suc (suc (suc (suc (suc (suc zero))))))))))) h k x = refl
told_of_lem (suc (suc (suc (suc (suc (suc (suc (suc (suc (suc (suc (suc n)))))))))))) h k x = absurd (omega arith)

-- the refusal that tells these numbers
unfoldable pub untold : List ℕ → Refusal
untold [] = BrokenShape
untold (n ∷ []) = refusal_of n
untold (n ∷ at ∷ l) = BadRecord at

pub untold_told : (r : Refusal) → untold (told r) ≡ r
unfolding untold refusal_of
untold_told NotAscending = refl
untold_told OverSize = refl
untold_told CombinatorCount = refl
untold_told NotAState = refl
untold_told NoRoom = refl
untold_told CodeOutOfRange = refl
untold_told NoSourceIndex = refl
untold_told BufferTooShort = refl
untold_told NoSuchRule = refl
untold_told (BadRecord at) = refl
untold_told BrokenShape = refl

-- no refusal's number is 0, which an accepted call tells first
pub number_positive : (r : Refusal) → (n : ℕ) × (number_of r ≡ suc n)
number_positive NotAscending = (0, refl)
number_positive OverSize = (1, refl)
number_positive CombinatorCount = (2, refl)
number_positive NotAState = (3, refl)
number_positive NoRoom = (4, refl)
number_positive CodeOutOfRange = (5, refl)
number_positive NoSourceIndex = (6, refl)
number_positive BufferTooShort = (7, refl)
number_positive NoSuchRule = (8, refl)
number_positive (BadRecord at) = (9, refl)
number_positive BrokenShape = (10, refl)

-- reading an answer's numbers back: `accepted` of what follows a 0, `refused` of a refusal
unfoldable pub read_back : {A : Type 0} → (List ℕ → A) → (Refusal → A) → List ℕ → A
read_back accepted refused [] = accepted []
read_back accepted refused (zero ∷ l) = accepted l
read_back accepted refused (suc n ∷ l) = refused (untold (suc n ∷ l))

pub read_refused : {A : Type 0} (accepted : List ℕ → A) (refused : Refusal → A) (r : Refusal) → read_back accepted refused (told r) ≡ refused r
unfolding read_back
read_refused accepted refused r =
    let (n, e) = number_positive r in
    rw e (ap refused (subst (λ (k : ℕ). untold (k ∷ added r) ≡ r) e (untold_told r)))

-- so that two refusals that tell the same are the same
pub told_distinct : (a b : Refusal) → told a ≡ told b → a ≡ b
told_distinct a b e = sym (untold_told a) ∙ ap untold e ∙ untold_told b

-- two answers that tell the same are the same, where what an accepted call gives can be read back of its numbers
module _ {A : Type 0} (tell : A → List ℕ) (read : List ℕ → A) (reads : (a : A) → read (tell a) ≡ a) where
  read_answer : List ℕ → Result A Refusal
  read_answer = read_back (λ l. Ok (read l)) Err

  read_answer_lem : (a : Result A Refusal) → read_answer (answer_told tell a) ≡ a
  unfolding read_answer read_back
  read_answer_lem (Ok a) = ap Ok (reads a)
  read_answer_lem (Err r) = read_refused _ Err r

  pub answer_distinct : (a b : Result A Refusal) → answer_told tell a ≡ answer_told tell b → a ≡ b
  answer_distinct a b e = sym (read_answer_lem a) ∙ ap read_answer e ∙ read_answer_lem b

pub yes_distinct : (a b : Result Bool Refusal) → yes_told a ≡ yes_told b → a ≡ b
yes_distinct = answer_distinct _ (λ l. eqb (get_or l 0 0) 1) (elim [ true ↦ refl | false ↦ refl ])

pub number_distinct : (a b : Result ℕ Refusal) → number_told a ≡ number_told b → a ≡ b
number_distinct = answer_distinct _ (λ l. get_or l 0 0) (λ n. refl)

pub done_distinct : (a b : Result ⊤ Refusal) → done_told a ≡ done_told b → a ≡ b
done_distinct = answer_distinct _ (λ l. tt) (λ u. refl)

-- ---- the first test that holds

-- a test that holds gives its number
pub first_here : (c : Check) (l : List Check) → c.fails ≡ true → first_of (c ∷ l) ≡ c.number
unfolding first_of
first_here c l h = rw h

-- one that does not is passed over
pub first_next : (c : Check) (l : List Check) → c.fails ≡ false → first_of (c ∷ l) ≡ first_of l
unfolding first_of
first_next c l h = rw h

-- ---- one list of tests after another

-- every number is positive: by `refl` where the numbers are written out
abbrev pub positive : List Check → Bool
positive [] = true
positive (c ∷ l) = ltb 0 c.number && positive l

pub positive_append : (a b : List Check) → positive a ≡ true → positive b ≡ true → positive (a ++ b) ≡ true
positive_append [] b p q = q
positive_append (c ∷ a) b p q = rw (and_left (ltb 0 c.number) _ p) (positive_append a b (and_right (ltb 0 c.number) _ p) q)

stop : (a b : List Check) → (first_of a ≡ 0 → ⊥) → first_of (a ++ b) ≡ first_of a
stop [] b h = absurd (h (unfold first_of in refl))
stop (c ∷ a) b h = by c.fails refl (λ f. stop a b (λ e. h (first_next c a f ∙ e)))
  where
    by : (t : Bool) → c.fails ≡ t → (c.fails ≡ false → first_of (a ++ b) ≡ first_of a) → first_of (c ∷ (a ++ b)) ≡ first_of (c ∷ a)
    by true f r = first_here c (a ++ b) f ∙ sym (first_here c a f)
    by false f r = first_next c (a ++ b) f ∙ r f ∙ sym (first_next c a f)

go : (a b : List Check) → positive a ≡ true → first_of a ≡ 0 → first_of (a ++ b) ≡ first_of b
go [] b p e = refl
go (c ∷ a) b p e = by c.fails refl (λ f. go a b (and_right (ltb 0 c.number) _ p) (sym (first_next c a f) ∙ e))
  where
    by : (t : Bool) → c.fails ≡ t → (c.fails ≡ false → first_of (a ++ b) ≡ first_of b) → first_of (c ∷ (a ++ b)) ≡ first_of b
    by true f r = absurd (omega (arith, ltb-true 0 c.number (and_left _ _ p), sym (first_here c a f) ∙ e))
    by false f r = first_next c (a ++ b) f ∙ r f

-- where the first list has one that holds, the second does not count
pub first_stop : (a b : List Check) (v : ℕ) → v ≡ first_of a → (v ≡ 0 → ⊥) → v ≡ first_of (a ++ b)
first_stop a b v e h = e ∙ sym (stop a b (λ q. h (e ∙ q)))

-- where it has none, the second does
pub first_go : (a b : List Check) (v r : ℕ) → v ≡ first_of a → v ≡ 0 → positive a ≡ true → r ≡ first_of b → r ≡ first_of (a ++ b)
first_go a b v r e z p f = f ∙ sym (go a b p (sym e ∙ z))

-- where none holds, neither list has one
pub first_both : (a b : List Check) → positive a ≡ true → first_of (a ++ b) ≡ 0 → (first_of a ≡ 0) × (first_of b ≡ 0)
first_both a b p h = elim (above (first_of a)) [
  | inl e ↦ (e, sym (go a b p e) ∙ h)
  | inr l ↦ absurd (omega (arith, sym (stop a b (λ q. omega arith)) ∙ h))
]

-- ---- tests in turn

abbrev pub Positive : (ℕ → List Check) → Type 0
Positive checks = (k : ℕ) → positive (checks k) ≡ true

module _ (checks : ℕ → List Check) where
  pub checks_next : (n : ℕ) → checks_below (n + 1) checks ≡ checks_below n checks ++ checks n
  unfolding checks_below
  checks_next n = rw add-one

  pub positive_below : Positive checks → (n : ℕ) → positive (checks_below n checks) ≡ true
  unfolding checks_below
  positive_below p zero = refl
  positive_below p (suc n) = positive_append (checks_below n checks) (checks n) (positive_below p n) (p n)

  -- where none holds, none of turn k does
  pub turn_at : Positive checks → (n k : ℕ) → first_of (checks_below n checks) ≡ 0 → k < n → first_of (checks k) ≡ 0
  unfolding checks_below
  turn_at p zero k e h = absurd (omega arith)
  turn_at p (suc n) k e h =
      let b = first_both (checks_below n checks) (checks n) (positive_below p n) e in
      ⊎_elim (λ q. rw q b.1) (λ l. turn_at p n k b.0 l) (eq-or-lt_of_le (le_of_suc-le-suc h))

  -- the first turn with one that holds decides
  turn_first : Positive checks → (n k : ℕ) → k < n → first_of (checks_below k checks) ≡ 0 → (first_of (checks k) ≡ 0 → ⊥) → first_of (checks_below n checks) ≡ first_of (checks k)
  unfolding checks_below
  turn_first p zero k h z x = absurd (omega arith)
  turn_first p (suc n) k h z x =
      ⊎_elim (λ q. rw q (go (checks_below n checks) (checks n) (positive_below p n) (rw q at z)))
      (λ l. let e = turn_first p n k l z x in stop (checks_below n checks) (checks n) (λ y. x (sym e ∙ y)) ∙ e)
      (eq-or-lt_of_le (le_of_suc-le-suc h))

-- a loop over n turns, at k; `search (turns, needs)` answers what it asks
pub record Turns (checks : ℕ → List Check) (n k : ℕ) : Type 0 where
  pub within : k ≤ n
  pub numbers : Positive checks
  pub passed : first_of (checks_below k checks) ≡ 0

pub turns_start : {checks : ℕ → List Check} {n : ℕ} → Positive checks → Turns checks n 0
unfolding first_of checks_below
turns_start p = record { within = omega arith; numbers = p; passed = refl }

module _ {checks : ℕ → List Check} {n k : ℕ} (t : Turns checks n k) where
  pub turns_next : (v : ℕ) → k < n → v ≡ first_of (checks k) → v ≡ 0 → Turns checks n (k + 1)
  turns_next v h e z = record {
    within = omega arith;
    numbers = t.numbers;
    passed = rw (checks_next checks k) (go (checks_below k checks) (checks k) (positive_below checks t.numbers k) t.passed ∙ sym e ∙ z);
  }

  -- a turn's refusal is the loop's
  pub turns_fails : (v : ℕ) → k < n → v ≡ first_of (checks k) → (v ≡ 0 → ⊥) → v ≡ first_of (checks_below n checks)
  turns_fails v h e x = e ∙ sym (turn_first checks t.numbers n k h t.passed (λ q. x (e ∙ q)))

  pub turns_done : n ≤ k → 0 ≡ first_of (checks_below n checks)
  turns_done h = let e : n ≡ k = omega (arith, t.within) in rw e (sym t.passed)

  -- the same, where other tests follow the turns
  pub turns_stop : (v : ℕ) → k < n → v ≡ first_of (checks k) → (v ≡ 0 → ⊥) → (rest : List Check) → v ≡ first_of (checks_below n checks ++ rest)
  turns_stop v h e x rest = first_stop (checks_below n checks) rest v (turns_fails v h e x) x

  pub turns_end : (r : ℕ) (rest : List Check) → n ≤ k → r ≡ first_of rest → r ≡ first_of (checks_below n checks ++ rest)
  turns_end r rest h e = first_go (checks_below n checks) rest 0 r (turns_done h) refl (positive_below checks t.numbers n) e

pub ruleset turns = (turns_start, turns_next, turns_fails, turns_done, turns_stop, turns_end)

-- ---- the first that fails, by the tests in turn

pub first_hit : (k : ℕ) (b t : Bool) (l : List Check) → b ≡ t → b ≡ true → k ≡ first_of (check k t ∷ l)
first_hit k b t l e f = sym (first_here (check k t) l (sym e ∙ f))

pub first_pass : (k r : ℕ) (b t : Bool) (l : List Check) → b ≡ t → b ≡ false → r ≡ first_of l → r ≡ first_of (check k t ∷ l)
first_pass k r b t l e f g = g ∙ sym (first_next (check k t) l (sym e ∙ f))

pub first_end : 0 ≡ first_of []
unfolding first_of
first_end = refl

pub ruleset firsts = (first_hit, first_pass, first_end)

pub first_under : (k n : ℕ) (t : Bool) (l : List Check) → k < n → first_of l < n → first_of (check k t ∷ l) < n
unfolding first_of
first_under k n true l h g = h
first_under k n false l h g = g

-- the first test of an accepted call does not hold, nor does any other
pub first_clear : (k : ℕ) (t : Bool) (l : List Check) → 0 < k → first_of (check k t ∷ l) ≡ 0 → (t ≡ false) × (first_of l ≡ 0)
unfolding first_of
first_clear k true l h e = absurd (omega arith)
first_clear k false l h e = (refl, e)

-- ---- numbers that are told alone

-- a number of 01's table, but for 10
abbrev pub alone : ℕ → Bool
alone n = ltb 0 n && (ltb n 12 && not (eqb n 10))

abbrev pub named : List Check → Bool
named [] = true
named (c ∷ l) = alone c.number && named l

pub named_append : (a b : List Check) → named a ≡ true → named b ≡ true → named (a ++ b) ≡ true
named_append [] b p q = q
named_append (c ∷ a) b p q = rw (and_left (alone c.number) _ p) (named_append a b (and_right (alone c.number) _ p) q)

pub named_below : (checks : ℕ → List Check) → ((k : ℕ) → named (checks k) ≡ true) → (n : ℕ) → named (checks_below n checks) ≡ true
unfolding checks_below
named_below checks p zero = refl
named_below checks p (suc n) = named_append (checks_below n checks) (checks n) (named_below checks p n) (p n)

told_alone : (n : ℕ) → alone n ≡ true → told (refusal_of n) ≡ n ∷ []
told_alone n e =
    let a = ltb-true 0 n (and_left (ltb 0 n) _ e) in
    let b = ltb-true n 12 (and_left (ltb n 12) _ (and_right (ltb 0 n) _ e)) in
    told_of_lem n a b (λ q. eqb_apart n 10 (and_right (ltb n 12) _ (and_right (ltb 0 n) _ e)) q)
  where
    eqb_apart : (m k : ℕ) → not (eqb m k) ≡ true → m ≡ k → ⊥
    eqb_apart m k f q = true≢false (sym f ∙ ap not (eq-eqb m k q))

-- a refusal out of such a list
pub told_first : (l : List Check) (v : ℕ) → named l ≡ true → v ≡ first_of l → (v ≡ 0 → ⊥) → told (refusal_of v) ≡ v ∷ []
told_first [] v n e h = absurd (h (e ∙ unfold first_of in refl))
told_first (c ∷ l) v n e h = by c.fails refl (λ f. told_first l v (and_right (alone c.number) _ n) (e ∙ first_next c l f) h)
  where
    by : (t : Bool) → c.fails ≡ t → (c.fails ≡ false → told (refusal_of v) ≡ v ∷ []) → told (refusal_of v) ≡ v ∷ []
    by true f r = let q : v ≡ c.number = e ∙ first_here c l f in rw q (told_alone c.number (and_left (alone c.number) _ n))
    by false f r = r f

-- ---- a check's verdict, handed on

-- a refusal's number is not 0
pub refusal_number : (r : Refusal) → number_of r ≡ 0 → ⊥
refusal_number r e = let (n, q) = number_positive r in omega arith

-- a refusal whose number is one that is told alone
pub told_number : (r : Refusal) (v : ℕ) → number_of r ≡ v → alone v ≡ true → told r ≡ v ∷ []
told_number NotAscending v e a = rw (← e) refl
told_number OverSize v e a = rw (← e) refl
told_number CombinatorCount v e a = rw (← e) refl
told_number NotAState v e a = rw (← e) refl
told_number NoRoom v e a = rw (← e) refl
told_number CodeOutOfRange v e a = rw (← e) refl
told_number NoSourceIndex v e a = rw (← e) refl
told_number BufferTooShort v e a = rw (← e) refl
told_number NoSuchRule v e a = rw (← e) refl
told_number (BadRecord at) v e a = absurd (true≢false (sym a ∙ ap alone (sym e)))
told_number BrokenShape v e a = rw (← e) refl

-- what a list of named checks refuses with is told alone
pub named_first : (l : List Check) → named l ≡ true → (first_of l ≡ 0 → ⊥) → alone (first_of l) ≡ true
unfolding first_of
named_first [] n h = absurd (h refl)
named_first (c ∷ l) n h = by c.fails refl (λ f. named_first l (and_right (alone c.number) _ n) (λ e. h (first_next c l f ∙ e)))
  where
    by : (t : Bool) → c.fails ≡ t → (c.fails ≡ false → alone (first_of l) ≡ true) → alone (first_of (c ∷ l)) ≡ true
    by true f r = rw (first_here c l f) (and_left (alone c.number) _ n)
    by false f r = rw (first_next c l f) (r f)

-- a check's refusal is the answer of the call that asks it
pub refused_first : (l : List Check) (r : Refusal) (accepted : List ℕ) → named l ≡ true → number_of r ≡ first_of l → told r ≡ answered (first_of l) accepted
refused_first l r accepted n e =
    let some : (first_of l ≡ 0 → ⊥) = λ z. refusal_number r (e ∙ z) in
    rw (ne_eqb (first_of l) 0 some) (told_number r (first_of l) e (named_first l n some))

-- where the check finds nothing, the call is accepted
pub accepted_first : (v : ℕ) (accepted : List ℕ) → 0 ≡ v → accepted ≡ answered v accepted
accepted_first v accepted e = rw (← e) refl
