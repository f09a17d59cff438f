-- The number that a call works out is the one that its checks give; checks one after the other, and in turn. Proofs for Demand1.antt. Assumes nothing.
use mathlib.Core.Path.{◌≡◌, refl, sym, ap, ◌∙◌, subst}
use mathlib.Core.Logic.{◌↔◌, ◌⊎◌, inl, inr, ◌≢◌}
use mathlib.Core.Bool.{Bool, true, false, cond}
use mathlib.Core.Option.{Option, none, some}
use mathlib.Core.List.{List, [], ◌∷◌, ◌++◌}
use Prim.Native.Nat.{ℕ, zero, suc, ◌+◌, ◌-◌, ◌<◌}
use native.Mathlib.Omega.{arith}
use native.Mathlib.Decide.{dec_lt}
use lib.ListN.{length, get_or}
use lib.Dec.{ltb, eqb}
use borrow.Author.Tests.{ltb-true, ne_eqb}
use Rattle.std.specs.Prelude.{Ok, Err}
use Rattle.selector.specs.declared.SelectorMismatch.TheVariants as mismatch
use Rattle.theory.specs.Lists.{spread}
use Rattle.theory.specs.Paths.{Comb, child, descendant, Part}
use Rattle.theory.proofs.Lists.{and_left, and_right}
use Rattle.lent.specs.Refusals.{Check, first_of, checks_below, answered}
use Rattle.lent.proofs.Refusals.{first_here, first_next, positive}
use Rattle.selector.specs.Tags.{Tags}
use Rattle.selector.specs.Matching.{matching_told}
use Rattle.selector.specs.Diagnosing.{Diagnosis, Fits, diagnosis_told, is_fit, is_mismatch, some_fit, other_errors, last_or, tried, judge, diagnose}
use Rattle.diagnosing.proofs.Judging.{tried_one}
use Rattle.style.specs.Entries.{Entry}
use Rattle.style.specs.Looking.{kind_of, plain_of, resource_of, place_in}
use Rattle.reading.specs.Reading.{entry_numbers, combinator_numbers}
use Rattle.lent.proofs.Answers.{accepted}
use Rattle.winners.specs.Winners.{Place, style, rule}
use Rattle.looking.specs.Answers.{winner_told}
use Rattle.promises.specs.Refusing.{First, here, later, None, InTurn, Refusing, Guarding}

-- ---- `first_of` is what the checks give: so it is of the calls that answer a verdict, the checks of `admit` and `joining` and `matcher::states::check_state`

first_number : (l : List Check) (n : ℕ) → First l n → first_of l ≡ n
first_number [] n x = elim x [ ]
first_number (c ∷ l) n (here f e) = first_here c l f ∙ e
first_number (c ∷ l) n (later f x) = first_next c l f ∙ first_number l n x

none_number : (l : List Check) → None l → first_of l ≡ 0
none_number [] None.none = unfold first_of in refl
none_number (c ∷ l) (None.more f x) = first_next c l f ∙ none_number l x

number_first : (l : List Check) (n : ℕ) → first_of l ≡ n → n ≢ 0 → First l n
number_first [] n e h = absurd (h (sym e ∙ (unfold first_of in refl)))
number_first (c ∷ l) n e h = by c.fails refl (λ f. number_first l n (sym (first_next c l f) ∙ e) h)
  where
    by : (t : Bool) → c.fails ≡ t → (c.fails ≡ false → First l n) → First (c ∷ l) n
    by true f r = here f (sym (first_here c l f) ∙ e)
    by false f r = later f (r f)

number_none : (l : List Check) → positive l ≡ true → first_of l ≡ 0 → None l
number_none [] p e = None.none
number_none (c ∷ l) p e = by c.fails refl (λ f. number_none l (and_right (ltb 0 c.number) _ p) (sym (first_next c l f) ∙ e))
  where
    by : (t : Bool) → c.fails ≡ t → (c.fails ≡ false → None l) → None (c ∷ l)
    by true f r = absurd (omega (arith, ltb-true 0 c.number (and_left _ _ p), sym (first_here c l f) ∙ e))
    by false f r = None.more f (r f)

first_positive : (l : List Check) (n : ℕ) → positive l ≡ true → First l n → n ≢ 0
first_positive [] n p x z = elim x [ ]
first_positive (c ∷ l) n p (here f e) z = omega (arith, ltb-true 0 c.number (and_left _ _ p), e, z)
first_positive (c ∷ l) n p (later f x) z = first_positive l n (and_right (ltb 0 c.number) _ p) x z

-- one number, or none holds: there is nothing else
pub one_number : (l : List Check) (n m : ℕ) → First l n → First l m → n ≡ m
one_number l n m x y = sym (first_number l n x) ∙ first_number l m y

pub decided : (l : List Check) → None l ⊎ ((n : ℕ) × First l n)
decided [] = inl None.none
decided (c ∷ l) = by c.fails refl (decided l)
  where
    by : (t : Bool) → c.fails ≡ t → None l ⊎ ((n : ℕ) × First l n) → None (c ∷ l) ⊎ ((n : ℕ) × First (c ∷ l) n)
    by true f r = inr (c.number, here f refl)
    by false f r = elim r [ inl x ↦ inl (None.more f x) | inr x ↦ inr (x.0, later f x.1) ]

module _ (checks : List Check) (p : positive checks ≡ true) where
  pub number_exactly : (n : ℕ) → ((first_of checks ≡ n) × (n ≢ 0)) ↔ First checks n
  number_exactly n = (λ e. number_first checks n e.0 e.1, λ x. (first_number checks n x, first_positive checks n p x))

  pub zero_exactly : (first_of checks ≡ 0) ↔ None checks
  zero_exactly = (number_none checks p, none_number checks)

-- ---- THEOREM: a call that tells the number worked out, or 0 and an answer, refuses exactly as its checks say;

-- numbers told by a call that accepts
abbrev pub Accepts : List ℕ → Type 0
Accepts told = (answer : List ℕ) × (told ≡ 0 ∷ answer)

module _ {checks : List Check} (p : positive checks ≡ true) where
  pub refusing : {told answer : List ℕ} → Accepts answer → told ≡ answered (first_of checks) answer → Refusing checks told
  refusing {told} {answer} (l, a) e = record {
    refused = λ n. (
      λ q. number_first checks n (is n q.0 q.1) q.1,
      λ x.
          let h = first_positive checks n p x in
          (e ∙ rw (first_number checks n x, ne_eqb n 0 h), h),
    );
    accepted = (
      λ q. number_none checks p (accepted (first_of checks) q.0 answer (sym q.1 ∙ e)),
      λ x. (l, e ∙ rw (none_number checks x) a),
    );
  }
    where
      is : (n : ℕ) → told ≡ n ∷ [] → n ≢ 0 → first_of checks ≡ n
      is n q h = by (eqb (first_of checks) 0) refl
        where
          by : (b : Bool) → eqb (first_of checks) 0 ≡ b → first_of checks ≡ n
          by true f = let z : n ∷ [] ≡ 0 ∷ l = sym q ∙ e ∙ rw f a in absurd (h (ap (λ (k : List ℕ). get_or k 0 0) z))
          by false f = let z : n ∷ [] ≡ first_of checks ∷ [] = sym q ∙ e ∙ rw f in sym (ap (λ (k : List ℕ). get_or k 0 0) z)

  -- what a call leaves or answers where that number is not 0, by its contract
  pub otherwise : {A : Type 0} (accepted refused : A) (n : ℕ) → First checks n → cond (eqb (first_of checks) 0) accepted refused ≡ refused
  otherwise accepted refused n x = rw (first_number checks n x, ne_eqb n 0 (first_positive checks n p x))

  -- so where it leaves the memory before, a refusal writes nothing
  pub guarding : {A : Type 0} (pushed : A) {before after : A} {told answer : List ℕ} → Accepts answer → told ≡ answered (first_of checks) answer
      → after ≡ cond (eqb (first_of checks) 0) pushed before → Guarding checks told before after
  guarding pushed a e m = record {
    answer = refusing a e;
    unwritten = λ n x. m ∙ otherwise pushed _ n x;
  }

-- ---- one list of checks after another: the second counts where the first gives nothing

none_append : (a b : List Check) → None a → None b → None (a ++ b)
none_append [] b None.none y = y
none_append (c ∷ a) b (None.more f x) y = None.more f (none_append a b x y)

append_none : (a b : List Check) → None (a ++ b) → None a × None b
append_none [] b y = (None.none, y)
append_none (c ∷ a) b (None.more f x) = let (y, z) = append_none a b x in (None.more f y, z)

module _ (b : List Check) (n : ℕ) where
  apart : (a : List Check) → First (a ++ b) n → First a n ⊎ (None a × First b n)
  apart [] x = inr (None.none, x)
  apart (c ∷ a) (here f e) = inl (here f e)
  apart (c ∷ a) (later f x) = elim (apart a x) [ inl y ↦ inl (later f y) | inr y ↦ inr (None.more f y.0, y.1) ]

  before : (a : List Check) → First a n → First (a ++ b) n
  before [] x = elim x [ ]
  before (c ∷ a) (here f e) = here f e
  before (c ∷ a) (later f x) = later f (before a x)

  behind : (a : List Check) → None a → First b n → First (a ++ b) n
  behind [] None.none y = y
  behind (c ∷ a) (None.more f x) y = later f (behind a x y)

pub first_append : (a b : List Check) (n : ℕ) → First (a ++ b) n ↔ (First a n ⊎ (None a × First b n))
first_append a b n = (apart b n a, λ x. elim x [ inl y ↦ before b n a y | inr y ↦ behind b n a y.0 y.1 ])

-- ---- checks in turn

-- no checks give no number
first_some : (l : List Check) (m : ℕ) → First l m → l ≡ [] → ⊥
first_some [] m x q = elim x [ ]
first_some (c ∷ l) m (here f e) q = let z = ap length q in omega arith
first_some (c ∷ l) m (later f x) q = let z = ap length q in omega arith

module _ (checks : ℕ → List Check) where
  pub none_turns : (n : ℕ) → None (checks_below n checks) ↔ ((k : ℕ) → k < n → None (checks k))
  unfolding checks_below
  none_turns zero = (λ x k h. absurd (omega arith), λ x. None.none)
  none_turns (suc n) = (
    λ x k h.
        let (y, z) = append_none (checks_below n checks) (checks n) x in
        elim (dec_lt k n) [ yes l ↦ (none_turns n).0 y k l | no l ↦ let e : k ≡ n = omega arith in rw e z ],
    λ x. none_append (checks_below n checks) (checks n) ((none_turns n).1 (λ k h. x k (omega arith))) (x n (omega arith)),
  )

  -- one turn more
  further : (n m : ℕ) → (First (checks_below n checks) m ↔ InTurn n checks m) → First (checks_below n checks ++ checks n) m ↔ InTurn (suc n) checks m
  further n m h = (turn, back)
    where
      turn : First (checks_below n checks ++ checks n) m → InTurn (suc n) checks m
      turn x = elim ((first_append (checks_below n checks) (checks n) m).0 x) [
        | inl y ↦ let r = h.0 y in record { turn = r.turn; below = omega (arith, r.below); before = r.before; gives = r.gives }
        | inr y ↦ record { turn = n; below = omega arith; before = (none_turns n).0 y.0; gives = y.1 }
      ]

      back : InTurn (suc n) checks m → First (checks_below n checks ++ checks n) m
      back r = (first_append (checks_below n checks) (checks n) m).1 (elim (dec_lt r.turn n) [
        | yes l ↦ inl (h.1 (record { turn = r.turn; below = l; before = r.before; gives = r.gives }))
        | no l ↦
            let e : r.turn ≡ n = omega (arith, r.below) in
            inr ((none_turns n).1 (λ k l. r.before k (omega arith)), subst (λ (k : ℕ). First (checks k) m) e r.gives)
      ])

  pub first_turns : (n m : ℕ) → First (checks_below n checks) m ↔ InTurn n checks m
  unfolding checks_below
  first_turns zero m = (λ x. absurd (first_some [] m x refl), λ x. absurd (omega (arith, x.below)))
  first_turns (suc n) m = further n m (first_turns n m)

-- checks, then more in turn, then others
pub nested : (first : List Check) (checks : ℕ → List Check) (n : ℕ) (last : List Check) (m : ℕ) → First (first ++ (checks_below n checks ++ last)) m
    ↔ (First first m ⊎ (None first × (InTurn n checks m ⊎ (((k : ℕ) → k < n → None (checks k)) × First last m))))
nested first checks n last m = (
  λ x. elim ((first_append first (checks_below n checks ++ last) m).0 x) [
    | inl y ↦ inl y
    | inr y ↦ inr (
      y.0,
      elim ((first_append (checks_below n checks) last m).0 y.1) [
        | inl z ↦ inl ((first_turns checks n m).0 z)
        | inr z ↦ inr ((none_turns checks n).0 z.0, z.1)
      ],
    )
  ],
  λ x. (first_append first (checks_below n checks ++ last) m).1 (elim x [
    | inl y ↦ inl y
    | inr y ↦ inr (
      y.0,
      (first_append (checks_below n checks) last m).1 (elim y.1 [
        | inl z ↦ inl ((first_turns checks n m).1 z)
        | inr z ↦ inr ((none_turns checks n).1 z.0, z.1)
      ]),
    )
  ]),
)

-- ---- what calls tell that accept begins with 0

pub yes_no_accepts : (b : Bool) → Accepts (matching_told (Ok b))
yes_no_accepts true = (1 ∷ [], refl)
yes_no_accepts false = (0 ∷ [], refl)

pub place_accepts : (at n : ℕ) → Accepts (place_in at n)
place_accepts at n = by (ltb at n)
  where
    by : (b : Bool) → Accepts (cond b (0 ∷ at ∷ []) (0 ∷ []))
    by true = (at ∷ [], refl)
    by false = ([], refl)

pub kind_accepts : (o : Option Entry) → Accepts (kind_of o)
kind_accepts none = ([], refl)
kind_accepts (some e) = (e.kind ∷ e.number ∷ [], refl)

pub plain_accepts : (o : Option Entry) → Accepts (plain_of o)
plain_accepts none = ([], refl)
plain_accepts (some e) = by e.kind
  where
    by : (k : ℕ) → Accepts (plain_of (some (record { property = e.property; kind = k; number = e.number })))
    by zero = (0 ∷ e.number ∷ [], refl)
    by (suc zero) = (1 ∷ e.number ∷ [], refl)
    by (suc (suc k)) = ([], refl)

pub resource_accepts : (o : Option Entry) → Accepts (resource_of o)
resource_accepts none = ([], refl)
resource_accepts (some e) = by (eqb e.kind 1)
  where
    by : (b : Bool) → Accepts (cond b (0 ∷ e.number ∷ []) (0 ∷ []))
    by true = (e.number ∷ [], refl)
    by false = ([], refl)

pub entry_accepts : (o : Option Entry) → Accepts (entry_numbers o)
entry_accepts none = ([], refl)
entry_accepts (some e) = (e.property ∷ e.kind ∷ e.number ∷ [], refl)

pub combinator_accepts : (o : Option (Part Tags)) → Accepts (combinator_numbers o)
combinator_accepts none = ([], refl)
combinator_accepts (some p) = by p.comb
  where
    by : (c : Comb) → Accepts (combinator_numbers (some (record { comb = c; step = p.step })))
    by child = (0 ∷ [], refl)
    by descendant = (1 ∷ [], refl)

-- what is there, or 0 alone
pub there_accepts : (b : Bool) (told : List ℕ) → Accepts told → Accepts (cond b told (0 ∷ []))
there_accepts true told a = a
there_accepts false told a = ([], refl)

pub winner_accepts : (w : List ℕ) (o : Option Place) → Accepts (winner_told w o)
winner_accepts w none = (0 ∷ [], refl)
winner_accepts w (some (style d)) = (_, refl)
winner_accepts w (some (rule r)) = (_, refl)

-- a diagnosis is no refusal
abbrev Judged : Diagnosis → Type 0
Judged d = Accepts (diagnosis_told (Ok d))

either : (b : Bool) (x y : Diagnosis) → Judged x → Judged y → Judged (cond b x y)
either true x y p q = p
either false x y p q = q

try_judged : (f : ℕ → Diagnosis) → ((j : ℕ) → Judged (f j)) → (from n : ℕ) (last : Diagnosis) → Judged last → Judged (tried last (spread f from n))
unfolding tried some_fit other_errors last_or
try_judged f h from zero last q = q
try_judged f h from (suc n) last q =
    subst Judged (sym (tried_one last (f from) (spread f (suc from) n)))
    (either (is_fit (f from)) Fits _ (_, refl) (try_judged f h (suc from) n _ (either (is_mismatch (f from)) last (f from) q (h from))))

module _ (hit : ℕ → ℕ → Bool) (far : ℕ → Bool) (m : ℕ) where
  at_judged : (k i : ℕ) (d : Diagnosis) → Judged d → Judged (cond (ltb i m) (cond (hit k i) d (Err (mismatch.StepMismatch k i))) (Err (mismatch.MissingSubject k i)))
  at_judged k i d p = either (ltb i m) _ _ (either (hit k i) d (Err (mismatch.StepMismatch k i)) p (_, refl)) (_, refl)

  judge_judged : (after k i : ℕ) → Judged (judge hit far m after k i)
  unfolding judge
  judge_judged zero k i = at_judged k i _ (either (ltb (i + 1) m) (Err (mismatch.TrailingSubjects (k + 1) (i + 1))) Fits (_, refl) (_, refl))
  judge_judged (suc after) k i =
      at_judged k i _ (either (far k) _ _ (try_judged (λ j. judge hit far m after (k + 1) j) (judge_judged after (k + 1)) (i + 1) (m - (i + 1)) (Err (mismatch.MissingDescendant (k + 1) (i + 1))) (_, refl)) (judge_judged after (k + 1) (i + 1)))

pub diagnosis_accepts : (steps : List ℕ) (n : ℕ) (combinators path : List ℕ) (m : ℕ) → Accepts (diagnosis_told (Ok (diagnose steps n combinators path m)))
unfolding diagnose
diagnosis_accepts steps zero combinators path m = either (eqb m 0) Fits (Err mismatch.EmptySelectorWithNonEmptyPath) (_, refl) (_, refl)
diagnosis_accepts steps (suc n) combinators path m = judge_judged _ _ m n 0 0
