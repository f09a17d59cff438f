-- A check answers the refusal of the number that it finds: there is one of each number but 10, and no check finds 10, which is of house records. Proofs for
-- Determined.antt. Assumes nothing.
use mathlib.Core.Path.{◌≡◌, refl, sym, ap, ◌∙◌}
use mathlib.Core.Bool.{Bool, true, false, not, ◌&&◌}
use mathlib.Core.List.{List, [], ◌∷◌, ◌++◌}
use Prim.Native.Nat.{ℕ, zero, suc}
use native.Mathlib.Omega.{arith}
use lib.Dec.{eqb}
use borrow.Author.Tests.{eq-eqb, not-true}
use Rattle.std.specs.Prelude.{Result, Ok, Err, ⊤}
use Rattle.theory.proofs.Lists.{and_left, and_right}
use Rattle.lent.specs.declared.Refusal.{Refusal}
use Rattle.lent.specs.declared.Refusal.TheVariants.{NotAscending, OverSize, CombinatorCount, NotAState, NoRoom, CodeOutOfRange, NoSourceIndex, BufferTooShort, NoSuchRule, BadRecord, BrokenShape}
use Rattle.promises.specs.Determined.{plain}
use Rattle.lent.specs.Refusals.{Check, first_of, checks_below, answered, done_told, verdict_of}
use Rattle.lent.proofs.Refusals.{first_here, first_next, done_distinct}

pub plain_append : (a b : List Check) → plain a ≡ true → plain b ≡ true → plain (a ++ b) ≡ true
plain_append [] b p q = q
plain_append (c ∷ a) b p q = rw (and_left (not (eqb c.number 10)) _ p) (plain_append a b (and_right (not (eqb c.number 10)) _ p) q)

pub plain_below : (checks : ℕ → List Check) → ((k : ℕ) → plain (checks k) ≡ true) → (n : ℕ) → plain (checks_below n checks) ≡ true
unfolding checks_below
plain_below checks p zero = refl
plain_below checks p (suc n) = plain_append (checks_below n checks) (checks n) (plain_below checks p n) (p n)

never_ten : (l : List Check) → plain l ≡ true → first_of l ≡ 10 → ⊥
never_ten [] p e = let z : ◌≡◌ {A = ℕ} 0 10 = (unfold first_of in e) in omega arith
never_ten (c ∷ l) p e = by c.fails refl (never_ten l (and_right (not (eqb c.number 10)) _ p))
  where
    by : (t : Bool) → c.fails ≡ t → (first_of l ≡ 10 → ⊥) → ⊥
    by true f r =
        let z : c.number ≡ 10 = sym (first_here c l f) ∙ e in
        let y : eqb c.number 10 ≡ false = not-true (eqb c.number 10) (and_left (not (eqb c.number 10)) _ p) in
        let x : ◌≡◌ {A = Bool} true false = sym (eq-eqb c.number 10 z) ∙ y in
        cc
    by false f r = r (sym (first_next c l f) ∙ e)

-- what a check tells is its number
check_told : (r : Result ⊤ Refusal) → (verdict_of r ≡ 10 → ⊥) → done_told r ≡ answered (verdict_of r) (0 ∷ [])
check_told (Ok u) h = refl
check_told (Err NotAscending) h = refl
check_told (Err OverSize) h = refl
check_told (Err CombinatorCount) h = refl
check_told (Err NotAState) h = refl
check_told (Err NoRoom) h = refl
check_told (Err CodeOutOfRange) h = refl
check_told (Err NoSourceIndex) h = refl
check_told (Err BufferTooShort) h = refl
check_told (Err NoSuchRule) h = refl
check_told (Err (BadRecord at)) h = absurd (h refl)
check_told (Err BrokenShape) h = refl

pub checks_alike : (l : List Check) → plain l ≡ true → (a b : Result ⊤ Refusal) → verdict_of a ≡ first_of l → verdict_of b ≡ first_of l → a ≡ b
checks_alike l p a b e f =
    done_distinct a b (
    check_told a (λ z. never_ten l p (sym e ∙ z))
    ∙ ap (λ (n : ℕ). answered n (0 ∷ [])) (e ∙ sym f)
    ∙ sym (check_told b (λ z. never_ten l p (sym f ∙ z)))
    )
