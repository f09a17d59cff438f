-- Laws of a rule that is added to a group: one for each way through the code. Assumes nothing.
use mathlib.Core.Path.{◌≡◌, refl, ◌∙◌}
use mathlib.Core.Bool.{Bool, true, false, not}
use mathlib.Core.List.{List, [], ◌∷◌, ◌++◌}
use Prim.Native.Nat.{ℕ, ◌+◌, ◌*◌, ◌≤◌, ◌<◌}
use native.Mathlib.Omega.{arith}
use lib.ListN.{take}
use lib.Seq.{sets, length-sets}
use lib.Dec.{ltb}
use borrow.Author.Tests.{lt-ltb, le-ltb}
use Rattle.std.specs.Prelude.{Result, Ok, Err}
use Rattle.lent.specs.declared.Refusal.{Refusal}
use Rattle.lent.specs.declared.Refusal.TheVariants.{OverSize, BadRecord}
use Rattle.lent.specs.Refusals.{check, first_of}
use Rattle.lent.proofs.Refusals.{first_hit, first_pass, first_end}
use Rattle.sheet.specs.Layout.{rules_in}
use Rattle.given.specs.Given.{Group, given}
use Rattle.gather.specs.declared.Filled.{Filled}
use Rattle.gather.specs.Opened.{ids_given, last_of, with_rule}
use Rattle.gather.specs.Making.{is_group, in_group, rule_faults}
use Rattle.gather.specs.Memory.{filled_of, open_of, Sound, Adds, kind_in}
use Rattle.gather.proofs.Filling.{rules_grown, last_new, steps_few}
use Rattle.gather.proofs.Opening.{open_group, adds_refused, adds_accepted, rules_counted, not_group}

module _ (w : List ℕ) (f : Filled) (r s c p k n : List ℕ) (h : Sound f (given r s c p k n)) (t : Result Filled Refusal) where
  abbrev lent : Group
  lent = given r s c p k n

  pub rule_outside : (kind_in f.opening ≡ 2 → ⊥) → t ≡ Err (BadRecord 0)
      → Adds (first_of (rule_faults w (open_of f lent))) f lent (in_group with_rule (open_of f lent)) t lent
  rule_outside g e = adds_refused h (first_hit 10 true (not (is_group (open_of f lent))) _ (rw (not_group f lent h g)) refl) e refl refl

  module _ (g : kind_in f.opening ≡ 2) where
    rule_limit : (b : Bool) → ltb 256 (rules_in w + f.rules + 1) ≡ b → (v : ℕ) → v ≡ first_of (check 2 b ∷ []) → v ≡ first_of (rule_faults w (open_of f lent))
    rule_limit b e v q = rw (open_group f lent g) (first_pass 10 v false (not true) _ refl refl (rw (rules_counted f lent h, e) q))

    -- the sheet's count of rules, as it was read
    pub rule_over : (a b : ℕ) → a ≡ b → b ≡ rules_in w → 256 ≤ a + f.rules → t ≡ Err OverSize
        → Adds (first_of (rule_faults w (open_of f lent))) f lent (in_group with_rule (open_of f lent)) t lent
    rule_over a b i j l e = adds_refused h (rule_limit true (lt-ltb 256 (rules_in w + f.rules + 1) (omega arith)) 2 (first_hit 2 true true [] refl refl)) e refl refl

    abbrev grown : Filled
    grown = record { opening = f.opening; rules = f.rules + 1; steps = f.steps; combinators = f.combinators; entries = f.entries; ids = f.ids }

    abbrev lent' : Group
    lent' = given (sets r (3 * f.rules) (0 ∷ 0 ∷ 0 ∷ [])) s c p k n

    module _ (l : rules_in w + f.rules < 256) where
      filled_more : take (3 * (f.rules + 1)) (sets r (3 * f.rules) (0 ∷ 0 ∷ 0 ∷ [])) ≡ take (3 * f.rules) r ++ 0 ∷ 0 ∷ 0 ∷ []
      filled_more = rules_grown r f.rules (omega (arith, h.room.rules))

      last_zero : last_of (filled_of grown lent') 0 ≡ 0
      last_zero = rw filled_more (last_new (take (3 * f.rules) r) 0)

      last_one : last_of (filled_of grown lent') 1 ≡ 0
      last_one = rw filled_more (last_new (take (3 * f.rules) r) 1)

      rule_sound : Sound grown lent'
      unfolding ids_given
      rule_sound = record {
        room = record {
          rules = length-sets r (3 * f.rules) (0 ∷ 0 ∷ 0 ∷ []) ∙ h.room.rules;
          steps = h.room.steps;
          combinators = h.room.combinators;
          properties = h.room.properties;
          kinds = h.room.kinds;
          numbers = h.room.numbers;
        };
        rules = omega arith;
        steps = omega (arith, last_zero, steps_few r f.rules f.steps h.steps h.last_steps);
        last_steps = omega (arith, last_zero);
        last_within = omega (arith, last_zero);
        last_combinators = omega (arith, last_zero, last_one);
        combinators = h.combinators;
        entries = h.entries;
        rows = h.rows;
        ids = h.ids;
        ids_fit_lem = h.ids_fit_lem;
      }

      rule_opens : open_of grown lent' ≡ in_group with_rule (open_of f lent)
      unfolding with_rule
      rule_opens = rw (open_group grown lent' g, open_group f lent g, filled_more)

      added : (r' : List ℕ) → r' ≡ sets r (3 * f.rules) (0 ∷ 0 ∷ 0 ∷ []) → t ≡ Ok grown
          → Adds (first_of (rule_faults w (open_of f lent))) f lent (in_group with_rule (open_of f lent)) t (given r' s c p k n)
      added r' q e =
          rw q (adds_accepted rule_sound (rule_limit false (le-ltb 256 (rules_in w + f.rules + 1) (omega arith)) 0 (first_pass 2 0 false false [] refl refl first_end)) rule_opens e)

    pub rule_added : (a b : ℕ) → a ≡ b → b ≡ rules_in w → a + f.rules < 256 → (r' : List ℕ) → r' ≡ sets r (3 * f.rules) (0 ∷ 0 ∷ 0 ∷ []) → t ≡ Ok grown
        → Adds (first_of (rule_faults w (open_of f lent))) f lent (in_group with_rule (open_of f lent)) t (given r' s c p k n)
    rule_added a b i j l r' q e = added (omega arith) r' q e
