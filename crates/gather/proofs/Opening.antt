-- Laws of what is open, and of a record that is refused or accepted. Assumes nothing.
use mathlib.Core.Path.{◌≡◌, refl, ◌∙◌}
use mathlib.Core.Bool.{false}
use Prim.Native.Nat.{ℕ, ◌*◌, ◌≤◌}
use native.Mathlib.Omega.{arith}
use lib.ListN.{length, take}
use lib.Seq.{length-take-le}
use Rattle.std.specs.Prelude.{Result, Ok, Err}
use Rattle.lent.specs.Refusals.{number_of}
use Rattle.lent.specs.declared.Refusal.{Refusal}
use Rattle.lent.proofs.Refusals.{refusal_number}
use Rattle.given.specs.Given.{Group}
use Rattle.gather.specs.declared.Filled.{Filled}
use Rattle.gather.specs.declared.OpenKind.{OpenKind}
use Rattle.gather.specs.declared.OpenKind.TheVariants.{Nothing, Direct, Rules}
use Rattle.gather.specs.Opened.{Open, nothing, direct, group, rule_count, entries_given}
use Rattle.gather.specs.Making.{is_group}
use Rattle.gather.specs.Memory.{filled_of, open_in, open_of, kind_in, origin_in, Sound, offset_of, Adds}
use Rattle.gather.proofs.Filling.{steps_few}

-- ---- what is open

-- one of the three
pub kinds : {B : Type 0} (o : OpenKind) → (kind_in o ≡ 0 → B) → (kind_in o ≡ 1 → B) → (kind_in o ≡ 2 → B) → B
kinds Nothing a b c = a refl
kinds (Direct origin) a b c = b refl
kinds (Rules origin) a b c = c refl

-- a kind that a `match` has ruled out
pub not_direct : (o : OpenKind) → ((origin : ℕ) → o ≡ Direct origin → ⊥) → kind_in o ≡ 1 → ⊥
not_direct Nothing n e = absurd (omega arith)
not_direct (Direct origin) n e = n origin refl
not_direct (Rules origin) n e = absurd (omega arith)

pub not_rules : (o : OpenKind) → ((origin : ℕ) → o ≡ Rules origin → ⊥) → kind_in o ≡ 2 → ⊥
not_rules Nothing n e = absurd (omega arith)
not_rules (Direct origin) n e = absurd (omega arith)
not_rules (Rules origin) n e = n origin refl

nothing_in : (o : OpenKind) → kind_in o ≡ 0 → (g : Group) → open_in o g ≡ nothing
nothing_in Nothing e g = refl
nothing_in (Direct origin) e g = absurd (omega arith)
nothing_in (Rules origin) e g = absurd (omega arith)

direct_in : (o : OpenKind) → kind_in o ≡ 1 → (g : Group) → open_in o g ≡ direct (origin_in o) g
direct_in Nothing e g = absurd (omega arith)
direct_in (Direct origin) e g = refl
direct_in (Rules origin) e g = absurd (omega arith)

group_in : (o : OpenKind) → kind_in o ≡ 2 → (g : Group) → open_in o g ≡ group (origin_in o) g
group_in Nothing e g = absurd (omega arith)
group_in (Direct origin) e g = absurd (omega arith)
group_in (Rules origin) e g = refl

module _ (f : Filled) (m : Group) where
  pub open_nothing : kind_in f.opening ≡ 0 → open_of f m ≡ nothing
  unfolding open_of
  open_nothing e = nothing_in f.opening e (filled_of f m)

  pub open_direct : kind_in f.opening ≡ 1 → open_of f m ≡ direct (origin_in f.opening) (filled_of f m)
  unfolding open_of
  open_direct e = direct_in f.opening e (filled_of f m)

  pub open_group : kind_in f.opening ≡ 2 → open_of f m ≡ group (origin_in f.opening) (filled_of f m)
  unfolding open_of
  open_group e = group_in f.opening e (filled_of f m)

-- ---- refused, and accepted

pub adds_refused : {f : Filled} {m : Group} {after : Open} {fault v : ℕ} {r : Result Filled Refusal} {e : Refusal}
    → Sound f m → v ≡ fault → r ≡ Err e → number_of e ≡ v → offset_of (Err e) ≡ 0 → Adds fault f m after r m
adds_refused {f} {m} {after} {fault} {v} {r} {e} s q t n z = rw t (record {
  answer = n ∙ q;
  offset = z;
  opens = λ y. absurd (refusal_number e y);
  keeps = λ _. (refl, refl);
  sound = s;
})

pub adds_accepted : {f₀ f : Filled} {m₀ m : Group} {after : Open} {fault : ℕ} {r : Result Filled Refusal}
    → Sound f m → 0 ≡ fault → open_of f m ≡ after → r ≡ Ok f → Adds fault f₀ m₀ after r m
adds_accepted {f₀} {f} {m₀} {m} {after} {fault} {r} s q o t = rw t (record {
  answer = q;
  offset = refl;
  opens = λ _. o;
  keeps = λ z. absurd (z refl);
  sound = s;
})

-- ---- how much is open

module _ (f : Filled) (m : Group) (s : Sound f m) where
  pub filled_rules : length (take (3 * f.rules) m.rules) ≡ 3 * f.rules
  filled_rules = length-take-le (3 * f.rules) m.rules (omega (arith, s.room.rules, s.rules))

  pub rules_counted : rule_count (filled_of f m) ≡ f.rules
  rules_counted = rw filled_rules (omega arith)

  pub entries_counted : entries_given (filled_of f m) ≡ f.entries
  entries_counted = length-take-le f.entries m.properties (omega (arith, s.room.properties, s.entries))

  pub not_group : (kind_in f.opening ≡ 2 → ⊥) → is_group (open_of f m) ≡ false
  not_group h = kinds f.opening (λ e. rw (open_nothing f m e)) (λ e. rw (open_direct f m e)) (λ e. absurd (h e))

-- ---- the open group's steps

module _ (f : Filled) (m : Group) (s : Sound f m) where
  pub steps_most : f.steps ≤ 2048
  steps_most = omega (arith, s.rules, steps_few m.rules f.rules f.steps s.steps s.last_steps)

  pub steps_room : 22 * f.steps ≤ length m.steps
  steps_room = omega (arith, s.room.steps, steps_most)
