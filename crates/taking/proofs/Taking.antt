-- Laws of any record, by its kind. Assumes nothing.
use mathlib.Core.Path.{◌≡◌, refl, ◌∙◌}
use mathlib.Core.Bool.{Bool, true, false, cond}
use mathlib.Core.List.{List}
use Prim.Native.Nat.{ℕ}
use lib.Dec.{eqb}
use borrow.Author.Tests.{ne_eqb}
use Rattle.std.specs.Prelude.{Result, Err}
use Rattle.lent.specs.Refusals.{number_of, first_of}
use Rattle.lent.specs.declared.Refusal.{Refusal}
use Rattle.sheet.specs.Shape.{sheet_shape}
use Rattle.given.specs.Given.{Group}
use Rattle.records.specs.declared.Record.{Record}
use Rattle.gather.specs.declared.Filled.{Filled}
use Rattle.gather.specs.Opened.{Open, nothing, direct, group, none, with_rule, with_step, with_requirement, with_entry}
use Rattle.gather.specs.Making.{direct_faults, group_faults, rule_faults, step_faults, requirement_faults, entry_faults, closes, closing_fault, in_group, added_fault, added_to, making_verdict, sheet_after, open_after}
use Rattle.gather.specs.Memory.{open_of, Sound, offset_of, Adds, Closes, Takes}
use Rattle.gather.proofs.Opening.{adds_refused}

-- ---- kinds 4 to 7

module _ (w : List ℕ) (f : Filled) (m : Group) (item : Record) (r : Result Filled Refusal) (m' : Group) where
  pub adds_rule : item.kind ≡ 4 → Adds (first_of (rule_faults w (open_of f m))) f m (in_group with_rule (open_of f m)) r m'
      → Adds (added_fault w (open_of f m) item) f m (added_to (open_of f m) item) r m'
  unfolding added_fault added_to
  adds_rule k a = rw k a

  pub adds_step : item.kind ≡ 5 → Adds (first_of (step_faults (open_of f m) item.first)) f m (in_group (with_step item.first) (open_of f m)) r m'
      → Adds (added_fault w (open_of f m) item) f m (added_to (open_of f m) item) r m'
  unfolding added_fault added_to
  adds_step k a = rw k a

  pub adds_requirement : item.kind ≡ 6
      → Adds (first_of (requirement_faults w (open_of f m) item.first item.second)) f m (in_group (with_requirement item.first item.second) (open_of f m)) r m'
      → Adds (added_fault w (open_of f m) item) f m (added_to (open_of f m) item) r m'
  unfolding added_fault added_to
  adds_requirement k a = rw k a

  pub adds_entry : item.kind ≡ 7 → Adds (first_of (entry_faults w (open_of f m) item.second)) f m (with_entry item.first item.second item.third (open_of f m)) r m'
      → Adds (added_fault w (open_of f m) item) f m (added_to (open_of f m) item) r m'
  unfolding added_fault added_to
  adds_entry k a = rw k a

-- any other is misplaced
pub adds_misplaced : (w : List ℕ) (f : Filled) (m : Group) (item : Record) (r : Result Filled Refusal) {x : Refusal} → Sound f m
    → (item.kind ≡ 4 → ⊥) → (item.kind ≡ 5 → ⊥) → (item.kind ≡ 6 → ⊥) → (item.kind ≡ 7 → ⊥)
    → r ≡ Err x → number_of x ≡ 10 → offset_of (Err x) ≡ 0 → Adds (added_fault w (open_of f m) item) f m (added_to (open_of f m) item) r m
unfolding added_fault added_to
adds_misplaced w f m item r s a b c d e n z =
    rw (ne_eqb item.kind 4 a, ne_eqb item.kind 5 b, ne_eqb item.kind 6 c, ne_eqb item.kind 7 d) (adds_refused s refl e n z)

-- ---- any kind

module _ (w : List ℕ) (f : Filled) (m : Group) (item : Record) (r : Result Filled Refusal) (x : List ℕ) where
  -- of a kind that closes: its own fault, and what it opens
  takes_closing : {fault : ℕ} {after : Open} → closes item ≡ true → fault ≡ closing_fault w (open_of f m) item → after ≡ open_after (open_of f m) item
      → Closes fault w f m after r x → Takes w f m item r x m
  unfolding making_verdict sheet_after
  takes_closing k e o c = record {
    answer = c.answer ∙ rw (k, e);
    offset = c.offset;
    sheet = c.sheet ∙ rw (k, e);
    opens = λ z. c.opens z ∙ o;
    keeps = λ n. (c.keeps n, refl);
    sound = c.sound;
    shape = c.shape;
  }

  pub takes_direct : item.kind ≡ 2 → Closes (first_of (direct_faults w (open_of f m) item.first)) w f m (direct item.first none) r x → Takes w f m item r x m
  unfolding open_after
  takes_direct k = takes_closing (rw k) (rw k) (rw k)

  pub takes_group : item.kind ≡ 3 → Closes (first_of (group_faults item.first)) w f m (group item.first none) r x → Takes w f m item r x m
  unfolding open_after
  takes_group k = takes_closing (rw k) (rw k) (rw k)

  pub takes_end : item.kind ≡ 8 → Closes 0 w f m nothing r x → Takes w f m item r x m
  unfolding open_after
  takes_end k = takes_closing (rw k) (rw k) (rw k)

cond_same : {A : Type 0} (b : Bool) (a : A) → a ≡ cond b a a
cond_same true a = refl
cond_same false a = refl

module _ (w : List ℕ) (f : Filled) (m : Group) (item : Record) (r : Result Filled Refusal) (m' : Group) where
  pub takes_added : (item.kind ≡ 2 → ⊥) → (item.kind ≡ 3 → ⊥) → (item.kind ≡ 8 → ⊥) → sheet_shape w ≡ true
      → Adds (added_fault w (open_of f m) item) f m (added_to (open_of f m) item) r m' → Takes w f m item r w m'
  unfolding making_verdict sheet_after open_after
  takes_added a b c z t = record {
    answer = rw (ne_eqb item.kind 2 a, ne_eqb item.kind 3 b, ne_eqb item.kind 8 c) t.answer;
    offset = t.offset;
    sheet = rw (ne_eqb item.kind 2 a, ne_eqb item.kind 3 b, ne_eqb item.kind 8 c) (cond_same (eqb (added_fault w (open_of f m) item) 0) w);
    opens = rw (ne_eqb item.kind 2 a, ne_eqb item.kind 3 b, ne_eqb item.kind 8 c) t.opens;
    keeps = t.keeps;
    sound = t.sound;
    shape = z;
  }
