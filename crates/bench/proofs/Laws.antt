-- The answers passed on, as laws. Assumes nothing.
use mathlib.Core.Path.{◌≡◌, ap, subst, ◌∙◌}
use mathlib.Core.Bool.{Bool, true, false, cond}
use mathlib.Core.List.{List, [], ◌∷◌}
use Prim.Native.Nat.{ℕ}
use lib.Dec.{eqb}
use lib.ListN.{length}
use lib.Seq.{sets}
use borrow.Author.Tests.{ne_eqb}
use Rattle.std.specs.Prelude.{Result, Ok, Err, Option, Some, None, ⊤}
use Rattle.lent.specs.declared.Refusal.{Refusal}
use Rattle.matcher.specs.declared.MatchState.{MatchState}
use Rattle.typed.specs.Typed.{inputs_row}
use Rattle.typed.specs.declared.SelectorInputs.{SelectorInputs}
use Rattle.builder.specs.Answers.{Push}
use Rattle.table.specs.Tables.{Table, table}
use Rattle.table.specs.Entering.{lacks_room, child_of, entered}
use Rattle.table.specs.Calls.{build_verdict, enter_verdict}
use Rattle.lent.proofs.Answers.{accepted, refused}
use Rattle.building.specs.Answers.{Build}
use Rattle.entering.specs.Answers as answers
use Rattle.entering.proofs.Answers.{entered_is}
use Rattle.bench.specs.Numbers.{REFUSED, done_number, enter_number, settled_number, Outcome, Builds, Enters, EntersHeld, Copied}

module _ {M : Type 0} (v n : ℕ) (before acc after : M) (m : after ≡ cond (eqb v 0) acc before) (r : ℕ) where
  pub outcome_yes : v ≡ 0 → r ≡ n → Outcome v n before acc r after
  outcome_yes z e = record { answer = rw z e; memory = m }

  pub outcome_no : (v ≡ 0 → ⊥) → r ≡ REFUSED → Outcome v n before acc r after
  outcome_no h e = record { answer = rw (ne_eqb v 0 h) e; memory = m }

pub push_is : (v : ℕ) (before pushed : List ℕ) (p : Result ⊤ Refusal) (after : List ℕ) (r : ℕ) → Push v before pushed p after → r ≡ done_number p → Outcome v 0 before pushed r after
push_is v before pushed (Ok d) after r u e = outcome_yes v 0 before pushed after u.memory r (accepted v [] _ u.answer) e
push_is v before pushed (Err x) after r u e = outcome_no v 0 before pushed after u.memory r (refused v x [] u.answer) e

module _ (w : List ℕ) where
  build_is : (stamp : ℕ) (t : Table) (b : Result ⊤ Refusal) (t' : Table) (r : ℕ) → Build w stamp 0 t b t' → r ≡ done_number b → Builds w stamp t r t'
  build_is stamp t (Ok d) t' r u e = outcome_yes _ 0 t _ t' u.memory r (accepted (build_verdict w 0 t.states t.cursors) [] _ u.answer) e
  build_is stamp t (Err x) t' r u e = outcome_no _ 0 t _ t' u.memory r (refused (build_verdict w 0 t.states t.cursors) x [] u.answer) e

  -- whatever stands in what the call is not lent
  pub build_all : (stamp : ℕ) (h s c h' s' c' : List ℕ) (b : Result ⊤ Refusal) (r : ℕ) → ((m t : List ℕ) → Build w stamp 0 (table h s c m t) b (table h' s' c' m t)) → r ≡ done_number b
      → (m t : List ℕ) → Builds w stamp (table h s c m t) r (table h' s' c' m t)
  build_all stamp h s c h' s' c' b r u e m t = build_is stamp (table h s c m t) b (table h' s' c' m t) r (u m t) e

  enter_row : (t : Table) (number stamp : ℕ) (row : List ℕ) (a : Result MatchState Refusal) (t' : Table) (r : ℕ) → answers.Enter w t number stamp row a t' → r ≡ enter_number a → Enters w t number stamp row r t'
  enter_row t number stamp row (Ok s) t' r u e = let (z, n, _, _) = entered_is u in outcome_yes _ (child_of w t number row) t _ t' u.memory r z (e ∙ n)
  enter_row t number stamp row (Err x) t' r u e =
      outcome_no _ (child_of w t number row) t _ t' u.memory r (refused (enter_verdict w t number stamp row) x (child_of w t number row ∷ stamp ∷ []) u.answer) e

  pub enter_is : (t : Table) (number stamp : ℕ) (x y : SelectorInputs) (a : Result MatchState Refusal) (t' : Table) (r : ℕ) → x ≡ y → answers.Enter w t number stamp (inputs_row x) a t' → r ≡ enter_number a
      → Enters w t number stamp (inputs_row y) r t'
  enter_is t number stamp x y a t' r f u e = subst (λ (z : SelectorInputs). Enters w t number stamp (inputs_row z) r t') f (enter_row t number stamp (inputs_row x) a t' r u e)

  pub held_is : (t : Table) (number : ℕ) (row : List ℕ) (a : Option ℕ) (t' : Table) (r : ℕ) → answers.Enters w t number row a t' → r ≡ settled_number a → EntersHeld w t number row r t'
  held_is t number row a t' r u e = by (lacks_room w t number row) (child_of w t number row) (entered w t number row) u.answer u.memory
    where
      by : (b : Bool) (child : ℕ) (acc : Table) → a ≡ cond b None (Some child) → t' ≡ cond b t acc → Outcome (cond b 5 0) child t acc r t'
      by true child acc f m = record { answer = e ∙ ap settled_number f; memory = m }
      by false child acc f m = record { answer = e ∙ ap settled_number f; memory = m }

pub copied_is : (list out part after : List ℕ) → part ≡ list → after ≡ sets out 0 part → Copied list out (length part) after
copied_is list out part after e f = record { count = ap length e; whole = f ∙ ap (sets out 0) e }
