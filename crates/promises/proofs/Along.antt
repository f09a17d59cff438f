-- Entering subject after subject, each under the child before: where that ends is reached by their path, also by the calls' contracts. Assumes nothing.
use mathlib.Core.Path.{◌≡◌, refl, sym, ap, ◌∙◌, subst}
use mathlib.Core.Logic.{inl, inr}
use mathlib.Core.List.Memᴰ
use mathlib.Core.List.{List, [], ◌∷◌, ◌++◌, map, map-append, append-nil}
use Prim.Native.Nat.{ℕ}
use lib.ListN.{length, get_or, drop, replicate}
use lib.Seq.{append_snoc}
use Rattle.std.specs.Prelude.{Ok}
use Rattle.theory.specs.Lists.{◌∈◌}
use Rattle.theory.proofs.Lists.{append_in}
use Rattle.selector.specs.Tags.{Tags}
use Rattle.typed.specs.declared.SelectorInputs.{SelectorInputs}
use Rattle.typed.specs.Typed.{inputs_tags, inputs_row}
use Rattle.table.specs.Tables.{Table}
use Rattle.table.specs.Entering as Memory
use Rattle.table.specs.Entering.{entered, child_of}
use Rattle.matcher.specs.declared.MatchState.{MatchState}
use Rattle.building.specs.Answers.{Build}
use Rattle.entering.specs.Answers.{Enter}
use Rattle.covered.specs.Covered.{Builds, Enters, Reached, After}
use Rattle.covered.specs.Covered.Reached.{root, child, later}
use Rattle.covered.specs.Covered.After.{more}
use Rattle.covered.specs.Rooms.{Proper, verdicts_along, table_along, number_along}
use Rattle.covered.proofs.Accepted.{enter_accepted}
use Rattle.covered.proofs.Promises.{equal_proper}
use Rattle.promises.specs.Called.{Called}
use Rattle.promises.specs.Called.Called.{built, entered as calls-entered}

map_in : {A B : Type 0} (f : A → B) (l : List A) (x : A) → x ∈ l → f x ∈ map f l
map_in f [] x m = absurd (Memᴰ.not-nil m)
map_in f (a ∷ l) x m = elim (Memᴰ.cases_cons m) [ inl e ↦ Memᴰ.head (ap f e) | inr i ↦ Memᴰ.tail (map_in f l x i) ]

module _ {w : List ℕ} where
  pub along_reached : (xs : List SelectorInputs) {t : Table} {number stamp : ℕ} {path : List Tags} → Reached w t number stamp path → verdicts_along w t number stamp xs ≡ replicate (length xs) 0
      → Reached w (table_along w t number xs) (number_along w t number xs) stamp (path ++ map inputs_tags xs)
  unfolding table_along number_along verdicts_along
  along_reached [] {path = path} r e = rw (append-nil path) r
  along_reached (x ∷ xs) {t = t} {number = number} {stamp = stamp} {path = path} r e =
      let v : Enters w t number stamp x = ap (λ (l : List ℕ). get_or l 0 0) e in
      let step = along_reached xs (child r x v) (ap (drop 1) e) in
      subst (Reached w (table_along w (entered w t number (inputs_row x)) (child_of w t number (inputs_row x)) xs) (number_along w (entered w t number (inputs_row x)) (child_of w t number (inputs_row x)) xs) stamp) (append_snoc path (inputs_tags x) (map inputs_tags xs)) step

  -- and the table after is one after accepted enterings
  pub along_after : (xs : List SelectorInputs) {z t : Table} (number stamp : ℕ) → After w z t → verdicts_along w t number stamp xs ≡ replicate (length xs) 0 → After w z (table_along w t number xs)
  unfolding table_along verdicts_along
  along_after [] number stamp a e = a
  along_after (x ∷ xs) {t = t} number stamp a e =
      let v : Enters w t number stamp x = ap (λ (l : List ℕ). get_or l 0 0) e in along_after xs (child_of w t number (inputs_row x)) stamp (more a number stamp x v) (ap (drop 1) e)

  -- each element of a path that reached a state is that of a subject with counts and ids in order
  reached_subject : {t : Table} {number stamp : ℕ} {path : List Tags} → Reached w t number stamp path → (z : Tags) → z ∈ path → (x : SelectorInputs) × Proper x × (inputs_tags x ≡ z)
  reached_subject (root t stamp ranking b) z m = absurd (Memᴰ.not-nil m)
  reached_subject (child {t = t} {number = number} {stamp = stamp} {path = path} r x v) z m = elim ((append_in path (inputs_tags x ∷ []) z).0 m) [
    | inl i ↦ reached_subject r z i
    | inr i ↦ (x, (enter_accepted w t number stamp x v).proper, sym (Memᴰ.eq_of_singleton i))
  ]
  reached_subject (later r number stamp x v) z m = reached_subject r z m

  pub reached_proper : {t : Table} {number stamp : ℕ} (xs : List SelectorInputs) → Reached w t number stamp (map inputs_tags xs) → (x : SelectorInputs) → x ∈ xs → Proper x
  reached_proper xs r x m = let (y, p, e) = reached_subject r (inputs_tags x) (map_in inputs_tags xs x m) in equal_proper y x e p

  -- such a path is that of subjects
  pub reached_subjects : {t : Table} {number stamp : ℕ} {path : List Tags} → Reached w t number stamp path → (xs : List SelectorInputs) × (path ≡ map inputs_tags xs)
  reached_subjects (root t stamp ranking b) = ([], refl)
  reached_subjects (child r x v) = let (xs, e) = reached_subjects r in (xs ++ x ∷ [], ap (λ (l : List Tags). l ++ inputs_tags x ∷ []) e ∙ sym (map-append inputs_tags xs (x ∷ [])))
  reached_subjects (later r number stamp x v) = reached_subjects r

-- ---- by the contracts

module _ {w : List ℕ} {ranking : ℕ} where
  pub built_called : (t : Table) (stamp : ℕ) → Builds w ranking t → Called w ranking (Memory.built w stamp ranking t) 0 stamp []
  built_called t stamp (eight, v) = let b : Build w stamp ranking t (Ok tt) (Memory.built w stamp ranking t) = record { answer = rw v; memory = rw v } in built eight b

  pub along_called : (xs : List SelectorInputs) {t : Table} {number stamp : ℕ} {path : List Tags} → Called w ranking t number stamp path
      → verdicts_along w t number stamp xs ≡ replicate (length xs) 0
      → Called w ranking (table_along w t number xs) (number_along w t number xs) stamp (path ++ map inputs_tags xs)
  unfolding table_along number_along verdicts_along
  along_called [] {path = path} c e = rw (append-nil path) c
  along_called (x ∷ xs) {t = t} {number = number} {stamp = stamp} {path = path} c e =
      let v : Enters w t number stamp x = ap (λ (l : List ℕ). get_or l 0 0) e in
      let s : MatchState = record { number = child_of w t number (inputs_row x); stamp = stamp } in
      let u : Enter w t number stamp (inputs_row x) (Ok s) (entered w t number (inputs_row x)) = record { answer = rw v; memory = rw v } in
      let step = along_called xs (calls-entered c x u) (ap (drop 1) e) in
      subst (Called w ranking (table_along w (entered w t number (inputs_row x)) (child_of w t number (inputs_row x)) xs) (number_along w (entered w t number (inputs_row x)) (child_of w t number (inputs_row x)) xs) stamp) (append_snoc path (inputs_tags x) (map inputs_tags xs)) step
