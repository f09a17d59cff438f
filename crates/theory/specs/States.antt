-- The matcher's states as plain lists: 01, "States". Assumes nothing.
use Rattle.std.specs.Prelude.{◌≡◌, refl, Bool, true, false, ◌&&◌, not, ℕ, suc, ◌+◌, ◌*◌, ◌/◌, ◌%◌, ◌≤◌, length, get_or, ltb, eqb}
use Rattle.std.proofs.Math.Option.{Option, none, some}
use mathlib.Core.List.{List, [], ◌∷◌, ◌++◌, foldl, flat_map}
use Rattle.std.proofs.Math.ListN.{get_elem?}
use Rattle.theory.specs.Sizes
use Rattle.theory.specs.Lists.{inserted, sort, only}
use Rattle.theory.specs.Paths.{Comb, child, descendant, Part, Selector}

-- The rules' selectors, by rule number
abbrev pub Sheet : Type 0 → Type 0
Sheet Step = List (Selector Step)

-- The selector of rule r; none past the last rule
abbrev pub rule : {Step : Type 0} → Sheet Step → ℕ → Selector Step
rule sheet r = get_or sheet r []

-- No selector has more steps than its size
abbrev pub Small : {Step : Type 0} → Sheet Step → Type 0
Small sheet = (r : ℕ) → length (rule sheet r) ≤ Sizes.STEPS

-- The cursor at step i of rule r, as one number
abbrev pub cursor : ℕ → ℕ → ℕ
cursor r i = r * 8 + i

pub record State : Type 0 where
  pub cursors : List ℕ
  pub matched : List ℕ

-- A cursor at step 0 of each of these rules that has steps; they are numbered from r on
abbrev pub starts : {Step : Type 0} → ℕ → Sheet Step → List ℕ
starts r [] = []
starts r ([] ∷ sheet) = starts (suc r) sheet
starts r ((p ∷ sel) ∷ sheet) = cursor r 0 ∷ starts (suc r) sheet

-- "The root holds a cursor at step 0 of every rule with steps, and no matches."
abbrev pub root : {Step : Type 0} → Sheet Step → State
root sheet = record { cursors = starts 0 sheet; matched = [] }

abbrev pub descends : Comb → Bool
descends child = false
descends descendant = true

abbrev pub is_last : {Step : Type 0} → Selector Step → ℕ → Bool
is_last sel i = eqb (suc i) (length sel)

module _ {Step Subject : Type 0} (ok : Step → Subject → Bool) where
  -- What the cursor at step i of rule r leaves at x; `p` is that step, `last` says whether it is the rule's last.
  -- "A cursor whose step stands after a descendant combinator is kept as well, match or not": nothing stands before step 0.
  -- "A match moves on to the next step
  abbrev pub leaves : Option (Part Step) → Bool → Subject → ℕ → ℕ → List ℕ
  leaves none last x r i = []
  leaves (some p) last x r i = only (ltb 0 i && descends p.comb) (cursor r i) ++ only (ok p.step x && not last) (cursor r (suc i))

  -- or, at the last, lists the rule."
  abbrev pub lists : Option (Part Step) → Bool → Subject → ℕ → List ℕ
  lists none last x r = []
  lists (some p) last x r = only (ok p.step x && last) r

  -- the same of a cursor as a number
  abbrev pub leaves_of : Sheet Step → Subject → ℕ → List ℕ
  leaves_of sheet x c = let r = c / 8 in let i = c % 8 in leaves (get_elem? (rule sheet r) i) (is_last (rule sheet r) i) x r i

  abbrev pub lists_of : Sheet Step → Subject → ℕ → List ℕ
  lists_of sheet x c = let r = c / 8 in let i = c % 8 in lists (get_elem? (rule sheet r) i) (is_last (rule sheet r) i) x r

  -- "Entering tests all cursors of the parent and of the root. .. Both lists are sorted and made unique."
  unfoldable pub enter : Sheet Step → State → Subject → State
  enter sheet s x =
      let all : List ℕ = s.cursors ++ (root sheet).cursors in
      record { cursors = sort (flat_map (leaves_of sheet x) all); matched = sort (flat_map (lists_of sheet x) all) }

  -- The state after a path from the root
  unfoldable pub run : Sheet Step → List Subject → State
  run sheet path = foldl (enter sheet) (root sheet) path

-- ---- for example: steps and subjects are numbers, a step is ok at its own number; `1 > 2`, no steps, `1 3`, and `3`, whose combinator is not read

abbrev part : Comb → ℕ → Part ℕ
part c n = record { comb = c; step = n }

abbrev sheet : Sheet ℕ
sheet = (part child 1 ∷ part child 2 ∷ []) ∷ [] ∷ (part child 1 ∷ part descendant 3 ∷ []) ∷ (part descendant 3 ∷ []) ∷ []

-- at 2 under 1 `1 > 2` is listed, and the cursor at the second step of `1 3` is kept
at_2 : run eqb sheet (1 ∷ 2 ∷ []) ≡ record { cursors = cursor 2 1 ∷ []; matched = 0 ∷ [] }
unfolding run enter flat_map sort inserted
at_2 = refl

-- at 3 under 2 under 1, and at a further 3 under that one, `1 3` and `3` are: the cursor is kept though it has matched
at_3 : run eqb sheet (1 ∷ 2 ∷ 3 ∷ 3 ∷ []) ≡ record { cursors = cursor 2 1 ∷ []; matched = 2 ∷ 3 ∷ [] }
unfolding run enter flat_map sort inserted
at_3 = refl
