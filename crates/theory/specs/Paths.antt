-- When a selector fits a path: 01, "Paths". Over any type of steps and of subjects, and a test `ok` of a step at a subject. Assumes nothing.
use Rattle.std.specs.Prelude.{◌≡◌, Bool, List, [], ◌∷◌, ℕ, suc, ◌<◌, length, drop, T}
use Rattle.std.proofs.Math.Option.{some}
use Rattle.std.proofs.Math.ListN.{get_elem?}

-- How a step is tied to the step before it
pub data Comb : Type 0 where
  child descendant : Comb

-- A step with the combinator before it; that of the first step is not read
pub record Part (Step : Type 0) : Type 0 where
  pub comb : Comb
  pub step : Step

abbrev pub Selector : Type 0 → Type 0
Selector Step = List (Part Step)

-- "child means the next place, descendant any later place"
abbrev pub Follows : Comb → ℕ → ℕ → Type 0
Follows child a b = b ≡ suc a
Follows descendant a b = a < b

module _ {Step Subject : Type 0} (ok : Step → Subject → Bool) where
  -- "A selector fits a path if its steps can be given places so that
  pub record Places (sel : Selector Step) (path : List Subject) : Type 0 where
    pub place : ℕ → ℕ
    -- the first step has the first place,
    pub first : place 0 ≡ 0
    -- the last has the last,
    pub last : (i : ℕ) → suc i ≡ length sel → suc (place i) ≡ length path
    -- child means the next place, descendant any later place,
    pub follows : (i : ℕ) (p : Part Step) → get_elem? sel (suc i) ≡ some p → Follows p.comb (place i) (place (suc i))
    -- and each step matches there.
    pub matches : (i : ℕ) (p : Part Step) → get_elem? sel i ≡ some p → (x : Subject) × (get_elem? path (place i) ≡ some x) × T (ok p.step x)
    -- The empty selector fits only the empty path."
    pub empty : sel ≡ [] → path ≡ []

  -- The same by steps. These come after a step that stands just before the path: they can be given places in it, the last one the last
  pub data Goes : Selector Step → List Subject → Type 0 where
    -- no step is left, and no subject
    done : Goes [] []
    -- the first step stands at the first subject
    here : {p : Part Step} {sel : Selector Step} {x : Subject} {path : List Subject} → T (ok p.step x) → Goes sel path → Goes (p ∷ sel) (x ∷ path)
    -- the first step is a descendant, and stands further on
    skip : {p : Part Step} {sel : Selector Step} {x : Subject} {path : List Subject} → p.comb ≡ descendant → Goes (p ∷ sel) path → Goes (p ∷ sel) (x ∷ path)

  -- The selector fits the path, end to end
  abbrev pub Fits : Selector Step → List Subject → Type 0
  Fits [] [] = Unit {0}
  Fits [] (x ∷ path) = ⊥
  Fits (p ∷ sel) [] = ⊥
  Fits (p ∷ sel) (x ∷ path) = T (ok p.step x) × Goes sel path

  -- It fits some tail of the path, end to end
  abbrev pub FitsTail : Selector Step → List Subject → Type 0
  FitsTail sel path = (k : ℕ) × Fits sel (drop k path)
