-- W3C Selectors Level 3 (Recommendation, 6 November 2018), read alone: when a selector represents an element, and how specific it is. Assumes nothing.
use Rattle.std.specs.Prelude.{◌⊎◌, Bool, List, [], ◌∷◌, ℕ, T}
use Rattle.theory.specs.Lists.{total}

-- §4: a selector is a chain of one or more sequences of simple selectors, separated by combinators. A step stands for a sequence
pub data Chain (Step : Type 0) : Type 0 where
  -- one sequence
  sequence : Step → Chain Step
  -- `A > B`
  child_of : Chain Step → Step → Chain Step
  -- `A B`
  descendant_of : Chain Step → Step → Chain Step

-- An element with its ancestors: at the top of its tree, or under a parent
pub data Element (Subject : Type 0) : Type 0 where
  top : Subject → Element Subject
  under : Element Subject → Subject → Element Subject

abbrev pub itself : {Subject : Type 0} → Element Subject → Subject
itself (top x) = x
itself (under e x) = x

-- F of the element's parent: it has one
abbrev pub OfParent : {Subject : Type 0} → (Element Subject → Type 0) → Element Subject → Type 0
OfParent F (top x) = ⊥
OfParent F (under e x) = F e

-- F of some ancestor of the element, at any depth
abbrev pub OfAncestor : {Subject : Type 0} → (Element Subject → Type 0) → Element Subject → Type 0
OfAncestor F (top x) = ⊥
OfAncestor F (under e x) = F e ⊎ OfAncestor F e

module _ {Step Subject : Type 0} (ok : Step → Subject → Bool) where
  -- Read from the right: the last sequence is ok at the element itself and, §8.2, the rest represents its parent, or, §8.1, some ancestor of it
  abbrev pub Represents : Chain Step → Element Subject → Type 0
  Represents (sequence s) e = T (ok s (itself e))
  Represents (child_of A s) e = T (ok s (itself e)) × OfParent (Represents A) e
  Represents (descendant_of A s) e = T (ok s (itself e)) × OfAncestor (Represents A) e

-- §9. The kinds of simple selectors
pub data Simple : Type 0 where
  id_selector class attribute pseudo_class type pseudo_element universal : Simple

-- a counts the ID selectors,
abbrev pub in_a : Simple → ℕ
in_a id_selector = 1
in_a class = 0
in_a attribute = 0
in_a pseudo_class = 0
in_a type = 0
in_a pseudo_element = 0
in_a universal = 0

-- b the class selectors, attribute selectors and pseudo-classes,
abbrev pub in_b : Simple → ℕ
in_b id_selector = 0
in_b class = 1
in_b attribute = 1
in_b pseudo_class = 1
in_b type = 0
in_b pseudo_element = 0
in_b universal = 0

-- c the type selectors and pseudo-elements; the universal selector is ignored
abbrev pub in_c : Simple → ℕ
in_c id_selector = 0
in_c class = 0
in_c attribute = 0
in_c pseudo_class = 0
in_c type = 1
in_c pseudo_element = 1
in_c universal = 0

-- a, b, c; specificities are compared in that order
abbrev pub specificity : List Simple → List ℕ
specificity l = total in_a l ∷ total in_b l ∷ total in_c l ∷ []
