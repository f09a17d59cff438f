-- 01's words read in Level 3's: a selector as a chain, a path as its last element, a step's counts as simple selectors. Assumes nothing.
use mathlib.Core.List.{List, [], ◌∷◌, ◌++◌, flat_map}
use Rattle.std.specs.Prelude.{eqb, replicate}
use Rattle.theory.specs.Paths.{Comb, child, descendant, Part, Selector}
use Rattle.theory.specs.Level3.{Chain, sequence, child_of, descendant_of, Element, top, under, Represents, Simple, class, pseudo_class, type, pseudo_element}
use Rattle.theory.specs.Weight.{Counts}

-- One more step on the right of a chain
abbrev pub joined : {Step : Type 0} → Chain Step → Comb → Step → Chain Step
joined A child s = child_of A s
joined A descendant s = descendant_of A s

abbrev pub chain_from : {Step : Type 0} → Chain Step → Selector Step → Chain Step
chain_from A [] = A
chain_from A (p ∷ sel) = chain_from (joined A p.comb p.step) sel

-- A selector with first step p; p's own combinator is not read
abbrev pub chain_of : {Step : Type 0} → Part Step → Selector Step → Chain Step
chain_of p sel = chain_from (sequence p.step) sel

abbrev pub element_from : {Subject : Type 0} → Element Subject → List Subject → Element Subject
element_from e [] = e
element_from e (x ∷ path) = element_from (under e x) path

-- The last element of a path that begins with x at the top
abbrev pub element_of : {Subject : Type 0} → Subject → List Subject → Element Subject
element_of x path = element_from (top x) path

-- A step as simple selectors; a part is written as a pseudo-element
abbrev pub simples_of : Counts → List Simple
simples_of c = replicate c.types type ++ replicate c.classes class ++ replicate c.pseudos pseudo_class ++ replicate c.parts pseudo_element

abbrev pub simples : List Counts → List Simple
simples l = flat_map simples_of l

-- For example, with numbers for steps and subjects: `1 > 3` does not represent 3 under 2 under 1, since its parent is 2
not_the_parent : Represents eqb (chain_of (record { comb = child; step = 1 }) (record { comb = child; step = 3 } ∷ [])) (element_of 1 (2 ∷ 3 ∷ [])) → ⊥
not_the_parent h = h.1
