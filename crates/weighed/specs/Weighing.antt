-- A weight by value. Assumes nothing.
use Rattle.theory.specs.Weight.{Weight}
use Rattle.selector.specs.declared.Specificity.{Specificity}

-- The weight that the numbers are
abbrev pub weight_from : Specificity → Weight
weight_from s = record { first = s.0; second = s.1; third = s.2; fourth = s.3 }
