-- What a subject has and a step asks for: 01, "Subjects and steps". Assumes nothing.
use Rattle.std.specs.Prelude.{Bool, true, false, ◌&&◌, List, ℕ, eqb}
use Rattle.std.proofs.Math.Option.{Option, none, some}
use Rattle.theory.specs.Lists.{contained, sort}

-- "Type, part, class and pseudo-class numbers are kept apart". Of a subject these are its own, of a step those that it requires
pub record Tags : Type 0 where
  pub type : Option ℕ
  pub part : Option ℕ
  pub classes : List ℕ
  pub pseudos : List ℕ

-- "A step's required ids may come in any order and repeated; they are sorted and made unique, as are an owned subject's."
abbrev pub as_sets : Tags → Tags
as_sets t = record { type = t.type; part = t.part; classes = sort t.classes; pseudos = sort t.pseudos }

-- a step's tag, "where set, equal the subject's"
unfoldable pub tag_ok : Option ℕ → Option ℕ → Bool
tag_ok none has = true
tag_ok (some wants) none = false
tag_ok (some wants) (some has) = eqb wants has

-- "A step matches if its type and part, where set, equal the subject's, and its sets are contained in the subject's."
unfoldable pub step_matches : Tags → Tags → Bool
step_matches step subject =
    tag_ok step.type subject.type
    && (tag_ok step.part subject.part
    && (contained step.classes subject.classes
    && contained step.pseudos subject.pseudos))
