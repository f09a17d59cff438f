-- The test of two subjects: it holds of the same subject only. Assumes nothing.
use mathlib.Core.Path.{◌≡◌, refl, ap}
use mathlib.Core.Logic.{◌↔◌}
use mathlib.Core.Bool.{true}
use mathlib.Core.Option.{Option, none, some, some-injective}
use Prim.Native.Nat.{ℕ}
use borrow.Author.Tests.{eqb-true, eq-eqb}
use Rattle.theory.proofs.Lists.{and_left, and_right}
use Rattle.selector.specs.Tags.{Tags}
use Rattle.table.specs.Shape.{same}
use Rattle.table.specs.Entering.{same_tag, same_subject}
use Rattle.table.proofs.Same.{same_is}

same_tag_is : (a b : Option ℕ) → (same_tag a b ≡ true) ↔ (a ≡ b)
unfolding same_tag
same_tag_is none none = (λ _. refl, λ _. refl)
same_tag_is none (some b) = (λ e. cc, λ e. cc)
same_tag_is (some a) none = (λ e. cc, λ e. cc)
same_tag_is (some a) (some b) = (λ e. ap some (eqb-true a b e), λ e. eq-eqb a b (some-injective a b e))

same_subject_refl : (a : Tags) → same_subject a a ≡ true
unfolding same_subject
same_subject_refl a =
    rw (
      (same_tag_is a.type a.type).1 refl,
      (same_tag_is a.part a.part).1 refl,
      (same_is a.classes a.classes).1 refl,
      (same_is a.pseudos a.pseudos).1 refl,
    )

same_tags_lem : (a b : Tags) → a.type ≡ b.type → a.part ≡ b.part → a.classes ≡ b.classes → a.pseudos ≡ b.pseudos → a ≡ b
same_tags_lem a b e f g h = rw (e, f, g, h)

pub same_subject_is : (a b : Tags) → (same_subject a b ≡ true) ↔ (a ≡ b)
unfolding same_subject
same_subject_is a b = (
  λ e. let f = and_right (same_tag a.type b.type) _ e in
      let g = and_right (same_tag a.part b.part) _ f in
      same_tags_lem a b
      ((same_tag_is a.type b.type).0 (and_left _ _ e))
      ((same_tag_is a.part b.part).0 (and_left _ _ f))
      ((same_is a.classes b.classes).0 (and_left _ _ g))
      ((same_is a.pseudos b.pseudos).0 (and_right (same a.classes b.classes) _ g)),
  λ e. rw e (same_subject_refl b),
)
