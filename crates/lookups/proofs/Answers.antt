-- What the look-ups of a style answer, by each way through the code. Assumes nothing.
use mathlib.Core.Path.{◌≡◌, refl, sym}
use mathlib.Core.Bool.{Bool, true, false, cond}
use mathlib.Core.Option.{none, some}
use mathlib.Core.List.{List, [], ◌∷◌}
use Prim.Native.Nat.{ℕ, suc, ◌≤◌, ◌<◌}
use native.Mathlib.Omega.{arith}
use lib.ListN.{length, get_or, take}
use lib.Seq.{length-take-le}
use lib.Dec.{ltb, eqb}
use borrow.Author.Tests.{lt-ltb, le-ltb, ltb-true, ltb-false, eqb-true, eqb-false}
use Rattle.std.specs.Prelude.{Ok, Option, Some, None}
use Rattle.lent.specs.declared.Refusal.{Refusal}
use Rattle.lent.specs.Refusals.{number_of, told, answered}
use Rattle.lent.proofs.Refusals.{number_positive, refused_first, accepted_first}
use Rattle.style.specs.Checks.{style_verdict}
use Rattle.style.specs.Looking.{place_of, place_in, kind_of, plain_kind, plain_of, resource_kind, resource_of, position_told, position_of, containing_of, style_answer, found}
use Rattle.style.proofs.LookLaws.{member_place}
use Rattle.lookups.proofs.Accepted.{accepted, kind_few}
use Rattle.lookups.proofs.Found.{entry_at, look_found, look_none}

-- ---- by the verdict

module _ (properties kinds numbers : List ℕ) (n : ℕ) where
  pub refused_is : (r : Refusal) → number_of r ≡ style_verdict properties kinds numbers n → (l : List ℕ) → told r ≡ style_answer properties kinds numbers n l
  unfolding style_verdict
  refused_is r e l = refused_first _ r l refl e

  module _ (e : 0 ≡ style_verdict properties kinds numbers n) where
    pub told_is : (l : List ℕ) → l ≡ style_answer properties kinds numbers n l
    told_is l = accepted_first _ l e

    module _ (p at : ℕ) (f : at ≡ place_of p (take n properties)) where
      counted : length (take n properties) ≡ n
      counted = length-take-le n properties (accepted properties kinds numbers n e).counted.in_properties

      pub contains_is : 0 ∷ cond (ltb at n) 1 0 ∷ [] ≡ containing_of properties kinds numbers n p
      contains_is = rw (← e, member_place p (take n properties), counted, ← f)

      pub position_at : at < n → 0 ∷ at ∷ [] ≡ position_of properties kinds numbers n p
      position_at h = rw (← e, ← f, lt-ltb at n h)

      pub position_absent : n ≤ at → 0 ∷ [] ≡ position_of properties kinds numbers n p
      position_absent h = rw (← e, ← f, le-ltb at n h)

pub ruleset verdicts = (refused_is, told_is, contains_is, position_at, position_absent)

-- ---- by the place

-- an accepted style that has the property at `at`
pub record Stands (properties kinds numbers : List ℕ) (n p at : ℕ) : Type 0 where
  pub passed : style_verdict properties kinds numbers n ≡ 0
  pub place : at ≡ place_of p (take n properties)
  pub below : at < n

module _ (v pl n : ℕ) where
  told_at : (at : ℕ) → 0 ∷ at ∷ [] ≡ answered v (place_in pl n) → (v ≡ 0) × (at ≡ pl) × (at < n)
  told_at at e = by (eqb v 0) (ltb pl n) refl refl e
    where
      by : (s t : Bool) → eqb v 0 ≡ s → ltb pl n ≡ t → 0 ∷ at ∷ [] ≡ cond s (cond t (0 ∷ pl ∷ []) (0 ∷ [])) (v ∷ []) → (v ≡ 0) × (at ≡ pl) × (at < n)
      by true true f g e = let q : at ≡ pl = cc in (eqb-true v 0 f, q, omega (arith, ltb-true pl n g))
      by true false f g e = let z : ◌≡◌ {A = ℕ} 0 1 = cc in absurd (omega arith)
      by false t f g e = let z : ◌≡◌ {A = ℕ} 0 1 = cc in absurd (omega arith)

  told_absent : 0 ∷ [] ≡ answered v (place_in pl n) → (v ≡ 0) × (n ≤ pl)
  told_absent e = by (eqb v 0) (ltb pl n) refl refl e
    where
      by : (s t : Bool) → eqb v 0 ≡ s → ltb pl n ≡ t → 0 ∷ [] ≡ cond s (cond t (0 ∷ pl ∷ []) (0 ∷ [])) (v ∷ []) → (v ≡ 0) × (n ≤ pl)
      by true true f g e = let z : ◌≡◌ {A = ℕ} 0 1 = cc in absurd (omega arith)
      by true false f g e = (eqb-true v 0 f, ltb-false pl n g)
      by false t f g e = let z : v ≡ 0 = cc in absurd (eqb-false v 0 f z)

  told_refused : (r : Refusal) (l : List ℕ) → told r ≡ answered v (place_in pl n) → told r ≡ answered v l
  told_refused r l e = by (eqb v 0) (ltb pl n) e
    where
      by : (s t : Bool) → told r ≡ cond s (cond t (0 ∷ pl ∷ []) (0 ∷ [])) (v ∷ []) → told r ≡ cond s l (v ∷ [])
      by true true e = let (m, f) = number_positive r in let z : suc m ≡ 0 = cc in absurd (omega arith)
      by true false e = let (m, f) = number_positive r in let z : suc m ≡ 0 = cc in absurd (omega arith)
      by false t e = e

module _ (properties kinds numbers : List ℕ) (n p : ℕ) where
  module _ (o : Option ℕ) (e : position_told (Ok o) ≡ position_of properties kinds numbers n p) where
    stands : (at : ℕ) → o ≡ Some at → Stands properties kinds numbers n p at
    stands at f =
        let (a, b, d) = told_at (style_verdict properties kinds numbers n) (place_of p (take n properties)) n at (rw f at e) in
        record { passed = a; place = b; below = d }

    module _ (at w k : ℕ) (f : o ≡ Some at) (g : w ≡ at) (h : k ≡ get_or kinds w 0) where
      pub kind_in : k ≤ 3
      kind_in =
          let s = stands at f in
          let a = accepted properties kinds numbers n (sym s.passed) in
          rw (h, g) (kind_few kinds n at a.kinds_in s.below a.counted.in_kinds)

      module _ (w' x : ℕ) (g' : w' ≡ at) (h' : x ≡ get_or numbers w' 0) where
        found_is : found properties kinds numbers n p ≡ some (entry_at properties kinds numbers at)
        found_is =
            let s = stands at f in
            let a = accepted properties kinds numbers n (sym s.passed) in
            rw s.place (look_found properties kinds numbers p n a.counted.in_properties (omega (arith, s.place, s.below)))

        pub kind_at : (l : List ℕ) → l ≡ 0 ∷ k ∷ x ∷ [] → l ≡ style_answer properties kinds numbers n (kind_of (found properties kinds numbers n p))
        kind_at l q = rw (found_is, (stands at f).passed, q, h, g, h', g')

        pub plain_at : (l : List ℕ) → l ≡ plain_kind k x → l ≡ style_answer properties kinds numbers n (plain_of (found properties kinds numbers n p))
        plain_at l q = rw (found_is, (stands at f).passed, q, h, g, h', g')

        pub resource_at : (l : List ℕ) → l ≡ resource_kind k x → l ≡ style_answer properties kinds numbers n (resource_of (found properties kinds numbers n p))
        resource_at l q = rw (found_is, (stands at f).passed, q, h, g, h', g')

    module _ (f : o ≡ None) where
      absent : (style_verdict properties kinds numbers n ≡ 0) × (found properties kinds numbers n p ≡ none)
      absent =
          let (a, b) = told_absent (style_verdict properties kinds numbers n) (place_of p (take n properties)) n (rw f at e) in
          (a, look_none properties kinds numbers p n (accepted properties kinds numbers n (sym a)).counted.in_properties b)

      pub kind_absent : 0 ∷ [] ≡ style_answer properties kinds numbers n (kind_of (found properties kinds numbers n p))
      kind_absent = rw (absent.1, absent.0)

      pub plain_absent : 0 ∷ [] ≡ style_answer properties kinds numbers n (plain_of (found properties kinds numbers n p))
      plain_absent = rw (absent.1, absent.0)

      pub resource_absent : 0 ∷ [] ≡ style_answer properties kinds numbers n (resource_of (found properties kinds numbers n p))
      resource_absent = rw (absent.1, absent.0)

  pub refused_again : (r : Refusal) → told r ≡ position_of properties kinds numbers n p → (l : List ℕ) → told r ≡ style_answer properties kinds numbers n l
  refused_again r e l = told_refused (style_verdict properties kinds numbers n) (place_of p (take n properties)) n r l e

pub ruleset places = (kind_in, kind_at, plain_at, resource_at, kind_absent, plain_absent, resource_absent, refused_again)
