-- The derived order of keys is the order of their numbers. Assumes nothing.
use mathlib.Core.Path.{◌≡◌, refl, ap, ◌∙◌}
use mathlib.Core.Bool.{◌&&◌}
use Prim.Native.Nat.{ℕ}
use native.Mathlib.Omega.{arith}
use native.Mathlib.Decide.{dec_lt}
use lib.Dec.{eqb}
use borrow.Author.Tests.{lt-ltb, le-ltb, eq-eqb, ne_eqb}
use Rattle.std.specs.Prelude.{Option, Some}
use Rattle.std.proofs.Common.{Ordering, Less, Equal, Greater}
use Rattle.std.specs.Ordering.{is_eq, is_gt, is_some_and, nat_cmp, ordering_then, partial_ordering_then, partial_gt}
use Rattle.theory.specs.Cascade.{key_numbers, compare_keys, is_one, is_zero}
use Rattle.theory.proofs.Ordered.{sign, sign_is}
use Rattle.keys.specs.declared.CascadeEntryKey.{CascadeEntryKey}
use Rattle.keys.specs.contracts.CascadeEntryKeyPartialOrd.TheImpl as P
use Rattle.keys.specs.contracts.CascadeEntryKeyPartialEq.TheImpl as E
use Rattle.keys.specs.contracts.CascadeEntryKeyOrd.TheImpl as O
use Rattle.keys.specs.Keys.{key_from}

-- ---- an answer as a number

is_zero_sign : (o : Ordering) → is_eq o ≡ is_zero (sign o)
is_zero_sign Less = refl
is_zero_sign Equal = refl
is_zero_sign Greater = refl

is_one_sign : (o : Ordering) → is_gt o ≡ is_one (sign o)
is_one_sign Less = refl
is_one_sign Equal = refl
is_one_sign Greater = refl

-- ---- numbers

equal_is : (x y : ℕ) → eqb x y ≡ is_eq (nat_cmp x y)
equal_is x y = elim (dec_lt x y) [
  | yes l ↦ rw (lt-ltb x y l, ne_eqb x y (λ z. omega arith))
  | no l ↦ elim (dec_lt y x) [
    | yes g ↦ rw (le-ltb x y (omega arith), ne_eqb x y (λ z. omega arith))
    | no g ↦ rw (le-ltb x y (omega arith), eq-eqb x y (omega arith))
  ]
]

-- ---- answers of the seven numbers, as the fields are compared: a weight's four stand together

abbrev fields : Ordering → Ordering → Ordering → Ordering → Ordering → Ordering → Ordering → Ordering
fields o s t u v i j = ordering_then o (ordering_then (ordering_then s (ordering_then t (ordering_then u v))) (ordering_then i j))

abbrev fields_partial : Ordering → Ordering → Ordering → Ordering → Ordering → Ordering → Ordering → Option Ordering
fields_partial o s t u v i j = partial_ordering_then (Some o) (
    partial_ordering_then
    (partial_ordering_then (Some s) (partial_ordering_then (Some t) (partial_ordering_then (Some u) (Some v))))
    (partial_ordering_then (Some i) (Some j))
    )

flat : (o s t u v i j : Ordering)
    → (fields o s t u v i j ≡ ordering_then o (ordering_then s (ordering_then t (ordering_then u (ordering_then v (ordering_then i (ordering_then j Equal))))))) × (fields_partial o s t u v i j ≡ Some (fields o s t u v i j))
    × (is_eq o && ((is_eq s && (is_eq t && (is_eq u && is_eq v))) && (is_eq i && is_eq j)) ≡ is_eq (fields o s t u v i j))
flat Less s t u v i j = (refl, refl, refl)
flat Greater s t u v i j = (refl, refl, refl)
flat Equal Less t u v i j = (refl, refl, refl)
flat Equal Greater t u v i j = (refl, refl, refl)
flat Equal Equal Less u v i j = (refl, refl, refl)
flat Equal Equal Greater u v i j = (refl, refl, refl)
flat Equal Equal Equal Less v i j = (refl, refl, refl)
flat Equal Equal Equal Greater v i j = (refl, refl, refl)
flat Equal Equal Equal Equal Less i j = (refl, refl, refl)
flat Equal Equal Equal Equal Greater i j = (refl, refl, refl)
flat Equal Equal Equal Equal Equal Less j = (refl, refl, refl)
flat Equal Equal Equal Equal Equal Greater j = (refl, refl, refl)
flat Equal Equal Equal Equal Equal Equal Less = (refl, refl, refl)
flat Equal Equal Equal Equal Equal Equal Equal = (refl, refl, refl)
flat Equal Equal Equal Equal Equal Equal Greater = (refl, refl, refl)

-- ---- keys

module _ (a b : CascadeEntryKey) where
  abbrev of_fields : {A : Ordering → Ordering → Ordering → Ordering → Ordering → Ordering → Ordering → Type 0} → ((o s t u v i j : Ordering) → A o s t u v i j) → A (nat_cmp a.origin b.origin) (nat_cmp a.specificity.0 b.specificity.0) (nat_cmp a.specificity.1 b.specificity.1) (nat_cmp a.specificity.2 b.specificity.2) (nat_cmp a.specificity.3 b.specificity.3) (nat_cmp a.source_index b.source_index) (nat_cmp a.order b.order)
  of_fields f = f (nat_cmp a.origin b.origin) (nat_cmp a.specificity.0 b.specificity.0) (nat_cmp a.specificity.1 b.specificity.1) (nat_cmp a.specificity.2 b.specificity.2) (nat_cmp a.specificity.3 b.specificity.3) (nat_cmp a.source_index b.source_index) (nat_cmp a.order b.order)

  pub key_order : sign ((O.cmp-value).it a b) ≡ compare_keys (key_from a) (key_from b)
  unfolding compare_keys
  key_order = ap sign (of_fields flat).0 ∙ sign_is (key_numbers (key_from a)) (key_numbers (key_from b))

  -- the two tests of keys
  pub key_greater : partial_gt (P.partial_cmp-value).it a b ≡ is_one (compare_keys (key_from a) (key_from b))
  key_greater = ap (is_some_and is_gt) (of_fields flat).1 ∙ is_one_sign ((O.cmp-value).it a b) ∙ ap is_one key_order

  pub key_equal : (E.eq-value).it a b ≡ is_zero (compare_keys (key_from a) (key_from b))
  key_equal =
      rw (equal_is a.origin b.origin, equal_is a.specificity.0 b.specificity.0, equal_is a.specificity.1 b.specificity.1, equal_is a.specificity.2 b.specificity.2, equal_is a.specificity.3 b.specificity.3, equal_is a.source_index b.source_index, equal_is a.order b.order)
      ((of_fields flat).2 ∙ is_zero_sign ((O.cmp-value).it a b) ∙ ap is_zero key_order)
