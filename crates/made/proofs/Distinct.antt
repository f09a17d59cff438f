-- Sheets whose sources are told apart by source index and order: the empty one, and one after a push; in such a sheet no two keys are equal. Assumes nothing.
use mathlib.Core.Path.{◌≡◌, refl, sym, ap, ap₂, ◌∙◌}
use mathlib.Core.Logic.{◌⊎◌, inl, inr, ◌≢◌}
use mathlib.Core.Option.{some}
use mathlib.Core.List.Memᴰ
use mathlib.Core.List.{List, [], ◌∷◌, ◌++◌, map, map-map, map-append}
use Prim.Native.Nat.{ℕ, zero, suc, ◌+◌, ◌≤◌, ◌<◌}
use native.Mathlib.Omega.{arith}
use lib.ListN.{get_elem?}
use lib.IntN.{pos}
use borrow.Author.Tests.{lt-ltb, le-ltb}
use Rattle.theory.specs.Lists.{◌∈◌, spread}
use Rattle.theory.specs.Cascade.{compare_keys}
use Rattle.theory.proofs.Lists.{le_or_lt, append_in}
use Rattle.theory.proofs.Keys.{keys_zero}
use Rattle.theory.proofs.Winners.{at_in}
use Rattle.sheet.specs.Sheets.{Style, Rule, Sheet, Source, direct, listed, sources_of, key_of}
use Rattle.given.specs.Given.{Group, rule_given, rules_given}
use Rattle.given.specs.Pushing.{indexes_of, shift_style, shift_rule, largest, next_after}
use Rattle.made.specs.Pushed.{added}

-- ---- the definition

-- a source's index, and its order in its group: "Direct styles have .. order 0"
abbrev pub index_of : Source → ℕ
index_of (direct d) = d.source
index_of (listed r) = r.source

abbrev pub order_of : Source → ℕ
order_of (direct d) = 0
order_of (listed r) = r.order

-- not both the same
abbrev pub Differ : Source → Source → Type 0
Differ a b = index_of a ≡ index_of b → order_of a ≡ order_of b → ⊥

-- each differs from all that follow it
abbrev pub Distinct : List Source → Type 0
Distinct [] = Unit {0}
Distinct (a ∷ l) = ((b : Source) → b ∈ l → Differ a b) × Distinct l

-- No index is taken again, and any two sources differ
pub record Apart (s : Sheet) : Type 0 where
  pub below : (a : Source) → a ∈ sources_of s → index_of a < s.next
  pub distinct : Distinct (sources_of s)

-- ---- two lists of sources, one after the other

abbrev Cross : List Source → List Source → Type 0
Cross l m = (a b : Source) → a ∈ l → b ∈ m → Differ a b

both : (l m : List Source) → Distinct l → Distinct m → Cross l m → Distinct (l ++ m)
both [] m p q h = q
both (a ∷ l) m p q h = (
  λ b k. elim ((append_in l m b).0 k) [ inl i ↦ p.0 b i | inr i ↦ h a b (Memᴰ.head refl) i ],
  both l m p.1 q (λ c b i j. h c b (Memᴰ.tail i) j),
)

parts : (l m : List Source) → Distinct (l ++ m) → Distinct l × Distinct m × Cross l m
parts [] m p = (tt, p, λ a b i j. absurd (Memᴰ.not-nil i))
parts (a ∷ l) m p =
    let (q, r, h) = parts l m p.1 in (
      (λ b k. p.0 b ((append_in l m b).1 (inl k)), q),
      r,
      λ c b i j. elim (Memᴰ.cases_cons i) [ inl e ↦ rw e (p.0 b ((append_in l m b).1 (inr j))) | inr k ↦ h c b k j ],
    )

-- two pairs of lists, laid together as the styles and the rules of two sheets are
module _ (a b c d : List Source) where
  either : (x : Source) → x ∈ ((a ++ c) ++ (b ++ d)) → (x ∈ (a ++ b)) ⊎ (x ∈ (c ++ d))
  either x m = elim ((append_in (a ++ c) (b ++ d) x).0 m) [
    | inl i ↦ elim ((append_in a c x).0 i) [ inl j ↦ inl ((append_in a b x).1 (inl j)) | inr j ↦ inr ((append_in c d x).1 (inl j)) ]
    | inr i ↦ elim ((append_in b d x).0 i) [ inl j ↦ inl ((append_in a b x).1 (inr j)) | inr j ↦ inr ((append_in c d x).1 (inr j)) ]
  ]

  together : Distinct (a ++ b) → Distinct (c ++ d) → Cross (a ++ b) (c ++ d) → Distinct ((a ++ c) ++ (b ++ d))
  together p q h =
      let (da, db, ab) = parts a b p in
      let (dc, dd, cd) = parts c d q in
      both (a ++ c) (b ++ d)
      (both a c da dc (λ x y i j. h x y ((append_in a b x).1 (inl i)) ((append_in c d y).1 (inl j))))
      (both b d db dd (λ x y i j. h x y ((append_in a b x).1 (inr i)) ((append_in c d y).1 (inr j))))
      (λ x y i j. elim ((append_in a c x).0 i) [
        | inl k ↦ elim ((append_in b d y).0 j) [
          | inl l ↦ ab x y k l
          | inr l ↦ h x y ((append_in a b x).1 (inl k)) ((append_in c d y).1 (inr l))
        ]
        | inr k ↦ elim ((append_in b d y).0 j) [
          | inl l ↦ λ e f. h y x ((append_in a b y).1 (inr l)) ((append_in c d x).1 (inl k)) (sym e) (sym f)
          | inr l ↦ cd x y k l
        ]
      ])

-- ---- an addition: sources with new indexes, which differ among themselves

abbrev addition : List Style → List Rule → List Source
addition styles rules = map direct styles ++ map listed rules

apart_added : (s : Sheet) (next : ℕ) (styles : List Style) (rules : List Rule) → Apart s
    → s.next ≤ next
    → ((a : Source) → a ∈ addition styles rules → (s.next ≤ index_of a) × (index_of a < next))
    → Distinct (addition styles rules)
    → Apart (added s next styles rules)
apart_added s next styles rules p up new d =
    let a = map direct s.styles in
    let b = map listed s.rules in
    let c = map direct styles in
    let e = map listed rules in
    let is = ap₂ ◌++◌ (map-append direct s.styles styles) (map-append listed s.rules rules) in
    record {
      below = λ x m. elim (either a b c e x (rw is at m)) [ inl i ↦ omega (arith, p.below x i) | inr i ↦ (new x i).1 ];
      distinct = rw is (together a b c e p.distinct d (λ x y i j f g. omega (arith, p.below x i, new y j)));
    }

-- ---- the sheets that pushes make

pub apart_empty : Apart (record { next = 0; styles = []; rules = [] })
apart_empty = record { below = λ a m. absurd (Memᴰ.not-nil m); distinct = tt }

-- one style takes the next index,
pub apart_style : (s : Sheet) (d : Style) → Apart s → d.source ≡ s.next → Apart (added s (s.next + 1) (d ∷ []) [])
apart_style s d p e =
    apart_added s (s.next + 1) (d ∷ []) [] p (omega arith)
    (λ a m. let q : index_of a ≡ d.source = ap index_of (Memᴰ.eq_of_singleton m) in omega arith)
    (λ b m. absurd (Memᴰ.not-nil m), tt)

-- a group's rules share it, and their orders rise,
module _ (origin source : ℕ) (g : Group) where
  given_in : (k n : ℕ) (a : Source) → a ∈ map listed (spread (rule_given origin source g) k n) → (index_of a ≡ source) × (k ≤ order_of a)
  unfolding rule_given
  given_in k zero a m = absurd (Memᴰ.not-nil m)
  given_in k (suc n) a m = elim (Memᴰ.cases_cons m) [
    | inl e ↦ (ap index_of e, let q : order_of a ≡ k = ap order_of e in omega arith)
    | inr i ↦ let (q, h) = given_in (suc k) n a i in (q, omega arith)
  ]

  given_distinct : (k n : ℕ) → Distinct (map listed (spread (rule_given origin source g) k n))
  unfolding rule_given
  given_distinct k zero = tt
  given_distinct k (suc n) = (λ b m e f. omega (arith, (given_in (suc k) n b m).1), given_distinct (suc k) n)

pub apart_group : (s : Sheet) (origin : ℕ) (g : Group) (n : ℕ) → Apart s → Apart (added s (s.next + 1) [] (rules_given origin s.next g n))
unfolding rules_given
apart_group s origin g n p =
    apart_added s (s.next + 1) [] (spread (rule_given origin s.next g) 0 n) p (omega arith)
    (λ a m. omega (arith, (given_in origin s.next g 0 n a m).0))
    (given_distinct origin s.next g 0 n)

-- and those of a cascade are raised by it
abbrev shift : ℕ → Source → Source
shift k (direct d) = direct (shift_style k d)
shift k (listed r) = listed (shift_rule k r)

shift_index : (k : ℕ) (a : Source) → index_of (shift k a) ≡ k + index_of a
shift_index k (direct d) = refl
shift_index k (listed r) = refl

shift_order : (k : ℕ) (a : Source) → order_of (shift k a) ≡ order_of a
shift_order k (direct d) = refl
shift_order k (listed r) = refl

shift_distinct : (k : ℕ) (l : List Source) → Distinct l → Distinct (map (shift k) l)
shift_distinct k [] p = tt
shift_distinct k (a ∷ l) p = (
  λ b m e f. let (c, i, q) = Memᴰ.of_map (shift k) l m in
      p.0 c i (omega (arith, shift_index k a, shift_index k c, ap index_of q)) (sym (shift_order k a) ∙ f ∙ ap order_of (sym q) ∙ shift_order k c),
  shift_distinct k l p.1,
)

largest_is : (l : List ℕ) (x : ℕ) → x ∈ l → x ≤ largest l
unfolding largest
largest_is [] x m = absurd (Memᴰ.not-nil m)
largest_is (a ∷ l) x m = elim (le_or_lt (largest l) a) [
  | inl h ↦ rw (le-ltb a (largest l) h) (elim (Memᴰ.cases_cons m) [ inl e ↦ omega arith | inr i ↦ omega (arith, largest_is l x i) ])
  | inr h ↦ rw (lt-ltb a (largest l) h) (elim (Memᴰ.cases_cons m) [ inl e ↦ omega arith | inr i ↦ largest_is l x i ])
]

next_up : (next : ℕ) (l : List ℕ) → next ≤ next_after next l
next_up next [] = omega arith
next_up next (x ∷ l) = omega arith

next_above : (next : ℕ) (l : List ℕ) (x : ℕ) → x ∈ l → next + x < next_after next l
next_above next [] x m = absurd (Memᴰ.not-nil m)
next_above next (y ∷ l) x m = omega (arith, largest_is (y ∷ l) x m)

indexes_are : (v : Sheet) → indexes_of v ≡ map index_of (sources_of v)
indexes_are v = sym (map-append index_of (map direct v.styles) (map listed v.rules) ∙ ap₂ ◌++◌ (map-map index_of direct v.styles) (map-map index_of listed v.rules))

pub apart_cascade : (s v : Sheet) → Apart s → Apart v
    → Apart (added s (next_after s.next (indexes_of v)) (map (shift_style s.next) v.styles) (map (shift_rule s.next) v.rules))
apart_cascade s v p q =
    let k = s.next in
    let l = sources_of v in
    let is : addition (map (shift_style k) v.styles) (map (shift_rule k) v.rules) ≡ map (shift k) l =
    ap₂ ◌++◌ (map-map direct (shift_style k) v.styles ∙ sym (map-map (shift k) direct v.styles)) (map-map listed (shift_rule k) v.rules ∙ sym (map-map (shift k) listed v.rules))
    ∙ sym (map-append (shift k) (map direct v.styles) (map listed v.rules)) in
    apart_added s (next_after k (indexes_of v)) (map (shift_style k) v.styles) (map (shift_rule k) v.rules) p (next_up k (indexes_of v))
    (λ a m. let (c, i, e) = Memᴰ.of_map (shift k) l (rw is at m) in
    let h = next_above k (indexes_of v) (index_of c) (rw (indexes_are v) (Memᴰ.map index_of i)) in
    omega (arith, shift_index k c, ap index_of e))
    (rw is (shift_distinct k l q.distinct))

-- ---- THE THEOREM: two sources of such a sheet never have equal keys, whatever the ranking

-- index and order are parts of the key
key_index : (ranking : ℕ) (a : Source) → (key_of ranking a).source ≡ index_of a
key_index ranking (direct d) = refl
key_index ranking (listed r) = refl

key_order : (ranking : ℕ) (a : Source) → (key_of ranking a).order ≡ order_of a
key_order ranking (direct d) = refl
key_order ranking (listed r) = refl

differ_at : (l : List Source) (i j : ℕ) (a b : Source) → Distinct l → i < j → get_elem? l i ≡ some a → get_elem? l j ≡ some b → Differ a b
differ_at [] i j a b p h e f = absurd (let z : ◌≡◌ {A = ℕ} 0 1 = cc in omega arith)
differ_at (x ∷ l) i zero a b p h e f = absurd (omega arith)
differ_at (x ∷ l) zero (suc j) a b p h e f = let s : a ≡ x = cc in rw s (p.0 b (at_in l j b f))
differ_at (x ∷ l) (suc i) (suc j) a b p h e f = differ_at l i j a b p.1 (omega arith) e f

differ_key : (ranking : ℕ) (a b : Source) → Differ a b → key_of ranking a ≢ key_of ranking b
differ_key ranking a b d e =
    d (sym (key_index ranking a) ∙ ap (λ k. k.source) e ∙ key_index ranking b) (sym (key_order ranking a) ∙ ap (λ k. k.order) e ∙ key_order ranking b)

pub keys_differ : (s : Sheet) → Apart s → (i j : ℕ) → i ≢ j → (a b : Source) → get_elem? (sources_of s) i ≡ some a → get_elem? (sources_of s) j ≡ some b
    → (ranking : ℕ) → key_of ranking a ≢ key_of ranking b
keys_differ s p i j h a b e f ranking q = elim (le_or_lt j i) [
  | inl l ↦ differ_key ranking b a (differ_at (sources_of s) j i b a p.distinct (below l) f e) (sym q)
  | inr l ↦ differ_key ranking a b (differ_at (sources_of s) i j a b p.distinct l e f) q
]
  where
    below : j ≤ i → j < i
    below l = elim (le_or_lt i j) [ inl k ↦ absurd (h (omega arith)) | inr k ↦ k ]

-- and so their comparison never answers 0
pub keys_apart : (s : Sheet) → Apart s → (i j : ℕ) → i ≢ j → (a b : Source) → get_elem? (sources_of s) i ≡ some a → get_elem? (sources_of s) j ≡ some b
    → (ranking : ℕ) → compare_keys (key_of ranking a) (key_of ranking b) ≢ pos 0
keys_apart s p i j h a b e f ranking z = keys_differ s p i j h a b e f ranking (keys_zero (key_of ranking a) (key_of ranking b) z)
