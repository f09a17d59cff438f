-- Equal subjects, by each way through the code. Assumes nothing.
use mathlib.Core.Path.{◌≡◌, refl, sym, ap, ◌∙◌}
use mathlib.Core.Bool.{Bool, true, false, ◌&&◌, cond, and_assoc, true≢false}
use mathlib.Core.Option.{none, some}
use mathlib.Core.List.{List}
use Prim.Native.Nat.{ℕ, ◌+◌}
use lib.ListN.{length, get_or}
use lib.Dec.{eqb}
use borrow.Author.Tests.{eq-eqb, ne_eqb}
use Rattle.theory.proofs.Lists.{bool_ext}
use Rattle.selector.specs.Rows.{row_at, tag_of, words_from}
use Rattle.table.specs.Shape.{same}
use Rattle.table.specs.Entering.{same_tag, same_subject}
use Rattle.table.proofs.Same.{same_is}

-- ---- a tag

module _ (flag tag flag' tag' : ℕ) where
  pub tag_unset : flag ≡ 0 → eqb flag' 0 ≡ same_tag (tag_of flag tag) (tag_of flag' tag')
  unfolding same_tag
  tag_unset e = rw (eq-eqb flag 0 e) (unset (eqb flag' 0))
    where
      unset : (b : Bool) → b ≡ same_tag none (cond b none (some tag'))
      unset true = refl
      unset false = refl

  pub tag_lacking : (flag ≡ 0 → ⊥) → flag' ≡ 0 → false ≡ same_tag (tag_of flag tag) (tag_of flag' tag')
  unfolding same_tag
  tag_lacking n e = rw (ne_eqb flag 0 n, eq-eqb flag' 0 e)

  pub tag_set : (flag ≡ 0 → ⊥) → (flag' ≡ 0 → ⊥) → eqb tag tag' ≡ same_tag (tag_of flag tag) (tag_of flag' tag')
  unfolding same_tag
  tag_set n n' = rw (ne_eqb flag 0 n, ne_eqb flag' 0 n')

-- ---- ids

pub lengths_differ : (l m : List ℕ) → (length l ≡ length m → ⊥) → false ≡ same l m
lengths_differ l m h = bool_ext false (same l m) (λ e. absurd (true≢false (sym e))) (λ e. absurd (h (ap length ((same_is l m).0 e))))

-- ---- the rows: what `word` read of each, and what `same_tag` said

module _ (words : List ℕ) (at : ℕ) (row : List ℕ) where
  abbrev same_tags : Bool
  same_tags = same_tag (row_at 16 words at).type (row_at 16 row 0).type && same_tag (row_at 16 words at).part (row_at 16 row 0).part

  module _ (flag tag flag' tag' : ℕ) (b : Bool)
      (p : flag ≡ get_or words at 0) (q : tag ≡ get_or words (at + 1) 0) (p' : flag' ≡ get_or row 0 0) (q' : tag' ≡ get_or row 1 0)
      (e : b ≡ same_tag (tag_of flag tag) (tag_of flag' tag')) where
    pub types_differ : b ≡ false → false ≡ same_tags
    unfolding row_at
    types_differ t = rw (← p, ← q, ← p', ← q', ← e, t)

    pub parts_decide : b ≡ true → (flag₂ tag₂ flag₂' tag₂' : ℕ) (r : Bool)
        → flag₂ ≡ get_or words (at + 2) 0
        → tag₂ ≡ get_or words (at + 3) 0
        → flag₂' ≡ get_or row 2 0
        → tag₂' ≡ get_or row 3 0
        → r ≡ same_tag (tag_of flag₂ tag₂) (tag_of flag₂' tag₂')
        → r ≡ same_tags
    unfolding row_at
    parts_decide t flag₂ tag₂ flag₂' tag₂' r i j i' j' f = rw (← p, ← q, ← p', ← q', ← e, t, ← i, ← j, ← i', ← j') f

  module _ (b : Bool) (e : b ≡ same_tags) where
    -- the test of the tags, then those of the ids
    tags_first : same_subject (row_at 16 words at) (row_at 16 row 0) ≡ (b && (same (row_at 16 words at).classes (row_at 16 row 0).classes && same (row_at 16 words at).pseudos (row_at 16 row 0).pseudos))
    unfolding same_subject
    tags_first = sym (rw e (and_assoc (same_tag (row_at 16 words at).type (row_at 16 row 0).type) _ _))

    pub tags_differ : b ≡ false → false ≡ same_subject (row_at 16 words at) (row_at 16 row 0)
    tags_differ t = sym (tags_first ∙ rw t)

    module _ (t : b ≡ true) (l l' : List ℕ) (c : Bool)
        (f : l ≡ words_from words (at + 6) (get_or words (at + 4) 0)) (f' : l' ≡ words_from row 6 (get_or row 4 0)) (g : c ≡ same l l') where
      pub classes_differ : c ≡ false → false ≡ same_subject (row_at 16 words at) (row_at 16 row 0)
      unfolding row_at
      classes_differ u = sym (tags_first ∙ rw (t, ← f, ← f', ← g, u))

      pub pseudos_decide : c ≡ true → (m m' : List ℕ) (r : Bool)
          → m ≡ words_from words (at + 22) (get_or words (at + 5) 0)
          → m' ≡ words_from row 22 (get_or row 5 0)
          → r ≡ same m m'
          → r ≡ same_subject (row_at 16 words at) (row_at 16 row 0)
      unfolding row_at
      pseudos_decide u m m' r i i' j = sym (tags_first ∙ rw (t, ← f, ← f', ← g, u, ← i, ← i') (sym j))
