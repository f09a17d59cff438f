-- Changed properties: those whose winning key differs, ascending, and what is read again after a change. Assumes nothing.
use mathlib.Core.Path.{◌≡◌, refl, sym, ap, ◌∙◌}
use mathlib.Core.Logic.{◌≢◌, ◌↔◌}
use mathlib.Core.Bool.{Bool, true, false, cond, not, true≢false}
use mathlib.Core.Option.{Option, none, some, map}
use mathlib.Core.List.Memᴰ
use mathlib.Core.List.{List, ◌++◌}
use Prim.Native.Nat.{ℕ, ◌<◌}
use lib.Dec.{T}
use Rattle.theory.specs.Lists.{◌∈◌, Ascending, member}
use native.Mathlib.Omega.{arith}
use Rattle.theory.specs.Sizes
use Rattle.theory.specs.Cascade.{Key, winner, winning_key, same_key, changed, mend}
use Rattle.theory.proofs.Lists.{ascending_ext, select_in, select_ascending, member_is}
use Rattle.theory.proofs.Keys.{keys_refl, keys_zero, zero_is}
use Rattle.theory.proofs.Winners.{Told, winner_in_lem, winning_key_unique}

-- the same key, or none on both sides
pub same_key_is : (a b : Option Key) → (same_key a b ≡ true) ↔ (a ≡ b)
same_key_is none none = (λ e. refl, λ e. refl)
same_key_is none (some b) = (λ e. cc, λ e. cc)
same_key_is (some a) none = (λ e. cc, λ e. cc)
same_key_is (some a) (some b) = (
  λ e. ap some (keys_zero a b ((zero_is _).0 e)),
  λ e. let s : a ≡ b = cc in rw s ((zero_is _).1 (keys_refl b)),
)

-- and the test that it is not
differ_is : (a b : Option Key) → T (not (same_key a b)) ↔ (a ≢ b)
differ_is a b = at (same_key a b) (same_key_is a b)
  where
    at : (c : Bool) → ((c ≡ true) ↔ (a ≡ b)) → T (not c) ↔ (a ≢ b)
    at true i = (λ h. absurd h, λ n. absurd (n (i.0 refl)))
    at false i = (λ h e. true≢false (sym (i.1 e)), λ n. tt)

-- answers that agree where the old ones are kept are the new ones
mend_is : {A : Type 0} (ids : List ℕ) (old new : ℕ → A) (p : ℕ) → ((p ∈ ids → ⊥) → old p ≡ new p) → mend ids old new p ≡ new p
unfolding mend
mend_is ids old new p h = at (member p ids) (member_is p ids)
  where
    at : (b : Bool) → ((b ≡ true) ↔ (p ∈ ids)) → cond b (new p) (old p) ≡ new p
    at true i = refl
    at false i = h (λ m. true≢false (sym (i.1 m)))

module _ {Source : Type 0} (key : Source → ℕ → Key) (holds : Source → ℕ → Bool) where
  -- a property is reported exactly if its winning key differs
  pub changed_iff : (old new : List Source) (p : ℕ) → (p ∈ changed key holds old new) ↔ ((p < 65536) × (winning_key key holds old p ≢ winning_key key holds new p))
  unfolding changed
  changed_iff old new p =
      let i = select_in (λ q. not (same_key (winning_key key holds old q) (winning_key key holds new q))) Sizes.PROPERTY-IDS p in
      let d = differ_is (winning_key key holds old p) (winning_key key holds new p) in
      (λ h. (omega (arith, (i.0 h).0), d.0 (i.0 h).1), λ h. i.1 (omega (arith, h.0), d.1 h.1))

  -- in ascending order, each once
  pub changed_ascending : (old new : List Source) → Ascending (changed key holds old new)
  unfolding changed
  changed_ascending old new = select_ascending (λ q. not (same_key (winning_key key holds old q) (winning_key key holds new q))) 65536

  -- the order of the sources does not matter
  pub changed_unique : (old old' new new' : List Source) → ((s : Source) → s ∈ old ↔ s ∈ old') → ((s : Source) → s ∈ new ↔ s ∈ new')
      → changed key holds old new ≡ changed key holds old' new'
  changed_unique old old' new new' e f =
      ascending_ext (changed key holds old new) (changed key holds old' new') (changed_ascending old new) (changed_ascending old' new') (λ p.
      let a = winning_key_unique key holds old old' p e in
      let b = winning_key_unique key holds new new' p f in
      let i = changed_iff old new p in
      let j = changed_iff old' new' p in
      (λ h. j.1 ((i.0 h).0, λ c. (i.0 h).1 (a ∙ c ∙ sym b)), λ h. i.1 ((j.0 h).0, λ c. (j.0 h).1 (sym a ∙ c ∙ b))))

  -- a property that is not reported has the same winning key
  kept : (old new : List Source) (p : ℕ) → p < 65536 → (p ∈ changed key holds old new → ⊥) → winning_key key holds old p ≡ winning_key key holds new p
  kept old new p h n = at (same_key (winning_key key holds old p) (winning_key key holds new p)) (same_key_is _ _)
    where
      at : (b : Bool) → ((b ≡ true) ↔ (winning_key key holds old p ≡ winning_key key holds new p)) → winning_key key holds old p ≡ winning_key key holds new p
      at true i = i.0 refl
      at false i = absurd (n ((changed_iff old new p).1 (h, λ e. true≢false (sym (i.1 e)))))

  -- reading again the keys of what is reported gives the new keys everywhere
  pub mend_keys : (old new : List Source) (p : ℕ) → p < 65536
      → mend (changed key holds old new) (winning_key key holds old) (winning_key key holds new) p ≡ winning_key key holds new p
  mend_keys old new p h = mend_is (changed key holds old new) (winning_key key holds old) (winning_key key holds new) p (kept old new p h)

  -- where equal keys are equal sources: the same winning key is the same winner
  same_winner : (old new : List Source) (p : ℕ) → Told key holds (old ++ new) p → winning_key key holds old p ≡ winning_key key holds new p
      → winner key holds old p ≡ winner key holds new p
  same_winner old new p u e = at (winner key holds old p) (winner key holds new p) (winner_in_lem key holds old p) (winner_in_lem key holds new p) e
    where
      at : (a b : Option Source) → ((s : Source) → a ≡ some s → (s ∈ old) × T (holds s p)) → ((s : Source) → b ≡ some s → (s ∈ new) × T (holds s p))
          → map (λ s. key s p) a ≡ map (λ s. key s p) b → a ≡ b
      at none none f g e = refl
      at none (some t) f g e = cc
      at (some s) none f g e = cc
      at (some s) (some t) f g e =
          let k : key s p ≡ key t p = cc in
          ap some (u s t (Memᴰ.append_left new (f s refl).0) (Memᴰ.append_right old (g t refl).0) (f s refl).1 (g t refl).1 (rw k (keys_refl (key t p))))

  -- there, a property is reported exactly if its winner differs,
  pub changed_winners : (old new : List Source) (p : ℕ) → Told key holds (old ++ new) p
      → (p ∈ changed key holds old new) ↔ ((p < 65536) × (winner key holds old p ≢ winner key holds new p))
  changed_winners old new p u =
      let i = changed_iff old new p in
      (λ h. ((i.0 h).0, λ e. (i.0 h).1 (ap (map (λ s. key s p)) e)), λ h. i.1 (h.0, λ e. h.1 (same_winner old new p u e)))

  -- and reading again the winners of what is reported gives the new winners everywhere
  pub mend_winners : (old new : List Source) (p : ℕ) → Told key holds (old ++ new) p → p < 65536
      → mend (changed key holds old new) (winner key holds old) (winner key holds new) p ≡ winner key holds new p
  mend_winners old new p u h =
      mend_is (changed key holds old new) (winner key holds old) (winner key holds new) p (λ n. same_winner old new p u (kept old new p h n))
