-- Demand 3, its second half: which properties change from one state to another, and which channels they call for. Assumes nothing.
-- `changed_in w t old new`: the changed properties from state `old` to state `new` of table t; `Covered` and `Reached` as in Listed.antt.
use mathlib.Core.Path.{◌≡◌, refl, sym, ap, ap₂, ◌∙◌}
use mathlib.Core.Logic.{inl, inr, ◌≢◌, ◌↔◌}
use mathlib.Core.Bool.{Bool, true, false, cond}
use mathlib.Core.Option.{Option}
use mathlib.Core.List.Memᴰ
use mathlib.Core.List.{List, [], ◌++◌}
use Prim.Native.Nat.{ℕ, ◌<◌}
use lib.ListN.{get_or}
use Rattle.theory.specs.Lists.{◌∈◌, Ascending, member}
use Rattle.theory.specs.Cascade.{mend}
use Rattle.theory.proofs.Lists.{append_in, ascending_ext}
use Rattle.theory.proofs.Winners.{Told}
use Rattle.theory.proofs.Changes.{changed_iff, changed_ascending, mend_keys, changed_winners, mend_winners}
use Rattle.bits.specs.Bits.{bit}
use Rattle.selector.specs.Tags.{Tags}
use Rattle.made.specs.Made.{Made}
use Rattle.table.specs.Tables.{Table, ranking_in, states_in}
use Rattle.winners.specs.Winners.{Place, key_at, holds_at, places_for, winning_key_of, entry_of}
use Rattle.channels.specs.Channels.{channels_of, Named}
use Rattle.channels.proofs.Union.{channel_named}
use Rattle.changes.specs.Changes.{changed_of}
use Rattle.looking.specs.Calls.{rules_at, winner_in, entry_in}
use Rattle.cascade.specs.Calls.{changed_in}
use Rattle.covered.specs.Covered.{Covered, Reached}
use Rattle.promises.specs.Paths.{rules_on}
use Rattle.promises.proofs.Listed.{listed_is}
use Rattle.promises.proofs.Places.{Within, places_told, places_within, listed_below}

-- what is read off the mended answers is what is read off each, mended
mend_each : {A B : Type 0} (ids : List ℕ) (f : A → ℕ → B) (old new : ℕ → A) (p : ℕ) → mend ids (λ q. f (old q) q) (λ q. f (new q) q) p ≡ f (mend ids old new p) p
unfolding mend
mend_each ids f old new p = at (member p ids)
  where
    at : (b : Bool) → cond b (f (new p) p) (f (old p) p) ≡ f (cond b (new p) (old p)) p
    at true = refl
    at false = refl

-- ---- "Changed properties, ascending: those whose winning key differs, presence included": of any sheet and table

module _ (w : List ℕ) (t : Table) (old new : ℕ) where
  pub changed_keys_exactly : (p : ℕ)
      → (p ∈ changed_in w t old new) ↔ ((p < 65536) × (winning_key_of w (ranking_in t.head) (rules_at t old) p ≢ winning_key_of w (ranking_in t.head) (rules_at t new) p))
  changed_keys_exactly = changed_iff (key_at w (ranking_in t.head)) (holds_at w) (places_for w (rules_at t old)) (places_for w (rules_at t new))

  pub changed_ascend : Ascending (changed_in w t old new)
  changed_ascend = changed_ascending (key_at w (ranking_in t.head)) (holds_at w) (places_for w (rules_at t old)) (places_for w (rules_at t new))

  -- the old keys, mended there alone, are the new ones
  pub mended_keys : (p : ℕ) → p < 65536
      → mend (changed_in w t old new) (winning_key_of w (ranking_in t.head) (rules_at t old)) (winning_key_of w (ranking_in t.head) (rules_at t new)) p ≡ winning_key_of w (ranking_in t.head) (rules_at t new) p
  mended_keys = mend_keys (key_at w (ranking_in t.head)) (holds_at w) (places_for w (rules_at t old)) (places_for w (rules_at t new))

  -- a channel is called for exactly if the mask of some changed property has its bit
  pub channel_exactly : (masks : List ℕ) (b : ℕ)
      → (bit (channels_of masks (changed_in w t old new)) b ≡ true) ↔ Named masks (changed_in w t old new) b
  channel_exactly masks b = channel_named masks (changed_in w t old new) b

  -- states that list the same rules: nothing changes
  pub unchanged : rules_at t old ≡ rules_at t new → changed_in w t old new ≡ []
  unchanged e =
      ascending_ext (changed_in w t old new) [] changed_ascend tt (λ p.
      (λ m. absurd (((changed_keys_exactly p).0 m).1 (ap (λ (rules : List ℕ). winning_key_of w (ranking_in t.head) rules p) e)), λ m. absurd (Memᴰ.not-nil m)))

-- ---- of a sheet made by accepted pushes, between any two states of a table, reached ones among them (`reached_is`)

module _ {w : List ℕ} (made : Made w) {t : Table} (c : Covered w t) {old new : ℕ} (there : old < states_in t.head) (there' : new < states_in t.head) where
  within : (s : Place) → s ∈ (places_for w (rules_at t old) ++ places_for w (rules_at t new)) → Within w s
  within s m = elim ((append_in (places_for w (rules_at t old)) (places_for w (rules_at t new)) s).0 m) [
    | inl i ↦ places_within w (rules_at t old) (listed_below c old there) s i
    | inr i ↦ places_within w (rules_at t new) (listed_below c new there') s i
  ]

  told : (p : ℕ) → Told (key_at w (ranking_in t.head)) (holds_at w) (places_for w (rules_at t old) ++ places_for w (rules_at t new)) p
  told p = places_told made (ranking_in t.head) (places_for w (rules_at t old) ++ places_for w (rules_at t new)) p within

  -- "the changed list names exactly the properties whose winning source differs"
  pub changed_exactly : (p : ℕ) → (p ∈ changed_in w t old new) ↔ ((p < 65536) × (winner_in w t old p ≢ winner_in w t new p))
  changed_exactly p = changed_winners (key_at w (ranking_in t.head)) (holds_at w) (places_for w (rules_at t old)) (places_for w (rules_at t new)) p (told p)

  -- so that the old winners, mended there alone, are the new ones: of every property, also those that no source holds
  pub mended : (p : ℕ) → p < 65536 → mend (changed_in w t old new) (winner_in w t old) (winner_in w t new) p ≡ winner_in w t new p
  mended p = mend_winners (key_at w (ranking_in t.head)) (holds_at w) (places_for w (rules_at t old)) (places_for w (rules_at t new)) p (told p)

  -- and likewise their entries
  pub mended_entries : (p : ℕ) → p < 65536 → mend (changed_in w t old new) (entry_in w t old) (entry_in w t new) p ≡ entry_in w t new p
  mended_entries p h = mend_each (changed_in w t old new) (entry_of w) (winner_in w t old) (winner_in w t new) p ∙ ap (λ (s : Option Place). entry_of w s p) (mended p h)

  -- a channel is called for exactly if the mask of some property whose winner differs has its bit
  pub channel_of_winners : (masks : List ℕ) (b : ℕ)
      → (bit (channels_of masks (changed_in w t old new)) b ≡ true) ↔ ((p : ℕ) × (p < 65536) × (winner_in w t old p ≢ winner_in w t new p) × (bit (get_or masks p 0) b ≡ true))
  channel_of_winners masks b =
      let i = channel_exactly w t old new masks b in (
        λ e. let (p, m, h) = i.0 e in let (l, d) = (changed_exactly p).0 m in (p, l, d, h),
        λ (p, l, d, h). i.1 (p, (changed_exactly p).1 (l, d), h),
      )

-- ---- the changed list depends on the sheet, the ranking and the two paths alone

module _ {w : List ℕ} {t : Table} {old new oldStamp newStamp : ℕ} {from to : List Tags} (r : Reached w t old oldStamp from) (q : Reached w t new newStamp to) where
  pub changed_of_paths : changed_in w t old new ≡ changed_of w (ranking_in t.head) (rules_on w from) (rules_on w to)
  changed_of_paths = ap₂ (λ (a b : List ℕ). changed_of w (ranking_in t.head) a b) (listed_is r) (listed_is q)

  -- in two tables of one ranking, whatever stamp, rooms, other calls and numbers
  pub same_paths_same_changes : {t' : Table} {old' new' oldStamp' newStamp' : ℕ} → Reached w t' old' oldStamp' from → Reached w t' new' newStamp' to
      → ranking_in t.head ≡ ranking_in t'.head
      → changed_in w t old new ≡ changed_in w t' old' new'
  same_paths_same_changes {t'} {old'} {new'} r' q' ranks =
      changed_of_paths
      ∙ ap (λ (ranking : ℕ). changed_of w ranking (rules_on w from) (rules_on w to)) ranks
      ∙ sym (ap₂ (λ (a b : List ℕ). changed_of w (ranking_in t'.head) a b) (listed_is r') (listed_is q'))
