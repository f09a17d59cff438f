-- Lists written into a lent buffer, by each way through the code. Assumes nothing.
use mathlib.Core.Path.{◌≡◌, refl, sym, ap, ◌∙◌}
use mathlib.Core.Bool.{Bool, true, false, cond}
use mathlib.Core.List.{List, [], ◌∷◌, ◌++◌, append-nil}
use Prim.Native.Nat.{ℕ, ◌≤◌, ◌<◌}
use lib.ListN.{length, take, replicate}
use lib.Seq.{sets}
use lib.Dec.{eqb}
use borrow.Author.Tests.{ne_eqb}
use Rattle.std.specs.Prelude.{Result, Ok, Err}
use Rattle.theory.specs.Lists.{sort}
use Rattle.theory.proofs.Lists.{sort_ascending}
use Rattle.idset.specs.Buffers.{Holds}
use Rattle.lent.specs.Refusals.{number_of, told, answered, Check, first_of}
use Rattle.lent.specs.declared.Refusal.{Refusal}
use Rattle.idset.proofs.Buffers.{held_take}
use Rattle.lent.proofs.Refusals.{first_stop, first_go, refusal_number, refused_first}
use Rattle.sheet.specs.Shape.{sheet_shape}
use Rattle.table.specs.Tables.{table}
use Rattle.building.proofs.Builds.{roots_few}
use Rattle.channels.specs.Channels.{channels_of}
use Rattle.changeset.specs.Marks.{ids_in}
use Rattle.changeset.specs.Sets.{too_short, Lists}
use Rattle.changeset.proofs.Marks.{ids_none, sort_ascended}
use Rattle.changeset.proofs.Calls.{list_short, list_fits_lem}
use Rattle.changes.specs.Changes.{resource_dependent}
use Rattle.cascade.specs.Calls.{pair_checks, pair_verdict, changed_verdict, changed_in, resource_verdict}

-- ---- the part that a held list is

pub held_part : {l d e : List ℕ} {n : ℕ} → Holds l d n e → n ≡ length (take n e)
held_part h = sym (roots_few h)

-- ---- changed properties

module _ (w h s c m tr : List ℕ) (old oldStamp new newStamp : ℕ) (out : List ℕ) where
  abbrev of_pair : List Check
  of_pair = pair_checks w (table h s c m tr) old oldStamp new newStamp

  abbrev list : List ℕ
  list = changed_in w (table h s c m tr) old new

  abbrev verdict : ℕ
  verdict = changed_verdict w (table h s c m tr) old oldStamp new newStamp out

  module _ (r : Refusal) (e : number_of r ≡ pair_verdict w (table h s c m tr) old oldStamp new newStamp) where
    pub changed_refused : (l : List ℕ) → told r ≡ answered verdict l
    unfolding pair_verdict changed_verdict
    changed_refused l = rw (sym (first_stop of_pair (too_short list out ∷ []) (number_of r) e (refusal_number r)) ∙ e) (refused_first of_pair r l refl e)

    pub changed_kept : out ≡ cond (eqb verdict 0) (sets out 0 list) out
    unfolding pair_verdict changed_verdict
    changed_kept = rw (← first_stop of_pair (too_short list out ∷ []) (number_of r) e (refusal_number r), ne_eqb (number_of r) 0 (refusal_number r))

  module _ (e : 0 ≡ pair_verdict w (table h s c m tr) old oldStamp new newStamp) where
    last : first_of (too_short list out ∷ []) ≡ verdict
    unfolding pair_verdict changed_verdict
    last = first_go of_pair (too_short list out ∷ []) 0 _ e refl refl refl

    module _ (d d' : List ℕ) (n : ℕ) (held : Holds list d n d') where
      pub changed_short : length out < n → Lists verdict list out (Err Refusal.BufferTooShort) out
      changed_short l = rw (← last) (list_short list out held.count l)

      pub changed_listed : n ≤ length out → (after : List ℕ) → after ≡ sets out 0 (take n d') → Lists verdict list out (Ok n) after
      changed_listed l after f = rw (← last) (list_fits_lem list out held.count l (f ∙ ap (sets out 0) (held_take held)))

-- ---- their channels

pub channels_held : (masks l d e : List ℕ) (n x : ℕ) → Holds l d n e → x ≡ channels_of masks (take n e) → x ≡ channels_of masks l
channels_held masks l d e n x h f = f ∙ ap (channels_of masks) (held_take h)

-- ---- properties that depend on resources

module _ (w out : List ℕ) where
  pub resources_broken : false ≡ sheet_shape w → Lists (resource_verdict w out) (resource_dependent w) out (Err Refusal.BrokenShape) out
  unfolding resource_verdict first_of
  resources_broken e = record { answer = rw (← e); memory = rw (← e) }

  pub resources_listed : sheet_shape w ≡ true → (l after : List ℕ) (r : Result ℕ Refusal) → l ≡ sort (resource_dependent w ++ ids_in (replicate 2048 0))
      → Lists (first_of (too_short l out ∷ [])) l out r after → Lists (resource_verdict w out) (resource_dependent w) out r after
  unfolding resource_verdict resource_dependent first_of
  resources_listed e l after r g u =
      let q : l ≡ resource_dependent w = g ∙ rw (ids_none 2048, append-nil) (sort_ascended _ (sort_ascending _)) in
      rw (e, sym q) u
