-- Which entry stands at a property's place. Assumes nothing.
use mathlib.Core.Path.{◌≡◌, refl, ◌∙◌}
use mathlib.Core.Bool.{Bool, true, false, cond}
use mathlib.Core.Option.{none, some}
use mathlib.Core.List.{List, []}
use Prim.Native.Nat.{ℕ, zero, suc, ◌+◌, ◌≤◌, ◌<◌}
use native.Mathlib.Omega.{arith}
use lib.ListN.{length, get_or, take, drop}
use lib.Seq.{drop-cons}
use lib.Dec.{ltb, eqb}
use borrow.Author.Tests.{lt-ltb, le-ltb, eqb-true, eqb-false}
use Rattle.theory.specs.Lists.{spread}
use Rattle.style.specs.Entries.{Entry, entries_of, look_up}
use Rattle.style.specs.Looking.{place_of, found}
use Rattle.style.proofs.LookLaws.{place_here, place_skip, ltb_suc}

module _ (properties kinds numbers : List ℕ) where
  abbrev pub entry_at : ℕ → Entry
  entry_at k = record { property = get_or properties k 0; kind = get_or kinds k 0; number = get_or numbers k 0 }

  look_from : (p k n : ℕ)
      → k + n ≤ length properties
      → look_up p (spread entry_at k n) ≡ cond (ltb (place_of p (take n (drop k properties))) n) (some (entry_at (k + place_of p (take n (drop k properties))))) none
  unfolding look_up
  look_from p k zero h = rw (le-ltb (place_of p []) 0 (omega arith))
  look_from p k (suc n) h = by (eqb (get_or properties k 0) p) refl (look_from p (suc k) n (omega arith))
    where
      by : (t : Bool)
          → eqb (get_or properties k 0) p ≡ t
          → look_up p (spread entry_at (suc k) n) ≡ cond (ltb (place_of p (take n (drop (suc k) properties))) n) (some (entry_at (suc k + place_of p (take n (drop (suc k) properties))))) none
          → look_up p (spread entry_at k (suc n)) ≡ cond (ltb (place_of p (take (suc n) (drop k properties))) (suc n)) (some (entry_at (k + place_of p (take (suc n) (drop k properties))))) none
      by true e r =
          let z : k + 0 ≡ k = omega arith in
          rw (drop-cons properties k 0 (omega arith), place_here p (get_or properties k 0) (take n (drop (suc k) properties)) (eqb-true _ p e), lt-ltb 0 (suc n) (omega arith), z, e)
      by false e r =
          let z : k + suc (place_of p (take n (drop (suc k) properties))) ≡ suc k + place_of p (take n (drop (suc k) properties)) = omega arith in
          rw (drop-cons properties k 0 (omega arith), place_skip p (get_or properties k 0) (take n (drop (suc k) properties)) (eqb-false _ p e), ltb_suc, z, e) r

  module _ (p n : ℕ) (h : n ≤ length properties) where
    -- the entry at the property's place, where that is one of the first n
    pub look_found : place_of p (take n properties) < n → found properties kinds numbers n p ≡ some (entry_at (place_of p (take n properties)))
    unfolding entries_of
    look_found b =
        let z : 0 + place_of p (take n properties) ≡ place_of p (take n properties) = omega arith in
        look_from p 0 n (omega arith) ∙ rw (lt-ltb (place_of p (take n properties)) n b, z)

    -- and none where it is not
    pub look_none : n ≤ place_of p (take n properties) → found properties kinds numbers n p ≡ none
    unfolding entries_of
    look_none b = look_from p 0 n (omega arith) ∙ rw (le-ltb (place_of p (take n properties)) n b)
