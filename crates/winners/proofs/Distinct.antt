-- What the contracts leave no choice of. Assumes nothing.
use mathlib.Core.Path.{◌≡◌, refl, sym, ap, ◌∙◌}
use mathlib.Core.Option.{Option, none, some}
use Rattle.std.specs.Prelude.{Option as Optional, Some, None}
use mathlib.Core.List.{List}
use Prim.Native.Nat.{ℕ}
use Rattle.style.specs.Entries.{Entry}
use Rattle.winners.specs.declared.Best.{Best}
use Rattle.winners.specs.declared.Found.{Found}
use Rattle.winners.specs.Winners.{Place}
use Rattle.winners.specs.Best.{place_in, key_in, Stands, Finds}

-- the source that stands, and its key
pub stands_once : (w : List ℕ) (ranking p : ℕ) (o : Option Place) (a b : Optional Best) → Stands w ranking p o a → Stands w ranking p o b → (place_in a ≡ place_in b) × (key_in a ≡ key_in b)
stands_once w ranking p o a b s t = (s.place ∙ sym t.place, s.key ∙ sym t.key)

-- what was found
pub finds_once : (o : Option Entry) (a b : Optional Found) → Finds o a → Finds o b → a ≡ b
finds_once o None None f g = refl
finds_once o None (Some b) f g = let e : some g.0 ≡ none = sym g.1 ∙ f in cc
finds_once o (Some a) None f g = let e : some f.0 ≡ none = sym f.1 ∙ g in cc
finds_once o (Some a) (Some b) f g = let e : f.0 ≡ g.0 = same f.0 g.0 (sym f.1 ∙ g.1) in ap Some (found (f.2 ∙ ap (λ (x : Entry). x.kind) e ∙ sym g.2) (f.3 ∙ ap (λ (x : Entry). x.number) e ∙ sym g.3))
  where
    found : {x y : Found} → x.kind ≡ y.kind → x.number ≡ y.number → x ≡ y
    found {x} {y} i j = ap (λ (n : ℕ). record { kind = n; number = x.number }) i ∙ ap (λ (n : ℕ). record { kind = y.kind; number = n }) j

    same : (x y : Entry) → some x ≡ some y → x ≡ y
    same x y e = cc
