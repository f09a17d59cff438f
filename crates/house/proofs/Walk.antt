-- Laws of what records print and where they lead, one after the other, and with more bytes after those that are there. Assumes nothing.
use mathlib.Core.Path.{◌≡◌, refl, sym, ap, ◌∙◌}
use mathlib.Core.Bool.{Bool, cond, true, false, true≢false}
use mathlib.Core.List.{List, [], ◌∷◌, ◌++◌, append_assoc, append-nil}
use Prim.Native.Nat.{ℕ, zero, suc, ◌+◌, ◌≤◌}
use native.Mathlib.Omega.{arith}
use lib.ListN.{length, take, drop, length-append, length-drop, take-append-drop}
use lib.Seq.{length-take-le, take-add, drop-append-le, drop-length}
use borrow.Author.Tests.{le-leb}
use Rattle.records.specs.Records.{known, kind_of, size_of, is_whole, record_in}
use Rattle.records.proofs.Records.{size_some, whole_room, whole_known, whole_more, record_more, kind_more}
use Rattle.wording.specs.Lines.{refused_line}
use Rattle.house.specs.House.{Phase, Outcome, stops, leads, outcome, printing, onward, reached_in, reached, ending, after, walk_from}
use Rattle.house.specs.Memory.{Refused}
use Rattle.house.specs.Memory.Refused.{whole, unknown}

-- ---- outcomes, one after the other

abbrev leads_on : Outcome → Bool
leads_on (stops text) = false
leads_on (leads text next) = true

printing_none : (o : Outcome) → printing [] o ≡ o
printing_none (stops text) = refl
printing_none (leads text next) = refl

printing_twice : (a b : List ℕ) (o : Outcome) → printing (a ++ b) o ≡ printing a (printing b o)
printing_twice a b (stops text) = ap stops (append_assoc a b text)
printing_twice a b (leads text next) = ap (λ (l : List ℕ). leads l next) (append_assoc a b text)

leads_printing : (a : List ℕ) (o : Outcome) → leads_on (printing a o) ≡ leads_on o
leads_printing a (stops text) = refl
leads_printing a (leads text next) = refl

onward_same : (f g : Phase → Outcome) → ((p : Phase) → f p ≡ g p) → (o : Outcome) → onward f o ≡ onward g o
onward_same f g h (stops text) = refl
onward_same f g h (leads text next) = ap (printing text) (h next)

onward_printing : (f : Phase → Outcome) (a : List ℕ) (o : Outcome) → onward f (printing a o) ≡ printing a (onward f o)
onward_printing f a (stops text) = refl
onward_printing f a (leads text next) = printing_twice a text (f next)

onward_none : (o : Outcome) → onward (λ next. leads [] next) o ≡ o
onward_none (stops text) = refl
onward_none (leads text next) = ap (λ (l : List ℕ). leads l next) (append-nil text)

after_printing : (f : Phase → List ℕ) (a : List ℕ) (o : Outcome) → after f (printing a o) ≡ a ++ after f o
after_printing f a (stops text) = refl
after_printing f a (leads text next) = append_assoc a text (f next)

-- ---- one record

-- a record takes a byte
shorter : (a k : ℕ) (l : List ℕ) → length (k ∷ l) ≤ suc a → length (drop (size_of k) (k ∷ l)) ≤ a
shorter a k l h = rw length-drop (omega (arith, size_some k))

-- more turns than there are bytes change nothing
reached_turns : (room a b : ℕ) (ph : Phase) (off : ℕ) (bytes : List ℕ) → length bytes ≤ a → length bytes ≤ b → reached_in room a ph off bytes ≡ reached_in room b ph off bytes
unfolding reached_in
reached_turns room zero zero ph off bytes p q = refl
reached_turns room zero (suc b) ph off [] p q = refl
reached_turns room zero (suc b) ph off (k ∷ l) p q = absurd (omega arith)
reached_turns room (suc a) zero ph off [] p q = refl
reached_turns room (suc a) zero ph off (k ∷ l) p q = absurd (omega arith)
reached_turns room (suc a) (suc b) ph off [] p q = refl
reached_turns room (suc a) (suc b) ph off (k ∷ l) p q =
    ap (λ (o : Outcome). cond (is_whole (k ∷ l)) o (stops (refused_line 10 off)))
    (onward_same (λ next. reached_in room a next (off + size_of k) (drop (size_of k) (k ∷ l))) (λ next. reached_in room b next (off + size_of k) (drop (size_of k) (k ∷ l)))
    (λ next. reached_turns room a b next (off + size_of k) (drop (size_of k) (k ∷ l)) (shorter a k l p) (shorter b k l q))
    (outcome room ph off (record_in (k ∷ l))))

module _ (room : ℕ) (ph : Phase) (off : ℕ) where
  -- the whole record at the front, and the rest
  reached_whole : (bytes : List ℕ) → is_whole bytes ≡ true
      → reached room ph off bytes
      ≡ onward (λ next. reached room next (off + size_of (kind_of bytes)) (drop (size_of (kind_of bytes)) bytes)) (outcome room ph off (record_in bytes))
  unfolding reached_in
  reached_whole [] w = absurd (omega (arith, size_some 0, whole_room [] w))
  reached_whole (k ∷ l) w =
      rw w (onward_same (λ next. reached_in room (length l) next (off + size_of k) (drop (size_of k) (k ∷ l))) (λ next. reached room next (off + size_of k) (drop (size_of k) (k ∷ l)))
      (λ next.
      reached_turns room (length l) (length (drop (size_of k) (k ∷ l))) next (off + size_of k) (drop (size_of k) (k ∷ l)) (shorter (length l) k l (omega arith)) (omega arith))
      (outcome room ph off (record_in (k ∷ l))))

  -- none, or one cut short
  pub walk_cut : (bytes : List ℕ) → is_whole bytes ≡ false → 1 ≤ length bytes → walk_from room ph off bytes ≡ refused_line 10 off
  unfolding reached_in
  walk_cut [] w h = absurd (omega arith)
  walk_cut (k ∷ l) w h = rw w

  -- no bytes at all
  pub walk_end : walk_from room ph off [] ≡ ending ph off
  unfolding reached_in
  walk_end = let z : off + 0 ≡ off = omega arith in ap (ending ph) z

  -- ---- more bytes after those that are there

  reached_more : (bytes more : List ℕ) → is_whole bytes ≡ true
      → reached room ph off (bytes ++ more)
      ≡ onward (λ next. reached room next (off + size_of (kind_of bytes)) (drop (size_of (kind_of bytes)) bytes ++ more)) (outcome room ph off (record_in bytes))
  reached_more bytes more w =
      let k = kind_more bytes more (omega (arith, size_some (kind_of bytes), whole_room bytes w)) in
      reached_whole (bytes ++ more) (whole_more bytes more w)
      ∙ rw (record_more bytes more w, k, drop-append-le (size_of (kind_of bytes)) bytes more (whole_room bytes w))

not_whole : (bytes : List ℕ) → known (kind_of bytes) ≡ false → is_whole bytes ≡ false
unfolding is_whole
not_whole bytes e = rw e

-- a refused record is the last
pub walk_refused : {room : ℕ} {ph : Phase} {off : ℕ} {bytes : List ℕ} {verdict : ℕ} → Refused room ph off bytes verdict → (more : List ℕ) → walk_from room ph off (bytes ++ more) ≡ refused_line verdict off
walk_refused {room} {ph} {off} {bytes} (whole w e) more = rw (reached_more room ph off bytes more w, e)
walk_refused {room} {ph} {off} {bytes} (unknown h k e) more =
    walk_cut room ph off (bytes ++ more) (not_whole (bytes ++ more) (rw (kind_more bytes more h) k)) (rw length-append (omega arith)) ∙ rw e

-- ---- all that were taken, and the rest

-- where the turns after a record do
append_step : (room n : ℕ) (ph : Phase) (off k : ℕ) (l b : List ℕ)
    → ((next : Phase) → leads_on (reached_in room n next (off + size_of k) (drop (size_of k) (k ∷ l))) ≡ true
    → reached room next (off + size_of k) (drop (size_of k) (k ∷ l) ++ b)
    ≡ onward (λ p. reached room p (off + size_of k + length (drop (size_of k) (k ∷ l))) b) (reached_in room n next (off + size_of k) (drop (size_of k) (k ∷ l))))
    → leads_on (reached_in room (suc n) ph off (k ∷ l)) ≡ true
    → reached room ph off (k ∷ l ++ b) ≡ onward (λ p. reached room p (off + length (k ∷ l)) b) (reached_in room (suc n) ph off (k ∷ l))
unfolding reached_in
append_step room n ph off k l b turns = by (is_whole (k ∷ l)) refl
  where
    R : Phase → Outcome
    R next = reached_in room n next (off + size_of k) (drop (size_of k) (k ∷ l))

    K : ℕ → Phase → Outcome
    K at p = reached room p at b

    each : size_of k ≤ length (k ∷ l) → (o : Outcome) → leads_on (onward R o) ≡ true
        → onward (λ next. reached room next (off + size_of k) (drop (size_of k) (k ∷ l) ++ b)) o ≡ onward (K (off + length (k ∷ l))) (onward R o)
    each h (stops text) e = absurd (true≢false (sym e))
    each h (leads text next) e =
        let z : off + size_of k + length (drop (size_of k) (k ∷ l)) ≡ off + length (k ∷ l) = omega (arith, length-drop (size_of k) (k ∷ l)) in
        ap (printing text) (turns next (sym (leads_printing text (R next)) ∙ e) ∙ ap (λ (at : ℕ). onward (K at) (R next)) z)
        ∙ sym (onward_printing (K (off + length (k ∷ l))) text (R next))

    by : (w : Bool) → is_whole (k ∷ l) ≡ w → leads_on (cond w (onward R (outcome room ph off (record_in (k ∷ l)))) (stops (refused_line 10 off))) ≡ true
        → reached room ph off (k ∷ l ++ b) ≡ onward (K (off + length (k ∷ l))) (cond w (onward R (outcome room ph off (record_in (k ∷ l)))) (stops (refused_line 10 off)))
    by true w e = reached_more room ph off (k ∷ l) b w ∙ each (whole_room (k ∷ l) w) (outcome room ph off (record_in (k ∷ l))) e
    by false w e = absurd (true≢false (sym e))

append_turns : (room n : ℕ) (ph : Phase) (off : ℕ) (a b : List ℕ) → length a ≤ n → leads_on (reached_in room n ph off a) ≡ true
    → reached room ph off (a ++ b) ≡ onward (λ p. reached room p (off + length a) b) (reached_in room n ph off a)
unfolding reached_in
append_turns room zero ph off [] b h e = let z : off ≡ off + 0 = omega arith in ap (λ (at : ℕ). reached room ph at b) z ∙ sym (printing_none _)
append_turns room zero ph off (k ∷ l) b h e = absurd (omega arith)
append_turns room (suc n) ph off [] b h e = let z : off ≡ off + 0 = omega arith in ap (λ (at : ℕ). reached room ph at b) z ∙ sym (printing_none _)
append_turns room (suc n) ph off (k ∷ l) b h e =
    append_step room n ph off k l b (λ next. append_turns room n next (off + size_of k) (drop (size_of k) (k ∷ l)) b (shorter n k l h)) e

module _ (room : ℕ) (ph : Phase) (off : ℕ) (a b : List ℕ) {text : List ℕ} {next : Phase} (e : reached room ph off a ≡ leads text next) where
  reached_append : reached room ph off (a ++ b) ≡ printing text (reached room next (off + length a) b)
  reached_append = append_turns room (length a) ph off a b (omega arith) (rw e) ∙ rw e

  walk_reached : walk_from room ph off (a ++ b) ≡ text ++ walk_from room next (off + length a) b
  walk_reached =
      let z : off + length (a ++ b) ≡ off + length a + length b = omega (arith, length-append a b) in
      rw (reached_append, z) (after_printing (λ p. ending p (off + length a + length b)) text (reached room next (off + length a) b))

-- THE LAW: what the bytes up to `at` print, and then what the rest prints, whatever comes after the piece
pub walk_on : (room : ℕ) (ph : Phase) (off at : ℕ) (input more : List ℕ) {text : List ℕ} {next : Phase}
    → reached room ph off (take at input) ≡ leads text next
    → at ≤ length input
    → (place : ℕ)
    → place ≡ off + at
    → walk_from room ph off (input ++ more) ≡ text ++ walk_from room next place (drop at input ++ more)
walk_on room ph off at input more {text} {next} e h place p =
    let n : off + length (take at input) ≡ place = ap (λ (k : ℕ). off + k) (length-take-le at input h) ∙ sym p in
    ap (λ (l : List ℕ). walk_from room ph off (l ++ more)) (sym (take-append-drop at input))
    ∙ ap (walk_from room ph off) (append_assoc (take at input) (drop at input) more)
    ∙ walk_reached room ph off (take at input) (drop at input ++ more) e
    ∙ ap (λ (k : ℕ). text ++ walk_from room next k (drop at input ++ more)) n

-- ---- one record more

-- its own bytes are enough
module _ (bytes : List ℕ) (w : is_whole bytes ≡ true) where
  abbrev own : List ℕ
  own = take (size_of (kind_of bytes)) bytes

  own_size : length own ≡ size_of (kind_of bytes)
  own_size = length-take-le (size_of (kind_of bytes)) bytes (whole_room bytes w)

  own_kind : kind_of own ≡ kind_of bytes
  own_kind = sym (kind_more own (drop (size_of (kind_of bytes)) bytes) (omega (arith, own_size, size_some (kind_of bytes)))) ∙ rw (take-append-drop (size_of (kind_of bytes)) bytes)

  own_whole : is_whole own ≡ true
  unfolding is_whole
  own_whole = rw (own_kind, whole_known bytes w) (le-leb (size_of (kind_of bytes)) (length own) (omega (arith, own_size)))

  own_record : record_in own ≡ record_in bytes
  own_record = sym (record_more own (drop (size_of (kind_of bytes)) bytes) own_whole) ∙ rw (take-append-drop (size_of (kind_of bytes)) bytes)

  reached_own : (room : ℕ) (ph : Phase) (off : ℕ) → reached room ph off own ≡ outcome room ph off (record_in bytes)
  unfolding reached_in
  reached_own room ph off =
      let z : drop (size_of (kind_of own)) own ≡ [] = ap (λ (n : ℕ). drop n own) (ap size_of own_kind ∙ sym own_size) ∙ drop-length own in
      reached_whole room ph off own own_whole ∙ rw (z, own_record) (onward_none (outcome room ph off (record_in bytes)))

-- the next whole record after those up to `at`
pub reached_next : (room : ℕ) (ph : Phase) (off at : ℕ) (input : List ℕ) {text : List ℕ} {next : Phase}
    → reached room ph off (take at input) ≡ leads text next
    → at ≤ length input
    → is_whole (drop at input) ≡ true
    → reached room ph off (take (at + size_of (kind_of (drop at input))) input) ≡ printing text (outcome room next (off + at) (record_in (drop at input)))
reached_next room ph off at input {text} {next} e h w =
    let n : length (take at input) ≡ at = length-take-le at input h in
    ap (reached room ph off) (take-add at (size_of (kind_of (drop at input))) input)
    ∙ reached_append room ph off (take at input) (own (drop at input) w) e
    ∙ rw (n, reached_own (drop at input) w room next (off + at))
