-- A walk record by record: what is printed so far, and what is still to be printed. Assumes nothing.
use mathlib.Core.Path.{◌≡◌, refl, sym, ap, ◌∙◌}
use mathlib.Core.Bool.{Bool, true, false, cond, true≢false}
use mathlib.Core.List.{List, [], ◌++◌, append-nil}
use Prim.Native.Nat.{ℕ, ◌+◌, ◌-◌, ◌≤◌, ◌<◌}
use native.Mathlib.Omega.{arith}
use lib.ListN.{length, take, drop, length-append, length-drop}
use lib.Seq.{sets-eq, length-sets, length-take-le, take_at, drop_at, drop-drop}
use Rattle.lent.proofs.Pool.{rest_all}
use Rattle.table.specs.Tables.{Table}
use Rattle.records.specs.declared.Record.{Record}
use Rattle.records.specs.Records.{kind_of, size_of, is_whole, record_in}
use Rattle.records.proofs.Records.{size_some, whole_room}
use Rattle.wording.specs.Lines.{refused_line, Said, Room}
use Rattle.replies.specs.Walking.{Walking, walking, walking_line, walking_after, ends}
use Rattle.replies.specs.declared.Replied.{Replied}
use Rattle.replies.specs.Memory.{Ready, Replies}
use Rattle.house.specs.declared.Walked.{Walked}
use Rattle.house.specs.House.{walks, outcome, stops, leads, printing, reached_in, reached}
use Rattle.house.specs.declared.Found.{Found}
use Rattle.house.specs.declared.Found.TheVariants.{Whole, Short, Unknown}
use Rattle.house.specs.Memory.{Refused, WalkedSoFar, FedWalk}
use Rattle.house.specs.Memory.Refused.{whole, unknown}
use Rattle.walking.specs.Answering.{PastReply, Answers, Next, Last, Ahead, Ended}
use Rattle.house.proofs.Walk.{reached_next}
use Rattle.house.proofs.Front.{rested, front_of, front_whole, front_unknown, front_cut, none_cut, item_size, item_known, item_room}
use Rattle.walking.proofs.Rows.{ready_after}
use Rattle.walking.proofs.Long.{refused_short, line_short}
use Rattle.walking.proofs.Ends.{line_ends, items_ends, table_ends}

-- ---- a line in the buffer

module _ {text b : List ℕ} {at r : ℕ} {e : List ℕ} (s : Said text b at r e) (fits : at + length text ≤ length b) where
  said_front : length (take at b ++ text) ≡ r
  said_front = rw (length-append (take at b) text, length-take-le at b (omega arith)) (sym s.next)

  said_spelled : e ≡ take at b ++ text ++ drop (at + length text) b
  said_spelled = s.whole ∙ sets-eq text b at fits

  said_take : take r e ≡ take at b ++ text
  said_take = ap (take r) said_spelled ∙ take_at (take at b ++ text) (drop (at + length text) b) r said_front

  -- what stands past it stays
  said_drop : drop r e ≡ drop r b
  said_drop = ap (drop r) said_spelled ∙ drop_at (take at b ++ text) (drop (at + length text) b) r said_front ∙ rw s.next

  said_length : length e ≡ length b
  said_length = rw s.whole (length-sets b at text)

-- ---- record by record

-- what a record of a walk does
module _ (room : ℕ) (s : Walking) (offset : ℕ) (r : Record) where
  outcome_stops : ends s r ≡ true → outcome room (walks s) offset r ≡ stops (walking_line s offset r)
  unfolding outcome
  outcome_stops e = rw e

  outcome_leads : ends s r ≡ false → outcome room (walks s) offset r ≡ leads (walking_line s offset r) (walks (walking_after s r))
  unfolding outcome
  outcome_leads e = rw e

-- the piece so far. Where nothing was taken, no line is in the buffer
pub record Going (input : List ℕ) (offset : ℕ) (w : List ℕ) (t₀ : Table) (items₀ out₀ : List ℕ) (v : Walked) (out : List ℕ) (t : Table) (items : List ℕ) : Type 0 where
  pub far : WalkedSoFar input offset w t₀ items₀ out₀ v out t items
  pub long : length out ≡ 131072
  pub none : v.at ≡ 0 → v.ends ≡ false → v.used ≡ 0

-- what is left of the turns: a record takes a byte, and a refusal is the last step
abbrev pub left : List ℕ → Walked → ℕ
left input v = length input - v.at + cond v.ends 0 1

pub going_start : {input : List ℕ} {offset : ℕ} {w : List ℕ} {t : Table} {items out : List ℕ}
    → Ready w t items
    → length out ≡ 131072
    → Going input offset w t items out (record { at = 0; offset = offset; used = 0; ends = false }) out t items
going_start y h = record {
  far = record {
    within = omega arith;
    place = λ l. omega arith;
    lines = [];
    reaches = λ room l. unfold reached_in in refl;
    refused = λ e. absurd (true≢false (sym e));
    size = refl;
    used = omega arith;
    prints = refl;
    rest = refl;
    ready = y;
  };
  long = h;
  none = λ e x. refl;
}

-- a reply, as the code reads the record
answers_is : {w : List ℕ} {t : Table} {items : List ℕ} {v : Walked} {out out' : List ℕ} {t' : Table} {items' : List ℕ} {a : Replied} {r : Walked}
    → (bytes : List ℕ) (item : Record)
    → item ≡ record_in bytes
    → (size : ℕ)
    → size ≡ size_of item.kind
    → Replies (walking w t items) v.offset item out v.used a out' t' items'
    → PastReply v size a r
    → Answers bytes w t items v out r out' t' items'
answers_is {v = v} {a = a} bytes item e size z p q =
    let y = item_size bytes item e size z in
    let s = q.told.1 in
    record {
      replies = rw (q.told.0, s, ← e) (record { line = p.line; table = p.table; items = p.items; ends = p.ends });
      stays = λ x. q.stays (sym s ∙ x);
      goes = λ x. rw (← y) (q.goes (sym s ∙ x));
      reach = λ x h. rw (← y) (q.reach (sym s ∙ x) (rw y h));
    }

module _ {input : List ℕ} {offset : ℕ} {w : List ℕ} {t₀ : Table} {items₀ out₀ : List ℕ} {v : Walked} {out : List ℕ} {t : Table} {items : List ℕ}
    (g : Going input offset w t₀ items₀ out₀ v out t items) (n : Next input v) where
  abbrev here : List ℕ
  here = drop v.at input

  here_length : length here ≡ length input - v.at
  here_length = length-drop v.at input

  so_far : take v.used out ≡ g.far.lines
  so_far = g.far.prints ∙ rw n.opened (append-nil g.far.lines)

  module _ (text : List ℕ) (used : ℕ) (out' : List ℕ) (s : Said text out v.used used out') (fits : v.used + length text ≤ length out) where
    line_take : take used out' ≡ g.far.lines ++ text
    line_take = said_take s fits ∙ ap (λ (l : List ℕ). l ++ text) so_far

    line_drop : drop used out' ≡ drop used out₀
    line_drop =
        said_drop s fits
        ∙ rw s.next (sym (drop-drop (length text) v.used out) ∙ ap (drop (length text)) g.far.rest ∙ drop-drop (length text) v.used out₀)

    line_used : used ≤ length out'
    line_used = omega (arith, s.next, said_length s fits)

  -- ---- refused with 10: the program ends

  going_over : (r : Walked) (out' : List ℕ) → Said (refused_line 10 v.offset) out v.used r.used out'
      → (r.at ≡ v.at) × (r.offset ≡ v.offset) × (r.ends ≡ true)
      → ((room : ℕ) → Refused room (walks (walking w t items)) v.offset here 10)
      → Going input offset w t₀ items₀ out₀ r out' t items
  going_over r out' s (p, q, e) refusal =
      let line = refused_line 10 v.offset in
      let fits : v.used + length line ≤ length out = omega (arith, g.long, n.few, refused_short 10 v.offset) in
      record {
        far = record {
          within = omega (arith, g.far.within);
          place = λ l. q ∙ rw p (g.far.place (omega arith));
          lines = g.far.lines;
          reaches = λ room l. rw p (g.far.reaches room (omega arith));
          refused = λ _ room. rw (p, q) (refusal room);
          size = said_length s fits ∙ g.far.size;
          used = line_used line r.used out' s fits;
          prints = rw (e, q) (line_take line r.used out' s fits);
          rest = line_drop line r.used out' s fits;
          ready = g.far.ready;
        };
        long = said_length s fits ∙ g.long;
        none = λ z x. absurd (true≢false (sym e ∙ x));
      }

  -- ---- a record

  module _ {r : Walked} {out' : List ℕ} {t' : Table} {items' : List ℕ} (a : Answers here w t items v out r out' t' items') (whole_here : is_whole here ≡ true) where
    abbrev size : ℕ
    size = size_of (kind_of here)

    abbrev now : Walking
    now = walking w t items

    abbrev line : List ℕ
    line = walking_line now v.offset (record_in here)

    room_here : v.at + size ≤ length input
    room_here = omega (arith, whole_room here whole_here, here_length, size_some (kind_of here))

    fits : v.used + length line ≤ length out
    fits = omega (arith, g.long, n.few, line_short g.far.ready v.offset (record_in here))

    answer_ends : r.ends ≡ true → Going input offset w t₀ items₀ out₀ r out' t' items'
    answer_ends e =
        let x : ends now (record_in here) ≡ true = sym a.replies.ends ∙ e in
        let l = line_ends now (record_in here) x v.offset in
        let p : t' ≡ t = a.replies.table ∙ table_ends now (record_in here) x in
        let q : items' ≡ items = a.replies.items ∙ items_ends now (record_in here) x in
        rw (p, q) (going_over r out' (rw l at a.replies.line) ((a.stays e).0, (a.stays e).1, e)
        (λ room. whole whole_here (outcome_stops room now v.offset (record_in here) x ∙ ap stops l)))

    module _ (e : r.ends ≡ false) where
      next_place : offset + r.at < 18446744073709551616 → r.offset ≡ offset + r.at
      next_place l =
          let y = a.goes e in
          let p = g.far.place (omega arith) in
          omega (arith, a.reach e (omega arith))

      next_reaches : (room : ℕ) → offset + r.at < 18446744073709551616
          → reached room (walks (walking w t₀ items₀)) offset (take r.at input) ≡ leads (g.far.lines ++ line) (walks (walking w t' items'))
      next_reaches room l =
          let y = a.goes e in
          let p : offset + v.at ≡ v.offset = sym (g.far.place (omega arith)) in
          let x : ends now (record_in here) ≡ false = sym a.replies.ends ∙ e in
          ap (λ (k : ℕ). reached room (walks (walking w t₀ items₀)) offset (take k input)) y
          ∙ reached_next room (walks (walking w t₀ items₀)) offset v.at input (g.far.reaches room (omega arith)) g.far.within whole_here
          ∙ ap (λ (o : ℕ). printing g.far.lines (outcome room (walks now) o (record_in here))) p
          ∙ ap (printing g.far.lines) (outcome_leads room now v.offset (record_in here) x)
          ∙ rw (a.replies.table, a.replies.items)

      answer_leads : Going input offset w t₀ items₀ out₀ r out' t' items'
      answer_leads = record {
        far = record {
          within = omega (arith, a.goes e, room_here);
          place = next_place;
          lines = g.far.lines ++ line;
          reaches = next_reaches;
          refused = λ x. absurd (true≢false (sym x ∙ e));
          size = said_length a.replies.line fits ∙ g.far.size;
          used = line_used line r.used out' a.replies.line fits;
          prints = rw e (line_take line r.used out' a.replies.line fits ∙ sym (append-nil (g.far.lines ++ line)));
          rest = line_drop line r.used out' a.replies.line fits;
          ready = rw (a.replies.table, a.replies.items) (ready_after g.far.ready (record_in here));
        };
        long = said_length a.replies.line fits ∙ g.long;
        none = λ z x. absurd (omega (arith, a.goes e, size_some (kind_of here)));
      }

    going_next : Going input offset w t₀ items₀ out₀ r out' t' items'
    going_next = by r.ends refl
      where
        by : (b : Bool) → r.ends ≡ b → Going input offset w t₀ items₀ out₀ r out' t' items'
        by true e = answer_ends e
        by false e = answer_leads e

    answer_less : left input r < left input v
    answer_less = rw n.opened (by r.ends refl)
      where
        by : (b : Bool) → r.ends ≡ b → length input - r.at + cond b 0 1 < length input - v.at + 1
        by true e = omega (arith, (a.stays e).0)
        by false e = omega (arith, a.goes e, size_some (kind_of here), n.left)

  module _ (whole_here : is_whole here ≡ true) {item : Record} (i : item ≡ record_in (rested input v.at)) {a : Replied} {out' : List ℕ} {t' : Table} {items' : List ℕ}
      (p : Replies (walking w t items) v.offset item out v.used a out' t' items') {r : Walked} (q : PastReply v (size_of item.kind) a r) where
    answers : Answers here w t items v out r out' t' items'
    answers = answers_is here item (rw (rest_all input v.at) at i) (size_of item.kind) refl p q

    -- a step leads from what is so to what is so, and on
    pub going_step : Going input offset w t₀ items₀ out₀ r out' t' items'
    going_step = going_next answers whole_here

    pub step_less : left input r < left input v
    step_less = answer_less answers whole_here

  -- what a step asks for: room for a line
  pub going_room : Room v.used out
  going_room = omega (arith, g.long, n.few)

short_known : Short ≡ Unknown → ⊥
short_known e = cc

-- where there is none more, that is all
module _ {input : List ℕ} {offset : ℕ} {w : List ℕ} {t₀ : Table} {items₀ out₀ : List ℕ} {v : Walked} {out : List ℕ} {t : Table} {items : List ℕ}
    (g : Going input offset w t₀ items₀ out₀ v out t items) {found : Found} (a : Ahead input v found) where
  pub end_room : found ≡ Unknown → Room v.used out
  end_room u = going_room g (a.unknown u).0

  pub going_fed : (found ≡ Whole → ⊥) → {r : Walked} {out' : List ℕ} → Ended v found out r out' → FedWalk input offset w t₀ items₀ out₀ r out' t items
  going_fed z {r} {out'} e = by found refl
    where
      by : (x : Found) → found ≡ x → FedWalk input offset w t₀ items₀ out₀ r out' t items
      by Whole q = absurd (z q)
      by Short q =
          let (m, l) = e.keeps (λ u. short_known (sym q ∙ u)) in
          rw (m, l) (record { walked = g.far; cut = λ h x. (a.rests q).cut h (g.none h x) x })
      by Unknown u =
          let (n, k) = a.unknown u in
          let far = going_over g n r out' (e.said u) (e.place u) (λ room. unknown (omega (arith, length-drop v.at input, n.left)) k refl) in
          record { walked = far.far; cut = λ _ x. absurd (true≢false (sym (e.place u).2 ∙ x)) }

-- ---- whether there is a step

-- the record that comes next is whole, of a known kind, and its end has a place
module _ {input : List ℕ} {v : Walked} (n : Next input v) (w : is_whole (drop v.at input) ≡ true) where
  pub next_whole : is_whole (rested input v.at) ≡ true
  next_whole = rw (rest_all input v.at) w

  pub next_past : {item : Record} → item ≡ record_in (rested input v.at) → length input < 18446744073709551616 → (item.kind ≤ 12) × (v.at + size_of item.kind < 18446744073709551616)
  next_past {item} e h = (
    item_known (rested input v.at) item e next_whole,
    item_room (rested input v.at) item e next_whole (size_of item.kind) v.at v.at refl refl (rw (rest_all input v.at, length-drop v.at input) (omega (arith, n.left))),
  )

module _ {input : List ℕ} {v : Walked} where
  ahead_not : Last input v → Ahead input v Short
  ahead_not h = record { takes = λ z. cc; unknown = λ z. cc; rests = λ _. h }

  pub ahead_ends : v.ends ≡ true → Ahead input v Short
  ahead_ends h = ahead_not (record { cut = λ p q e. absurd (true≢false (sym h ∙ e)) })

  pub ahead_full : 40000 < v.used → Ahead input v Short
  ahead_full h = ahead_not (record { cut = λ p q e. absurd (omega arith) })

  pub ahead_none : length input ≤ v.at → Ahead input v Short
  ahead_none h = ahead_not (record { cut = λ p q e. none_cut input (omega arith) })

-- by what is at the front
pub ahead_front : {input : List ℕ} {v : Walked} (r : Found) → r ≡ front_of (rested input v.at) → v.at < length input → v.ends ≡ false → v.used ≤ 40000 → Ahead input v r
ahead_front {input} {v} r e l o f =
    let here : r ≡ front_of (drop v.at input) = rw (rest_all input v.at) at e in
    let n : Next input v = record { left = l; opened = o; few = f } in
    record {
      takes = λ z. (n, front_whole (drop v.at input) r here z);
      unknown = λ u. (n, front_unknown (drop v.at input) r here u);
      rests = λ x. record { cut = λ p q z. rw p at (front_cut (drop v.at input) r here x) };
    }

-- ---- the ways through the functions

-- past the reply
pub reply_ends : (v : Walked) (size : ℕ) (a : Replied) → a.ends ≡ true → PastReply v size a (record { at = v.at; offset = v.offset; used = a.used; ends = true })
reply_ends v size a q = record { told = (refl, sym q); stays = λ _. (refl, refl); goes = λ x. absurd (true≢false (sym q ∙ x)); reach = λ x. absurd (true≢false (sym q ∙ x)) }

pub reply_goes : (v : Walked) (kind size : ℕ) (a : Replied) (off : ℕ)
    → a.ends ≡ false
    → size ≡ size_of kind
    → (v.offset + size < 18446744073709551616 → off ≡ v.offset + size)
    → PastReply v (size_of kind) a (record { at = v.at + size; offset = off; used = a.used; ends = false })
reply_goes v kind size a off q z f = rw (← z) (record { told = (refl, sym q); stays = λ x. absurd (true≢false (sym x ∙ q)); goes = λ _. refl; reach = λ _ h. f h })

-- at the end
module _ (v : Walked) (found : Found) (out : List ℕ) where
  pub end_keeps : (found ≡ Unknown → ⊥) → Ended v found out v out
  end_keeps n = record { said = λ e. absurd (n e); place = λ e. absurd (n e); keeps = λ _. (refl, refl) }

  pub end_refuses : found ≡ Unknown → (used : ℕ) (out' : List ℕ) → Said (refused_line 10 v.offset) out v.used used out' → Ended v found out (record { at = v.at; offset = v.offset; used = used; ends = true }) out'
  end_refuses e used out' s = record { said = λ _. s; place = λ _. (refl, refl, refl); keeps = λ n. absurd (n e) }
