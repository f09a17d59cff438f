-- A record that ends the program: the refusal 10 alone is printed, and nothing is changed. Assumes nothing.
use mathlib.Core.Path.{◌≡◌, sym, ◌∙◌}
use mathlib.Core.Bool.{true, true≢false}
use Prim.Native.Nat.{ℕ}
use native.Mathlib.Decide.{ℕ_discrete}
use borrow.Author.Tests.{eq-eqb, ne_eqb, eqb-true}
use Rattle.records.specs.declared.Record.{Record}
use Rattle.wording.specs.Lines.{refused_line}
use Rattle.replies.specs.Walking.{Walking, item_fault, with_fit, walking_verdict, walking_line, items_after, table_after, ends}
use Rattle.replies.proofs.Replying.{enter_not_ten}

module _ (s : Walking) (r : Record) (e : ends s r ≡ true) where
  is_ten : walking_verdict s r ≡ 10
  unfolding ends
  is_ten = eqb-true (walking_verdict s r) 10 e

  pub line_ends : (offset : ℕ) → walking_line s offset r ≡ refused_line 10 offset
  unfolding walking_line
  line_ends offset = rw is_ten

  -- no entering has that refusal
  not_entered_lem : r.kind ≡ 10 → ⊥
  unfolding ends walking_verdict
  not_entered_lem k = true≢false (sym (rw k at e) ∙ sym (enter_not_ten s r.first))

  item_ten : r.kind ≡ 9 → item_fault s.items r.first ≡ 10
  unfolding walking_verdict
  item_ten k = rw k at is_ten

  pub items_ends : items_after s r ≡ s.items
  items_ends = elim (ℕ_discrete r.kind 9) [
    | yes k ↦ unfold items_after with_fit in rw (eq-eqb r.kind 9 k, item_ten k)
    | no n ↦ unfold items_after in rw (ne_eqb r.kind 9 n, ne_eqb r.kind 10 not_entered_lem)
  ]

  pub table_ends : table_after s r ≡ s.table
  unfolding table_after
  table_ends = rw (ne_eqb r.kind 10 not_entered_lem)
