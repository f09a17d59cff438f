use Rattle.replies.proofs.held.subject_row.Goals as goal

-- `replies::held::subject_row` meets its contract. Assumes nothing.

pub returns : goal.returns
returns c = λ k. absurd (c.if-kind-eq10.false k)
