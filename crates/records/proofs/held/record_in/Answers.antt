use Rattle.records.proofs.Records.{whole_kind, record_is, read_narrow}
use borrow.Author.Rules.{rules}
use Rattle.records.proofs.held.record_in.Goals as goal

-- `records::held::record_in` meets its contract. Assumes nothing.

pub width-a-requires : goal.width-a-requires
width-a-requires c = search (whole_kind, rules)

pub width-b-requires : goal.width-b-requires
width-b-requires c = search (whole_kind, rules)

pub width-c-requires : goal.width-c-requires
width-c-requires c = search (whole_kind, rules)

pub returns : goal.returns
returns c =
    let e =
    record_is
    c.args.bytes.now
    _
    _
    _
    _
    _
    _
    _
    c.kind_of-kind.ensures.0
    c.width-a.ensures.0
    c.width-b.ensures.0
    c.width-c.ensures.0
    c.number-first.ensures
    c.number-second.ensures
    c.number-third.ensures in
    (e, read_narrow c.args.bytes.now (λ i. (c.shared_slice_known-1.given i).fits) _ e)
