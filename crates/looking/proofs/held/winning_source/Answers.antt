use borrow.Author.Rules.{rules}
use Rattle.looking.proofs.Listed.{ranking_fits_lem, rules_are, winner_stands}
use Rattle.looking.proofs.held.winning_source.Goals as goal

pub winner-requires : goal.winner-requires
winner-requires c =
    let l = c.requires.number_bound in
    (ranking_fits_lem _ _ _ _ _ _ (c.args.sheet.in_shape, c.requires.sheet_value) _ c.word.ensures, rules_are _ _ _ _ _ _ (c.args.sheet.in_shape, c.requires.sheet_value) _ l _ c.list_of-rules.ensures)

pub returns : goal.returns
returns c = search (winner_stands, rules)
