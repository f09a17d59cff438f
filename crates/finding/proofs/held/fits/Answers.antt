use borrow.Author.Rules.{rules}
use Rattle.finding.proofs.Room.{fits_none, fits_less, fits_is}
use Rattle.finding.proofs.held.fits.Goals as goal

pub returns-then-room-used : goal.returns-then-room-used
returns-then-room-used c = search (fits_none, rules)

pub returns-then-room-used-2 : goal.returns-then-room-used-2
returns-then-room-used-2 c = search (fits_less, rules)

pub returns : goal.returns
returns c = search (fits_is, rules)
