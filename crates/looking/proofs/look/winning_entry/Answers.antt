use mathlib.Core.Path.{refl}
use Rattle.looking.proofs.Verdicts.{state_passed}
use Rattle.looking.proofs.Winners.{winner_is_place, found_in}
use Rattle.looking.proofs.look.winning_entry.Goals as goal

pub invariant_of-sheet : goal.invariant_of-sheet
invariant_of-sheet c = let (e, l) = state_passed _ _ _ _ _ _ _ _ _ c.in_ok-check_state.ensures refl in record { in_shape = e.0 }

pub winning_source-best-requires : goal.winning_source-best-requires
winning_source-best-requires c = let (e, l) = state_passed _ _ _ _ _ _ _ _ _ c.in_ok-check_state.ensures refl in record { sheet_value = e.1; number_bound = l }

pub entry-requires : goal.entry-requires
entry-requires c = let (e, l) = state_passed _ _ _ _ _ _ _ _ _ c.in_ok-check_state.ensures refl in winner_is_place _ _ _ _ _ _ e _ l _ _ c.winning_source-best.ensures

pub returns : goal.returns
returns c = let (e, l) = state_passed _ _ _ _ _ _ _ _ _ c.in_ok-check_state.ensures refl in (c.in_ok-check_state.ensures, found_in _ _ _ _ _ _ e _ l _ _ c.winning_source-best.ensures _ c.entry.ensures)
