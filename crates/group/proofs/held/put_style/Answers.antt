use borrow.Author.Rules.{rules}
use Rattle.group.proofs.Writing.{style_count, style_count_fits, style_in_properties, style_in_kinds, style_in_numbers, style_within, style_fits, style_entries_fit_lem, style_next_fits, style_put}
use Rattle.group.proofs.held.put_style.Goals as goal

pub put_style_parts-requires : goal.put_style_parts-requires
put_style_parts-requires c = search (style_within, style_count, style_in_properties, style_in_kinds, style_in_numbers, rules)

pub overflow_add-c : goal.overflow_add-c
overflow_add-c c = search (style_fits, rules)

pub overflow_cast-n : goal.overflow_cast-n
overflow_cast-n c = search (style_count_fits, rules)

pub overflow_add-c-2 : goal.overflow_add-c-2
overflow_add-c-2 c = search (style_entries_fit_lem, rules)

pub overflow_add-c-3 : goal.overflow_add-c-3
overflow_add-c-3 c = search (style_next_fits, rules)

pub returns : goal.returns
returns c = search (style_put, rules)
