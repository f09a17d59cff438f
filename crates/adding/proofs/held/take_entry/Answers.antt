use Rattle.adding.proofs.Entries.{entry_outside, entry_kind, entry_over, entry_sheet_over, entry_asked, style_asked, sum_fits}
use borrow.Author.Tests.{not-true, not-false}
use mathlib.Core.Path.{refl, ap}
use mathlib.Core.Bool.{not}
use Rattle.adding.proofs.held.take_entry.Goals as goal

pub returns-then-not-in_style : goal.returns-then-not-in_style
returns-then-not-in_style c =
    entry_outside c.args.sheet.now _ _ _ _ _ _ _ c.requires.sound c.args.property c.args.kind c.args.number _ c.in_style.ensures _ (not-true _ (ap not c.if-not-in_style.true)) refl

pub returns-then-kind-gt3 : goal.returns-then-kind-gt3
returns-then-kind-gt3 c =
    entry_kind c.args.sheet.now _ _ _ _ _ _ _ c.requires.sound c.args.property c.args.kind c.args.number _ c.in_style.ensures (not-false _ (ap not c.if-not-in_style.false)) _ c.if-kind-gt3.true refl

pub style_entries-requires : goal.style_entries-requires
style_entries-requires c =
    style_asked c.args.sheet.now _ _ _ _ _ _ _ c.requires.sound c.args.property c.args.kind c.args.number _ c.in_style.ensures (not-false _ (ap not c.if-not-in_style.false))

pub returns-then-style_entries-ge32 : goal.returns-then-style_entries-ge32
returns-then-style_entries-ge32 c =
    entry_over c.args.sheet.now _ _ _ _ _ _ _ c.requires.sound c.args.property c.args.kind c.args.number _ c.in_style.ensures (not-false _ (ap not c.if-not-in_style.false)) c.if-kind-gt3.false _ c.style_entries.ensures _ c.if-style_entries-ge32.true refl

pub overflow_add-all_entries : goal.overflow_add-all_entries
overflow_add-all_entries c =
    sum_fits c.args.sheet.now _ _ _ _ _ _ _ c.requires.sound c.args.property c.args.kind c.args.number c.requires.sheet_value _ c.all_entries.ensures

pub returns-then-all_entries-f-ge4096 : goal.returns-then-all_entries-f-ge4096
returns-then-all_entries-f-ge4096 c =
    entry_sheet_over c.args.sheet.now _ _ _ _ _ _ _ c.requires.sound c.args.property c.args.kind c.args.number _ c.in_style.ensures (not-false _ (ap not c.if-not-in_style.false)) c.if-kind-gt3.false _ c.style_entries.ensures c.if-style_entries-ge32.false _ c.all_entries.ensures _ c.if-all_entries-f-ge4096.true refl

pub put_entry-requires : goal.put_entry-requires
put_entry-requires c =
    let asked = entry_asked c.args.sheet.now _ _ _ _ _ _ _ c.requires.sound c.args.property c.args.kind c.args.number _ c.in_style.ensures (not-false _ (ap not c.if-not-in_style.false)) c.if-kind-gt3.false _ c.style_entries.ensures c.if-style_entries-ge32.false _ c.all_entries.ensures c.requires.property_bound c.if-all_entries-f-ge4096.false in record { sound = asked.0; property_bound = asked.1.0; kind_value = asked.1.1 }
