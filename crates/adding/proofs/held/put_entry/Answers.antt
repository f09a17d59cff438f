use mathlib.Core.Path.{refl}
use Rattle.adding.proofs.Entries.{count_asked, entry_added}
use Rattle.adding.proofs.held.put_entry.Goals as goal

pub count_entry-requires : goal.count_entry-requires
count_entry-requires c =
    let asked = count_asked c.args.sheet.now _ _ _ _ _ _ _ c.requires.sound c.args.property c.args.kind c.args.number c.requires.kind_value in record { rules_bound = asked.0; le_rules = asked.1 }

pub returns : goal.returns
returns c =
    entry_added c.args.sheet.now _ _ _ _ _ _ _ c.requires.sound c.args.property c.args.kind c.args.number c.requires.kind_value c.requires.property_bound.2 _ refl _ _ _ _ c.count_entry.ensures c.half.ensures c.put.ensures c.put-2.ensures
