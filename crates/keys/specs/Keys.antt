-- A key by value: 01, "Weight, winners, changes". Assumes nothing.
use Rattle.theory.specs.Cascade.{Key}
use Rattle.weighed.specs.Weighing.{weight_from}
use Rattle.keys.specs.declared.CascadeEntryKey.{CascadeEntryKey}

-- "A source's key is origin rank, weight, source index, order in its group."
abbrev pub key_from : CascadeEntryKey → Key
key_from k = record { origin = k.origin; weight = weight_from k.specificity; source = k.source_index; order = k.order }
