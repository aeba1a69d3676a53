use Rattle.esc_store.proofs.Common.{◌≡◌, map, take}
use Rattle.esc_scan.specs.Kinds.{kind_read}
use Rattle.esc_store.proofs.reader.tables.numbers_of.Given as goal

abbrev pub invariant-loop-it : goal.invariant-loop-it
invariant-loop-it l = l.numbers.items ≡ map kind_read (take l.it-index l.kinds)
