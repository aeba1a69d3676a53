-- What a report finds on a walk over the objects of a desk or a reader.
use Rattle.std.specs.Prelude.{List, Option}
use Rattle.esc_apply.specs.ObjectStreams.{Entry}
use Rattle.esc_check.specs.FindingValue.{FindingValue}
use Rattle.esc_check.specs.declared.stream.StreamFault.{StreamFault}
use Rattle.esc_check.specs.declared.stream.StreamFault.TheVariants.{Source, NoMemory}
use Rattle.esc_store.specs.declared.fault.StoreFault.{StoreFault}
use Rattle.esc_store.specs.declared.fault.StoreFault.TheVariants.{NoMemory as no_memory}
use Rattle.esc_desk.specs.declared.status.End.{End}
use Rattle.esc_events.specs.Apart.{WhereApart}
use Rattle.esc_events.specs.Events.{EventValue}
use Rattle.esc_events.specs.LatestTables.{AreEntries}
use Rattle.esc_reports.specs.Reports.{AreFindings}

-- these are the findings in the tables of the latest chain, where its end says this
abbrev pub AreFoundAt : List EventValue → Option End → List FindingValue → Type 0
AreFoundAt e end findings = WhereApart e ((entries : List Entry) × AreEntries e entries
    × AreFindings entries end findings)

-- the fault that ends a report over a walk: the walk's own, or S2 where memory was refused
abbrev pub walk_fault : StreamFault StoreFault → StoreFault
walk_fault (Source fault) = fault
walk_fault NoMemory = no_memory
