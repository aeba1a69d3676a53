-- What is seen of a store that reflects a list of events, for its acceptance.
use Rattle.std.specs.Prelude.{◌≡◌, ℕ, List, length, map, Bool, true, false, count_by}
use Rattle.std.specs.FinSet as set
use Rattle.std.specs.Prelude.{string_bytes}
use Rattle.esc_chain.specs.Chain.{IsLatestChainAt}
use Rattle.esc_store.specs.ReplyValue.{ReplyValue}
use Rattle.esc_store.specs.declared.reply.Verdict.{Verdict}
use Rattle.esc_store.specs.declared.reply.Verdict.TheVariants.{A1, A2, A3, A4, A5}
use Rattle.esc_events.specs.Apart.{WhereApart}
use Rattle.esc_events.specs.Events.{EventValue, union, last_moment}
use Rattle.esc_events.specs.LatestTables.{IsChainOf}
use Rattle.esc_desk.specs.Reads.{replies_of, AreParkedOf}
use Rattle.esc_acceptance.specs.Acceptance.{SeenValue}
use Rattle.esc_acceptance.specs.Tlds.{only_name}
use Rattle.esc_inspection.specs.declared.facts.StoreFacts.{StoreFacts}
use Rattle.esc_inspection.specs.Contents.{AreContentsOf}
use Rattle.esc_inspection.specs.Parts.{AreTotalsOf, AreEndingOf, AreLinesFor, AreSpoiledAmong}
use Rattle.esc_inspection.specs.Parts.{AreTldsOf, AreChainFactsOf, IsRebuiltFrom}

-- the verdict that version 1 gave for a body that no row listed
abbrev pub is_early : Verdict → Bool
is_early A1 = false
is_early A2 = true
is_early (A3 refusal) = false
is_early A4 = false
is_early A5 = false

-- how many replies have it
abbrev pub early_count : List ReplyValue → ℕ
early_count replies = count_by (λ (r : ReplyValue). is_early r.verdict) replies

-- what the acceptance is about
abbrev pub seen_in : StoreFacts → SeenValue
seen_in f = record {
  tlds = length f.bodies.tlds.names.items;
  moment = f.books.moment;
  clock = f.clock;
  end = f.totals.end;
  is_latest = f.kept_chain.is_latest;
  gaps = f.listing.gaps.items;
  parked = length f.parked.items;
  early = early_count f.books.receipts.items;
  findings = f.contents.findings.items;
  flaws = f.contents.flaws;
  objects = f.totals.objects.items;
  counts = f.ending.counts.items;
  tables = f.chain.declared.tables.items;
  lacking = f.contents.lacking.items;
  orphans = f.chain.orphans;
  spoiled = length f.bodies.spoiled.items;
  are_read = f.chain.are_read;
  is_rebuilt = f.is_rebuilt;
  notes = map string_bytes f.chain.declared.notes.items;
}

module _ (e : List EventValue) where
  -- what is said of bodies, chains and tables
  pub record AreKeptFacts (f : StoreFacts) : Type 0 where
    pub totals : AreTotalsOf e f.totals.end f.totals.objects.items
    pub ending : AreEndingOf e f.ending.end f.ending.counts.items
    pub lines : AreLinesFor e f.listing.held.items f.listing.gaps.items
    pub parked : AreParkedOf e f.parked.items
    pub spoiled : AreSpoiledAmong e f.listing.held.items f.bodies.spoiled.items
    pub tlds : AreTldsOf e f.listing.held.items f.bodies.tlds
    pub rows : IsChainOf e f.kept_chain.rows.items
    pub chain : AreChainFactsOf e f.chain
    pub rebuilt : IsRebuiltFrom e f.kept_chain.rows.items f.is_rebuilt
    pub contents : AreContentsOf e f.ending.end
        (only_name (map string_bytes f.bodies.tlds.names.items))
        f.contents.findings.items f.contents.lacking.items f.contents.flaws

  -- what was seen is what the events leave
  pub record AreFactsAfter (f : StoreFacts) : Type 0 where
    pub moment : f.books.moment ≡ last_moment e
    pub receipts : f.books.receipts.items ≡ replies_of e
    pub latest : f.kept_chain.is_latest ≡ true → IsLatestChainAt (union e)
        (set.from_list f.listing.held.items) f.books.moment f.kept_chain.rows.items
    pub kept : WhereApart e (AreKeptFacts f)
