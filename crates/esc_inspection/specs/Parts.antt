-- What is seen of a store that reflects a list of events, part by part.
use Rattle.std.specs.Prelude.{◌≡◌, ◌↔◌, ℕ, List, [], map, Option, option_map, Some, None}
use Rattle.std.specs.Prelude.{slice_get, Bool, true, string_bytes}
use Rattle.std.specs.FinSet as set
use Rattle.std.specs.List.{Contains}
use Rattle.sha2.specs.Sha256.{sha256}
use Rattle.esc_envelope.specs.declared.kind.Kind.{Kind}
use Rattle.esc_envelope.specs.declared.place.Place.{Place}
use Rattle.esc_manifest.specs.ManifestRows.{place_at}
use Rattle.esc_tables.specs.Reading.{reading}
use Rattle.esc_chain.specs.declared.gap.GapLine.{GapLine}
use Rattle.esc_chain.specs.Gap.{AreGapLinesAt}
use Rattle.esc_apply.specs.ObjectStreams.{Entry}
use Rattle.esc_store.specs.StoreState.{AreHeld, AreCounts}
use Rattle.esc_events.specs.Events.{EventValue, union, last_moment}
use Rattle.esc_events.specs.LatestTables.{IsChainOf, tables_of_chain, AreEntries}
use Rattle.esc_events.specs.StateAfter.{held_body}
use Rattle.esc_desk.specs.declared.status.End.{End}
use Rattle.esc_desk.specs.Reads.{last, IsEndOfChain}
use Rattle.esc_acceptance.specs.declared.chain.ChainFacts.{ChainFacts}
use Rattle.esc_acceptance.specs.declared.tlds.Tlds.{Tlds}
use Rattle.esc_acceptance.specs.Chains.{AreFactsOf}
use Rattle.esc_acceptance.specs.Listed.{IsAsListed}
use Rattle.esc_acceptance.specs.Tlds.{with_tlds}
use Rattle.esc_inspection.specs.Compared.{AreTablesOfBodies}

-- how many objects of each kind the end of a chain declares; without a chain nothing is declared
abbrev pub counts_at : Option End → List (Kind × ℕ)
counts_at None = []
counts_at (Some end) = end.counts.entries

module _ (e : List EventValue) where
  -- the body that is held for a row
  abbrev pub body_at : ℕ → Option (List ℕ)
  body_at = held_body sha256 reading e

  -- the place of the latest chain's last row, and how many objects its tables have of each kind
  pub record AreTotalsOf (end : Option Place) (objects : List (Kind × ℕ)) : Type 0 where
    pub chain : List ℕ
    pub latest : IsChainOf e chain
    pub end_is : end ≡ option_map (place_at (union e)) (last chain)
    pub objects_are : AreCounts (tables_of_chain e chain) objects

  -- what the end of the latest chain says, and what it declares
  pub record AreEndingOf (end : Option End) (counts : List (Kind × ℕ)) : Type 0 where
    pub ends : IsEndOfChain e end
    pub counts_are : counts ≡ counts_at end

  -- a line for each listed place, by the rows that are held and the moment that is set
  pub record AreLinesFor (rows : List ℕ) (lines : List GapLine) : Type 0 where
    pub are_held : AreHeld body_at rows
    pub gaps : AreGapLinesAt (union e) (set.from_list rows) (last_moment e) lines

  -- a row is held, and its body isn't what the row lists
  abbrev pub IsSpoiled : ℕ → Type 0
  IsSpoiled row = IsAsListed (slice_get (union e) row) (body_at row) → ⊥

  -- these are the rows among some whose bodies aren't what they list
  abbrev pub AreSpoiledAmong : List ℕ → List ℕ → Type 0
  AreSpoiledAmong rows spoiled = (row : ℕ)
      → Contains spoiled row ↔ (Contains rows row × IsSpoiled row)

  -- these are the TLDs that the bodies of these rows name, each once
  abbrev pub AreTldsOf : List ℕ → Tlds → Type 0
  AreTldsOf rows tlds
      = map string_bytes tlds.names.items ≡ with_tlds (map body_at rows) []

  -- what the bodies of the latest chain say, from the first to the last
  pub record AreChainFactsOf (facts : ChainFacts) : Type 0 where
    pub chain : List ℕ
    pub latest : IsChainOf e chain
    pub say : AreFactsOf (map body_at chain) facts

  -- where it is said so, the bodies of these rows are deposits, and the tables are what they make
  abbrev pub IsRebuiltFrom : List ℕ → Bool → Type 0
  IsRebuiltFrom rows is_rebuilt = is_rebuilt ≡ true → (es : List Entry) → AreEntries e es
      → AreTablesOfBodies (map body_at rows) es
