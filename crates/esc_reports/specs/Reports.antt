-- The texts of the reports of a desk or a reader that reflects a list of events.
use Rattle.std.specs.Prelude.{◌≡◌, ◌↔◌, ℕ, List, [], Option, Some, None}
use Rattle.std.specs.Io.KnownBytes.{Appends}
use Rattle.std.specs.List.{Contains}
use Rattle.std.specs.List.Sorted.{IsStrictlySortedBy}
use Rattle.sha2.specs.Sha256.{sha256}
use Rattle.esc_envelope.specs.declared.kind.Kind.{Kind}
use Rattle.esc_tables.specs.KeyName.{KeyName}
use Rattle.esc_tables.specs.ObjectValue.{ObjectValue}
use Rattle.esc_tables.specs.Reading.{reading}
use Rattle.esc_apply.specs.ObjectStreams.{InOrder}
use Rattle.esc_check.specs.Export.{export_text}
use Rattle.esc_check.specs.FindingValue.{FindingValue, listing_cmp}
use Rattle.esc_check.specs.Findings.{IsFinding}
use Rattle.esc_check.specs.TableMap.{content_of_entries}
use Rattle.esc_store.specs.StoreState.{AreHeld}
use Rattle.esc_desk.specs.declared.status.End.{End}
use Rattle.esc_desk.specs.declared.status.Status.{Status as Numbers}
use Rattle.esc_store.specs.declared.parked.ParkedBody.{ParkedBody}
use Rattle.esc_events.specs.Apart.{WhereApart}
use Rattle.esc_events.specs.Events.{EventValue, union, last_moment}
use Rattle.esc_store.specs.Parks.{AreParkedBodies}
use Rattle.esc_events.specs.LatestTables.{AreEntries}
use Rattle.esc_desk.specs.Reads.{replies_of, IsEndOfChain, IsStatus}
use Rattle.esc_events.specs.StateAfter.{held_body, parked_body}
use Rattle.esc_reports.specs.declared.catalog.Report.{Report}
use Rattle.esc_reports.specs.declared.catalog.Report.TheVariants.{Status, Gaps, Links, Receipts}
use Rattle.esc_reports.specs.declared.catalog.Report.TheVariants.{Parked, Moment, Export}
use Rattle.esc_reports.specs.GapsText.{IsGapsReport}
use Rattle.esc_reports.specs.LinksText.{links_text}
use Rattle.esc_reports.specs.MomentText.{moment_line}
use Rattle.esc_reports.specs.ParkedText.{parked_text}
use Rattle.esc_reports.specs.ReceiptsText.{receipts_text}
use Rattle.esc_reports.specs.StatusText.{status_text}

-- the findings in these tables, by what the end of their chain says, each once and in order;
-- without a chain there are none
abbrev pub AreFindings : List (KeyName × ObjectValue) → Option End → List FindingValue → Type 0
AreFindings entries None findings = findings ≡ []
AreFindings entries (Some end) findings =
    IsStrictlySortedBy listing_cmp findings
    × ((f : FindingValue) → Contains findings f ↔ IsFinding
    (content_of_entries entries) end.watermark end.counts.entries f)

module _ (e : List EventValue) where
  -- the text of the status
  pub record IsStatusText (text : List ℕ) : Type 0 where
    pub status : Numbers
    pub numbers : IsStatus e status
    pub is : text ≡ status_text status

  -- the export of the objects of a kind in the tables of the latest chain, by key in byte order
  pub record IsExport (kind : Kind) (text : List ℕ) : Type 0 where
    pub entries : List (KeyName × ObjectValue)
    pub tables : AreEntries e entries
    pub order : InOrder entries
    pub is : text ≡ export_text kind entries

  -- this export, and no byte more, was written to what had the old contents
  pub record IsWrittenExport (kind : Kind) (old new : Option (List ℕ)) : Type 0 where
    pub text : List ℕ
    pub is_export : IsExport kind text
    pub appends : Appends old new text

  -- the same, if no two different bodies have the same digest
  abbrev pub IsExportWritten : Kind → Option (List ℕ) → Option (List ℕ) → Type 0
  IsExportWritten kind old new = WhereApart e (IsWrittenExport kind old new)

  -- the report of what breaks a rule in the tables of the latest chain, by what its last deposit
  -- says
  pub record IsLinksText (text : List ℕ) : Type 0 where
    pub entries : List (KeyName × ObjectValue)
    pub tables : AreEntries e entries
    pub end : Option End
    pub ends : IsEndOfChain e end
    pub findings : List FindingValue
    pub are_found : AreFindings entries end findings
    pub is : text ≡ links_text findings

  -- the report of a line for each listed place, in their order, by the rows that are held and the
  -- moment that is set
  pub record IsGapsText (text : List ℕ) : Type 0 where
    pub rows : List ℕ
    pub are_held : AreHeld (held_body sha256 reading e) rows
    pub report : IsGapsReport (union e) rows (last_moment e) text

  -- the report of a line for each body that no row lists
  pub record IsParkedText (text : List ℕ) : Type 0 where
    pub bodies : List ParkedBody
    pub are_parked : AreParkedBodies (parked_body sha256 reading e) bodies
    pub is : text ≡ parked_text bodies

  -- the text of a report; what it says of bodies holds if no two different ones have the same
  -- digest
  abbrev pub IsReport : Report → List ℕ → Type 0
  IsReport Status text = IsStatusText text
  IsReport Gaps text = WhereApart e (IsGapsText text)
  IsReport Links text = WhereApart e (IsLinksText text)
  IsReport Receipts text = text ≡ receipts_text (replies_of e)
  IsReport Parked text = WhereApart e (IsParkedText text)
  IsReport Moment text = text ≡ moment_line (last_moment e)
  IsReport (Export kind) text = WhereApart e (IsExport kind text)
