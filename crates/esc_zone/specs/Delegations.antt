-- What keeps a domain out, and which records one has that is delegated.
use Rattle.std.specs.Prelude.{◌≡◌, ◌⊎◌, ℕ, Bool, true, false, not, ◌&&◌, ◌||◌, ◌==◌, if◌then◌else◌}
use Rattle.std.specs.Prelude.{List, [], ◌++◌, length, Option, Some, None, codes, map, filter_map}
use Rattle.std.specs.Prelude.{string_bytes, is_some, String, MatchBool, MatchOption, ◌∷◌}
use Rattle.std.specs.Str.{bytes_eq}
use Rattle.std.specs.List.{flat_map}
use Rattle.std.specs.declared.alloc.Global.{Global}
use Rattle.esc_tables.specs.ObjectValue.{RowValue}
use Rattle.esc_zone.specs.Drafts.{ZoneNotes, HasGlue, cut_of, cut_above, is_inside}
use Rattle.esc_zone.specs.Fields.{first_text, normal}
use Rattle.esc_zone.specs.Names.{is_below, is_server_name, is_name_with, name_cmp}
use Rattle.esc_zone.specs.Records.{RecordValue, RecordsValue, record_text}
use Rattle.esc_zone.specs.Records.Data.{server, signer}
use Rattle.esc_zone.specs.Lists.{GivesEach, Itself, IsOrderedOnce}
use Rattle.esc_zone.specs.Signers.{AreSigners, ds_value}
use Rattle.esc_zone.specs.Statuses.{hold_of}
use Rattle.esc_zone.specs.declared.signer.Ds.{Ds}
use Rattle.esc_zone.specs.declared.status.Hold.{Hold}
use Rattle.esc_zone.specs.declared.counts.Outcome.{Outcome}
use Rattle.esc_zone.specs.declared.counts.Outcome.TheVariants.{Kept, WithoutServers}

-- its statuses, or that it has no servers
abbrev pub kept_out : Option Hold → Bool → Option Outcome
kept_out (Some hold) none = Some (Kept hold)
kept_out None none = if none then Some WithoutServers else None

-- the text of the server that a row of a domain says, if it says one
abbrev pub server_text : RowValue → Option (List ℕ)
server_text row =
    let text = first_text (codes "hostName") row in
    if (bytes_eq row.table (codes "domainNs") || bytes_eq row.table (codes "domainHostAttr"))
    && not (length text == 0) then Some (normal text) else None

-- the texts of the servers that the rows of a domain say, by row
abbrev pub server_texts : List RowValue → List (List ℕ)
server_texts rows = filter_map server_text rows

-- texts as their bytes
abbrev pub texts_of : List (String Global) → List (List ℕ)
texts_of texts = map string_bytes texts

-- the uppermost delegated name at or above a server is neither this name nor below it
abbrev pub IsLeftToOther : ZoneNotes → List ℕ → List ℕ → Type 0
IsLeftToOther z name host =
    (cut : List ℕ) × (cut_of z host ≡ Some cut) × (is_below cut name ≡ false)

-- a server is outside of the zone, or the zone has an address of it
abbrev pub IsReached : ZoneNotes → List ℕ → Type 0
IsReached z host = (is_below host z.origin ≡ false) ⊎ HasGlue z host

-- a server of a name is written: it is reached, or another delegation has it
abbrev pub IsKeptServer : ZoneNotes → List ℕ → List ℕ → Type 0
IsKeptServer z name host = IsReached z host ⊎ IsLeftToOther z name host

-- a text is a server of a name that is written
abbrev pub IsUsable : ZoneNotes → List ℕ → List ℕ → Type 0
IsUsable z name text = (is_server_name z.has_underscores text ≡ true) × IsKeptServer z name text

-- a text is a name that may be delegated: below the zone's, and below no delegated one
abbrev pub has_place : ZoneNotes → List ℕ → Bool
has_place z text = is_name_with false text && is_inside z text && not (is_some (cut_above z text))

-- that a name has these servers
abbrev pub server_records : ℕ → List ℕ → List (List ℕ) → List RecordValue
server_records ttl name servers =
    map (λ host. record { owner = name; ttl = ttl; said = server host }) servers

-- lines, with those of these records after them
abbrev pub with_records : RecordsValue → List RecordValue → RecordsValue
with_records lines records = record lines { text = lines.text ++ flat_map record_text records }

-- DS of a name
abbrev pub signer_records : ℕ → List ℕ → List Ds → List RecordValue
signer_records ttl name signers =
    map (λ ds. record { owner = name; ttl = ttl; said = signer (ds_value ds) }) signers

-- the records of a name with these servers are added: these, and the DS that these rows give; and
-- nothing without a server
abbrev pub AddsServed : List ℕ → List RowValue → List (List ℕ) → RecordsValue → RecordsValue
    → Type 0
AddsServed name rows [] before after = after ≡ before
AddsServed name rows (host ∷ hosts) before after = (signers : List Ds)
    × AreSigners name rows signers × (after ≡ with_records before
    (server_records before.ttl name (host ∷ hosts) ++ signer_records before.ttl name signers))

-- the records of a name with these child rows, whose servers have these texts, are added: those of
-- its servers that are written; and nothing if the name has no place in the zone
abbrev pub AddsDelegation : ZoneNotes → List ℕ → List RowValue → List (List ℕ) → RecordsValue
    → RecordsValue → Type 0
AddsDelegation z name rows texts before after = MatchBool (has_place z name)
    ((hosts : List (List ℕ)) × GivesEach (Itself (IsUsable z name)) texts hosts
    × AddsServed name rows hosts before after)
    (after ≡ before)

-- the records of a domain with this name and these child rows are added: none, if its statuses keep
-- it out; else those of its servers' texts, in order, each once
abbrev pub AddsDomain : ZoneNotes → List ℕ → List RowValue → RecordsValue → RecordsValue → Type 0
AddsDomain z name rows before after = MatchOption (hold_of rows)
    ((texts : List (List ℕ)) × IsOrderedOnce name_cmp (server_texts rows) texts
    × AddsDelegation z name rows texts before after)
    (λ hold. after ≡ before)
