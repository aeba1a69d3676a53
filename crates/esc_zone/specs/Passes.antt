-- What a pass over the objects of a registry adds to the zone.
use Rattle.std.specs.Prelude.{◌≡◌, ℕ, List, [], ◌∷◌, ◌++◌, Option, map}
use Rattle.std.specs.Io.KnownBytes.{Appends}
use Rattle.std.specs.List.{flat_map}
use Rattle.esc_apply.specs.ObjectStreams.{Entry}
use Rattle.esc_zone.specs.declared.draft.Draft.{Draft}
use Rattle.esc_zone.specs.Addresses.{said_texts}
use Rattle.esc_zone.specs.Drafts.{ZoneNotes}
use Rattle.esc_zone.specs.Delegations.{AddsDomain, server_records}
use Rattle.esc_zone.specs.Fields.{normal}
use Rattle.esc_zone.specs.Glue.{AddsGlue}
use Rattle.esc_zone.specs.Mirrors.{OriginalNotes, mirror_servers}
use Rattle.esc_zone.specs.Records.{RecordsValue, record_text}

-- lines with the TTL of a zone
abbrev pub zone_lines : ZoneNotes → List ℕ → RecordsValue
zone_lines z text = record { ttl = z.ttl; text = text }

-- a text is the lines that a domain adds to the zone
abbrev pub IsDomainText : ZoneNotes → Entry → List ℕ → Type 0
IsDomainText z domain text =
    AddsDomain z (normal domain.0.text) domain.1.children (zone_lines z []) (zone_lines z text)

-- a text is the lines that a name adds to the zone that is no domain
abbrev pub IsMirrorText : ZoneNotes → OriginalNotes → Entry → List ℕ → Type 0
IsMirrorText z o mirror text =
    let name = normal mirror.0.text in
    text ≡ flat_map record_text
    (server_records z.ttl name (mirror_servers z o name mirror.1.parent))

-- a server that is noted: its name, the first name that uses it, and the texts of its addresses
pub record NotedServer : Type 0 where
  pub name : List ℕ
  pub user : Option (List ℕ)
  pub texts : List (List ℕ)

-- the servers in the zone that this draft has noted, by the bytes of their names
abbrev pub noted_servers : Draft → List NotedServer
noted_servers d = map (λ entry. record {
  name = entry.0;
  user = entry.1.user;
  texts = said_texts entry.1.rows.items;
}) d.servers.entries

-- what is noted, without the texts of addresses
abbrev pub without_texts : ZoneNotes → ZoneNotes
without_texts z = record z { said = λ host. [] }

-- a text is the lines that a server adds to the zone
abbrev pub IsGlueText : ZoneNotes → NotedServer → List ℕ → Type 0
IsGlueText z server text =
    AddsGlue z server.name server.user server.texts (zone_lines z []) (zone_lines z text)

-- a text is what each of these gives by this relation, one after the other
abbrev pub IsTextOfEach : {X : Type 0} → (X → List ℕ → Type 0) → List X → List ℕ → Type 0
IsTextOfEach R [] text = text ≡ []
IsTextOfEach R (x ∷ xs) text = (first rest : List ℕ) × R x first × IsTextOfEach R xs rest
    × (text ≡ first ++ rest)

-- what is known of a writer's bytes grew by what each of these gives
abbrev pub AppendsEach : {X : Type 0} → (X → List ℕ → Type 0) → List X → Option (List ℕ)
    → Option (List ℕ) → Type 0
AppendsEach R xs before after = (text : List ℕ) × IsTextOfEach R xs text × Appends before after text
