-- Names that are no domains, and have the name servers of one (RFC 9022, section 5.6).
use Rattle.std.specs.Prelude.{◌≡◌, ◌++◌, ◌∷◌}
use Rattle.std.specs.Prelude.{ℕ, List, [], Bool, false, not, ◌==◌, ◌&&◌, ◌||◌, length, codes}
use Rattle.std.specs.Prelude.{Option, Some, None, if◌then◌else◌}
use Rattle.std.specs.Option.{option_map_or}
use Rattle.std.specs.BTreeMap.{get}
use Rattle.std.specs.Str.{bytes_eq, trim}
use Rattle.esc_tables.specs.ObjectValue.{RowValue}
use Rattle.esc_zone.specs.declared.draft.Draft.{Draft}
use Rattle.esc_zone.specs.declared.notes.Mirror.{Mirror}
use Rattle.esc_zone.specs.declared.notes.Mirror.TheVariants.{Nothing, Servers, Other}
use Rattle.esc_zone.specs.declared.signer.Ds.{Ds}
use Rattle.esc_zone.specs.Delegations.{has_place, with_records, server_records, signer_records}
use Rattle.esc_zone.specs.Drafts.{ZoneNotes}
use Rattle.esc_zone.specs.Fields.{first_text, normal}
use Rattle.esc_zone.specs.Names.{is_name_with, name_cmp, name_eq}
use Rattle.esc_zone.specs.Records.{RecordsValue}

-- of each name: whether it is that of a domain, whether it is the original of a mirrored name, and
-- if so, the servers that it has in the zone
pub record OriginalNotes : Type 0 where
  pub is_domain : List ℕ → Bool
  pub is_original : List ℕ → Bool
  pub servers : List ℕ → List (List ℕ)

-- what this draft has noted of them
abbrev pub original_notes : Draft → OriginalNotes
original_notes d = record {
  is_domain = λ name. option_map_or (λ place. place.is_domain) (get name_cmp d.places name) false;
  is_original = λ name. option_map_or (λ place. place.is_original)
      (get name_cmp d.places name) false;
  servers = λ name. option_map_or (λ place. place.servers.items) (get name_cmp d.places name) [];
}

-- with these servers of a name, if it is an original
abbrev pub with_servers : List ℕ → List (List ℕ) → OriginalNotes → OriginalNotes
with_servers name hosts o = record o {
  servers = λ n. if name_eq name n && o.is_original n then hosts else o.servers n;
}

-- the same, unless it has none
abbrev pub with_kept : List ℕ → List (List ℕ) → OriginalNotes → OriginalNotes
with_kept name [] o = o
with_kept name (host ∷ hosts) o = with_servers name (host ∷ hosts) o

-- the servers of a name that are kept are those of the NS that are added, beside which there are
-- only its DS
abbrev pub KeepsServers : List ℕ → OriginalNotes → OriginalNotes → RecordsValue → RecordsValue
    → Type 0
KeepsServers name o kept before after = (hosts : List (List ℕ)) × (signers : List Ds)
    × (after ≡ with_records before
    (server_records before.ttl name hosts ++ signer_records before.ttl name signers))
    × (kept ≡ with_kept name hosts o)

-- whether a text says that a name is mirrored by name servers: yes (XML Schema 2, section 3.2.2),
-- or nothing
abbrev pub is_by_servers : List ℕ → Bool
is_by_servers text =
    (length text == 0) || (bytes_eq text (codes "true") || bytes_eq text (codes "1"))

-- the text of the original whose servers a name has that is no domain, by its row
abbrev pub original_in : RowValue → Option (List ℕ)
original_in row = if bytes_eq (first_text (codes "nameState") row) (codes "mirrored")
    && is_by_servers (trim (first_text (codes "mirroringNS") row))
    then Some (first_text (codes "originalName") row) else None

-- the same, of what is done for such a name
abbrev pub original_of : Mirror → Option (List ℕ)
original_of Nothing = None
original_of (Servers original) = Some original.now
original_of (Other text) = None

-- whether a text is the name of a domain
abbrev pub is_domain_name : OriginalNotes → List ℕ → Bool
is_domain_name o text = is_name_with false text && o.is_domain text

-- whether a name has the servers of this original: it is no domain, that is one, and the name has
-- its place in the zone
abbrev pub is_mirror : ZoneNotes → OriginalNotes → List ℕ → List ℕ → Bool
is_mirror z o name original =
    not (is_domain_name o name) && (is_domain_name o original && has_place z name)

-- the servers of a name that has this text for its original
abbrev pub servers_like : ZoneNotes → OriginalNotes → List ℕ → List ℕ → List (List ℕ)
servers_like z o name original = if is_mirror z o name original then o.servers original else []

-- the servers of a name that is no domain, with this row
abbrev pub mirror_servers : ZoneNotes → OriginalNotes → List ℕ → RowValue → List (List ℕ)
mirror_servers z o name row =
    option_map_or (λ original. servers_like z o name (normal original)) (original_in row) []
