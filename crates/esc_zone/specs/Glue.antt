-- Which addresses of servers in the zone are written.
use Rattle.std.specs.Prelude.{◌≡◌, ℕ, List, Bool, not, ◌&&◌, ◌||◌, Option, map}
use Rattle.std.specs.Prelude.{MatchBool, MatchOption}
use Rattle.std.specs.declared.net.ip_addr.IpAddr.{IpAddr}
use Rattle.esc_zone.specs.Addresses.{AreAddresses}
use Rattle.esc_zone.specs.Delegations.{with_records}
use Rattle.esc_zone.specs.Drafts.{ZoneNotes, takes_glue}
use Rattle.esc_zone.specs.Names.{name_eq}
use Rattle.esc_zone.specs.Records.{RecordValue, RecordsValue}
use Rattle.esc_zone.specs.Records.Data.{address}

-- that a server has these addresses
abbrev pub address_records : ℕ → List ℕ → List IpAddr → List RecordValue
address_records ttl host addresses =
    map (λ a. record { owner = host; ttl = ttl; said = address a }) addresses

-- whether the addresses that the tables have of a server are written, which this name uses: the
-- operator's file has none, and those of the tables may be there, or the zone itself uses it
abbrev pub is_glue : ZoneNotes → List ℕ → List ℕ → Bool
is_glue z host user =
    not (z.is_given host) && (takes_glue z host || name_eq user z.origin)

-- the addresses that these texts are, are added of a server, in order, each once
abbrev pub AddsAddresses : List ℕ → List (List ℕ) → RecordsValue → RecordsValue → Type 0
AddsAddresses host texts before after = (addresses : List IpAddr) × AreAddresses texts addresses
    × (after ≡ with_records before (address_records before.ttl host addresses))

-- the addresses of a server are added whose rows have these texts: none, if no name uses it or they
-- are not written
abbrev pub AddsGlue : ZoneNotes → List ℕ → Option (List ℕ) → List (List ℕ) → RecordsValue
    → RecordsValue → Type 0
AddsGlue z host user texts before after = MatchOption user (after ≡ before)
    (λ name. MatchBool (is_glue z host name) (AddsAddresses host texts before after)
    (after ≡ before))
