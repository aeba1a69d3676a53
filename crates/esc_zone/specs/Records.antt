-- The records of the zone, and their lines (RFC 1035, section 5.1).
use Rattle.std.specs.Prelude.{◌≡◌, true, ℕ, ◌^◌, ◌<◌, List, ◌++◌, All, Option, codes}
use Rattle.std.specs.Io.KnownBytes.{Appends}
use Rattle.std.specs.List.{flat_map}
use Rattle.std.specs.Fmt.{decimal}
use Rattle.std.specs.Net.Addr.{ipv4_octets, ipv6_segments, MatchIp, IsIpv4Addr, IsIpv6Addr}
use Rattle.std.specs.Net.Text.{ipv4_text, ipv6_text}
use Rattle.std.specs.declared.net.ip_addr.IpAddr.{IpAddr}
use Rattle.std.specs.declared.net.ip_addr.IpAddr.TheVariants.{V4, V6}
use Rattle.hex.specs.Hex.{IsBytes, encode_upper}
use Rattle.esc_zone.specs.Names.{is_zone_name}
use Rattle.esc_zone.specs.Signers.{DsValue}

-- what a record says of its name: a name server, a key's digest, an address
pub data Data : Type 0 where
  server : List ℕ → Data
  signer : DsValue → Data
  address : IpAddr → Data

-- a name, a TTL, and what is said of the name
pub record RecordValue : Type 0 where
  pub owner : List ℕ
  pub ttl : ℕ
  pub said : Data

-- a DS as it is written
abbrev pub ds_text : DsValue → List ℕ
ds_text ds = decimal ds.tag ++ codes " " ++ decimal ds.algorithm ++ codes " " ++ decimal ds.kind
    ++ codes " " ++ encode_upper ds.digest

-- the type and the data of a record
abbrev pub data_text : Data → List ℕ
data_text (server name) = codes "NS " ++ name ++ codes "."
data_text (signer ds) = codes "DS " ++ ds_text ds
data_text (address (V4 a)) = codes "A " ++ ipv4_text (ipv4_octets a)
data_text (address (V6 a)) = codes "AAAA " ++ ipv6_text (ipv6_segments a)

-- a line: a name, this TTL, the class, and what is said of the name
abbrev pub record_line : ℕ → List ℕ → List ℕ → List ℕ
record_line ttl owner said = owner ++ codes ". " ++ decimal ttl ++ codes " IN " ++ said ++ codes "\n"

-- the line of a record
abbrev pub record_text : RecordValue → List ℕ
record_text r = record_line r.ttl r.owner (data_text r.said)

-- the numbers of a DS have two bytes, one and one, and its digest is of bytes
pub record IsDs (ds : DsValue) : Type 0 where
  pub tag : ds.tag < 2 ^ 16
  pub algorithm : ds.algorithm < 2 ^ 8
  pub kind : ds.kind < 2 ^ 8
  pub digest : IsBytes ds.digest

-- what a record says is a name, a DS or an address
abbrev pub IsData : Data → Type 0
IsData (server name) = is_zone_name name ≡ true
IsData (signer ds) = IsDs ds
IsData (address a) = MatchIp a IsIpv4Addr IsIpv6Addr

-- a text is what a record says of its name
abbrev pub IsSaid : List ℕ → Type 0
IsSaid text = (d : Data) × IsData d × (data_text d ≡ text)

-- a record has a name, with only labels of letters, digits, hyphens and underscores, a TTL of 32
-- bits, and what it says of the name
pub record IsRecord (r : RecordValue) : Type 0 where
  pub owner : is_zone_name r.owner ≡ true
  pub ttl : r.ttl < 2 ^ 32
  pub said : IsData r.said

-- the text is the lines of records
pub record AreLines (text : List ℕ) : Type 0 where
  pub records : List RecordValue
  pub each : All IsRecord records
  pub lines : flat_map record_text records ≡ text

-- what is known of a writer's bytes grew by lines of records
pub record AppendsLines (before after : Option (List ℕ)) : Type 0 where
  pub text : List ℕ
  pub grown : Appends before after text
  pub lines : AreLines text

-- the TTL of records, and their lines
pub record RecordsValue : Type 0 where
  pub ttl : ℕ
  pub text : List ℕ
