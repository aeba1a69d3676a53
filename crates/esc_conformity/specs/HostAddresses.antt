-- Addresses of hosts, as rows of the tables hostAddresses and domainHostAttr have them (RFC 5732,
-- section 2.5, RFC 5731, section 1.1, and RFC 9022, sections 5.1 and 5.2).
use Rattle.std.specs.Prelude.{◌≡◌, ℕ, Bool, false, not, ◌&&◌, if◌then◌else◌, List, codes}
use Rattle.std.specs.Prelude.{Option, None, Some, is_some}
use Rattle.std.specs.List.{list_any}
use Rattle.std.specs.Option.{option_map_or}
use Rattle.std.specs.Str.{bytes_eq}
use Rattle.std.specs.Net.Grammar.{IsIpText}
use Rattle.std.specs.Net.Reader.{read_ipv4, read_ipv6, whole_value}
use Rattle.std.specs.declared.net.ip_addr.IpAddr.{IpAddr}
use Rattle.std.specs.declared.net.ip_addr.IpAddr.TheVariants as Ip
use Rattle.esc_envelope.specs.declared.kind.Kind.{Kind}
use Rattle.esc_envelope.specs.declared.kind.Kind.TheVariants.{Registrar, Contact, Host, Domain, Idn}
use Rattle.esc_envelope.specs.declared.kind.Kind.TheVariants.{Nndn}
use Rattle.esc_tables.specs.ObjectValue.{RowValue}
use Rattle.esc_apply.specs.ObjectStreams.{Entry}
use Rattle.esc_check.specs.Fields.{cell}
use Rattle.esc_check.specs.Gathered.{is_empty_text}
use Rattle.esc_conformity.specs.Digests.{has_part}

-- the word for the version of an address
abbrev pub version_word : IpAddr → List ℕ
version_word (Ip.V4 a) = codes "v4"
version_word (Ip.V6 a) = codes "v6"

-- this is the version of the address that a text writes, if it writes one
abbrev pub IsVersionOf : List ℕ → Option (List ℕ) → Type 0
IsVersionOf text None = (a : IpAddr) → IsIpText text a → ⊥
IsVersionOf text (Some v) = (a : IpAddr) × IsIpText text a × (v ≡ version_word a)

-- that version, as the two readers of addresses find it
abbrev pub ip_version : List ℕ → Option (List ℕ)
ip_version text = if is_some (whole_value (read_ipv4 text)) then Some (codes "v4")
    else (if is_some (whole_value (read_ipv6 text)) then Some (codes "v6") else None)

-- the version that a row says, which is v4 if it says none
abbrev pub said_version : RowValue → List ℕ
said_version r = if is_empty_text (cell (codes "addrVersion") r) then codes "v4"
    else cell (codes "addrVersion") r

-- whether a row has an address of the version that it says
abbrev pub is_address : RowValue → Bool
is_address r =
    option_map_or (λ v. bytes_eq v (said_version r)) (ip_version (cell (codes "addr") r)) false

-- whether a row of a domain has the address of a server
abbrev pub is_addressed : RowValue → Bool
is_addressed r = bytes_eq r.table (codes "domainHostAttr") && has_part r (codes "addr")

-- whether a row of an object is to have an address
abbrev pub has_address : Kind → RowValue → Bool
has_address Registrar r = false
has_address Contact r = false
has_address Host r = bytes_eq r.table (codes "hostAddresses")
has_address Domain r = is_addressed r
has_address Idn r = false
has_address Nndn r = false

-- whether it is to have one, and has none
abbrev pub is_wrong_address : Kind → RowValue → Bool
is_wrong_address kind r = has_address kind r && not (is_address r)

-- whether an object has such a row
abbrev pub has_wrong_address : Entry → Bool
has_wrong_address e = list_any (is_wrong_address e.0.kind) e.1.children
