-- Addresses of servers (RFC 6890).
use Rattle.std.specs.Prelude.{◌↔◌, ℕ, ◌∷◌, [], List, map, ◌⊎◌, string_bytes}
use Rattle.std.specs.Net.Addr.{MatchIp, HasPrefix, IsWithinAt, IsIpv4Mapped, ipv4_octets, ipv6_segments}
use Rattle.std.specs.Net.Addr.{IsLoopbackV4, IsLoopbackV6, IsUnspecifiedV4, IsUnspecifiedV6}
use Rattle.std.specs.Net.Addr.{IsMulticastV4, IsMulticastV6}
use Rattle.std.specs.Net.Grammar.{IsIpText}
use Rattle.std.specs.declared.net.ipv4_addr.Ipv4Addr.{Ipv4Addr}
use Rattle.std.specs.declared.net.ipv6_addr.Ipv6Addr.{Ipv6Addr}
use Rattle.std.specs.declared.net.ip_addr.IpAddr.{IpAddr}
use Rattle.std.specs.declared.net.ip_addr.IpAddr.TheVariants.{V4, V6}
use Rattle.std.specs.declared.cmp.Ordering.{Ordering}
use Rattle.std.specs.declared.cmp.Ordering.TheVariants.{Less, Greater}
use Rattle.std.specs.Ordering.{nat_cmp}
use Rattle.std.specs.Cmp.Lexicographic.{slice_cmp}
use Rattle.std.specs.List.{Contains}
use Rattle.std.specs.List.Sorted.{IsStrictlySortedBy}
use Rattle.esc_zone.specs.declared.address.Said.{Said}

-- no loopback, unspecified, multicast or link-local address
abbrev pub IsServersV4 : Ipv4Addr → Type 0
IsServersV4 a = (IsLoopbackV4 a → ⊥) × (IsUnspecifiedV4 a → ⊥) × (IsMulticastV4 a → ⊥)
    × (HasPrefix (ipv4_octets a) (169 ∷ 254 ∷ []) → ⊥)

-- nor a mapped one
abbrev pub IsServersV6 : Ipv6Addr → Type 0
IsServersV6 a = (IsLoopbackV6 a → ⊥) × (IsUnspecifiedV6 a → ⊥) × (IsMulticastV6 a → ⊥)
    × (IsWithinAt (ipv6_segments a) 0 0xfe80 0xfebf → ⊥) × (IsIpv4Mapped (ipv6_segments a) → ⊥)

-- an address may be one of a server
abbrev pub IsServers : IpAddr → Type 0
IsServers a = MatchIp a IsServersV4 IsServersV6

-- a text is this address, which may be one of a server
abbrev pub IsServersText : List ℕ → IpAddr → Type 0
IsServersText text a = IsIpText text a × IsServers a

-- one of these texts is this address
abbrev pub IsAmongTexts : List (List ℕ) → IpAddr → Type 0
IsAmongTexts [] a = ⊥
IsAmongTexts (text ∷ texts) a = IsServersText text a ⊎ IsAmongTexts texts a

-- one of these texts is an address
abbrev pub HasAddress : List (List ℕ) → Type 0
HasAddress texts = (a : IpAddr) × IsAmongTexts texts a

-- the texts of rows
abbrev pub said_texts : List Said → List (List ℕ)
said_texts rows = map (λ row. string_bytes row.text) rows

-- the order of addresses: IPv4 first, each by its number
abbrev pub ip_cmp : IpAddr → IpAddr → Ordering
ip_cmp (V4 a) (V4 b) = slice_cmp nat_cmp (ipv4_octets a) (ipv4_octets b)
ip_cmp (V4 a) (V6 b) = Less
ip_cmp (V6 a) (V4 b) = Greater
ip_cmp (V6 a) (V6 b) = slice_cmp nat_cmp (ipv6_segments a) (ipv6_segments b)

-- the addresses that these texts are, in order, each once
pub record AreAddresses (texts : List (List ℕ)) (addresses : List IpAddr) : Type 0 where
  pub order : IsStrictlySortedBy ip_cmp addresses
  pub same : (a : IpAddr) → Contains addresses a ↔ IsAmongTexts texts a
