-- The order of addresses, which is the derived one.
use Rattle.std.proofs.Common.{◌≡◌, List, true, refl, subst}
use Rattle.std.specs.Net.Addr.{ipv4_octets, ipv6_segments}
use Rattle.std.specs.declared.cmp.Ordering.{Ordering}
use Rattle.std.specs.List.Sorted.{IsStrictlySortedBy}
use Rattle.std.specs.declared.net.ip_addr.IpAddr.{IpAddr}
use Rattle.std.specs.declared.net.ip_addr.IpAddr.TheVariants.{V4, V6}
use Rattle.std.specs.contracts.net.ip_addr.IpAddrOrd.TheImpl.{ghosts as derived}
use Rattle.std.specs.contracts.net.ip_addr.IpAddrPartialEq.TheImpl.{ghosts as equality}
use Rattle.esc_zone.specs.Addresses.{ip_cmp}
use Rattle.esc_zone.proofs.InOrder.{one_text}

-- the derived order is by version, and then by number
by_number : (a b : IpAddr) → derived.cmp a b ≡ ip_cmp a b
by_number (V4 a) (V4 b) = refl
by_number (V4 a) (V6 b) = refl
by_number (V6 a) (V4 b) = refl
by_number (V6 a) (V6 b) = refl

-- what the derived order sorts is sorted
pub sorted_by_number : (xs : List IpAddr) → IsStrictlySortedBy derived.cmp xs → IsStrictlySortedBy ip_cmp xs
sorted_by_number xs h =
    subst (λ (R : IpAddr → IpAddr → Ordering). IsStrictlySortedBy R xs) (λ i a b. by_number a b i) h

-- addresses that are compared as equal are one
pub one_address : (a b : IpAddr) → equality.eq a b ≡ true → a ≡ b
one_address (V4 a) (V4 b) h =
    let parts = one_text (ipv4_octets a) (ipv4_octets b) h in λ i. V4 (record { octets = parts i })
one_address (V4 a) (V6 b) h = absurd (cc h)
one_address (V6 a) (V4 b) h = absurd (cc h)
one_address (V6 a) (V6 b) h =
    let parts = one_text (ipv6_segments a) (ipv6_segments b) h in λ i. V6 (record { segments = parts i })
