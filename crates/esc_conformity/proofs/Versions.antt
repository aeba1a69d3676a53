-- The versions of the addresses that texts write.
use Rattle.std.proofs.Common.{◌≡◌, ℕ, Bool, true, false, List, [], ◌∷◌, length, codes, arith}
use Rattle.std.proofs.Common.{refl, sym, ap, subst, ◌∙◌, append-nil, lit≤, ne_eqb, true≢false}
use Rattle.std.specs.Prelude.{Option, None, Some, is_some, if◌then◌else◌}
use Rattle.std.specs.Net.Grammar.{IsDotted, IsColonHex, IsIpv4Text, IsIpv6Text, IsIpText}
use Rattle.std.specs.Net.Reader.{Read, read_ipv4, read_ipv6, whole_value}
use Rattle.std.specs.declared.net.ipv4_addr.Ipv4Addr.{Ipv4Addr}
use Rattle.std.specs.declared.net.ipv6_addr.Ipv6Addr.{Ipv6Addr}
use Rattle.std.specs.declared.net.ip_addr.IpAddr.{IpAddr}
use Rattle.std.specs.declared.net.ip_addr.IpAddr.TheVariants as Ip
use Rattle.std.proofs.NetLemmas.Ipv4.{read_ipv4_complete, read_ipv4_sound}
use Rattle.std.proofs.NetLemmas.Ipv6.{read_ipv6_complete, read_ipv6_sound, EndsGroups-nil}
use Rattle.std.proofs.NetLemmas.Theorems.{IsIpText_unique}
use Rattle.esc_conformity.specs.HostAddresses.{IsVersionOf, ip_version, version_word}

-- nothing is left after a whole value
rest_of : {A : Type 0} (x : A) (rest : List ℕ)
    → is_some (whole_value (Some (x, rest))) ≡ true → rest ≡ []
rest_of x [] = λ h. refl
rest_of x (c ∷ rest) = rw (ne_eqb (length (c ∷ rest)) 0 (omega arith)) λ h. absurd (true≢false (sym h))

whole_of : {A : Type 0} (r : Read A) → is_some (whole_value r) ≡ true → (x : A) × (r ≡ Some (x, []))
whole_of None h = absurd (true≢false (sym h))
whole_of (Some p) h = (p.0, ap (λ rest. Some (p.0, rest)) (rest_of p.0 p.1 h))

-- what the readers read to its end is an address, and they read each
written_v4 : (text : List ℕ) → is_some (whole_value (read_ipv4 text)) ≡ true
    → (a : Ipv4Addr) × IsIpv4Text text a
written_v4 text h =
    let w = whole_of (read_ipv4 text) h in
    let (front, split, spells) = read_ipv4_sound text w.0 [] w.1 in
    (record { octets = w.0 }, subst (λ t. IsDotted t w.0) (sym (split ∙ append-nil front)) spells)

written_v6 : (text : List ℕ) → is_some (whole_value (read_ipv6 text)) ≡ true
    → (a : Ipv6Addr) × IsIpv6Text text a
written_v6 text h =
    let w = whole_of (read_ipv6 text) h in
    let (front, split, spells) = read_ipv6_sound text w.0 [] w.1 in
    (record { segments = w.0 }, subst (λ t. IsColonHex t w.0) (sym (split ∙ append-nil front)) spells)

read_v4 : (text : List ℕ) (a : Ipv4Addr) → IsIpv4Text text a
    → is_some (whole_value (read_ipv4 text)) ≡ true
read_v4 text a h =
    ap (λ r. is_some (whole_value r)) (subst (λ t. read_ipv4 t ≡ Some (a.octets, [])) (append-nil text)
    (read_ipv4_complete text a.octets [] h (lit≤ tt)))

read_v6 : (text : List ℕ) (a : Ipv6Addr) → IsIpv6Text text a
    → is_some (whole_value (read_ipv6 text)) ≡ true
read_v6 text a h =
    ap (λ r. is_some (whole_value r)) (subst (λ t. read_ipv6 t ≡ Some (a.segments, [])) (append-nil text)
    (read_ipv6_complete text a.segments [] h EndsGroups-nil))

none_written : (text : List ℕ) → is_some (whole_value (read_ipv4 text)) ≡ false
    → is_some (whole_value (read_ipv6 text)) ≡ false → (a : IpAddr) → IsIpText text a → ⊥
none_written text e k (Ip.V4 a) h = true≢false (sym (read_v4 text a h) ∙ e)
none_written text e k (Ip.V6 a) h = true≢false (sym (read_v6 text a h) ∙ k)

-- the version that the readers find is that of the address that a text writes
pub version_written : (text : List ℕ) → IsVersionOf text (ip_version text)
version_written text =
    by (is_some (whole_value (read_ipv4 text))) refl (is_some (whole_value (read_ipv6 text))) refl
  where
    by : (b : Bool) → is_some (whole_value (read_ipv4 text)) ≡ b
        → (d : Bool) → is_some (whole_value (read_ipv6 text)) ≡ d
        → IsVersionOf text (if b then Some (codes "v4") else (if d then Some (codes "v6") else None))
    by true e d k = let w = written_v4 text e in (Ip.V4 w.0, w.1, refl)
    by false e true k = let w = written_v6 text k in (Ip.V6 w.0, w.1, refl)
    by false e false k = none_written text e k

-- a text has one version
one_version : (text : List ℕ) (v w : Option (List ℕ)) → IsVersionOf text v → IsVersionOf text w → v ≡ w
one_version text None None h k = refl
one_version text None (Some w) h k = absurd (h k.0 k.1)
one_version text (Some v) None h k = absurd (k h.0 h.1)
one_version text (Some v) (Some w) h k =
    ap Some (h.2 ∙ ap version_word (IsIpText_unique text h.0 k.0 h.1 k.1) ∙ sym k.2)

-- the version of the address that a text writes is the one that the readers find
pub version_is : (text : List ℕ) (v : Option (List ℕ)) → IsVersionOf text v → v ≡ ip_version text
version_is text v h = one_version text v (ip_version text) h (version_written text)
