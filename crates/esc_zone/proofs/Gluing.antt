-- Addresses of servers that are added.
use Rattle.std.proofs.Common.{◌≡◌, ℕ, List, Option, Some, true, false, Bool, sym, ap, ◌∙◌, subst}
use Rattle.std.specs.Prelude.{not, ◌&&◌, ◌||◌, MatchBool, OnOk, Result, Ok, Err}
use Rattle.std.specs.declared.net.ip_addr.IpAddr.{IpAddr}
use Rattle.esc_zone.specs.Addresses.{AreAddresses}
use Rattle.esc_zone.specs.Delegations.{with_records}
use Rattle.esc_zone.specs.Drafts.{ZoneNotes, takes_glue}
use Rattle.esc_zone.specs.Glue.{address_records, AddsAddresses, AddsGlue}
use Rattle.esc_zone.specs.Names.{name_eq}
use Rattle.esc_zone.specs.Records.{RecordsValue}

either_way : (b : Bool) (P Q R S : Type 0) → (P → R) → (Q → S) → MatchBool b P Q → MatchBool b R S
either_way true P Q R S f g h = f h
either_way false P Q R S f g h = g h

used_glue : (z : ZoneNotes) (host name : List ℕ) (texts : List (List ℕ)) (addresses : List IpAddr)
    → (before now after : RecordsValue)
    → z.is_given host ≡ false → AreAddresses texts addresses → now ≡ before
    → MatchBool (takes_glue z host || name_eq name z.origin)
    (after ≡ with_records now (address_records now.ttl host addresses)) (after ≡ now)
    → AddsGlue z host (Some name) texts before after
used_glue z host name texts addresses before now after given are same h =
    subst (λ (g : Bool). MatchBool (not g && (takes_glue z host || name_eq name z.origin))
    (AddsAddresses host texts before after) (after ≡ before)) (sym given)
    (either_way (takes_glue z host || name_eq name z.origin) _ _ _ _
    (λ e. (addresses, are, e ∙ ap (λ (n : RecordsValue). with_records n (address_records n.ttl host addresses)) same))
    (λ e. e ∙ same) h)

-- what is written of a server that a name uses, and that the operator's file has no address of
pub glue_added : {T E : Type 0} (r : Result T E) (z : ZoneNotes) (host name : List ℕ) (user : Option (List ℕ))
    → (texts : List (List ℕ)) (addresses shown : List IpAddr) (before now after : RecordsValue)
    → Some name ≡ user → z.is_given host ≡ false → AreAddresses texts addresses → shown ≡ addresses → now ≡ before
    → OnOk r (MatchBool (takes_glue z host || name_eq name z.origin)
    (after ≡ with_records now (address_records now.ttl host shown)) (after ≡ now))
    → OnOk r (AddsGlue z host user texts before after)
glue_added (Err e) z host name user texts addresses shown before now after used given are seen same h = tt
glue_added (Ok x) z host name user texts addresses shown before now after used given are seen same h =
    subst (λ (u : Option (List ℕ)). AddsGlue z host u texts before after) used
    (used_glue z host name texts shown before now after given
    (subst (λ (l : List IpAddr). AreAddresses texts l) (sym seen) are) same h)
