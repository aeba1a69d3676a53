-- Records that are added, one after the other.
use Rattle.std.proofs.Common.{◌≡◌, ℕ, ◌+◌, ◌<◌, List, [], ◌∷◌, ◌++◌, length, take, get_or}
use Rattle.std.proofs.Common.{None, Some, true, false}
use Rattle.std.proofs.Common.{refl, sym, ◌∙◌, ap, append-nil, append_assoc, Bool}
use Rattle.std.specs.Prelude.{cond}
use Rattle.std.specs.List.{flat_map}
use Rattle.std.proofs.lemmas.List.{map-append, take_more}
use Rattle.std.proofs.lemmas.Grind.{flat_map-append}
use Rattle.esc_zone.specs.declared.signer.Ds.{Ds}
use Rattle.esc_zone.specs.Records.{Data, RecordValue, RecordsValue, record_text}
use Rattle.std.specs.declared.net.ip_addr.IpAddr.{IpAddr}
use Rattle.esc_zone.specs.Records.Data.{server, signer, address}
use Rattle.esc_zone.specs.Glue.{address_records}
use Rattle.esc_zone.specs.Signers.{ds_value}
use Rattle.esc_zone.specs.Delegations.{with_records, server_records, signer_records}
use Rattle.esc_zone.proofs.Listed.{front_more}

-- what is told where something is made only if a test passes
pub made_if : (b : Bool) (t h : List ℕ) → Some h ≡ cond b (Some t) None → (b ≡ true) × (t ≡ h)
made_if true t h e = (refl, (let same : t ≡ h = cc e in same))
made_if false t h e = absurd (cc e)

-- records that are added one after the other are added together
pub with_both : (lines : RecordsValue) (rs qs : List RecordValue)
    → with_records (with_records lines rs) qs ≡ with_records lines (rs ++ qs)
with_both lines rs qs =
    ap (λ t. record lines { text = t })
    (append_assoc lines.text (flat_map record_text rs) (flat_map record_text qs)
    ∙ ap (λ t. lines.text ++ t) (sym (flat_map-append record_text rs qs)))

-- a line more
pub with_one : (before now after : RecordsValue) (rs : List RecordValue) (owner : List ℕ) (said : Data)
    → now ≡ with_records before rs
    → after ≡ record now { text = now.text ++ record_text (record { owner = owner; ttl = now.ttl; said = said }) }
    → after ≡ with_records before (rs ++ record { owner = owner; ttl = before.ttl; said = said } ∷ [])
with_one before now after rs owner said h e =
    let r : RecordValue = record { owner = owner; ttl = before.ttl; said = said } in
    e
    ∙ ap (λ (n : RecordsValue). record n {
      text = n.text ++ record_text (record { owner = owner; ttl = n.ttl; said = said });
    }) h
    ∙ ap (λ t. record before { text = (before.text ++ flat_map record_text rs) ++ t })
    (sym (append-nil (record_text r)))
    ∙ with_both before rs (r ∷ [])

-- one server more is one record more
pub server_more : (ttl : ℕ) (name : List ℕ) (hosts : List (List ℕ)) (i : ℕ) (host : List ℕ)
    → i < length hosts → host ≡ get_or hosts i host
    → server_records ttl name (take (i + 1) hosts)
    ≡ server_records ttl name (take i hosts) ++ record { owner = name; ttl = ttl; said = server host } ∷ []
server_more ttl name hosts i host lt is =
    ap (server_records ttl name) (front_more hosts i host lt is)
    ∙ map-append (λ (h : List ℕ). record { owner = name; ttl = ttl; said = server h }) (take i hosts) (host ∷ [])

-- one DS more is one record more
pub signer_more : (ttl : ℕ) (name : List ℕ) (signers : List Ds) (i : ℕ) (ds : Ds)
    → i < length signers → ds ≡ get_or signers i ds
    → signer_records ttl name (take (i + 1) signers)
    ≡ signer_records ttl name (take i signers) ++ record { owner = name; ttl = ttl; said = signer (ds_value ds) } ∷ []
signer_more ttl name signers i ds lt is =
    ap (signer_records ttl name) (front_more signers i ds lt is)
    ∙ map-append (λ (d : Ds). record { owner = name; ttl = ttl; said = signer (ds_value d) }) (take i signers) (ds ∷ [])

-- one address more is one record more
pub address_more : (ttl : ℕ) (host : List ℕ) (addresses : List IpAddr) (i : ℕ) (d : IpAddr) → i < length addresses
    → address_records ttl host (take (i + 1) addresses)
    ≡ address_records ttl host (take i addresses)
    ++ record { owner = host; ttl = ttl; said = address (get_or addresses i d) } ∷ []
address_more ttl host addresses i d lt =
    ap (address_records ttl host) (take_more addresses i d lt)
    ∙ map-append (λ (a : IpAddr). record { owner = host; ttl = ttl; said = address a })
    (take i addresses) (get_or addresses i d ∷ [])
