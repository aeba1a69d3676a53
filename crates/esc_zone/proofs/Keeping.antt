-- The servers that are kept of originals.
use Rattle.std.proofs.Common.{◌≡◌, List, ℕ, [], ◌∷◌, length, true, false, Bool, None, Some, Option}
use Rattle.std.proofs.Common.{refl, sym, ap, ◌∙◌, subst, append-nil}
use Rattle.std.specs.Prelude.{◌==◌, ◌&&◌, cond}
use Rattle.std.specs.Option.{option_map_or}
use Rattle.std.specs.Ordering.{nat_cmp}
use Rattle.std.specs.Cmp.{Equal-is}
use Rattle.std.specs.Cmp.Lexicographic.{slice_cmp}
use Rattle.std.proofs.lemmas.Map.Lookups.{exact_bytes}
use Rattle.esc_zone.specs.declared.draft.Place.{Place}
use Rattle.esc_zone.specs.declared.signer.Ds.{Ds}
use Rattle.esc_zone.specs.Delegations.{with_records, server_records, signer_records}
use Rattle.esc_zone.specs.Mirrors.{OriginalNotes, with_servers, KeepsServers}
use Rattle.esc_zone.specs.Names.{name_eq}
use Rattle.esc_zone.specs.Records.{RecordsValue}
use Rattle.esc_zone.proofs.Added.{with_both}

-- names that are equal are one
same_name : (a b : List ℕ) → name_eq a b ≡ true → a ≡ b
same_name a b h = exact_bytes a b ((Equal-is (slice_cmp nat_cmp a b)).0 h)

-- the servers of a place, and whether it is an original
abbrev pub servers_in : Option Place → List (List ℕ)
servers_in found = option_map_or (λ (place : Place). place.servers.items) found []

abbrev pub original_in_place : Option Place → Bool
original_in_place found = option_map_or (λ (place : Place). place.is_original) found false

-- what each name has, once a place is written with these servers if it is an original
pub servers_written : (before after : List ℕ → Option Place) (name : List ℕ) (old w : Place) (hosts : List (List ℕ))
    → before name ≡ Some old → ((q : List ℕ) → after q ≡ cond (name_eq name q) (Some w) (before q))
    → w.servers.items ≡ cond old.is_original hosts old.servers.items
    → (q : List ℕ) → servers_in (after q)
    ≡ cond (name_eq name q && original_in_place (before q)) hosts (servers_in (before q))
servers_written before after name old w hosts is writes kept q =
    ap servers_in (writes q)
    ∙ (elim (name_eq name q) as (λ v. name_eq name q ≡ v → servers_in (cond v (Some w) (before q))
    ≡ cond (v && original_in_place (before q)) hosts (servers_in (before q))) [
      | true ↦ λ e. (let there : before q ≡ Some old = ap before (sym (same_name name q e)) ∙ is in
          kept ∙ sym (ap (λ (f : Option Place). cond (original_in_place f) hosts (servers_in f)) there))
      | false ↦ λ e. refl
    ]) refl

-- and where there is no such place
pub servers_unwritten : (before : List ℕ → Option Place) (name : List ℕ) (hosts : List (List ℕ))
    → before name ≡ None → (q : List ℕ) → servers_in (before q)
    ≡ cond (name_eq name q && original_in_place (before q)) hosts (servers_in (before q))
servers_unwritten before name hosts none q =
    (elim (name_eq name q) as (λ v. name_eq name q ≡ v → servers_in (before q)
    ≡ cond (v && original_in_place (before q)) hosts (servers_in (before q))) [
      | true ↦ λ e. (let there : before q ≡ None = ap before (sym (same_name name q e)) ∙ none in
          ap servers_in there
          ∙ sym (ap (λ (f : Option Place). cond (original_in_place f) hosts (servers_in f)) there))
      | false ↦ λ e. refl
    ]) refl

-- nothing is kept where nothing is added
pub keeps_nothing : (name : List ℕ) (o kept : OriginalNotes) (before after : RecordsValue)
    → kept ≡ o → after ≡ before → KeepsServers name o kept before after
keeps_nothing name o kept before after same e = (
  [],
  [],
  e ∙ ap (λ (t : List ℕ). record before { text = t }) (sym (append-nil before.text)),
  same,
)

-- servers are kept, and their records are added, and then DS
pub keeps_servers : (name text : List ℕ) (hosts : List (List ℕ)) (signers : List Ds)
    → (o written signed kept : OriginalNotes) (before now after : RecordsValue)
    → name ≡ text → (length hosts == 0) ≡ false
    → now ≡ with_records before (server_records before.ttl name hosts)
    → after ≡ with_records now (signer_records now.ttl name signers)
    → written ≡ o → signed ≡ written → kept ≡ with_servers name hosts signed
    → KeepsServers text o kept before after
keeps_servers name text [] signers o written signed kept before now after is some e f w s k = absurd (cc some)
keeps_servers name text (host ∷ hosts) signers o written signed kept before now after is some e f w s k =
    subst (λ (n : List ℕ). KeepsServers n o kept before after) is (
      host ∷ hosts,
      signers,
      f ∙ ap (λ (n : RecordsValue). with_records n (signer_records n.ttl name signers)) e
          ∙ with_both before (server_records before.ttl name (host ∷ hosts)) (signer_records before.ttl name signers),
      k ∙ ap (with_servers name (host ∷ hosts)) (s ∙ w),
    )

-- the same, seen from before and from after
pub keeps_same : (text name : List ℕ) (o kept : OriginalNotes) (before now after end : RecordsValue)
    → text ≡ name → now ≡ before → end ≡ after → KeepsServers text o kept now after
    → KeepsServers name o kept before end
keeps_same text name o kept before now after end is start finish h =
    subst (λ (n : List ℕ). KeepsServers n o kept before end) is
    (subst (λ (b : RecordsValue). KeepsServers text o kept b end) start
    (subst (λ (e : RecordsValue). KeepsServers text o kept now e) (sym finish) h))
