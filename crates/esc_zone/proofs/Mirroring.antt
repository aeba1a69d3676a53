-- What is added for a mirrored name.
use Rattle.std.proofs.Common.{◌≡◌, List, ℕ, [], true, false, Bool, None, Some, sym, ap, ◌∙◌}
use Rattle.std.specs.Prelude.{cond, OnOk, Result, Ok, Err}
use Rattle.std.proofs.lemmas.Bool.{and_parts}
use Rattle.esc_zone.specs.Delegations.{with_records, server_records, has_place}
use Rattle.esc_zone.specs.Drafts.{ZoneNotes}
use Rattle.esc_zone.specs.Mirrors.{OriginalNotes, is_domain_name, is_mirror, servers_like}
use Rattle.esc_zone.specs.Names.{is_name_with}
use Rattle.esc_zone.specs.Records.{RecordsValue}
use Rattle.esc_zone.proofs.Added.{made_if}

-- an original is a name
original_named : (z : ZoneNotes) (o : OriginalNotes) (name original : List ℕ)
    → is_mirror z o name original ≡ true → is_name_with false original ≡ true
original_named z o name original h =
    let rest = and_parts _ _ h in
    let domain = and_parts (is_domain_name o original) (has_place z name) rest.1 in
    (and_parts (is_name_with false original) (o.is_domain original) domain.0).0

-- the servers of an original, of a name that has them
pub mirrored : {T E : Type 0} (r : Result T E) (z : ZoneNotes) (o : OriginalNotes) (text name original : List ℕ)
    → (before now after : RecordsValue)
    → Some name ≡ cond (is_mirror z o text original) (Some text) None → now ≡ before
    → OnOk r (after ≡ with_records now
    (server_records now.ttl name (cond (is_name_with false original) (o.servers original) [])))
    → OnOk r (after ≡ with_records before (server_records before.ttl text (servers_like z o text original)))
mirrored (Err x) z o text name original before now after made same h = tt
mirrored (Ok x) z o text name original before now after made same h =
    let is = made_if (is_mirror z o text original) text name made in
    let named = original_named z o text original is.0 in
    let kept = cond (is_name_with false original) (o.servers original) [] in
    h ∙ ap (λ (w : RecordsValue). with_records w (server_records w.ttl name kept)) same
    ∙ ap (λ (t : List ℕ). with_records before (server_records before.ttl t kept)) (sym is.1)
    ∙ ap (λ (b : Bool). with_records before (server_records before.ttl text (cond b (o.servers original) [])))
    (named ∙ sym is.0)
