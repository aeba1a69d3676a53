use Rattle.std.proofs.Common.{◌≡◌, ◌∙◌, ap, map, filter, List}
use Rattle.std.specs.Prelude.{not}
use Rattle.esc_bundle.specs.Bundle.{views}
use Rattle.esc_envelope.specs.EnvelopeValue.{TableValue, EnvelopeValue}
use Rattle.esc_tables.specs.TableRow.{rows_in, keyed, key_of}
use Rattle.esc_tables.specs.Reading.{by_name, parent_rows, child_rows}
use Rattle.esc_tables.proofs.DepositFacts.{made_of}
use Rattle.esc_tables.proofs.reading.make_deposit.Goals as goal

pub returns-clause-made : goal.returns-clause-made
returns-clause-made c =
    let e = c.args.envelope in
    let files = views c.args.files.now in
    let contents : c.as_slice.result.now ≡ e.contents =
    c.as_slice.ensures.value ∙ ap (λ (e : EnvelopeValue). e.contents) c.envelope.view_is in
    let gone : c.as_slice-2.result.now ≡ e.deletes =
    c.as_slice-2.ensures.value ∙ ap (λ (e : EnvelopeValue). e.deletes) c.envelope.view_is in
    let parents : c.in_ok-rows.rows.parents.items ≡ parent_rows files e =
    c.in_ok-rows.ensures.parents ∙ ap
    (λ (ts : List TableValue). map keyed (rows_in files (filter (λ t. t.parent) ts))) contents in
    let children : c.in_ok-rows.rows.children.items ≡ child_rows files e =
    c.in_ok-rows.ensures.children ∙ ap (λ (ts : List TableValue). map
    keyed (rows_in files (by_name (filter (λ t. not t.parent) ts)))) contents in
    let deletes : c.in_ok-rows.rows.deletes.items ≡ map key_of (rows_in files e.deletes) =
    c.in_ok-rows.ensures.deletes
    ∙ ap (λ (ts : List TableValue). map key_of (rows_in files ts)) gone in
    made_of files e _ (ap (λ (e : EnvelopeValue). e.header) c.envelope.view_is)
    (ap (λ (e : EnvelopeValue). e.counts) c.envelope.view_is) deletes (rw (← parents, ← children)
    c.in_ok-gathered.ensures.objects) (rw (← parents, ← children) c.in_ok-gathered.ensures.orphans)
