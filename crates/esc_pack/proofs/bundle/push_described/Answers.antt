use Rattle.std.proofs.Common.{◌≡◌, ◌∙◌, ◌++◌, ◌∷◌, ◌≤◌, [], List, length, take, drop, map}
use Rattle.std.proofs.Common.{refl, sym, ap, subst, arith, inr}
use Rattle.std.specs.Prelude.{All}
use Rattle.std.specs.List.{zip}
use Rattle.std.proofs.lemmas.List.{append_assoc, take-append-drop}
use Rattle.std.proofs.lemmas.List.Elements.{All-append}
use Rattle.std.proofs.lemmas.Result.{err_from_is_err_and}
use Rattle.esc_bundle.specs.Bundle.{Named}
use Rattle.esc_bundle.specs.Writing.{named}
use Rattle.esc_envelope.specs.EnvelopeValue.{TableValue}
use Rattle.esc_pack.specs.GivenRows.{GivenTable, IsReadBack}
use Rattle.esc_pack.specs.Bundling.{description_section, sections_of, AreHeaded}
use Rattle.esc_pack.specs.BundleRefusals.{IsTablesRefusal, IsGivenRefusal}
use Rattle.esc_pack.proofs.SectionFacts.{in_parts, sections_split}
use Rattle.esc_pack.proofs.Refusals.{or_weaker, front_refused, back_refused, pairs_many}
use Rattle.esc_pack.proofs.bundle.push_described.Goals as goal

pub returns-clause-sections : goal.returns-clause-sections
returns-clause-sections c =
    let given = c.args.given.now in
    let first = c.as_slice-contents.result.now in
    let fits : length first ≤ length given = omega (arith, c.if-given-contents.false) in
    let parts = in_parts given
    c.envelope.view_is c.as_slice-contents.ensures.value c.as_slice-deletes.ensures.value fits in
    let description = description_section c.args.description.now in
    let old = map named c.args.sections.now.items in
    let one : map named c.push_sections.new.sections.items
    ≡ (old ++ description ∷ []) ++ sections_of first (take (length first) given) =
    c.in_ok-push_sections.ensures.pushed ∙ rw (c.in_ok-push_description.ensures, c.split_at.ensures.front) refl in
    let all = sym (sections_split _ _ parts) in
    c.in_ok-push_sections-2.ensures.pushed
    ∙ rw (one, c.split_at.ensures.back)
    (rw (append_assoc, append_assoc) (ap (λ (ss : List Named). old ++ description ∷ ss) all))

pub returns-clause-read : goal.returns-clause-read
returns-clause-read c =
    let given = c.args.given.now in
    let n = length c.as_slice-contents.result.now in
    let front : All IsReadBack (take n given) =
    subst (λ (gs : List GivenTable). All IsReadBack gs) c.split_at.ensures.front c.in_ok-push_sections.ensures.read in
    let back : All IsReadBack (drop n given) =
    subst (λ (gs : List GivenTable). All IsReadBack gs) c.split_at.ensures.back c.in_ok-push_sections-2.ensures.read in
    let all = All-append IsReadBack (take n given) (drop n given) front back in
    subst (λ (gs : List GivenTable). All IsReadBack gs) (take-append-drop n given) all

pub returns-clause-headed : goal.returns-clause-headed
returns-clause-headed c =
    let given = c.args.given.now in
    let first = c.as_slice-contents.result.now in
    let more = c.as_slice-deletes.result.now in
    let fits : length first ≤ length given = omega (arith, c.if-given-contents.false) in
    let parts = in_parts given
    c.envelope.view_is c.as_slice-contents.ensures.value c.as_slice-deletes.ensures.value fits in
    let front : All AreHeaded (zip first (take (length first) given)) =
    subst (λ (gs : List GivenTable). All AreHeaded (zip first gs))
    c.split_at.ensures.front c.in_ok-push_sections.ensures.headed in
    let back : All AreHeaded (zip more (drop (length first) given)) =
    subst (λ (gs : List GivenTable). All AreHeaded (zip more gs))
    c.split_at.ensures.back c.in_ok-push_sections-2.ensures.headed in
    subst (λ (ps : List (TableValue × GivenTable)). All AreHeaded ps)
    (sym parts) (All-append AreHeaded _ _ front back)

pub returns-in_err-push_sections-clause-refused : goal.returns-in_err-push_sections-clause-refused
returns-in_err-push_sections-clause-refused c =
    let given = c.args.given.now in
    let first = c.as_slice-contents.result.now in
    let more = c.as_slice-deletes.result.now in
    let fits : length first ≤ length given = omega (arith, c.if-given-contents.false) in
    let parts = in_parts given
    c.envelope.view_is c.as_slice-contents.ensures.value c.as_slice-deletes.ensures.value fits in
    let p = err_from_is_err_and
    c.from_residual-in_err-push_sections.result c.from_residual-in_err-push_sections.ensures.1 in
    rw (p.1, p.2)
    (or_weaker (IsTablesRefusal (zip first c.split_at.result.0.now) 0) (IsGivenRefusal c.args.envelope.now given)
    (λ e refused. inr (front_refused _ _ parts (subst (λ (gs : List GivenTable). IsTablesRefusal
    (zip first gs) 0 e) c.split_at.ensures.front refused)))
    _ c.in_err-push_sections.ensures.refused)

pub returns-in_err-push_sections-2-clause-refused : goal.returns-in_err-push_sections-2-clause-refused
returns-in_err-push_sections-2-clause-refused c =
    let given = c.args.given.now in
    let first = c.as_slice-contents.result.now in
    let more = c.as_slice-deletes.result.now in
    let fits : length first ≤ length given = omega (arith, c.if-given-contents.false) in
    let parts = in_parts given
    c.envelope.view_is c.as_slice-contents.ensures.value c.as_slice-deletes.ensures.value fits in
    let p = err_from_is_err_and c.from_residual-in_err-push_sections-2.result
    c.from_residual-in_err-push_sections-2.ensures.1 in
    rw (p.1, p.2)
    (or_weaker (IsTablesRefusal (zip more c.split_at.result.1.now) (length first))
    (IsGivenRefusal c.args.envelope.now given)
    (λ e refused. inr (back_refused _ _ parts (pairs_many first given fits)
    (subst (λ (gs : List GivenTable). IsTablesRefusal (zip more gs) (length first) e)
    c.split_at.ensures.back refused)))
    _ c.in_err-push_sections-2.ensures.refused)
