use Rattle.std.proofs.Common.{◌≡◌, ◌∷◌, Err, map, refl, inl, inr}
use Rattle.std.proofs.lemmas.Result.{err_from_is_err_and}
use Rattle.esc_bundle.specs.declared.refusal.Refusal.{Refusal}
use Rattle.esc_bundle.specs.Bundle.{IsBundle}
use Rattle.esc_bundle.specs.Writing.{named, IsUnwritten}
use Rattle.esc_tables.specs.Reading.{tables_of, reading}
use Rattle.esc_pack.specs.Bundling.{description_section, sections_of}
use Rattle.esc_pack.specs.BundleRefusals.{IsSectionsRefusal, IsBundleRefusal}
use Rattle.esc_pack.proofs.Refusals.{or_weaker, fault_refused}
use Rattle.esc_pack.proofs.SectionFacts.{rows_read, read_as}
use Rattle.esc_pack.proofs.bundle.bundle_of_files.Goals as goal

pub returns-clause-bundled : goal.returns-clause-bundled
returns-clause-bundled c =
    let given = c.args.given.now in
    let body = c.in_ok-body.body.items in
    let made = c.in_ok-sections.ensures.are in
    let e = made.envelope in
    let description = description_section c.args.description.now in
    let sections = sections_of (tables_of e) given in
    let bundle : IsBundle body (description ∷ sections) =
    rw (c.deref.ensures.value, made.are) at c.in_ok-body.ensures.written in
    let framed = (c.frame_is_exact.ensures.bundle body (description ∷ sections)).1 bundle in
    let read = rw c.deref-2.ensures.value at c.in_ok-read_deposit.ensures.read in
    record {
      envelope = e;
      told = made.told;
      matched = made.matched;
      headings = made.headings;
      bundle = bundle;
      rows = rows_read description (tables_of e) given made.matched bundle.sections.distinct made.read;
      read = read_as body framed made.told read;
    }

pub returns-in_err-sections-clause-refused : goal.returns-in_err-sections-clause-refused
returns-in_err-sections-clause-refused c =
    let description = c.args.description.now in
    let given = c.args.given.now in
    let p = err_from_is_err_and c.from_residual.result c.from_residual.ensures.1 in
    rw (p.1, p.2)
    (or_weaker (IsSectionsRefusal description given)
    (IsBundleRefusal description given) (λ e it. inl it) _ c.in_err-sections.ensures.refused)

pub returns-in_err-body-clause-refused : goal.returns-in_err-body-clause-refused
returns-in_err-body-clause-refused c =
    let sections = map named c.in_ok-sections.sections.items in
    let p = err_from_is_err_and c.from_residual-in_err-body.result c.from_residual-in_err-body.ensures.1 in
    let told : (n : Refusal) → _ → IsUnwritten sections n =
    λ n is. rw c.deref.ensures.value at (c.in_err-body.ensures.unwritten n is) in
    rw (p.1, p.2)
    (fault_refused (IsBundleRefusal c.args.description.now c.args.given.now) _
    (λ n is. inr (n, sections, refl, c.in_ok-sections.ensures.are, inl (told n is))))

pub returns-in_err-read_deposit-clause-refused : goal.returns-in_err-read_deposit-clause-refused
returns-in_err-read_deposit-clause-refused c =
    let sections = map named c.in_ok-sections.sections.items in
    let body = c.in_ok-body.body.items in
    let bundle : IsBundle body sections = rw c.deref.ensures.value at c.in_ok-body.ensures.written in
    let p = err_from_is_err_and
    c.from_residual-in_err-read_deposit.result c.from_residual-in_err-read_deposit.ensures.1 in
    let told : (n : Refusal) → _ → reading body ≡ Err n =
    λ n is. rw c.deref-2.ensures.value at (c.in_err-read_deposit.ensures.refused n is) in
    rw (p.1, p.2)
    (fault_refused (IsBundleRefusal c.args.description.now c.args.given.now) _
    (λ n is. inr (n, sections, refl, c.in_ok-sections.ensures.are, inr (body, bundle, told n is))))
