use Rattle.std.proofs.Common.{◌∙◌, refl, inl, inr}
use Rattle.std.proofs.lemmas.Result.{err_from_is_err_and}
use Rattle.esc_pack.specs.BundleRefusals.{IsGivenRefusal, IsSectionsRefusal}
use Rattle.esc_pack.proofs.Refusals.{or_weaker, fault_refused}
use Rattle.esc_pack.proofs.bundle.described_sections.Goals as goal

pub returns-clause-are : goal.returns-clause-are
returns-clause-are c =
    let told = c.in_ok-push_described.ensures in
    record {
      envelope = c.in_ok-envelope.envelope;
      told = c.in_ok-envelope.ensures.envelope;
      matched = told.matched;
      headings = told.headed;
      are = told.sections ∙ rw (c.new-sections.ensures.items) refl;
      read = told.read;
    }

pub returns-in_err-envelope-clause-refused : goal.returns-in_err-envelope-clause-refused
returns-in_err-envelope-clause-refused c =
    let p = err_from_is_err_and c.from_residual.result c.from_residual.ensures.1 in
    rw (p.1, p.2)
    (fault_refused (IsSectionsRefusal c.args.description.now c.args.given.now)
    _ (λ n is. inl (n, refl, c.in_err-envelope.ensures.refused n is)))

pub returns-in_err-push_described-clause-refused : goal.returns-in_err-push_described-clause-refused
returns-in_err-push_described-clause-refused c =
    let given = c.args.given.now in
    let envelope = c.in_ok-envelope.envelope in
    let p = err_from_is_err_and
    c.from_residual-in_err-push_described.result c.from_residual-in_err-push_described.ensures.1 in
    rw (p.1, p.2)
    (or_weaker (IsGivenRefusal envelope given) (IsSectionsRefusal c.args.description.now given)
    (λ e it. inr (envelope, c.in_ok-envelope.ensures.envelope, it)) _ c.in_err-push_described.ensures.refused)
