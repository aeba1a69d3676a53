use Rattle.std.proofs.Common.{◌≡◌, ◌∙◌, sym, ap, ℕ, true, false}
use Rattle.std.specs.Prelude.{Err}
use Rattle.std.proofs.lemmas.Result.{IfErr-weaker}
use Rattle.esc_bundle.specs.declared.refusal.Refusal.{Refusal}
use Rattle.esc_bundle.specs.declared.refusal.Refusal.TheVariants.{WrongFiles}
use Rattle.esc_bundle.specs.Bundle.{views}
use Rattle.esc_envelope.specs.EnvelopeValue.{EnvelopeValue}
use Rattle.esc_tables.specs.TableRow.{are_filed}
use Rattle.esc_tables.specs.Reading.{tables_of}
use Rattle.esc_tables.proofs.DepositFacts.{told_unfiled, told_rows, read_filed}
use Rattle.esc_tables.proofs.reading.read_files.Goals as goal

pub returns-then-not-are_filed-clause-refused : goal.returns-then-not-are_filed-clause-refused
returns-then-not-are_filed-clause-refused c = λ n same.
    let contents : c.as_slice-contents.result.now ≡ c.args.envelope.contents =
    c.as_slice-contents.ensures.value ∙ ap (λ (e : EnvelopeValue). e.contents) c.envelope.view_is in
    let deletes : c.as_slice-deletes.result.now ≡ c.args.envelope.deletes =
    c.as_slice-deletes.ensures.value ∙ ap (λ (e : EnvelopeValue). e.deletes) c.envelope.view_is in
    let filed : are_filed (views c.args.files.now) (tables_of c.args.envelope) ≡ false =
    sym (rw (contents, deletes) at c.are_filed.ensures) ∙ c.if-not-are_filed.true in
    let refusal : WrongFiles ≡ n = cc in
    told_unfiled (views c.args.files.now) c.args.envelope filed ∙ ap (λ (m : Refusal). Err m) refusal

pub returns-clause-read : goal.returns-clause-read
returns-clause-read c =
    let contents : c.as_slice-contents.result.now ≡ c.args.envelope.contents =
    c.as_slice-contents.ensures.value ∙ ap (λ (e : EnvelopeValue). e.contents) c.envelope.view_is in
    let deletes : c.as_slice-deletes.result.now ≡ c.args.envelope.deletes =
    c.as_slice-deletes.ensures.value ∙ ap (λ (e : EnvelopeValue). e.deletes) c.envelope.view_is in
    let filed : are_filed (views c.args.files.now) (tables_of c.args.envelope) ≡ true =
    sym (rw (contents, deletes) at c.are_filed.ensures) ∙ c.if-not-are_filed.false in
    read_filed (views c.args.files.now) c.args.envelope
    c.make_deposit.result filed c.make_deposit.ensures.passed c.make_deposit.ensures.made

pub returns-clause-refused : goal.returns-clause-refused
returns-clause-refused c =
    let contents : c.as_slice-contents.result.now ≡ c.args.envelope.contents =
    c.as_slice-contents.ensures.value ∙ ap (λ (e : EnvelopeValue). e.contents) c.envelope.view_is in
    let deletes : c.as_slice-deletes.result.now ≡ c.args.envelope.deletes =
    c.as_slice-deletes.ensures.value ∙ ap (λ (e : EnvelopeValue). e.deletes) c.envelope.view_is in
    let filed : are_filed (views c.args.files.now) (tables_of c.args.envelope) ≡ true =
    sym (rw (contents, deletes) at c.are_filed.ensures) ∙ c.if-not-are_filed.false in
    IfErr-weaker c.make_deposit.result _ _ (λ e refused n same. told_rows (views c.args.files.now)
    c.args.envelope n filed (refused n same)) c.make_deposit.ensures.refused
