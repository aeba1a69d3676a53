use Rattle.std.proofs.Common.{◌∙◌}
use Rattle.std.proofs.lemmas.Result.{err_from_is_err_and, IfOk-weaker, IfErr-weaker}
use Rattle.esc_tables.proofs.DepositFacts.{framed_as, first_of, rest_of}
use Rattle.esc_tables.proofs.EnvelopeFacts.{unframed, same_envelope}
use Rattle.esc_tables.proofs.reading.first_envelope.Goals as goal

pub returns-in_err-sections-clause-refused : goal.returns-in_err-sections-clause-refused
returns-in_err-sections-clause-refused c =
    let p = err_from_is_err_and c.from_residual.result c.from_residual.ensures.1 in
    rw (p.1, p.2) (λ n same. unframed c.args.body.now n (c.in_err-sections.ensures.unframed n same))

pub returns-clause-read : goal.returns-clause-read
returns-clause-read c =
    let framed = framed_as c.args.body.now c.in_ok-sections.sections.items c.as_slice.result.now
    c.in_ok-sections.ensures.framed c.as_slice.ensures.value c.in-len1-up.len_at_least in
    let same = same_envelope c.args.body.now (first_of c.as_slice.result.now) (rest_of c.as_slice.result.now) framed in
    IfOk-weaker c.read_envelope.result _ _ (λ e read. same ∙ read) c.read_envelope.ensures.envelope

pub returns-clause-refused : goal.returns-clause-refused
returns-clause-refused c =
    let framed = framed_as c.args.body.now c.in_ok-sections.sections.items c.as_slice.result.now
    c.in_ok-sections.ensures.framed c.as_slice.ensures.value c.in-len1-up.len_at_least in
    let same = same_envelope c.args.body.now (first_of c.as_slice.result.now) (rest_of c.as_slice.result.now) framed in
    IfErr-weaker c.read_envelope.result
    _ _ (λ e refused n number. same ∙ refused n number) c.read_envelope.ensures.refused
