use Rattle.std.proofs.Common.{◌∙◌}
use Rattle.std.proofs.lemmas.Result.{err_from_is_err_and, IfOk-weaker, IfErr-weaker}
use Rattle.esc_tables.proofs.DepositFacts.{no_frame, no_envelope, same_reading, framed_as, first_of, rest_of}
use Rattle.esc_tables.proofs.reading.read_deposit.Goals as goal

pub returns-in_err-sections-clause-refused : goal.returns-in_err-sections-clause-refused
returns-in_err-sections-clause-refused c =
    let p = err_from_is_err_and c.from_residual.result c.from_residual.ensures.1 in
    rw (p.1, p.2) (λ n same. no_frame c.args.body.now n (c.in_err-sections.ensures.unframed n same))

pub returns-in_err-envelope-clause-refused : goal.returns-in_err-envelope-clause-refused
returns-in_err-envelope-clause-refused c =
    let p = err_from_is_err_and c.from_residual-in_err-envelope.result c.from_residual-in_err-envelope.ensures.1 in
    let framed = framed_as c.args.body.now c.in_ok-sections.sections.items c.as_slice.result.now
    c.in_ok-sections.ensures.framed c.as_slice.ensures.value c.in-len1-up.len_at_least in
    rw (p.1, p.2) (λ n same. no_envelope c.args.body.now (first_of c.as_slice.result.now)
    (rest_of c.as_slice.result.now) n framed (c.in_err-envelope.ensures.refused n same))

pub returns-clause-read : goal.returns-clause-read
returns-clause-read c =
    let framed = framed_as c.args.body.now c.in_ok-sections.sections.items c.as_slice.result.now
    c.in_ok-sections.ensures.framed c.as_slice.ensures.value c.in-len1-up.len_at_least in
    let same = same_reading c.args.body.now (first_of c.as_slice.result.now) (rest_of
    c.as_slice.result.now) c.in_ok-envelope.envelope framed c.in_ok-envelope.ensures.envelope in
    IfOk-weaker c.read_files.result _ _ (λ d read. same ∙ read) c.read_files.ensures.read

pub returns-clause-refused : goal.returns-clause-refused
returns-clause-refused c =
    let framed = framed_as c.args.body.now c.in_ok-sections.sections.items c.as_slice.result.now
    c.in_ok-sections.ensures.framed c.as_slice.ensures.value c.in-len1-up.len_at_least in
    let same = same_reading c.args.body.now (first_of c.as_slice.result.now) (rest_of
    c.as_slice.result.now) c.in_ok-envelope.envelope framed c.in_ok-envelope.ensures.envelope in
    IfErr-weaker c.read_files.result _ _ (λ e refused n number. same ∙ refused n number) c.read_files.ensures.refused
