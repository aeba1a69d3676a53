use Rattle.std.proofs.Common.{◌∙◌}
use Rattle.std.proofs.lemmas.Result.{err_from_is_err_and}
use Rattle.esc_bundle.specs.Bundle.{views}
use Rattle.esc_tables.proofs.SurveyFacts.{right_verdict}
use Rattle.esc_tables.proofs.ReadFacts.{was_right, read_alone}
use Rattle.esc_tables.proofs.TurnFacts.{parents_in, children_in, judged_in_turn, refused_in_first}
use Rattle.esc_tables.proofs.TurnFacts.{refused_in_rest, refused_in_turn}
use Rattle.esc_tables.proofs.tables.read_rows.Goals as goal

pub returns-in_err-survey-clause-refused : goal.returns-in_err-survey-clause-refused
returns-in_err-survey-clause-refused c =
    let files = views c.args.files.now in
    let p = err_from_is_err_and c.from_residual.result c.from_residual.ensures.1 in
    rw (p.1, p.2) (refused_in_turn files c.args.contents.now c.args.deletes.now
    _ (refused_in_first (parents_in files c.args.contents.now) _ _ c.in_err-survey.ensures.refused))

pub returns-in_err-survey-2-clause-refused : goal.returns-in_err-survey-2-clause-refused
returns-in_err-survey-2-clause-refused c =
    let files = views c.args.files.now in
    let p = err_from_is_err_and c.from_residual-in_err-survey-2.result c.from_residual-in_err-survey-2.ensures.1 in
    rw (p.1, p.2) (refused_in_turn files c.args.contents.now c.args.deletes.now _
    (refused_in_rest (parents_in files c.args.contents.now) _ _ (refused_in_first
    (children_in files c.args.contents.now) _ _ c.in_err-survey-2.ensures.refused)))

pub returns-in_err-survey-3-clause-refused : goal.returns-in_err-survey-3-clause-refused
returns-in_err-survey-3-clause-refused c =
    let files = views c.args.files.now in
    let p = err_from_is_err_and c.from_residual-in_err-survey-3.result c.from_residual-in_err-survey-3.ensures.1 in
    rw (p.1, p.2) (refused_in_turn files c.args.contents.now c.args.deletes.now _
    (refused_in_rest (parents_in files c.args.contents.now) _ _ (refused_in_rest
    (children_in files c.args.contents.now) _ _ c.in_err-survey-3.ensures.refused)))

pub returns-in_err-verdict-clause-refused : goal.returns-in_err-verdict-clause-refused
returns-in_err-verdict-clause-refused c =
    let files = views c.args.files.now in
    let first = rw c.new.ensures at c.in_ok-survey.ensures.read in
    let judged = judged_in_turn files c.args.contents.now
    c.args.deletes.now first c.in_ok-survey-2.ensures.read c.in_ok-survey-3.ensures.read in
    let p = err_from_is_err_and c.from_residual-in_err-verdict.result c.from_residual-in_err-verdict.ensures.1 in
    rw (p.1, p.2) (λ n number. judged ∙ c.in_err-verdict.ensures.refused n number)

pub returns-clause-passed : goal.returns-clause-passed
returns-clause-passed c =
    let files = views c.args.files.now in
    let first = rw c.new.ensures at c.in_ok-survey.ensures.read in
    judged_in_turn files c.args.contents.now c.args.deletes.now first
    c.in_ok-survey-2.ensures.read c.in_ok-survey-3.ensures.read ∙ c.in_ok-verdict.ensures.right

pub returns-clause-parents : goal.returns-clause-parents
returns-clause-parents c =
    let right = right_verdict c.in_ok-survey-3.survey c.in_ok-verdict.ensures.right in
    read_alone c.in_ok-survey.ensures.read c.new-parents.ensures.items
    (was_right c.in_ok-survey-2.ensures.read (was_right c.in_ok-survey-3.ensures.read right))

pub returns-clause-children : goal.returns-clause-children
returns-clause-children c =
    let right = right_verdict c.in_ok-survey-3.survey c.in_ok-verdict.ensures.right in
    read_alone c.in_ok-survey-2.ensures.read
    c.new-children.ensures.items (was_right c.in_ok-survey-3.ensures.read right)
