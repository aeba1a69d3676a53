use Rattle.std.proofs.Common.{List, ◌++◌, sym, ap, ◌∙◌, append-nil}
use Rattle.std.proofs.lemmas.List.{drop_all}
use Rattle.esc_reports.specs.ParkedText.{parked_lines}
use Rattle.esc_check.specs.WritingLaws.{front_added}
use Rattle.esc_reports.proofs.Pieces.{bodies_more}
use Rattle.esc_reports.proofs.parked.write_bodies.Goals as goal

pub loop-body-preserved : goal.loop-body-preserved
loop-body-preserved c =
    front_added _ _ _ _ _ _ (bodies_more c.args.bodies.now
    c.loop-body.body-index _ c.loop-body-test.true) c.loop-body.invariant c.in_ok-write_body.ensures

pub returns : goal.returns
returns c =
    sym (append-nil _) ∙ ap (λ (bodies : List _). c.loop-body.lines ++ parked_lines bodies)
    (sym (drop_all _ _ c.loop-body-test.false)) ∙ c.loop-body.invariant
