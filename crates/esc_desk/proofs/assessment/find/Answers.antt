use Rattle.std.proofs.Common.{◌≡◌, ap, ap₂, sym, ◌∙◌, Some, List}
use Rattle.esc_manifest.specs.declared.row.MRow.{MRow}
use Rattle.sha2.specs.Sha256.{sha256}
use Rattle.esc_events.specs.Assessment.{row_with_digest, found_at, compared}
use Rattle.esc_desk.proofs.assessment.find.Goals as goal

pub returns-in-Ok-clause-found : goal.returns-in-Ok-clause-found
returns-in-Ok-clause-found c =
    let m = c.args.manifest.now in
    let row : row_with_digest m (sha256 c.args.content.body.now) ≡ Some c.in-Some.row =
    ap (row_with_digest m) (sym c.args.content.is_digest) ∙ sym c.in-Some.ensures in
    c.compare.ensures.compared ∙ ap (λ (m : List MRow). compared m c.in-Some.row c.in-Ok.deposit)
    c.rows.ensures.rows ∙ sym (ap₂ (found_at m) row c.in-Ok.ensures.read)
