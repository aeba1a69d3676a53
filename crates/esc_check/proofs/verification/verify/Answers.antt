use Rattle.std.proofs.Common.{◌≡◌, ◌∙◌, ap, w64, to_z, of_z}
use Rattle.std.proofs.lemmas.Int.{to_z-of_z}
use Rattle.esc_envelope.specs.Watermark.{printed}
use Rattle.esc_check.proofs.FindingLaws.{verified}
use Rattle.esc_check.proofs.ListingLaws.{in_order}
use Rattle.esc_check.proofs.verification.verify.Goals as goal

pub returns-clause-each : goal.returns-clause-each
returns-clause-each c =
    let back : to_z w64 (of_z w64 c.args.watermark) ≡ c.args.watermark =
    to_z-of_z w64 c.args.watermark c.ranges.watermark in
    let limit = c.in_ok-limit.ensures in
    let objects = c.in_ok-check_objects.ensures in
    verified _ c.args.watermark _ _ _ _ _ _ _ objects.ordered (limit.moment ∙ back)
    (limit.text ∙ ap printed back)
    c.new-found.ensures.items objects.added c.in_ok-check_counts.ensures c.settle.ensures.same

pub returns-clause-ordered : goal.returns-clause-ordered
returns-clause-ordered c =
    in_order c.args.tables.now.entries c.args.watermark c.args.counts.now.entries c.settle.result.items
    c.in_ok-check_objects.ensures.ordered (returns-clause-each c) c.settle.ensures.ordered
