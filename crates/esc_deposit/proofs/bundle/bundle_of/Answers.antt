use Rattle.std.proofs.Common.{◌≡◌, ℕ, ℤ, List, [], Ok, IfOk, ap, subst, ◌∙◌, to_z-of_z, w64}
use Rattle.esc_envelope.specs.declared.kind.Kind.{Kind}
use Rattle.esc_tables.specs.DepositValue.{DepositValue}
use Rattle.esc_tables.specs.Reading.{reading}
use Rattle.esc_deposit.specs.RegistrySeries.{part_with}
use Rattle.esc_deposit.proofs.SeriesOfRuns.{one_part}
use Rattle.esc_deposit.proofs.bundle.bundle_of.Goals as goal

pub returns : goal.returns
returns c = record {
  bundled = subst (λ (d : DepositValue). IfOk c.part_bundle.result (λ body. reading body.items ≡ Ok d))
      (ap (λ (m : ℤ). part_with c.args.id.now m 1 0 c.in-Some.counts c.args.objects.now)
      (to_z-of_z {w = w64} c.ranges.watermark)
      ∙ ap (λ (counts : List (Kind × ℕ)). part_with c.args.id.now c.args.watermark 1 0 counts c.args.objects.now)
      (c.in-Some.ensures [] c.no_counts.ensures)
      ∙ one_part c.args.id.now c.args.watermark c.args.objects.now)
      c.part_bundle.ensures;
}
