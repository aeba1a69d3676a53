use Rattle.std.proofs.Common.{◌≡◌, rules}
use Rattle.std.specs.Ordering.{is_lt}
use Rattle.std.specs.Cmp.{IsTotalOrder}
use Rattle.std.proofs.lemmas.Cmp.{then_total, on_total, nat_cmp_total, int_cmp_total}
use Rattle.std.proofs.lemmas.Fn.{always_returns_same}
use Rattle.std.proofs.lemmas.List.Sorted.{ranks_by}
use Rattle.esc_envelope.specs.Place.{rank}
use Rattle.esc_pack.specs.Release.{row_cmp, comes_before}
use Rattle.esc_pack.proofs.release.in_order.Goals as goal

rows_total : IsTotalOrder row_cmp
rows_total =
    then_total
    (on_total (λ r. r.header.place.watermark) int_cmp_total)
    (then_total (on_total (λ r. rank r.header.place.kind) nat_cmp_total)
    (on_total (λ r. r.header.resend) nat_cmp_total))

pub returns-clause-rising : goal.returns-clause-rising
returns-clause-rising c =
    c.in_ok-sort_by.ensures.sorted comes_before (ranks_by rows_total (λ r. r))
    (always_returns_same _ (λ a r. is_lt r ≡ comes_before a.0.now a.1.0.now) _ (λ a r f' k. search rules))
