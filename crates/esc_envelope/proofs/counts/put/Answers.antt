use Rattle.std.proofs.Common.{◌∙◌, sym, ap, ℕ, Option, ◌++◌}
use Rattle.esc_envelope.specs.Members.{count_entry}
use Rattle.esc_envelope.proofs.KindOrder.{insert_last}
use Rattle.esc_envelope.proofs.counts.put.Goals as goal

pub returns-in_ok-insert : goal.returns-in_ok-insert
returns-in_ok-insert c =
    c.in_ok-insert.ensures.entries ∙ insert_last c.args.counts.now.entries c.args.kind c.in-Some.count c.requires
    ∙ ap (λ (count : Option ℕ). c.args.counts.now.entries ++ count_entry c.args.kind count) (sym c.in-Some.is)
