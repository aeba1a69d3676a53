use Rattle.std.proofs.Common.{refl, subst, arith}
use Rattle.esc_envelope.specs.declared.place.Place.{Place}
use Rattle.esc_chain.specs.Chain.{IsBy}
use Rattle.esc_chain.specs.AtEnd.{IsUpToRow}
use Rattle.esc_chain.proofs.AtEnd.{at_each, each_at}
use Rattle.esc_chain.proofs.at_end.comes_last.Goals as goal

pub returns : goal.returns
returns c =
    let up = IsUpToRow c.args.listed.now c.args.row in
    let past = c.if-row-listed.false in
    let by = subst (λ (p : Place). IsBy c.args.moment p.watermark)
    c.place_of_row.ensures (c.if-not-is_by.ensures.0 refl) in (
      λ all. record {
        listed = omega arith;
        by = by;
        last = at_each up c.args.rows.now (c.are_up_to_row.ensures.0 all);
      },
      λ last. c.are_up_to_row.ensures.1 (each_at up c.args.rows.now last.last),
    )
