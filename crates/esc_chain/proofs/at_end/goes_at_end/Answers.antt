use Rattle.std.proofs.Common.{List, refl, subst}
use Rattle.esc_manifest.specs.declared.row.MRow.{MRow}
use Rattle.esc_chain.specs.Base.{IsBase}
use Rattle.esc_chain.specs.AtEnd.{ComesLast}
use Rattle.esc_chain.proofs.AtEnd.{last_in_range, lengthens, only_base}
use Rattle.esc_chain.proofs.at_end.goes_at_end.Goals as goal

pub returns-clause-exact : goal.returns-clause-exact
returns-clause-exact c =
    let m = c.args.manifest.now in
    let r = c.args.row in
    let last = subst (λ (n : List MRow). ComesLast n c.args.rows.now c.args.moment r)
    c.rows-listed.ensures.rows (c.if-not-comes_last.ensures.0 refl) in (
      λ same. (last, subst (IsBase m r) (c.is_at.ensures.0 same) c.base_of.ensures),
      λ goes. c.is_at.ensures.1 (only_base
          m c.rows-listed.ensures.accepted r c.base_of.result c.args.end c.base_of.ensures goes.1),
    )

pub returns-clause-latest : goal.returns-clause-latest
returns-clause-latest c = λ same. lengthens c.args.manifest.now
    c.args.rows.now c.args.moment c.args.end c.args.row ((returns-clause-exact c).0 same)

pub returns-clause-in_range : goal.returns-clause-in_range
returns-clause-in_range c = λ same. last_in_range
    c.args.manifest.now c.args.rows.now c.args.moment c.args.row ((returns-clause-exact c).0 same).0
