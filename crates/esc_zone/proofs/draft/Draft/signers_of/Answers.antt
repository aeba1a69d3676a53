use Rattle.std.proofs.Common.{◌∙◌, ◌+◌, List, sym, subst, take}
use Rattle.esc_zone.specs.declared.signer.Ds.{Ds}
use Rattle.esc_zone.specs.Lists.{GivesEach}
use Rattle.esc_zone.specs.Signers.{IsSigner}
use Rattle.esc_zone.specs.Told.{told_lines, says_signer}
use Rattle.esc_zone.proofs.Listed.{gives_step}
use Rattle.esc_zone.proofs.Telling.{counted_step}
use Rattle.esc_zone.proofs.draft.Draft.signers_of.Goals as goal

pub loop-row-preserved : goal.loop-row-preserved
loop-row-preserved c =
    let R = IsSigner c.args.name.now in
    let rows = c.args.rows.now in
    record {
      state = c.in_ok-ds.ensures.noted ∙ c.loop-row.invariant.state;
      originals = c.in_ok-ds.ensures.originals ∙ c.loop-row.invariant.originals;
      records = c.in_ok-ds.ensures.records ∙ c.loop-row.invariant.records;
      given = subst (λ (given : List Ds). GivesEach R (take (c.loop-row.row-index + 1) rows) given)
          (sym c.in_ok-push_some.ensures)
          (gives_step R rows c.loop-row.row-index c.row-item.result c.loop-row.given.items c.in_ok-ds.ds
          c.loop-row-test.true c.row-item.is c.in_ok-ds.ensures.given c.loop-row.invariant.given);
      told = counted_step says_signer rows c.loop-row.row-index c.row-item.result
          (told_lines c.args.sheet.now) (told_lines c.loop-row.sheet) (told_lines c.signer_of.new.sheet)
          c.loop-row.given.items c.in_ok-ds.ds c.push_some.new.items.items c.loop-row-test.true
          c.row-item.is c.in_ok-push_some.ensures c.in_ok-ds.ensures.told c.loop-row.invariant.told;
    }
