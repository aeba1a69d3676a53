use Rattle.std.proofs.Common.{◌∙◌, ap, [], ◌∷◌, ◌+◌, Some, None, arith, sym, subst, take}
use Rattle.esc_zone.specs.declared.sheet.Sheet.{Sheet}
use Rattle.esc_zone.specs.Addresses.{said_texts}
use Rattle.esc_zone.specs.Told.{told_lines, TellsOfAddresses}
use Rattle.esc_zone.proofs.Telling.{told_row}
use Rattle.esc_zone.proofs.glue.tell_faults.Goals as goal
use Rattle.esc_zone.proofs.glue.tell_faults.Goals.{in-Ok+in_ok-tell_version-in-Ok}
use Rattle.esc_zone.proofs.glue.tell_faults.Goals.{in-Err+in_ok-tell_address-in-Err}

pub loop-row-preserved : goal.loop-row-preserved
loop-row-preserved c =
    let rows = c.args.rows.now in
    let i = c.loop-row.row-index in
    let row = c.row-item.result in
    let start = told_lines c.args.sheet.now in
    let before = told_lines c.loop-row.sheet in
    let texts = said_texts (take (i + 1) rows) in
    elim c.match-address.branch [
      | in-Ok+in_ok-tell_version-in-Ok w ↦
          let told = w.in_ok-tell_version-in-Ok.ensures.told in
          record {
            same = ap (λ (s : Sheet). s.records) w.sheet-is ∙ w.in_ok-tell_version-in-Ok.ensures.same
                ∙ c.loop-row.invariant.same;
            told = subst (λ (s : Sheet). TellsOfAddresses texts start (told_lines s)) (sym w.sheet-is)
                (told_row rows i row (Some w.in-Ok.address) start before (told_lines w.tell_version.new.sheet)
                c.loop-row-test.true c.row-item.is w.in-Ok.ensures (omega (arith, told))
                c.loop-row.invariant.told);
          }
      | in-Err+in_ok-tell_address-in-Err w ↦
          let told = w.in_ok-tell_address-in-Err.ensures.told in
          record {
            same = ap (λ (s : Sheet). s.records) w.sheet-is ∙ w.in_ok-tell_address-in-Err.ensures.same
                ∙ c.loop-row.invariant.same;
            told = subst (λ (s : Sheet). TellsOfAddresses texts start (told_lines s)) (sym w.sheet-is)
                (told_row rows i row None start before (told_lines w.tell_address.new.self)
                c.loop-row-test.true c.row-item.is w.in-Err.ensures (omega (arith, told))
                c.loop-row.invariant.told);
          }
    ]
