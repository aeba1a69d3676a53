use Rattle.std.proofs.Common.{◌≡◌, Some, sym, ap, subst, ◌∙◌}
use Rattle.std.proofs.lemmas.List.{get_or_default}
use Rattle.esc_tables.specs.Reading.{reading}
use Rattle.esc_manifest.specs.declared.row.MRow.{MRow}
use Rattle.esc_manifest.specs.ManifestRows.{row_at, no_row}
use Rattle.esc_desk.specs.Judging.{IsJudgement, judgement_of}
use Rattle.esc_desk.proofs.JudgedRows.{readable}
use Rattle.esc_desk.proofs.judging.judge.Goals as goal

pub returns-in-Ok-clause-judged : goal.returns-in-Ok-clause-judged
returns-in-Ok-clause-judged g c = λ clean k stood.
    let rows = c.args.rows.now in
    let row = get_or_default rows c.args.row c.index-rows-row.result no_row c.requires in
    let found = c.in_ok-body.ensures.found clean k stood in
    let there : k.parked (row_at rows c.args.row).digest ≡ Some c.in-Some.body.items =
    ap (λ (r : MRow). k.parked r.digest) (sym row) ∙ sym (rw c.in-Some.is at found) in
    let reads = ap reading (sym c.deref.ensures.value) ∙ c.in-Ok.ensures.read in
    subst (IsJudgement rows k.parked c.args.row)
    (sym (c.judgement_of.ensures ∙ ap judgement_of c.compare.ensures.compared))
    (readable rows k.parked c.args.row c.in-Some.body.items c.in-Ok.deposit there reads)
