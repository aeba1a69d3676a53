use Rattle.std.proofs.Common.{◌∙◌, ◌++◌, ◌∷◌, [], List, take, sym, ap}
use Rattle.std.proofs.lemmas.List.{take_all, take_more}
use Rattle.esc_tables.specs.ObjectValue.{RowValue}
use Rattle.esc_tables.proofs.object.copy_rows.Goals as goal

pub loop-row-preserved : goal.loop-row-preserved
loop-row-preserved c =
    c.in_ok-push.ensures.items
    ∙ ap (λ (rows : List RowValue). rows ++ (c.in_ok-copy.field-0 ∷ [])) c.loop-row.invariant
    ∙ ap (λ (row : RowValue). take c.loop-row.row-index c.args.rows.now ++ (row ∷ []))
    (c.in_ok-copy.ensures ∙ c.row-item.is)
    ∙ sym (take_more c.args.rows.now c.loop-row.row-index c.row-item.result c.loop-row-test.true)

pub returns : goal.returns
returns c = c.loop-row.invariant ∙ take_all c.loop-row.row-index c.args.rows.now c.loop-row-test.false
