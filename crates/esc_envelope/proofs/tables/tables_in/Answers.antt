use Rattle.std.proofs.Common.{◌∙◌, ap, sym}
use Rattle.serde_json.specs.View.{view}
use Rattle.esc_envelope.specs.DeclaredTables.{table_of}
use Rattle.esc_envelope.specs.GatherLaws.{next, fails, ended}
use Rattle.esc_envelope.proofs.tables.tables_in.Goals as goal

pub returns-in_default : goal.returns-in_default
returns-in_default c =
    fails table_of view c.args.values.now
    c.loop-value.value-index c.value-item.result c.loop-value.tables.items c.loop-value-test.true
    (ap (λ v. table_of (view v)) (sym c.value-item.is) ∙ sym c.in_ok-table.ensures ∙ c.in_default.is)
    c.loop-value.invariant

pub loop-value-preserved : goal.loop-value-preserved
loop-value-preserved c =
    next table_of view c.args.values.now c.loop-value.value-index
    c.value-item.result c.in-Some.table c.loop-value.tables.items _ c.loop-value-test.true
    (ap (λ v. table_of (view v)) (sym c.value-item.is) ∙ sym c.in_ok-table.ensures ∙ c.in-Some.is)
    c.in_ok-push.ensures.items c.loop-value.invariant

pub returns : goal.returns
returns c = ended table_of view c.args.values.now
    c.loop-value.value-index c.loop-value.tables.items c.loop-value-test.false c.loop-value.invariant
