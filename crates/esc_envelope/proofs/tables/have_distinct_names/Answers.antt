use Rattle.std.proofs.Common.{◌≡◌, ◌∙◌, ap, sym, get_or}
use Rattle.std.proofs.lemmas.Bool.{not-true, not-false}
use Rattle.esc_envelope.specs.EnvelopeValue.{TableValue}
use Rattle.esc_envelope.proofs.Distinct.{none_seen, one_seen, seen_twice}
use Rattle.esc_envelope.proofs.tables.have_distinct_names.Goals as goal

pub loop-table-init : goal.loop-table-init
loop-table-init c = none_seen _ c.args.tables.now c.new-names.result c.new-names.ensures.empty

pub returns-then-not-branch : goal.returns-then-not-branch
returns-then-not-branch c =
    let name : c.as_str.result.now ≡ (get_or c.args.tables.now c.loop-table.table-index c.table-item.result).name =
    c.as_str.ensures.value ∙ ap (λ (t : TableValue). t.name) (c.table.view_is ∙ c.table-item.is) in
    sym (seen_twice (λ (t : TableValue). t.name) c.args.tables.now c.loop-table.table-index
    c.table-item.result c.as_str.result c.loop-table.names c.loop-table-test.true name
    (not-false _ (sym c.in_ok-insert.ensures.added ∙ c.if-not-branch.true)) c.loop-table.invariant)

pub loop-table-preserved : goal.loop-table-preserved
loop-table-preserved c =
    let name : c.as_str.result.now ≡ (get_or c.args.tables.now c.loop-table.table-index c.table-item.result).name =
    c.as_str.ensures.value ∙ ap (λ (t : TableValue). t.name) (c.table.view_is ∙ c.table-item.is) in
    one_seen (λ (t : TableValue). t.name) c.args.tables.now c.loop-table.table-index c.table-item.result
    c.as_str.result c.loop-table.names c.insert.new.self c.loop-table-test.true name
    (not-true _ (sym c.in_ok-insert.ensures.added ∙ c.if-not-branch.false))
    c.in_ok-insert.ensures.updates c.loop-table.invariant
