use Rattle.std.proofs.Common.{◌≡◌, ℕ, ◌+◌, List, ◌++◌, take, drop, sym, ap, ◌∙◌, append-nil}
use Rattle.std.specs.Prelude.{count_by}
use Rattle.std.proofs.lemmas.List.{drop_all}
use Rattle.esc_tables.specs.ObjectValue.{RowValue}
use Rattle.esc_csv.specs.Lines.{text_of}
use Rattle.esc_check.specs.Export.{row_lines, is_of_table, number_behind, child_lines}
use Rattle.esc_check.specs.WritingLaws.{front_added}
use Rattle.esc_check.proofs.Writing.{children_more, children_end, counted, numbered}
use Rattle.esc_check.proofs.export.write_children.Goals as goal

pub loop-index-preserved : goal.loop-index-preserved
loop-index-preserved c =
    let k = c.args.key.now in
    let rows = c.args.children.now in
    let i = c.loop-index.index in
    let x = c.index-children-index.result in
    let n = c.number_behind-number.result in
    let within = c.loop-index-test.true in
    let is = c.index-children-index.is in
    let one_more : n ≡ count_by (is_of_table x.table) (take i rows) + 1 =
    c.number_behind-number.ensures
    ∙ ap (λ (table : List ℕ). count_by (is_of_table table) (take i rows) + 1) c.table.ensures in
    let number : n ≡ number_behind (take i rows) x = one_more ∙ numbered rows i x within is in
    let parts =
    children_more k rows i x within is
    ∙ ap (λ (m : ℕ). text_of (row_lines k m x)
    ++ text_of (child_lines k (take (i + 1) rows) (drop (i + 1) rows))) (sym number) in (
      front_added _ _ _ _ _ _ parts c.loop-index.invariant.0 c.in_ok-write_row.ensures,
      one_more ∙ sym (counted rows i x within is) ∙ ap (λ (table : List ℕ). count_by (is_of_table table)
          (take (i + 1) rows)) (sym c.table-table.ensures),
      c.table-table.utf8,
    )

pub returns : goal.returns
returns c =
    let rows = c.args.children.now in
    let i = c.loop-index.index in
    sym (append-nil _)
    ∙ ap (λ (l : List _). c.loop-index.lines ++ text_of l) (sym (children_end c.args.key.now (take i rows)))
    ∙ ap (λ (l : List RowValue). c.loop-index.lines ++ text_of
    (child_lines c.args.key.now (take i rows) l)) (sym (drop_all _ _ c.loop-index-test.false))
    ∙ c.loop-index.invariant.0
