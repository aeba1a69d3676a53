use Rattle.std.proofs.Common.{◌≡◌, ◌∙◌, ◌++◌, ◌∷◌, ℕ, List, drop, refl, sym, ap, rules}
use Rattle.std.specs.List.{list_all}
use Rattle.std.proofs.lemmas.List.{append_assoc}
use Rattle.esc_csv.specs.Lines.{Line, line_text, text_of}
use Rattle.esc_pack.specs.GivenRows.{has_width}
use Rattle.esc_pack.proofs.Refusals.{drop_next, wide}
use Rattle.esc_pack.proofs.table_text.write_rows.Goals as goal

pub loop-record-preserved : goal.loop-record-preserved
loop-record-preserved c =
    let before = c.loop-record.invariant in
    let fields = c.next.new.target in
    let rest = c.next.new.self in
    let next : c.loop-record.rows ≡ fields ∷ rest = rw c.if-branch.true at c.in_ok-next.ensures.next in
    let width = c.args.width in
    let lines = c.loop-record.lines in
    record {
      written =
          ap (λ (l : List ℕ). l ++ text_of rest) c.in_ok-write_record.ensures
          ∙ append_assoc lines (line_text fields) (text_of rest)
          ∙ ap (λ (rows : List Line). lines ++ text_of rows) (sym next) ∙ before.written;
      whole =
          (rw (wide width fields c.requires (search rules)) refl)
          ∙ ap (list_all (has_width width)) (sym next) ∙ before.whole;
      passed =
          ap (λ (n : ℕ). drop n c.args.rows.now) c.in-Some.ensures.1
          ∙ (drop_next c.args.rows.now c.loop-record.row (before.passed ∙ next)).1;
    }

pub returns-then-not-is_row-clause-refused : goal.returns-then-not-is_row-clause-refused
returns-then-not-is_row-clause-refused c =
    let fields = c.next.new.target in
    let rest = c.next.new.self in
    let next : c.loop-record.rows ≡ fields ∷ rest = rw c.if-branch.true at c.in_ok-next.ensures.next in
    let at = (drop_next c.args.rows.now c.loop-record.row (c.loop-record.invariant.passed ∙ next)).0 in (
      c.in-Some.number,
      refl,
      (
        c.loop-record.row,
        fields,
        c.in-Some.ensures.1,
        at,
        sym c.is_row.ensures ∙ c.if-not-is_row.true,
      ),
    )
