use Rattle.std.proofs.Common.{◌≡◌, ◌∙◌, ◌++◌, ℕ, List, ap, subst}
use Rattle.esc_csv.specs.Lines.{text_of}
use Rattle.esc_csv.specs.Records.{IsUnmarked}
use Rattle.esc_pack.specs.GivenRows.{given_rows}
use Rattle.esc_pack.proofs.SectionFacts.{fields_back}
use Rattle.esc_pack.proofs.table_text.table_text.Goals as goal

pub returns-clause-read : goal.returns-clause-read
returns-clause-read c =
    let rows = given_rows c.args.given.now in
    let text : c.in_ok-text.text.items ≡ text_of rows =
    c.in_ok-text.ensures ∙ c.in_ok-write_files.ensures.written
    ∙ ap (λ (l : List ℕ). l ++ text_of rows) c.new-lines.ensures in
    let plain : IsUnmarked c.in_ok-text.text.items =
    subst IsUnmarked c.deref.ensures.value (c.is_marked.ensures.none c.if-is_marked.false) in
    c.written_lines_read_back.ensures rows (subst IsUnmarked text plain)
    ∙ fields_back _ rows c.in_ok-write_files.ensures.whole
