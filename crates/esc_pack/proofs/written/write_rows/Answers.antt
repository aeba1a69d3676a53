use Rattle.std.proofs.Common.{◌≡◌, ℕ, ◌+◌, ◌<◌, List, ◌∷◌, ◌++◌, length, get_or, drop, All}
use Rattle.std.proofs.Common.{sym, ap, subst, ◌∙◌, append_assoc, append-nil}
use Rattle.std.proofs.lemmas.List.{drop_more, drop_all, take_all, get_or_default}
use Rattle.esc_csv.specs.Lines.{line_text}
use Rattle.esc_envelope.specs.Watermark.{IsInYears}
use Rattle.esc_manifest.specs.declared.row.MRow.{MRow}
use Rattle.esc_manifest.specs.ManifestRows.{no_row}
use Rattle.esc_pack.specs.Written.{manifest_line, rows_text, IsLegible}
use Rattle.esc_pack.proofs.SectionFacts.{taken, All_next}
use Rattle.esc_pack.proofs.written.write_rows.Goals as goal

-- the line of the first row that is left has been written
one_more : (old : List ℕ) {new whole : List ℕ} (rows : List MRow) {i : ℕ} {row : MRow}
    → i < length rows → row ≡ get_or rows i row
    → new ≡ old ++ line_text (manifest_line row) → old ++ rows_text (drop i rows) ≡ whole
    → new ++ rows_text (drop (i + 1) rows) ≡ whole
one_more old rows {i} {row} lt is wrote known =
    let later = drop (i + 1) rows in
    let left : drop i rows ≡ row ∷ later = drop_more rows i row lt ∙ ap (λ (r : MRow). r ∷ later) (sym is) in
    ap (λ (text : List ℕ). text ++ rows_text later) wrote
    ∙ append_assoc old (line_text (manifest_line row)) (rows_text later)
    ∙ ap (λ (rs : List MRow). old ++ rows_text rs) (sym left) ∙ known

pub write_row-requires : goal.write_row-requires
write_row-requires c =
    let at = c.loop-row.row-index in
    let row = get_or_default c.args.rows.now at no_row c.row-item.result c.loop-row-test.true ∙ sym c.row-item.is in
    subst (λ (r : MRow). IsInYears r.header.place.watermark) row (c.requires.watermarks at c.loop-row-test.true)

pub loop-row-preserved : goal.loop-row-preserved
loop-row-preserved c =
    let next = taken c.args.rows.now c.row-item.result c.loop-row-test.true c.row-item.is in
    record {
      written = one_more _ c.args.rows.now c.loop-row-test.true
          c.row-item.is c.in_ok-write_row.ensures.written c.loop-row.invariant.written;
      legible = All_next IsLegible _ next c.loop-row.invariant.legible c.in_ok-write_row.ensures.legible;
    }

pub returns-clause-written : goal.returns-clause-written
returns-clause-written c =
    let none_left = drop_all _ _ c.loop-row-test.false in
    sym (append-nil _) ∙ ap (λ (rows : List MRow). c.loop-row.lines ++ rows_text rows) (sym none_left)
    ∙ c.loop-row.invariant.written

pub returns-clause-legible : goal.returns-clause-legible
returns-clause-legible c =
    let all = take_all c.loop-row.row-index c.args.rows.now c.loop-row-test.false in
    subst (λ (rs : List MRow). All IsLegible rs) all c.loop-row.invariant.legible
