use Rattle.std.proofs.Common.{◌≡◌, ℕ, List, Ok, sym, ap, subst, ◌∙◌, ◌≤◌, length, None, arith}
use Rattle.esc_manifest.specs.declared.row.MRow.{MRow}
use Rattle.esc_manifest.specs.Manifest.{manifest_of, most_bytes}
use Rattle.esc_manifest.specs.RowFaults.{rows_fault}
use Rattle.esc_pack.specs.Release.{IsOrdered}
use Rattle.esc_pack.specs.Written.{manifest_text}
use Rattle.esc_pack.specs.Listing.{IsManifestOf}
use Rattle.esc_pack.proofs.ReadBack.{manifest_read}
use Rattle.esc_pack.proofs.release.Release.manifest.Goals as goal

-- the text of accepted rows is their manifest
listed : {rows m ordered : List MRow} {text : List ℕ} → IsOrdered rows ordered → m ≡ ordered
    → text ≡ manifest_text m → manifest_of (manifest_text m) ≡ Ok m → IsManifestOf rows text
listed {rows} {m} order same is read =
    record {
      m = m;
      ordered = subst (λ (rs : List MRow). IsOrdered rows rs) (sym same) order;
      written = is;
      read = ap manifest_of is ∙ read;
    }

pub returns-clause-listed : goal.returns-clause-listed
returns-clause-listed c =
    let m = c.in_ok-manifest.manifest in
    let text = c.in_ok-text.ensures.text in
    let same : m ≡ c.in_ok-rows-2.rows.items = c.in_ok-manifest.ensures.accepted.0 in
    let free : rows_fault m ≡ None = ap rows_fault same ∙ c.in_ok-manifest.ensures.accepted.1 in
    let order : IsOrdered c.in_ok-rows.rows.items c.in_ok-rows-2.rows.items =
    record { same = c.in_ok-rows-2.ensures.same; rising = c.in_ok-rows-2.ensures.rising } in
    let order : IsOrdered c.args.self.now c.in_ok-rows-2.rows.items =
    subst (λ (rs : List MRow). IsOrdered rs c.in_ok-rows-2.rows.items)
    (c.in_ok-rows.ensures ∙ c.as_slice.ensures.value ∙ c.self.view_is) order in
    let fits : length (manifest_text m) ≤ most_bytes =
    rw (sym (ap length text))
    (omega (arith, c.len.ensures, c.in_ok-text.text.ok, c.if-len-gt-MOST_MANIFEST_BYTES.false)) in
    let law = c.written_lines_read_back.ensures in
    listed order same text (manifest_read law m c.in_ok-text.ensures.accepted c.in_ok-text.ensures.legible free fits)
