-- The report of gaps by what a store stands for.
use Rattle.std.proofs.Common.{◌≡◌, ℕ, ℤ, List, Option, subst}
use Rattle.esc_manifest.specs.declared.row.MRow.{MRow}
use Rattle.esc_reports.specs.GapsText.{IsGapsReport}

-- the report by equal manifests, rows and moments is the same
pub gaps_of : {m n : List MRow} {rows held : List ℕ} {t u : Option ℤ} {text : List ℕ}
    → m ≡ n → rows ≡ held → t ≡ u → IsGapsReport m rows t text → IsGapsReport n held u text
gaps_of {m} {n} {rows} {held} {t} {u} {text} manifest is moment report =
    subst (λ (t : Option ℤ). IsGapsReport n held t text) moment
    (subst (λ (rows : List ℕ). IsGapsReport n rows t text) is
    (subst (λ (m : List MRow). IsGapsReport m rows t text) manifest report))
