use Rattle.std.proofs.Common.{◌≡◌, ◌<◌, ℕ, take, false}
use Rattle.esc_manifest.specs.Extension.{is_blamed}
use Rattle.esc_manifest.specs.ManifestRows.{row_at}
use Rattle.esc_manifest.proofs.rows.first_against_earlier.Given as goal

-- no row so far contradicts an earlier one
abbrev pub invariant-loop-i : goal.invariant-loop-i
invariant-loop-i l = (k : ℕ) → k < l.i → is_blamed l.refusal (take k l.rows) (row_at l.rows k) ≡ false
