-- The rows of a release: what bundles say of themselves (RFC 8909, section 5.1), in order.
use Rattle.std.specs.Prelude.{◌≡◌, ℕ, List, [], ◌∷◌, ◌++◌, Bool, Result, Ok}
use Rattle.std.specs.List.Sorted.{IsPermutation, IsSortedBy}
use Rattle.std.specs.Ordering.{nat_cmp, int_cmp, on, then_cmp, is_lt}
use Rattle.std.specs.declared.cmp.Ordering.{Ordering}
use Rattle.sha2.specs.Sha256.{sha256}
use Rattle.esc_bundle.specs.declared.refusal.Refusal.{Refusal}
use Rattle.esc_bundle.specs.Tests.{◌>>=◌}
use Rattle.esc_envelope.specs.Place.{rank}
use Rattle.esc_manifest.specs.declared.row.MRow.{MRow}
use Rattle.esc_tables.specs.Reading.{reading}

-- the row of a body: what its deposit says of itself, and the SHA-256 of its bytes; or its fault
abbrev pub row_of_body : List ℕ → Result MRow Refusal
row_of_body body = reading body >>= λ d. Ok (record { header = d.header; digest = sha256 body })

-- the order of rows: by place, and at one place by resend
abbrev pub row_cmp : MRow → MRow → Ordering
row_cmp =
    then_cmp (on (λ r. r.header.place.watermark) int_cmp)
    (then_cmp (on (λ r. rank r.header.place.kind) nat_cmp) (on (λ r. r.header.resend) nat_cmp))

abbrev pub comes_before : MRow → MRow → Bool
comes_before a b = is_lt (row_cmp a b)

-- a body adds its row to these rows
abbrev pub AddsRow : List ℕ → List MRow → List MRow → Type 0
AddsRow body before after =
    (row : MRow) × (row_of_body body ≡ Ok row) × (after ≡ before ++ row ∷ [])

-- the same rows, in order
pub record IsOrdered (rows m : List MRow) : Type 0 where
  pub same : IsPermutation rows m
  pub rising : IsSortedBy comes_before m
