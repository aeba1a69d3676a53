-- Which row lists a body, and whether a deposit is the one that a row lists (this project's
-- profile; the comparison is with what RFC 8909 has a deposit say of itself).
use Rattle.std.specs.Prelude.{ℕ, Bool, ◌&&◌, ◌||◌, ◌==◌, not, List, position, Option}
use Rattle.std.specs.Str.{bytes_eq}
use Rattle.esc_envelope.specs.HeaderValue.{HeaderValue}
use Rattle.esc_manifest.specs.declared.row.MRow.{MRow}
use Rattle.esc_manifest.specs.Extension.{same_prev}
use Rattle.esc_manifest.specs.RowFaults.{is_diff, same_place}

-- id, place and resend are the row's, and of a Differential the previous id too
abbrev pub as_listed : HeaderValue → HeaderValue → Bool
as_listed row d = bytes_eq row.id d.id
    && (same_place row.place d.place
    && ((row.resend == d.resend)
    && (not (is_diff row.place.kind) || same_prev row.prev d.prev)))

-- the first row with this digest, if any
abbrev pub row_with_digest : List MRow → List ℕ → Option ℕ
row_with_digest m digest = position (λ row. bytes_eq row.digest digest) m
