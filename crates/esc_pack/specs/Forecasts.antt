-- What `take` would find of the files of a folder, by the desk's own tests of a body (this project's
-- profile).
use Rattle.std.specs.Prelude.{ℕ, Bool, false, ◌&&◌, ◌==◌, not, if◌then◌else◌, List, [], ◌∷◌}
use Rattle.std.specs.Prelude.{Option}
use Rattle.std.specs.Prelude.{Some, None, Result, Ok, Err}
use Rattle.std.specs.Ordering.{int_eq}
use Rattle.std.specs.Str.{bytes_eq}
use Rattle.sha2.specs.Sha256.{sha256}
use Rattle.esc_bundle.specs.declared.refusal.Refusal.{Refusal}
use Rattle.esc_envelope.specs.HeaderValue.{HeaderValue}
use Rattle.esc_envelope.specs.Place.{rank}
use Rattle.esc_tables.specs.DepositValue.{DepositValue}
use Rattle.esc_tables.specs.Reading.{reading}
use Rattle.esc_manifest.specs.declared.row.MRow.{MRow}
use Rattle.esc_manifest.specs.Extension.{same_prev}
use Rattle.esc_manifest.specs.Listed.{as_listed, row_with_digest}
use Rattle.esc_manifest.specs.ManifestRows.{row_at}
use Rattle.esc_manifest.specs.RowFaults.{is_diff}
use Rattle.esc_pack.specs.declared.forecast.Forecast.{Forecast}
use Rattle.esc_pack.specs.declared.forecast.Forecast.TheVariants.{Unlisted, Unreadable, Differing}
use Rattle.esc_pack.specs.declared.forecast.Forecast.TheVariants.{Holding}
use Rattle.esc_pack.specs.declared.member.Member.{Member}
use Rattle.esc_pack.specs.declared.member.Member.TheVariants.{Id, Kind, Watermark, Resend, PrevId}

-- what a deposit says of itself, or the refusal of a body that is none
abbrev pub said : Result DepositValue Refusal → Result HeaderValue Refusal
said (Ok d) = Ok d.header
said (Err why) = Err why

-- what is found at row r of a deposit with this header, or of the refusal of a body that is none
abbrev pub row_forecast : List MRow → ℕ → Result HeaderValue Refusal → Forecast
row_forecast m r (Ok h) = if as_listed (row_at m r).header h then Holding r else Differing r h
row_forecast m r (Err why) = Unreadable r why

-- the same where a row has the body's SHA-256, or none has
abbrev pub forecast_at : List MRow → Option ℕ → Result HeaderValue Refusal → Forecast
forecast_at m None h = Unlisted h
forecast_at m (Some r) h = row_forecast m r h

-- what is found of a body: the first row with its SHA-256, if any, and how what it says of itself
-- compares with that
abbrev pub forecast : List MRow → List ℕ → Forecast
forecast m body = forecast_at m (row_with_digest m (sha256 body)) (said (reading body))

-- whether there is a row, and it is row r
abbrev pub is_at_row : ℕ → Option ℕ → Bool
is_at_row r None = false
is_at_row r (Some q) = q == r

-- the row that lists the body, if any
abbrev pub forecast_listed_row : Forecast → Option ℕ
forecast_listed_row (Unlisted h) = None
forecast_listed_row (Unreadable r why) = Some r
forecast_listed_row (Differing r h) = Some r
forecast_listed_row (Holding r) = Some r

-- the row whose deposit the body is, if any
abbrev pub forecast_held_row : Forecast → Option ℕ
forecast_held_row (Unlisted h) = None
forecast_held_row (Unreadable r why) = None
forecast_held_row (Differing r h) = None
forecast_held_row (Holding r) = Some r

-- what a header and a row can differ in
unfoldable pub members : List Member
members = Id ∷ Kind ∷ Watermark ∷ Resend ∷ PrevId ∷ []

-- whether a deposit says something else than its row; the previous id counts where the row is that
-- of a Differential
abbrev pub differs : HeaderValue → HeaderValue → Member → Bool
differs row d Id = not (bytes_eq row.id d.id)
differs row d Kind = not (rank row.place.kind == rank d.place.kind)
differs row d Watermark = not (int_eq row.place.watermark d.place.watermark)
differs row d Resend = not (row.resend == d.resend)
differs row d PrevId = is_diff row.place.kind && not (same_prev row.prev d.prev)
