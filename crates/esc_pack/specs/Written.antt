-- A release manifest as a text (this project's profile).
use Rattle.std.specs.Prelude.{◌≡◌, ℕ, List, [], ◌∷◌, ◌++◌, map}
use Rattle.std.specs.Prelude.{◌==◌, if◌then◌else◌, Some, unwrap_or, codes}
use Rattle.std.specs.Fmt.{decimal}
use Rattle.hex.specs.Hex.{encode_lower}
use Rattle.esc_csv.specs.Lines.{Line, line_text, text_of}
use Rattle.esc_envelope.specs.Members.{type_name}
use Rattle.esc_envelope.specs.Watermark.{printed}
use Rattle.esc_manifest.specs.Fields.{moment_of, digest_of}
use Rattle.esc_manifest.specs.declared.row.MRow.{MRow}

-- the names of the six fields
abbrev pub manifest_heading : Line
manifest_heading =
    codes "id" ∷ codes "type" ∷ codes "watermark" ∷ codes "prevId"
    ∷ codes "resend" ∷ codes "sha256" ∷ []

-- nothing for 0, else the digits
abbrev pub resend_field : ℕ → List ℕ
resend_field n = if n == 0 then [] else decimal n

-- the six fields of a row
abbrev pub manifest_line : MRow → Line
manifest_line r =
    r.header.id ∷ type_name r.header.place.kind ∷ printed r.header.place.watermark
    ∷ unwrap_or r.header.prev [] ∷ resend_field r.header.resend ∷ encode_lower r.digest ∷ []

abbrev pub rows_text : List MRow → List ℕ
rows_text m = text_of (map manifest_line m)

-- the heading, and a line for each row
abbrev pub manifest_text : List MRow → List ℕ
manifest_text m = line_text manifest_heading ++ rows_text m

-- watermark and digest of a row are read from the fields that they are written in
pub record IsLegible (r : MRow) : Type 0 where
  pub moment : moment_of (printed r.header.place.watermark) ≡ Some r.header.place.watermark
  pub digest : digest_of (encode_lower r.digest) ≡ Some r.digest
