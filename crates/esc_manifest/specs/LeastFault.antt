-- The least fault of rows, of a text and of an extension: which faults there are, and at which rows
-- (this project's profile).
use Rattle.std.specs.Prelude.{◌≡◌, ◌⊎◌, ◌<◌, ◌≤◌, ◌+◌, ℕ, suc, List, [], length, take}
use Rattle.std.specs.Prelude.{drop, map}
use Rattle.std.specs.Prelude.{Bool, true, false, ◌==◌, Some, slice_index_or, if◌then◌else◌}
use Rattle.std.specs.List.{list_any}
use Rattle.esc_manifest.specs.declared.refusal.ManifestRefusal.{ManifestRefusal}
use Rattle.esc_manifest.specs.declared.refusal.ManifestRefusal.TheVariants.{OverLimit, NotSixFields}
use Rattle.esc_manifest.specs.declared.refusal.ManifestRefusal.TheVariants.{WrongHeading, WrongId}
use Rattle.esc_manifest.specs.declared.refusal.ManifestRefusal.TheVariants.{WrongType}
use Rattle.esc_manifest.specs.declared.refusal.ManifestRefusal.TheVariants.{WrongWatermark}
use Rattle.esc_manifest.specs.declared.refusal.ManifestRefusal.TheVariants.{MissingPrev}
use Rattle.esc_manifest.specs.declared.refusal.ManifestRefusal.TheVariants.{WrongResend}
use Rattle.esc_manifest.specs.declared.refusal.ManifestRefusal.TheVariants.{WrongDigest}
use Rattle.esc_manifest.specs.declared.refusal.ManifestRefusal.TheVariants.{RepeatedRevision}
use Rattle.esc_manifest.specs.declared.refusal.ManifestRefusal.TheVariants.{MovedId, LatePrev}
use Rattle.esc_manifest.specs.declared.refusal.ManifestRefusal.TheVariants.{RepeatedDigest}
use Rattle.esc_manifest.specs.declared.row.MRow.{MRow}
use Rattle.esc_csv.specs.Records.{records_of}
use Rattle.esc_manifest.specs.Codes.{manifest_number}
use Rattle.esc_manifest.specs.Extension.{is_listed, extended}
use Rattle.esc_manifest.specs.Fields.{row_of}
use Rattle.esc_manifest.specs.Manifest.{most_bytes, has_other_length, lacks_heading, lacks_id}
use Rattle.esc_manifest.specs.Manifest.{lacks_type, lacks_watermark, is_diff_alone, lacks_resend}
use Rattle.esc_manifest.specs.Manifest.{lacks_digest}
use Rattle.esc_manifest.specs.RowFaults.{most_manifest_rows, has_bad_id, has_bad_watermark}
use Rattle.esc_manifest.specs.RowFaults.{lacks_prev, has_bad_resend, same_revision, moved_id}
use Rattle.esc_manifest.specs.RowFaults.{follows_later, same_digest}
use Rattle.esc_manifest.specs.ManifestRows.{row_at}

-- among faults, each a refusal with a row, this is the least: it occurs, none with a lesser number
-- occurs, and the same occurs at no lesser row
abbrev pub IsLeastOf : (ManifestRefusal → ℕ → Type 0) → ManifestRefusal → ℕ → Type 0
IsLeastOf stands refusal row =
    stands refusal row
    × ((other : ManifestRefusal) (s : ℕ) → stands other s
    → (manifest_number refusal < manifest_number other) ⊎ ((refusal ≡ other) × (row ≤ s)))

-- row r of m, counted from 0, has this fault: by itself, against an earlier row, or, for M12,
-- against any
abbrev pub has_fault : List MRow → ManifestRefusal → ℕ → Bool
has_fault m WrongId r = has_bad_id (row_at m r)
has_fault m WrongWatermark r = has_bad_watermark (row_at m r)
has_fault m MissingPrev r = lacks_prev (row_at m r)
has_fault m WrongResend r = has_bad_resend (row_at m r)
has_fault m RepeatedRevision r = list_any (λ q. same_revision q (row_at m r)) (take r m)
has_fault m MovedId r = list_any (λ q. moved_id q (row_at m r)) (take r m)
has_fault m LatePrev r = list_any (λ q. follows_later q (row_at m r)) m
has_fault m RepeatedDigest r = list_any (λ q. same_digest q (row_at m r)) (take r m)
has_fault m refusal r = false

-- rows have this fault: M1 of the whole, at row 0, or another one at a row counted from 1
abbrev pub IsManifestFault : List MRow → ManifestRefusal → ℕ → Type 0
IsManifestFault m refusal row =
    ((refusal ≡ OverLimit) × (row ≡ 0) × (most_manifest_rows < length m))
    ⊎ ((r : ℕ) × (r < length m) × (row ≡ suc r) × (has_fault m refusal r ≡ true))

-- the least fault of rows
abbrev pub IsLeastManifestFault : List MRow → ManifestRefusal → ℕ → Type 0
IsLeastManifestFault m = IsLeastOf (IsManifestFault m)

-- the records of a text below the heading
abbrev pub records_below : List ℕ → List (List (List ℕ))
records_below text = drop 1 (records_of text)

-- the record with an index
abbrev pub record_at : List (List (List ℕ)) → ℕ → List (List ℕ)
record_at rs r = slice_index_or rs r []

-- a record below the heading has this fault
abbrev pub is_faulty : List (List ℕ) → ManifestRefusal → Bool
is_faulty fields WrongId = lacks_id fields
is_faulty fields WrongType = lacks_type fields
is_faulty fields WrongWatermark = lacks_watermark fields
is_faulty fields MissingPrev = is_diff_alone fields
is_faulty fields WrongResend = lacks_resend fields
is_faulty fields WrongDigest = lacks_digest fields
is_faulty fields refusal = false

-- a text has this fault of its own: M1 of its length, M3 of its heading, or M2 of a record, where
-- the heading is row 0
abbrev pub IsFaultAbove : List ℕ → ManifestRefusal → ℕ → Type 0
IsFaultAbove text refusal row =
    ((refusal ≡ OverLimit) × (row ≡ 0)
    × ((most_bytes < length text) ⊎ (most_manifest_rows + 1 < length (records_of text))))
    ⊎ ((refusal ≡ NotSixFields) × (row < length (records_of text))
    × (has_other_length (record_at (records_of text) row) ≡ true))
    ⊎ ((refusal ≡ WrongHeading) × (row ≡ 0) × (lacks_heading (records_of text) ≡ true))

-- a text's bytes or records have this fault: one of those above, or one of a record below the
-- heading, counted from 1
abbrev pub IsFaultInText : List ℕ → ManifestRefusal → ℕ → Type 0
IsFaultInText text refusal row =
    IsFaultAbove text refusal row
    ⊎ ((r : ℕ) × (r < length (records_below text)) × (row ≡ suc r)
    × (is_faulty (record_at (records_below text) r) refusal ≡ true))

-- the least fault of a text: that of its bytes and records; or, if these have none, so that each
-- record below the heading writes a row, the least fault of these rows
abbrev pub IsLeastInText : List ℕ → ManifestRefusal → ℕ → Type 0
IsLeastInText text refusal row =
    IsLeastOf (IsFaultInText text) refusal row
    ⊎ (((other : ManifestRefusal) (s : ℕ) → IsFaultInText text other s → ⊥)
    × (m : List MRow) × (map row_of (records_below text) ≡ map Some m)
    × IsLeastManifestFault m refusal row)

-- two rows of a union have this fault: the same place and resend (M10), one id at two
-- places (M11), or the same digest (M13); for M12 one of them is a Differential that names the
-- other, which isn't earlier
abbrev pub Contradict : ManifestRefusal → MRow → MRow → Type 0
Contradict refusal q r =
    ((refusal ≡ RepeatedRevision) × (same_revision q r ≡ true))
    ⊎ ((refusal ≡ MovedId) × (moved_id q r ≡ true))
    ⊎ ((refusal ≡ LatePrev) × ((follows_later q r ≡ true) ⊎ (follows_later r q ≡ true)))
    ⊎ ((refusal ≡ RepeatedDigest) × (same_digest q r ≡ true))

-- row r of `more`, counted from 0, isn't listed in m yet, and has this fault with a row of m (as
-- `more` is accepted by itself, it has none with another row of `more`)
abbrev pub IsBlamed : List MRow → List MRow → ManifestRefusal → ℕ → Type 0
IsBlamed m more refusal r =
    (r < length more) × (is_listed m (row_at more r) ≡ false)
    × ((q : ℕ) × (q < length m) × Contradict refusal (row_at m q) (row_at more r))

-- where the least fault of the union of m and more is reported: M1 at row 0, the whole; any other,
-- M10 to M13, at the least row of `more` that has it with a row of m, counted from 1
abbrev pub IsReportedAt : List MRow → List MRow → ManifestRefusal → ℕ → Type 0
IsReportedAt m more refusal row =
    ((refusal ≡ OverLimit) × (row ≡ 0))
    ⊎ ((r : ℕ) × (row ≡ suc r) × IsBlamed m more refusal r
    × ((k : ℕ) → IsBlamed m more refusal k → r ≤ k))

-- the least fault of the union of m and more, and where it is reported
abbrev pub IsLeastOfUnion : List MRow → List MRow → ManifestRefusal → ℕ → Type 0
IsLeastOfUnion m more refusal row =
    ((s : ℕ) × IsLeastManifestFault (extended m more) refusal s) × IsReportedAt m more refusal row
