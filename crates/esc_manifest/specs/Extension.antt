-- The union of two manifests (this project's profile).
use Rattle.std.specs.Prelude.{ℕ, suc, Bool, true, false, not, ◌&&◌, ◌||◌, ◌==◌, List, ◌++◌, filter}
use Rattle.std.specs.Prelude.{position, Option, None, Some, Result, Ok, Err, if◌then◌else◌}
use Rattle.std.specs.List.{list_any}
use Rattle.std.specs.Str.{bytes_eq}
use Rattle.esc_manifest.specs.declared.refusal.ManifestRefusal.{ManifestRefusal}
use Rattle.esc_manifest.specs.declared.refusal.ManifestRefusal.TheVariants.{RepeatedRevision}
use Rattle.esc_manifest.specs.declared.refusal.ManifestRefusal.TheVariants.{MovedId, LatePrev}
use Rattle.esc_manifest.specs.declared.refusal.ManifestRefusal.TheVariants.{RepeatedDigest}
use Rattle.esc_manifest.specs.declared.row.MRow.{MRow}
use Rattle.esc_manifest.specs.RowFaults.{same_place, same_revision, moved_id, follows_later}
use Rattle.esc_manifest.specs.RowFaults.{same_digest, rows_fault}

-- both have the same prevId, or both have none
abbrev pub same_prev : Option (List ℕ) → Option (List ℕ) → Bool
same_prev None None = true
same_prev None (Some b) = false
same_prev (Some a) None = false
same_prev (Some a) (Some b) = bytes_eq a b

-- equal in all six values
abbrev pub same_row : MRow → MRow → Bool
same_row q r =
    bytes_eq q.header.id r.header.id
    && (same_place q.header.place r.header.place
    && (same_prev q.header.prev r.header.prev
    && ((q.header.resend == r.header.resend) && bytes_eq q.digest r.digest)))

-- one of the rows is equal to this one
abbrev pub is_listed : List MRow → MRow → Bool
is_listed m r = list_any (λ q. same_row q r) m

-- the rows of `more` that aren't listed yet, in their order
abbrev pub new_rows : List MRow → List MRow → List MRow
new_rows m more = filter (λ r. not (is_listed m r)) more

-- the union: the rows, and after them those of `more` that aren't listed yet
abbrev pub extended : List MRow → List MRow → List MRow
extended m more = m ++ new_rows m more

-- the row repeats or contradicts one of m, by this refusal: M10, M11 or M13; or M12, where a
-- Differential, one of the two, names the other, which isn't earlier
abbrev pub is_blamed : ManifestRefusal → List MRow → MRow → Bool
is_blamed RepeatedRevision m r = list_any (λ q. same_revision q r) m
is_blamed MovedId m r = list_any (λ q. moved_id q r) m
is_blamed LatePrev m r = list_any (λ q. follows_later q r) m || list_any (λ q. follows_later r q) m
is_blamed RepeatedDigest m r = list_any (λ q. same_digest q r) m
is_blamed refusal m r = false

-- an index as a row counted from 1; no index is 0, the whole
abbrev pub row_or_whole : Option ℕ → ℕ
row_or_whole None = 0
row_or_whole (Some index) = suc index

-- the row of `more` that a fault of the union is reported at: the least that isn't listed yet and
-- has it (as `more` is accepted by itself, each of these faults is against a row of m)
abbrev pub blamed : ManifestRefusal → List MRow → List MRow → ℕ
blamed refusal m more =
    row_or_whole (position (λ r. not (is_listed m r) && is_blamed refusal m r) more)

-- the union, or its refusal and the row of `more` that it is reported at
abbrev pub union_or : List MRow → List MRow → Option (ManifestRefusal × ℕ)
    → Result (List MRow) (ManifestRefusal × ℕ)
union_or m more None = Ok (extended m more)
union_or m more (Some fault) = Err (fault.0, blamed fault.0 m more)

-- the union of an accepted manifest's rows with more rows, or its least fault
unfoldable pub extension : List MRow → List MRow → Result (List MRow) (ManifestRefusal × ℕ)
extension m more = union_or m more (rows_fault (extended m more))
