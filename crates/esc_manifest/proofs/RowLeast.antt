-- The fault that is returned of rows is their least.
use Rattle.std.proofs.Common.{◌≡◌, ◌⊎◌, ℕ, ◌<◌, ◌≤◌, true, List, length, Option, Some, None}
use Rattle.std.proofs.Common.{refl, sym, ap, subst, arith, inl, inr}
use Rattle.std.specs.Prelude.{◌≢◌, nat_lt, position}
use Rattle.std.proofs.lemmas.Bool.{cases_Bool, cases_lt}
use Rattle.std.proofs.lemmas.Bool.Decides.{nat_tests}
use Rattle.esc_manifest.specs.declared.refusal.ManifestRefusal.{ManifestRefusal}
use Rattle.esc_manifest.specs.declared.refusal.ManifestRefusal.TheVariants.{OverLimit, NotSixFields}
use Rattle.esc_manifest.specs.declared.refusal.ManifestRefusal.TheVariants.{WrongHeading, WrongId}
use Rattle.esc_manifest.specs.declared.refusal.ManifestRefusal.TheVariants.{WrongType, WrongWatermark}
use Rattle.esc_manifest.specs.declared.refusal.ManifestRefusal.TheVariants.{MissingPrev, WrongResend}
use Rattle.esc_manifest.specs.declared.refusal.ManifestRefusal.TheVariants.{WrongDigest}
use Rattle.esc_manifest.specs.declared.refusal.ManifestRefusal.TheVariants.{RepeatedRevision, MovedId}
use Rattle.esc_manifest.specs.declared.refusal.ManifestRefusal.TheVariants.{LatePrev, RepeatedDigest}
use Rattle.esc_manifest.specs.Codes.{manifest_number}
use Rattle.esc_manifest.specs.declared.row.MRow.{MRow}
use Rattle.esc_manifest.specs.LeastFault.{has_fault, IsManifestFault, IsLeastManifestFault}
use Rattle.esc_manifest.specs.RowFaults.{most_manifest_rows, has_bad_id, has_bad_watermark, lacks_prev}
use Rattle.esc_manifest.specs.RowFaults.{has_bad_resend, same_revision, moved_id, follows_later}
use Rattle.esc_manifest.specs.RowFaults.{same_digest, first_against_earlier, first_against_any}
use Rattle.esc_manifest.specs.RowFaults.{fault_or, rows_fault}
use Rattle.esc_manifest.specs.ManifestRows.{no_row}
use Rattle.esc_manifest.proofs.LeastFrom.{first_of_list, first_of_numbers, LeastFrom, up, found, step}
use Rattle.esc_manifest.proofs.LeastFrom.{lower, fault_or_is, at_row, least_of, is_least, IsFirst}

-- M1 of rows
abbrev above : List MRow → ManifestRefusal → ℕ → Type 0
above m code row = (code ≡ OverLimit) × (row ≡ 0) × (most_manifest_rows < length m)

-- a row has none of M1 to M3, and not M5 or M9
of_row : (m : List MRow) (k : ManifestRefusal) (r : ℕ) → has_fault m k r ≡ true → (4
    ≤ manifest_number k) × (manifest_number k ≤ 13) × (manifest_number k ≢ 5) × (manifest_number k ≢ 9)
of_row m OverLimit r holds = absurd cc
of_row m NotSixFields r holds = absurd cc
of_row m WrongHeading r holds = absurd cc
of_row m WrongId r holds = (omega arith, omega arith, λ e. absurd (omega (arith, e)), λ e. absurd (omega (arith, e)))
of_row m WrongType r holds = absurd cc
of_row m WrongWatermark r holds =
    (omega arith, omega arith, λ e. absurd (omega (arith, e)), λ e. absurd (omega (arith, e)))
of_row m MissingPrev r holds =
    (omega arith, omega arith, λ e. absurd (omega (arith, e)), λ e. absurd (omega (arith, e)))
of_row m WrongResend r holds =
    (omega arith, omega arith, λ e. absurd (omega (arith, e)), λ e. absurd (omega (arith, e)))
of_row m WrongDigest r holds = absurd cc
of_row m RepeatedRevision r holds =
    (omega arith, omega arith, λ e. absurd (omega (arith, e)), λ e. absurd (omega (arith, e)))
of_row m MovedId r holds = (omega arith, omega arith, λ e. absurd (omega (arith, e)), λ e. absurd (omega (arith, e)))
of_row m LatePrev r holds = (omega arith, omega arith, λ e. absurd (omega (arith, e)), λ e. absurd (omega (arith, e)))
of_row m RepeatedDigest r holds =
    (omega arith, omega arith, λ e. absurd (omega (arith, e)), λ e. absurd (omega (arith, e)))

none_past : (m : List MRow) → LeastFrom (IsManifestFault m) 14 None
none_past m = record { none = λ e k s le there. past k s le there; some = λ c r e. absurd cc }
  where
    past : (k : ManifestRefusal) (s : ℕ) → 14 ≤ manifest_number k → IsManifestFault m k s → ⊥
    past k s le (inl there) = absurd (omega (arith, le, ap manifest_number there.0))
    past k s le (inr (r, lt, is, holds)) = absurd (omega (arith, le, (of_row m k r holds).1))

-- one refusal at its rows, and those of the next numbers
next_number : (m : List MRow) (code : ManifestRefusal) (high : ℕ) (o : Option ℕ)
    (next : Option (ManifestRefusal × ℕ)) → manifest_number code < high → (code ≡ OverLimit → ⊥)
    → ((k : ManifestRefusal) (s : ℕ) → manifest_number code < manifest_number k
    → manifest_number k < high → IsManifestFault m k s → ⊥)
    → IsFirst (has_fault m code) (length m) o → LeastFrom (IsManifestFault m) high next
    → LeastFrom (IsManifestFault m) (manifest_number code) (fault_or code o next)
next_number m code high o next lt other gap first later =
    subst (LeastFrom (IsManifestFault m) (manifest_number code))
    (sym (fault_or_is code o next)) (step (IsManifestFault m) code high (up o) next lt gap
    (at_row (above m) (has_fault m) (length m) code o (λ s there. other there.0) first) later)

-- no fault has a number between two of rows
between_8_10 : (m : List MRow) (k : ManifestRefusal) (s : ℕ)
    → 8 < manifest_number k → manifest_number k < 10 → IsManifestFault m k s → ⊥
between_8_10 m k s over below (inl there) = absurd (omega (arith, over, ap manifest_number there.0))
between_8_10 m k s over below (inr (r, lt, is, holds)) = (of_row m k r holds).3 (omega arith)

between_4_6 : (m : List MRow) (k : ManifestRefusal) (s : ℕ)
    → 4 < manifest_number k → manifest_number k < 6 → IsManifestFault m k s → ⊥
between_4_6 m k s over below (inl there) = absurd (omega (arith, over, ap manifest_number there.0))
between_4_6 m k s over below (inr (r, lt, is, holds)) = (of_row m k r holds).2 (omega arith)

-- M4 and on
abbrev pub chain : List MRow → Option (ManifestRefusal × ℕ)
chain m =
    fault_or WrongId (position has_bad_id m)
    (fault_or WrongWatermark (position has_bad_watermark m)
    (fault_or MissingPrev (position lacks_prev m)
    (fault_or WrongResend (position has_bad_resend m)
    (fault_or RepeatedRevision (first_against_earlier same_revision m)
    (fault_or MovedId (first_against_earlier moved_id m)
    (fault_or LatePrev (first_against_any follows_later m)
    (fault_or RepeatedDigest (first_against_earlier same_digest m) None)))))))

all_numbers : (m : List MRow) → LeastFrom (IsManifestFault m) 4 (chain m)
all_numbers m =
    let n13 = next_number m RepeatedDigest 14 (first_against_earlier same_digest m) None (omega arith)
    (λ e. absurd cc) (λ k s over below there. absurd (omega (arith, over, below)))
    (first_of_numbers (has_fault m RepeatedDigest) (length m)) (none_past m) in
    let n12 = next_number m LatePrev 13 (first_against_any follows_later m) _ (omega arith)
    (λ e. absurd cc) (λ k s over below there. absurd (omega (arith, over, below)))
    (first_of_list _ m no_row) n13 in
    let n11 = next_number m MovedId 12 (first_against_earlier moved_id m) _ (omega arith)
    (λ e. absurd cc) (λ k s over below there. absurd (omega (arith, over, below)))
    (first_of_numbers (has_fault m MovedId) (length m)) n12 in
    let n10 = next_number m RepeatedRevision 11 (first_against_earlier same_revision m) _ (omega arith)
    (λ e. absurd cc) (λ k s over below there. absurd (omega (arith, over, below)))
    (first_of_numbers (has_fault m RepeatedRevision) (length m)) n11 in
    let n8 = next_number m WrongResend 10 (position has_bad_resend m) _ (omega arith)
    (λ e. absurd cc) (between_8_10 m) (first_of_list has_bad_resend m no_row) n10 in
    let n7 = next_number m MissingPrev 8 (position lacks_prev m) _ (omega arith)
    (λ e. absurd cc) (λ k s over below there. absurd (omega (arith, over, below)))
    (first_of_list lacks_prev m no_row) n8 in
    let n6 = next_number m WrongWatermark 7 (position has_bad_watermark m) _ (omega arith)
    (λ e. absurd cc) (λ k s over below there. absurd (omega (arith, over, below)))
    (first_of_list has_bad_watermark m no_row) n7 in
    next_number m WrongId 6 (position has_bad_id m) _ (omega arith)
    (λ e. absurd cc) (between_4_6 m) (first_of_list has_bad_id m no_row) n6

-- M1 first
from_one : (m : List MRow) (k : ManifestRefusal) (s : ℕ)
    → IsManifestFault m k s → (1 < manifest_number k) ⊎ ((OverLimit ≡ k) × (0 ≤ s))
from_one m k s (inl there) = inr (sym there.0, omega arith)
from_one m k s (inr (r, lt, is, holds)) = let low = (of_row m k r holds).0 in inl (omega arith)

few_low : (m : List MRow) → length m ≤ most_manifest_rows
    → (k : ManifestRefusal) (s : ℕ) → manifest_number k < 4 → IsManifestFault m k s → ⊥
few_low m few k s lt (inl there) = absurd (omega (arith, there.2))
few_low m few k s lt (inr (r, below, is, holds)) = absurd (omega (arith, lt, (of_row m k r holds).0))

-- the fault of rows is the least of all
pub least_from : (m : List MRow) → LeastFrom (IsManifestFault m) 0 (rows_fault m)
unfolding rows_fault
least_from m = elim (cases_Bool (nat_lt most_manifest_rows (length m))) [
  | inl many ↦ let over : most_manifest_rows < length m = grind (arith, nat_tests) in rw many (found
      (IsManifestFault m) 0 OverLimit 0 (inl (refl, refl, over)) (λ k s le there. from_one m k s there))
  | inr few ↦ let within : length m ≤ most_manifest_rows = grind (arith, nat_tests) in rw few
      (lower (IsManifestFault m) 0 4 (chain m) (λ k s le lt. few_low m within k s lt) (all_numbers m))
]

-- the fault that is returned is the least
pub rows_least : (m : List MRow) (code : ManifestRefusal) (row : ℕ)
    → rows_fault m ≡ Some (code, row) → IsLeastManifestFault m code row
rows_least m = least_of (IsManifestFault m) (rows_fault m) (least_from m)

-- the least fault is returned
pub least_rows : (m : List MRow) (code : ManifestRefusal) (row : ℕ)
    → IsLeastManifestFault m code row → rows_fault m ≡ Some (code, row)
least_rows m = is_least (IsManifestFault m) (rows_fault m) (least_from m)

-- ---- the row of a fault

-- a fault is at a row that a manifest can have
pub fault_row : (m : List MRow) (code : ManifestRefusal) (row : ℕ)
    → IsLeastManifestFault m code row → row ≤ 4096
fault_row m code row (inl there, least) = omega (arith, there.1)
fault_row m code row (inr (r, lt, is, holds), least) =
    let low = (of_row m code r holds).0 in
    let few : length m ≤ 4096 = elim (cases_lt 4096 (length m)) [
      | inl many ↦ elim (least OverLimit 0 (inl (refl, refl, many))) [
        | inl less
            ↦ absurd (omega arith)
        | inr same ↦ absurd (omega (arith, low, ap manifest_number same.0))
      ]
      | inr within ↦ within
    ] in
    omega (arith, is)
