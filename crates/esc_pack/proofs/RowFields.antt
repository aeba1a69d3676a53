-- What a row is written as is read as that row.
use Rattle.std.proofs.Common.{◌≡◌, ℕ, ◌<◌, ◌≤◌, true, false, List, [], length, Option, Some, None}
use Rattle.std.proofs.Common.{refl, arith, inl, inr}
use Rattle.std.specs.Prelude.{IsTrue, IsSome, IfSome, codes, ◌&&◌, ◌==◌, nat_le, unwrap_or}
use Rattle.std.specs.Str.{bytes_eq}
use Rattle.std.specs.Fmt.{decimal}
use Rattle.std.proofs.lemmas.Bool.{cases_Bool}
use Rattle.std.proofs.lemmas.Bool.Decides.{nat_tests}
use Rattle.std.proofs.lemmas.Fmt.{decimal_nonempty, length-decimal-le, digits_decimal, digits_value-decimal}
use Rattle.esc_bundle.specs.ListLaws.{digits_model}
use Rattle.esc_envelope.specs.declared.place.DepositType.{DepositType}
use Rattle.esc_envelope.specs.declared.place.DepositType.TheVariants.{Diff, Incr, Full}
use Rattle.esc_envelope.specs.Id.{is_id}
use Rattle.esc_envelope.specs.Members.{if_id, id_if_any, type_name, type_named}
use Rattle.esc_manifest.specs.declared.row.MRow.{MRow}
use Rattle.esc_manifest.specs.Fields.{resend_of, row_of}
use Rattle.esc_manifest.specs.Manifest.{lacks_id, lacks_type, lacks_watermark, lacks_resend}
use Rattle.esc_manifest.specs.Manifest.{lacks_digest, is_diff_alone}
use Rattle.esc_pack.specs.Written.{resend_field, manifest_line, IsLegible}

id_read : (id : List ℕ) → IsTrue (is_id id) → if_id id ≡ Some id
id_read id good = rw good refl

type_read : (kind : DepositType) → type_named (type_name kind) ≡ Some kind
type_read Diff = refl
type_read Incr = refl
type_read Full = refl

-- an id is not empty
id_there : (id : List ℕ) → IsTrue (is_id id) → (length id == 0) ≡ false
id_there id good = grind (arith, nat_tests)

-- the earlier deposit that a row names, if any, has an id
abbrev HasIdOrNone : Option (List ℕ) → Type 0
HasIdOrNone prev = IfSome prev (λ id. IsTrue (is_id id))

prev_read : (prev : Option (List ℕ)) → HasIdOrNone prev → id_if_any (unwrap_or prev []) ≡ Some prev
prev_read None good = refl
prev_read (Some id) good = rw (id_there id good, id_read id good) refl

some_digits : (n : ℕ) → 0 < n → n ≤ 999999 → resend_of (decimal n) ≡ Some n
some_digits n some few =
    let there = decimal_nonempty n (omega arith) in
    let empty : (length (decimal n) == 0) ≡ false = grind (arith, nat_tests) in
    let six = length-decimal-le 6 n (omega arith) (omega arith) (omega arith) in
    let short : nat_le (length (decimal n)) 6 ≡ true = grind (arith, nat_tests) in
    let digits = digits_decimal digits_model n (omega arith) in
    rw (empty, short, digits, digits_value-decimal digits_model n (omega arith)) refl

resend_read : (n : ℕ) → n ≤ 999999 → resend_of (resend_field n) ≡ Some n
resend_read n few =
    elim (cases_Bool (n == 0)) [
      | inl zero ↦ let none : n ≡ 0 = grind (arith, nat_tests) in rw none refl
      | inr more ↦ let some : 0 < n = grind (arith, nat_tests) in rw more (some_digits n some few)
    ]

-- each field of a row's line reads, and the line as the row
pub record Reads (r : MRow) : Type 0 where
  pub id : lacks_id (manifest_line r) ≡ false
  pub kind : lacks_type (manifest_line r) ≡ false
  pub watermark : lacks_watermark (manifest_line r) ≡ false
  pub resend : lacks_resend (manifest_line r) ≡ false
  pub digest : lacks_digest (manifest_line r) ≡ false
  pub row : row_of (manifest_line r) ≡ Some r

-- a row that was written is read as it
pub row_reads : (r : MRow)
    → IsTrue (is_id r.header.id) → HasIdOrNone r.header.prev → r.header.resend ≤ 999999 → IsLegible r
    → Reads r
unfolding row_of
row_reads r good prev_good few legible =
    let id = id_read r.header.id good in
    let kind = type_read r.header.place.kind in
    let prev = prev_read r.header.prev prev_good in
    let resend = resend_read r.header.resend few in
    record {
      id = rw (id, prev) refl;
      kind = rw kind refl;
      watermark = rw legible.moment refl;
      resend = rw resend refl;
      digest = rw legible.digest refl;
      row = rw (id, kind, legible.moment, prev, resend, legible.digest) refl;
    }

-- a Differential has its prevId
pub not_alone : (r : MRow) → HasIdOrNone r.header.prev → (r.header.place.kind ≡ Diff → IsSome r.header.prev)
    → is_diff_alone (manifest_line r) ≡ false
not_alone r = alone r.header.place.kind r.header.prev
  where
    alone : (kind : DepositType) (prev : Option (List ℕ)) → HasIdOrNone prev → (kind ≡ Diff → IsSome prev)
        → (bytes_eq (type_name kind) (codes "DIFF") && (length (unwrap_or prev []) == 0)) ≡ false
    alone Incr prev good there = refl
    alone Full prev good there = refl
    alone Diff None good there = absurd (cc (there refl))
    alone Diff (Some id) good there = id_there id good
