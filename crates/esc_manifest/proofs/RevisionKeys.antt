-- A row's place and resend as the key of a set.
use Rattle.std.proofs.Common.{◌≡◌, ℕ, true, refl, ap, ◌∙◌}
use Rattle.std.specs.Prelude.{ℤ}
use Rattle.std.specs.Cmp.{nat_cmp_total, int_cmp_total}
use Rattle.std.specs.Ordering.{nat_cmp, ordering_then, is_eq}
use Rattle.std.specs.declared.cmp.Ordering.{Ordering}
use Rattle.std.specs.declared.cmp.Ordering.TheVariants.{Equal}
use Rattle.std.proofs.lemmas.Cmp.{tied_itself}
use Rattle.esc_envelope.specs.declared.place.DepositType.{DepositType}
use Rattle.esc_envelope.specs.declared.place.DepositType.TheVariants.{Diff, Incr, Full}
use Rattle.esc_envelope.specs.declared.place.Place.{Place}
use Rattle.esc_envelope.specs.contracts.place.PlaceOrd.TheImpl as derived
use Rattle.esc_manifest.specs.declared.row.MRow.{MRow}
use Rattle.esc_manifest.specs.RowFaults.{same_revision}
use Rattle.esc_manifest.proofs.RowTests.{same_revision-Decides}

-- a row's place and resend
abbrev pub Revision : Type 0
Revision = Place × ℕ

abbrev place_cmp : Place → Place → Ordering
place_cmp = (derived.cmp-value).it

-- the order of a set of revisions
abbrev pub revision_cmp : Revision → Revision → Ordering
revision_cmp a b = ordering_then (place_cmp a.0 b.0) (nat_cmp a.1 b.1)

-- the revision of a row
abbrev pub revision_of : MRow → Revision
revision_of row = (row.header.place, row.header.resend)

place_itself : (w : ℤ) (k : DepositType)
    → place_cmp (record { watermark = w; kind = k }) (record { watermark = w; kind = k }) ≡ Equal
place_itself w Diff = rw (tied_itself int_cmp_total w) refl
place_itself w Incr = rw (tied_itself int_cmp_total w) refl
place_itself w Full = rw (tied_itself int_cmp_total w) refl

-- a revision is equal to itself
pub revision_itself : (a : Revision) → is_eq (revision_cmp a a) ≡ true
revision_itself a = rw (place_itself a.0.watermark a.0.kind, tied_itself nat_cmp_total a.1) refl

-- rows of one revision have one key
pub one_revision_key : (q r : MRow) → same_revision q r ≡ true → revision_of q ≡ revision_of r
one_revision_key q r same =
    let parts = (same_revision-Decides q r).0 same in
    ap (λ (p : Place). (p, q.header.resend)) parts.0 ∙ ap (λ (n : ℕ). (r.header.place, n)) parts.1
