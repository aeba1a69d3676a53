-- What is promised of refusals, from what they are by the definitions' functions.
use Rattle.std.proofs.Common.{◌≡◌, ℕ, List, Option, Some, None, Result, Ok, Err, refl, sym, ap, subst}
use Rattle.std.proofs.Common.{◌∙◌}
use Rattle.esc_manifest.specs.declared.refusal.ManifestRefusal.{ManifestRefusal}
use Rattle.esc_manifest.specs.declared.row.MRow.{MRow}
use Rattle.esc_manifest.specs.declared.fault.ManifestFault.{ManifestFault}
use Rattle.esc_manifest.specs.declared.fault.ManifestFault.TheVariants.{Refused}
use Rattle.esc_manifest.specs.Extension.{extended, blamed, union_or, extension}
use Rattle.esc_manifest.specs.Accepted.{IsAccepted}
use Rattle.esc_manifest.specs.LeastFault.{IsLeastManifestFault, IsReportedAt, IsLeastOfUnion}
use Rattle.esc_manifest.specs.RowFaults.{rows_fault}
use Rattle.esc_manifest.proofs.RowLeast.{rows_least, least_rows}
use Rattle.esc_manifest.proofs.Extensions.{extension_refused}
use Rattle.esc_manifest.proofs.UnionLeast.{reported_at, reported_once}

-- the fault that is returned is that of the rows
pub is_fault : (m : List MRow) (result : Result (List MRow) ManifestFault)
    (o : Option (ManifestRefusal × ℕ)) → rows_fault m ≡ o → (rows_fault m ≡ None → result ≡ Ok m)
    → ((code : ManifestRefusal) (row : ℕ) → rows_fault m ≡ Some (code, row)
    → result ≡ Err (Refused code row)) → (code : ManifestRefusal) (row : ℕ)
    → result ≡ Err (Refused code row) → rows_fault m ≡ Some (code, row)
is_fault m result None is accepted refused code row e =
    let both : ◌≡◌ {A = Result (List MRow) ManifestFault} (Ok m) (Err (Refused code row)) =
    sym (accepted is) ∙ e in absurd cc
is_fault m result (Some (c, r)) is accepted refused code row e =
    let told = refused c r is in
    let number : c ≡ code = cc in
    let place : r ≡ row = cc in
    rw (number, place) at is

-- ---- unions

union_fault : (m more : List MRow) → IsAccepted m → IsAccepted more → (o : Option (ManifestRefusal × ℕ))
    → rows_fault (extended m more) ≡ o → (code : ManifestRefusal) (row : ℕ)
    → union_or m more o ≡ Err (code, row) → IsLeastOfUnion m more code row
union_fault m more listed added None is code row e = absurd cc
union_fault m more listed added (Some f) is code row e =
    let told : ◌≡◌ {A = ManifestRefusal × ℕ} (f.0, blamed f.0 m more) (code, row) = cc in
    let number : f.0 ≡ code = ap (λ (p : ManifestRefusal × ℕ). p.0) told in
    let at : blamed f.0 m more ≡ row = ap (λ (p : ManifestRefusal × ℕ). p.1) told in
    let fault : rows_fault (extended m more) ≡ Some (code, f.1) =
    is ∙ ap (λ (c : ManifestRefusal). Some (c, f.1)) number in
    let least : IsLeastManifestFault (extended m more) code f.1 = rows_least (extended m more) code f.1 fault in
    let row_is : blamed code m more ≡ row = ap (λ (c : ManifestRefusal). blamed c m more) (sym number) ∙ at in
    ((f.1, least), subst (IsReportedAt m more code) row_is (reported_at m more listed added code f.1 least.0))

-- an extension is refused by the least fault of the union
pub union_least : (m more : List MRow) → IsAccepted m → IsAccepted more → (code : ManifestRefusal)
    (row : ℕ) → extension m more ≡ Err (code, row) → IsLeastOfUnion m more code row
unfolding extension
union_least m more listed added = union_fault m more listed added (rows_fault (extended m more)) refl

-- the least fault of the union refuses the extension
pub least_union : (m more : List MRow) → IsAccepted m → IsAccepted more → (code : ManifestRefusal)
    (row : ℕ) → IsLeastOfUnion m more code row → extension m more ≡ Err (code, row)
least_union m more listed added code row ((s, least), at) =
    extension_refused m more code s (least_rows (extended m more) code s least)
    ∙ ap (λ (r : ℕ). Err (code, r)) (reported_once
    m more code (blamed code m more) row (reported_at m more listed added code s least.0) at)
