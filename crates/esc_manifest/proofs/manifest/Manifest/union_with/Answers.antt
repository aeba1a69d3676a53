use Rattle.std.proofs.Common.{◌≡◌, ℕ, ◌≤◌, Some, Err, sym, ap, ap₂, subst, ◌∙◌}
use Rattle.esc_manifest.specs.RowFaults.{rows_fault}
use Rattle.esc_manifest.specs.Extension.{extended, blamed, extension}
use Rattle.esc_manifest.proofs.AcceptedRows.{no_fault_accepted}
use Rattle.esc_manifest.proofs.Extensions.{extension_refused, told, told_row}
use Rattle.esc_manifest.proofs.manifest.Manifest.union_with.Goals as goal

pub of_accepted-requires : goal.of_accepted-requires
of_accepted-requires c = (no_fault_accepted c.in_ok-union.union.items).0
    (rw c.as_slice.ensures.value at (sym c.rows_fault.ensures ∙ c.in-None.is))

pub returns-in-Some-clause-refused : goal.returns-in-Some-clause-refused
returns-in-Some-clause-refused c code row same =
    let m = c.args.self.now in
    let more = c.args.more.now in
    let union : c.as_slice.result.now ≡ extended m more = c.as_slice.ensures.value
    ∙ c.in_ok-union.ensures ∙ ap₂ extended c.rows-rows.ensures.rows c.rows-added.ensures.rows in
    let fault : rows_fault (extended m more) ≡ Some (c.in-Some.refusal, c.in-Some.field-0-1) =
    ap rows_fault (sym union) ∙ sym c.rows_fault.ensures ∙ c.in-Some.is in
    let at : c.blamed-row.result ≡ blamed c.in-Some.refusal m more = c.blamed-row.ensures.blamed
    ∙ ap₂ (blamed c.in-Some.refusal) c.rows-rows.ensures.rows c.rows-added.ensures.rows in
    let told_so : extension m more ≡ Err (c.in-Some.refusal, c.blamed-row.result) =
    extension_refused m more c.in-Some.refusal c.in-Some.field-0-1 fault
    ∙ ap (λ (r : ℕ). Err (c.in-Some.refusal, r)) (sym at) in
    told_so ∙ ap told same

pub returns-in-Some-clause-within : goal.returns-in-Some-clause-within
returns-in-Some-clause-within c code row same =
    subst (λ (r : ℕ). r ≤ 4096) (ap told_row same) c.blamed-row.ensures.within
