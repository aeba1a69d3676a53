use Rattle.std.proofs.Common.{◌≡◌, ◌∙◌, Some, ap, sym, map, string_bytes}
use Rattle.serde_json.specs.View.{view}
use Rattle.esc_envelope.specs.DeclaredTables.{name_of, fields_of, key_index}
use Rattle.esc_envelope.proofs.Declared.{is_table_of}
use Rattle.esc_envelope.proofs.tables.table_in.Goals as goal

pub invariant_of-result : goal.invariant_of-result
invariant_of-result c =
    let json = view c.args.table.now in
    let fields = map string_bytes c.in-Some-2.fields.items in
    let name : name_of json ≡ Some (string_bytes c.in_ok-name.name) =
    sym c.in-Some.ensures ∙ ap Some (sym c.in_ok-name.ensures.ok) in
    let declared : fields_of json ≡ Some fields = sym (rw c.in-Some-2.is at c.in_ok-fields.ensures) in
    let key : key_index json fields ≡ Some c.in-Some-key_in.key = ap (λ texts. key_index
    json (map string_bytes texts)) (sym c.as_slice.ensures.value) ∙ sym c.in-Some-key_in.ensures in
    is_table_of json _ name declared key
