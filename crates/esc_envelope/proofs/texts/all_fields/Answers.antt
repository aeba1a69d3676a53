use Rattle.std.proofs.Common.{◌∙◌, ◌++◌, ◌∷◌, [], ℕ, List, ap, sym, map, string_bytes}
use Rattle.std.proofs.lemmas.List.{map_push}
use Rattle.serde_json.specs.View.{view}
use Rattle.esc_envelope.specs.DeclaredTables.{field_of}
use Rattle.esc_envelope.specs.GatherLaws.{next, fails, ended}
use Rattle.esc_envelope.proofs.texts.all_fields.Goals as goal

pub returns-in_default : goal.returns-in_default
returns-in_default c =
    fails field_of view c.args.values.now c.loop-value.value-index
    c.value-item.result (map string_bytes c.loop-value.fields.items) c.loop-value-test.true
    (ap (λ v. field_of (view v)) (sym c.value-item.is) ∙ sym c.in_default.ensures) c.loop-value.invariant

pub loop-value-preserved : goal.loop-value-preserved
loop-value-preserved c =
    let so_far = c.loop-value.fields.items in
    let added = ap (map string_bytes) c.in_ok-push.ensures.items
    ∙ map_push string_bytes so_far c.in_ok-from_str.field-0
    ∙ ap (λ (text : List ℕ). map string_bytes so_far ++ (text ∷ [])) c.in_ok-from_str.ensures.ok in
    next field_of view c.args.values.now c.loop-value.value-index
    c.value-item.result c.in-Some.field.now (map string_bytes so_far) _ c.loop-value-test.true
    (ap (λ v. field_of (view v)) (sym c.value-item.is) ∙ sym c.in-Some.ensures) added c.loop-value.invariant

pub returns : goal.returns
returns c = ended field_of view c.args.values.now c.loop-value.value-index
    (map string_bytes c.loop-value.fields.items) c.loop-value-test.false c.loop-value.invariant
