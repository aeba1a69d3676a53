use Rattle.std.proofs.Common.{◌∙◌, ◌++◌, ◌∷◌, [], ℕ, List, ap, sym, map, string_bytes}
use Rattle.std.proofs.lemmas.List.{map_push}
use Rattle.serde_json.specs.View.{view}
use Rattle.serde_json.specs.Find.{as_str}
use Rattle.esc_envelope.specs.GatherLaws.{next, fails, ended}
use Rattle.esc_pack.proofs.sources.all_texts.Goals as goal

pub returns-in_default : goal.returns-in_default
returns-in_default c =
    let at = c.loop-value.value-index in
    let texts = map string_bytes c.loop-value.texts.items in
    fails as_str view c.args.values.now at c.value-item.result texts c.loop-value-test.true
    (ap (λ v. as_str (view v)) (sym c.value-item.is) ∙ sym c.in_default.ensures) c.loop-value.invariant

pub loop-value-preserved : goal.loop-value-preserved
loop-value-preserved c =
    let at = c.loop-value.value-index in
    let texts = map string_bytes c.loop-value.texts.items in
    let added = ap (map string_bytes) c.in_ok-push.ensures.items
    ∙ map_push string_bytes c.loop-value.texts.items c.in_ok-from_str.field-0
    ∙ ap (λ (text : List ℕ). texts ++ (text ∷ [])) c.in_ok-from_str.ensures.ok in
    next as_str view c.args.values.now at c.value-item.result c.in-Some.text.now texts _ c.loop-value-test.true
    (ap (λ v. as_str (view v)) (sym c.value-item.is) ∙ sym c.in-Some.ensures) added c.loop-value.invariant

pub returns : goal.returns
returns c =
    let texts = map string_bytes c.loop-value.texts.items in
    ended as_str view c.args.values.now c.loop-value.value-index texts c.loop-value-test.false c.loop-value.invariant
