use Rattle.std.proofs.Common.{◌∙◌, ap, sym}
use Rattle.serde_json.specs.View.{view}
use Rattle.esc_pack.specs.TableFiles.{source_of}
use Rattle.esc_envelope.specs.GatherLaws.{next, fails, ended}
use Rattle.esc_pack.proofs.sources.all_sources.Goals as goal

pub returns-in_default : goal.returns-in_default
returns-in_default c =
    let at = c.loop-value.value-index in
    fails source_of view c.args.values.now at c.value-item.result c.loop-value.sources.items c.loop-value-test.true
    (ap (λ v. source_of (view v)) (sym c.value-item.is) ∙ sym c.in_ok-source.ensures ∙ c.in_default.is)
    c.loop-value.invariant

pub loop-value-preserved : goal.loop-value-preserved
loop-value-preserved c =
    let at = c.loop-value.value-index in
    next source_of view c.args.values.now
    at c.value-item.result c.in-Some.source c.loop-value.sources.items _ c.loop-value-test.true
    (ap (λ v. source_of (view v)) (sym c.value-item.is) ∙ sym c.in_ok-source.ensures ∙ c.in-Some.is)
    c.in_ok-push.ensures.items c.loop-value.invariant

pub returns : goal.returns
returns c =
    let at = c.loop-value.value-index in
    ended source_of view c.args.values.now at c.loop-value.sources.items c.loop-value-test.false c.loop-value.invariant
