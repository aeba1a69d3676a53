use Rattle.std.proofs.Common.{◌≡◌, ◌<◌, ◌≤◌, ◌∙◌, ◌+◌, length, sym, ap, subst, arith, Err}
use Rattle.std.proofs.Common.{Ok, List, ℕ}
use Rattle.std.proofs.lemmas.Grind.{common_steps}
use Rattle.esc_bundle.specs.declared.refusal.Refusal.TheVariants.{OverLimit}
use Rattle.esc_bundle.specs.Bundle.{views, limit, bundle_text}
use Rattle.esc_bundle.proofs.Written.{text_of, text_more, text_whole, over_limit_already, over_limit_is}
use Rattle.esc_bundle.proofs.Written.{within_limit_is}
use Rattle.esc_bundle.proofs.writing.join.Goals as goal

pub returns-then-len-gt-MOST_BYTES : goal.returns-then-len-gt-MOST_BYTES
returns-then-len-gt-MOST_BYTES c = λ n same.
    let over_limit : OverLimit ≡ n = cc in
    let i = c.loop-section.section-index in
    let more : c.push_section.new.text.items ≡ text_of c.args.sections.now (i + 1) =
    text_more c.args.sections.now
    i _ _ _ c.loop-section-test.true c.loop-section.invariant c.in_ok-push_section.ensures in
    let over : limit < length c.push_section.new.text.items = grind (arith, common_steps) in
    over_limit_already c.args.sections.now (i + 1) _ more over ∙ ap Err over_limit

pub returns-then-len-gt-MOST_BYTES-2 : goal.returns-then-len-gt-MOST_BYTES-2
returns-then-len-gt-MOST_BYTES-2 c = λ n same.
    let over_limit : OverLimit ≡ n = cc in
    let whole : c.extend_from_slice.new.self.items ≡ bundle_text (views c.args.sections.now) =
    text_whole c.args.sections.now c.loop-section.section-index _
    _ c.loop-section-test.false c.loop-section.invariant c.in_ok-extend_from_slice.ensures.items in
    let over : limit < length c.extend_from_slice.new.self.items = grind (arith, common_steps) in
    over_limit_is (bundle_text (views c.args.sections.now))
    (subst (λ (t : List ℕ). limit < length t) whole over) ∙ ap Err over_limit

pub returns : goal.returns
returns c =
    let whole : c.extend_from_slice.new.self.items ≡ bundle_text (views c.args.sections.now) =
    text_whole c.args.sections.now c.loop-section.section-index _
    _ c.loop-section-test.false c.loop-section.invariant c.in_ok-extend_from_slice.ensures.items in
    let within : length c.extend_from_slice.new.self.items ≤ limit = grind (arith, common_steps) in
    within_limit_is (bundle_text (views c.args.sections.now))
    (subst (λ (t : List ℕ). length t ≤ limit) whole within) ∙ ap Ok (sym whole)
