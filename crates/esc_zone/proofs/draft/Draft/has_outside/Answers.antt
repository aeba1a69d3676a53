use Rattle.std.proofs.Common.{◌≡◌, ◌∙◌, ap, List, ℕ, Bool, string_bytes, take}
use Rattle.std.specs.Prelude.{◌||◌}
use Rattle.std.specs.List.{list_any}
use Rattle.esc_zone.specs.Delegations.{texts_of}
use Rattle.esc_zone.specs.Noted.{is_outside_server}
use Rattle.esc_zone.proofs.Noting.{any_step}
use Rattle.esc_zone.proofs.draft.Draft.has_outside.Goals as goal

pub loop-text-preserved : goal.loop-text-preserved
loop-text-preserved c =
    let f = is_outside_server c.args.self.now.settings in
    let texts = c.args.texts.now in
    let i = c.loop-text.text-index in
    c.in_ok-has.ensures
    ∙ ap (λ (b : Bool). b || f c.as_str.result.now) c.loop-text.invariant
    ∙ ap (λ (t : List ℕ). list_any f (texts_of (take i texts)) || f t) c.as_str.ensures.value
    ∙ any_step f string_bytes texts i c.text-item.result c.loop-text-test.true c.text-item.is
