use Rattle.std.proofs.Common.{◌∙◌, ap, sym, Bool}
use Rattle.std.specs.Prelude.{◌||◌}
use Rattle.std.proofs.lemmas.Result.{IfOk-weaker}
use Rattle.esc_zone.specs.Noted.{is_outside_server}
use Rattle.esc_zone.proofs.draft.Draft.is_outside_too.Goals as goal

pub returns : goal.returns
returns c =
    let f = is_outside_server c.args.self.now.settings in
    IfOk-weaker c.is_outside.result _ _
    (λ is e. e ∙ ap (λ (b : Bool). b || f c.args.text.now) (sym c.if-other.false)) c.is_outside.ensures
