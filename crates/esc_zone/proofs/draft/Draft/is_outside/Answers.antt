use Rattle.std.proofs.Common.{◌∙◌, ap, sym, List, ℕ, Bool}
use Rattle.std.specs.Prelude.{not, ◌&&◌}
use Rattle.esc_zone.specs.Names.{is_below, is_server_name}
use Rattle.esc_zone.proofs.Added.{made_if}
use Rattle.esc_zone.proofs.draft.Draft.is_outside.Goals as goal

pub returns-in-Some : goal.returns-in-Some
returns-in-Some c =
    let s = c.args.self.now.settings in
    let text = c.args.text.now in
    let made = made_if (is_server_name s.has_underscores text) text c.in-Some.host
    (sym c.in-Some.is ∙ c.in_ok-host.ensures) in
    ap not (c.is_below.ensures ∙ ap (λ (h : List ℕ). is_below h s.origin) (sym made.1))
    ∙ ap (λ (b : Bool). b && not (is_below text s.origin)) (sym made.0)
