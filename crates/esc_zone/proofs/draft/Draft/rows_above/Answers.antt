use Rattle.std.proofs.Common.{◌∙◌, ap, sym, List, ℕ, Option, []}
use Rattle.std.specs.Option.{option_map_or}
use Rattle.std.proofs.lemmas.Result.{IfOk-weaker}
use Rattle.esc_zone.specs.Noted.{draft_notes, texts_at}
use Rattle.esc_zone.proofs.draft.Draft.rows_above.Goals as goal

pub returns-in-Some : goal.returns-in-Some
returns-in-Some c =
    let d = draft_notes c.args.self.now in
    let host = c.args.host.now in
    IfOk-weaker c.rows_of.result _ _
    (λ rows e. e
    ∙ ap (λ (o : Option (List ℕ)). option_map_or (λ (n : List ℕ). texts_at d n host) o [])
    (sym c.in-Some.is ∙ c.in_ok-domain.ensures))
    c.rows_of.ensures
