use Rattle.std.proofs.Common.{List, ℕ, Option, Some, None, ap, ◌∙◌}
use Rattle.std.specs.Prelude.{cond}
use Rattle.std.specs.Option.{option_map}
use Rattle.esc_zone.specs.Names.{name_eq}
use Rattle.esc_zone.specs.Noted.{DraftNotes, draft_notes, with_original}
use Rattle.esc_zone.proofs.draft.Draft.take_original.Goals as goal

pub returns : goal.returns
returns c =
    let d : DraftNotes = draft_notes c.args.self.now in
    c.set_mirrors.ensures
    ∙ ap (λ (o : Option (List ℕ)). record d {
      places = λ q.
          option_map (with_original (cond (name_eq c.args.name.now q) (Some o) None)) (d.places q);
    })
    c.in_ok-original.ensures
