use mathlib.Core.Path.{fun_ext}
use Rattle.std.proofs.Common.{List, ℕ, Option, Some, None, Bool, false, ◌≡◌, ap, sym, ◌∙◌, rules}
use Rattle.std.specs.Prelude.{cond, ◌&&◌}
use Rattle.std.specs.Option.{option_map}
use Rattle.esc_apply.specs.ObjectStreams.{Entry}
use Rattle.esc_zone.specs.Fields.{normal}
use Rattle.esc_zone.specs.Mirrors.{original_in, original_of}
use Rattle.esc_zone.specs.Names.{is_name_with, name_eq}
use Rattle.esc_zone.specs.Noted.{DraftNotes, draft_notes, name_read, with_original, with_mirror}
use Rattle.esc_zone.proofs.Added.{made_if}
use Rattle.esc_zone.proofs.Noting.{made_not}
use Rattle.esc_zone.proofs.Taken.{no_original}
use Rattle.esc_zone.proofs.draft.Draft.take_mirror.Goals as goal

pub returns-in_default : goal.returns-in_default
returns-in_default c =
    let d : DraftNotes = draft_notes c.args.self.now in
    let t = normal c.args.key.now.text in
    let given = option_map name_read (original_in c.args.object.now.parent) in
    let text : c.as_str.result.now ≡ c.args.key.now.text = search rules in
    let unnamed = made_not (is_name_with false t) t (sym c.in_default.is ∙ c.in_ok-name.ensures
    ∙ ap (λ (x : List ℕ). cond (is_name_with false (normal x)) (Some (normal x)) None) text) in
    ap (λ places. record d { places = places })
    (fun_ext (λ q. no_original (d.places q)
    ∙ ap (λ (b : Bool). option_map (with_original (cond (b && name_eq t q) given None)) (d.places q)) (sym unnamed)))

pub returns : goal.returns
returns c =
    let d : DraftNotes = draft_notes c.args.self.now in
    let t = normal c.args.key.now.text in
    let given = original_in c.args.object.now.parent in
    let text : c.as_str.result.now ≡ c.args.key.now.text = search rules in
    let made = made_if (is_name_with false t) t c.in-Some.name (sym c.in-Some.is ∙ c.in_ok-name.ensures
    ∙ ap (λ (x : List ℕ). cond (is_name_with false (normal x)) (Some (normal x)) None) text) in
    let from : original_of c.mirror_of.result ≡ given = search rules in
    c.in_ok-take_mirrored.ensures
    ∙ ap (λ (o : Option (List ℕ)). with_mirror c.in-Some.name o d) from
    ∙ ap (λ (n : List ℕ). with_mirror n given d) (sym made.1)
    ∙ ap (λ (b : Bool). record d {
      places = λ q. option_map (with_original
          (cond (b && name_eq t q) (option_map name_read given) None)) (d.places q);
    }) (sym made.0)
