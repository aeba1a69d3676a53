use Rattle.std.proofs.Common.{List, ℕ, Bool, true, ◌≡◌, ◌∙◌, ap, sym, subst, rules}
use Rattle.std.specs.Prelude.{cond, ◌&&◌}
use Rattle.std.specs.Option.{option_map}
use Rattle.esc_zone.specs.Fields.{normal}
use Rattle.esc_zone.specs.Names.{is_server_name, name_eq}
use Rattle.esc_zone.specs.Noted.{DraftNotes, draft_notes, host_texts, with_host_texts, with_said}
use Rattle.esc_zone.proofs.Added.{made_if}
use Rattle.esc_zone.proofs.draft.Draft.take_host.Goals as goal

pub returns : goal.returns
returns c =
    let d : DraftNotes = draft_notes c.args.self.now in
    let given = c.as_str-2.result.now in
    let t = normal c.args.key.now.text in
    let underscores = d.settings.has_underscores in
    let texts = host_texts c.args.object.now.children in
    let change = with_host_texts texts in
    let is : given ≡ t = search rules in
    let made = made_if (is_server_name underscores given) given c.in-Some.name
    (sym c.in-Some.is ∙ c.in_ok-name.ensures) in
    let named = subst (λ (x : List ℕ). is_server_name underscores x ≡ true) is made.0 in
    c.in_ok-take_named.ensures
    ∙ ap (λ (n : List ℕ). with_said n texts d) (sym (sym is ∙ made.1))
    ∙ ap (λ (b : Bool). record d {
      servers = λ q. cond (b && name_eq t q)
          (option_map change (d.servers q)) (d.servers q);
    }) (sym named)
