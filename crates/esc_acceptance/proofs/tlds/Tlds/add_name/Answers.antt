use Rattle.std.proofs.Common.{◌≡◌, true, false, [], ◌∷◌, refl, sym, ap, subst, ◌∙◌}
use Rattle.std.specs.Prelude.{map, string_bytes}
use Rattle.std.proofs.lemmas.List.{map-append}
use Rattle.esc_acceptance.specs.Tlds.{is_name_among}
use Rattle.esc_acceptance.proofs.Named.{any_named}
use Rattle.esc_acceptance.proofs.tlds.Tlds.add_name.Goals as goal

pub returns-in_ok-push : goal.returns-in_ok-push
returns-in_ok-push c =
    let names = c.args.self.now.names.items in
    let none : is_name_among (string_bytes c.args.tld) (map string_bytes names) ≡ false =
    subst (λ t. is_name_among t (map string_bytes names) ≡ false) c.as_str.ensures.value
    (sym (any_named c.as_str.result.now names) ∙ sym c.if-not-has.ensures) in
    rw none (ap (map string_bytes) c.in_ok-push.ensures.items
    ∙ map-append string_bytes names (c.args.tld ∷ []))

pub returns-else-not-has : goal.returns-else-not-has
returns-else-not-has c =
    let names = c.args.self.now.names.items in
    let some : is_name_among (string_bytes c.args.tld) (map string_bytes names) ≡ true =
    subst (λ t. is_name_among t (map string_bytes names) ≡ true) c.as_str.ensures.value
    (sym (any_named c.as_str.result.now names) ∙ sym c.if-not-has.ensures) in
    rw some refl
