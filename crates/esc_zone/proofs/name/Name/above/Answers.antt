use Rattle.std.proofs.Common.{Some, None, true, ◌≡◌, sym, ◌∙◌, ap}
use Rattle.std.specs.Prelude.{cond}
use Rattle.std.proofs.lemmas.Result.{IfOk-weaker}
use Rattle.esc_zone.specs.Names.{name_above, is_zone_name}
use Rattle.esc_zone.proofs.Above.{above_is_name}
use Rattle.esc_zone.proofs.name.Name.above.Goals as goal

pub returns-in-Some-clause-name : goal.returns-in-Some-clause-name
returns-in-Some-clause-name c =
    let xs = c.self.inside.bytes.items in
    let rest = c.in-Some.rest.now in
    let up : name_above xs ≡ Some rest = sym (c.in-Some.ensures.rest ∙ ap name_above c.deref.ensures.value) in
    let named : is_zone_name rest ≡ true = above_is_name xs rest c.self.invariant up in
    IfOk-weaker c.from_bytes.result _ _
    (λ n e. e ∙ ap (λ b. cond b (Some rest) None) named ∙ sym up ∙ ap name_above c.self.view_is)
    c.from_bytes.ensures

pub returns-in-None-clause-name : goal.returns-in-None-clause-name
returns-in-None-clause-name c =
    c.in-None.ensures.rest ∙ ap name_above (c.deref.ensures.value ∙ c.self.view_is)
