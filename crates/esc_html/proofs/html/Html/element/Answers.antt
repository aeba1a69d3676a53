use Rattle.esc_html.proofs.Joining.{markup_joined, element_piece}
use Rattle.esc_html.proofs.html.Html.element.Goals as goal

pub invariant_of-result : goal.invariant_of-result
invariant_of-result c =
    markup_joined _ _ _ c.self.invariant (element_piece _ _ _ c.inside.invariant) c.with_element.ensures
