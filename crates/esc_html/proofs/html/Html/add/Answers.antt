use Rattle.esc_html.proofs.Joining.{markup_joined}
use Rattle.esc_html.proofs.html.Html.add.Goals as goal

pub invariant_of-result : goal.invariant_of-result
invariant_of-result c = markup_joined _ _ _ c.self.invariant c.more.invariant c.with_bytes.ensures
