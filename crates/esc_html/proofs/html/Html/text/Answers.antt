use Rattle.esc_html.proofs.Joining.{markup_joined, text_markup}
use Rattle.esc_html.proofs.html.Html.text.Goals as goal

pub invariant_of-result : goal.invariant_of-result
invariant_of-result c = markup_joined _ _ _ c.self.invariant (text_markup c.as_bytes.result.now) c.with_text.ensures
