use Rattle.std.proofs.Common.{◌≡◌, ◌∙◌, ℕ, List, Option, Some, Vec, Global, option_map, sym, ap, subst}
use Rattle.std.specs.Prelude.{IfSome}
use Rattle.std.proofs.lemmas.Result.{IfOk-weaker}
use Rattle.esc_html.specs.Markup.{IsMarkup, page_text}
use Rattle.esc_html.proofs.html.Html.into_page.Goals as goal

pub returns-in-Some-clause-markup : goal.returns-in-Some-clause-markup
returns-in-Some-clause-markup c =
    let title = c.args.title.now in
    let style = c.args.style.now in
    let body : IsMarkup c.in-Some.body.items =
    subst (λ (b : Option (Vec ℕ Global)). IfSome (option_map (λ v. v.items) b) IsMarkup)
    c.in-Some.is c.self.invariant in
    IfOk-weaker c.page_of.result _ _
    (λ page is. (title, style, body.0, ap (page_text title style) (body.1 ∙ sym c.deref.ensures.value) ∙ sym is))
    c.page_of.ensures

pub returns-in-Some-clause-page : goal.returns-in-Some-clause-page
returns-in-Some-clause-page c =
    let whole : List ℕ → List ℕ = page_text c.args.title.now c.args.style.now in
    let held : c.args.self ≡ Some c.in-Some.body.items =
    sym c.self.view_is ∙ ap (λ (b : Option (Vec ℕ Global)). option_map (λ v. v.items) b) c.in-Some.is in
    IfOk-weaker c.page_of.result _ _
    (λ page is. ap (option_map whole) held
    ∙ ap (λ (b : List ℕ). Some (whole b)) (sym c.deref.ensures.value) ∙ ap Some (sym is))
    c.page_of.ensures
