-- Markup after markup is markup, and so is an element around it.
use Rattle.std.proofs.Common.{◌≡◌, ℕ, List, ◌++◌, Option, Some, None, refl, sym, ap, ap₂, ◌∙◌}
use Rattle.std.proofs.Common.{subst, append_assoc, append-nil, arith}
use Rattle.std.specs.Prelude.{IfSome, option_map}
use Rattle.std.proofs.lemmas.Option.{same_Some}
use Rattle.esc_html.specs.declared.tag.Tag.{Tag}
use Rattle.esc_html.specs.Escape.{escaped}
use Rattle.esc_html.specs.Markup.{Given, Markup, element_text, markup_text, IsMarkup, joined, IsUnlessRefused}
use Rattle.esc_html.specs.Markup.Markup.{nothing, text, element}

join : Markup → Markup → Markup
join nothing n = n
join (text t rest) n = text t (join rest n)
join (element tag attributes inside rest) n = element tag attributes inside (join rest n)

markup_text-join : (m n : Markup) → markup_text (join m n) ≡ markup_text m ++ markup_text n
unfolding join
markup_text-join nothing n = refl
markup_text-join (text t rest) n =
    ap (λ (l : List ℕ). escaped t ++ l) (markup_text-join rest n)
    ∙ sym (append_assoc (escaped t) (markup_text rest) (markup_text n))
markup_text-join (element tag attributes inside rest) n =
    let first : List ℕ = element_text tag attributes (markup_text inside) in
    ap (λ (l : List ℕ). first ++ l) (markup_text-join rest n)
    ∙ sym (append_assoc first (markup_text rest) (markup_text n))

both : (a b : List ℕ) → IsMarkup a → IsMarkup b → IsMarkup (a ++ b)
both a b m n = (join m.0 n.0, markup_text-join m.0 n.0 ∙ ap₂ (λ (x y : List ℕ). x ++ y) m.1 n.1)

-- an escaped text is markup
pub text_markup : (t : List ℕ) → IsMarkup (escaped t)
text_markup t = (text t nothing, append-nil (escaped t))

-- an element around markup is markup
element_markup : (tag : Tag) (attributes : List Given) (inside : List ℕ)
    → IsMarkup inside → IsMarkup (element_text tag attributes inside)
element_markup tag attributes inside m =
    (element tag attributes m.0 nothing, append-nil _ ∙ ap (element_text tag attributes) m.1)

-- an element around a piece is markup, if there is one
pub element_piece : (tag : Tag) (attributes : List Given) (inside : Option (List ℕ))
    → IfSome inside IsMarkup → IfSome (option_map (element_text tag attributes) inside) IsMarkup
element_piece tag attributes None m = tt
element_piece tag attributes (Some i) m = element_markup tag attributes i m

-- what is given by a piece after another one is markup
pub markup_joined : (old piece new : Option (List ℕ)) → IfSome old IsMarkup
    → IfSome piece IsMarkup → IsUnlessRefused (joined old piece) new → IfSome new IsMarkup
markup_joined old piece None m n gives = tt
markup_joined (Some a) (Some b) (Some c) m n gives = subst IsMarkup (same_Some (a ++ b) c gives) (both a b m n)
markup_joined (Some a) None (Some c) m n gives = absurd (grind arith)
markup_joined None piece (Some c) m n gives = absurd (grind arith)
