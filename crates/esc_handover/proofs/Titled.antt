-- A page has its title.
use Rattle.std.proofs.Common.{◌≡◌, ℕ, List, Option, None, Some, Result, Ok, Err, IfOk, sym, ap}
use Rattle.std.specs.Prelude.{option_map}
use Rattle.std.proofs.lemmas.Option.{none-some}
use Rattle.esc_html.specs.Markup.{page_text}
use Rattle.esc_handover.specs.Titles.{HasTitle}

or_other : {A : Type 0} → A → Option A → A
or_other other None = other
or_other other (Some x) = x

some_is : (x y : List ℕ) → Some x ≡ Some y → x ≡ y
unfolding or_other
some_is x y is = ap (or_other x) is

-- what a body is made into has the title
pub has_title : (title style : List ℕ) (body : Option (List ℕ)) (page : List ℕ)
    → option_map (page_text title style) body ≡ Some page → HasTitle title page
has_title title style None page is = absurd (none-some page is)
has_title title style (Some body) page is = (style, body, sym (some_is (page_text title style body) page is))

-- what holds if another holds, holds at Ok
pub if_ok : {A E : Type 0} (P Q : A → Type 0) (r : Result A E) → ((x : A) → P x → Q x) → IfOk r P → IfOk r Q
if_ok P Q (Ok x) from holds = from x holds
if_ok P Q (Err e) from holds = _
