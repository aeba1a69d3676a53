-- What a page is made of (HTML Standard, section 13.1).
use Rattle.std.specs.Prelude.{◌≡◌, ℕ, ◌/◌, ◌%◌, List, [], ◌++◌, map, Option, Some, None, codes}
use Rattle.std.specs.Prelude.{IfSome}
use Rattle.std.specs.List.{flat_map}
use Rattle.std.specs.Fmt.{decimal}
use Rattle.esc_html.specs.declared.tag.Tag.{Tag}
use Rattle.esc_html.specs.declared.attribute.Attribute.{Attribute}
use Rattle.esc_html.specs.declared.value.Value.{Value}
use Rattle.esc_html.specs.declared.value.Value.TheVariants.{Text, Number, Share}
use Rattle.esc_html.specs.Escape.{escaped}
use Rattle.esc_html.specs.Names.{tag_name, attribute_front}

-- ---- attributes

-- so many thousandths as a percentage
abbrev pub share_text : ℕ → List ℕ
share_text n = decimal (n / 10) ++ codes "." ++ decimal (n % 10) ++ codes "%"

-- the text of a value
abbrev pub value_text : Value → List ℕ
value_text (Text text) = text.now
value_text (Number n) = decimal n
value_text (Share n) = share_text n

-- an attribute and the text of its value
abbrev pub Given : Type 0
Given = Attribute × List ℕ

abbrev pub given : List (Attribute × Value) → List Given
given attributes = map (λ a. (a.0, value_text a.1)) attributes

-- an attribute as it is written
abbrev pub attribute_text : Given → List ℕ
attribute_text a = attribute_front a.0 ++ escaped a.1 ++ codes "\""

-- ---- elements

-- elements and texts, one after the other: a text, or an element around others, and what follows
pub data Markup : Type 0 where
  nothing : Markup
  text : List ℕ → Markup → Markup
  element : Tag → List Given → Markup → Markup → Markup

-- an element around what is written in it
abbrev pub element_text : Tag → List Given → List ℕ → List ℕ
element_text tag attributes inside = codes "<" ++ tag_name tag ++ flat_map attribute_text attributes
    ++ codes ">" ++ inside ++ codes "</" ++ tag_name tag ++ codes ">"

-- markup as it is written
abbrev pub markup_text : Markup → List ℕ
markup_text nothing = []
markup_text (text t rest) = escaped t ++ markup_text rest
markup_text (element tag attributes inside rest) = element_text tag attributes (markup_text inside)
    ++ markup_text rest

-- these bytes are markup
abbrev pub IsMarkup : List ℕ → Type 0
IsMarkup bytes = (m : Markup) × (markup_text m ≡ bytes)

-- ---- pages

-- what stands before the title: in it, that nothing is to be loaded or run
unfoldable pub page_front : List ℕ
page_front = codes
    "<!DOCTYPE html>\n<html lang=\"en\"><head><meta charset=\"utf-8\"><meta name=\"viewport\" content=\"width=device-width, initial-scale=1\"><meta http-equiv=\"Content-Security-Policy\" content=\"default-src 'none'; style-src 'unsafe-inline'\"><title>"

-- a page with this title, this style and this body
abbrev pub page_text : List ℕ → List ℕ → List ℕ → List ℕ
page_text title style body = page_front ++ escaped title ++ codes "</title><style>" ++ escaped style
    ++ codes "</style></head><body>" ++ body ++ codes "</body></html>\n"

-- these bytes are a page whose body is markup
abbrev pub IsHtmlPage : List ℕ → Type 0
IsHtmlPage bytes = (title style : List ℕ) × (body : Markup)
    × (page_text title style (markup_text body) ≡ bytes)

-- ---- pieces, which are nothing once memory was refused

-- a piece after another
abbrev pub joined : Option (List ℕ) → Option (List ℕ) → Option (List ℕ)
joined (Some a) (Some b) = Some (a ++ b)
joined (Some a) None = None
joined None b = None

-- what there is now is this; or memory was refused
abbrev pub IsUnlessRefused : Option (List ℕ) → Option (List ℕ) → Type 0
IsUnlessRefused wanted got = IfSome got (λ bytes. wanted ≡ Some bytes)
