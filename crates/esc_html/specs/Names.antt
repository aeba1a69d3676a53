-- The names of elements and attributes: none of them runs or loads anything (HTML Standard, SVG 2).
use Rattle.std.specs.Prelude.{ℕ, List, codes}
use Rattle.esc_html.specs.declared.tag.Tag.{Tag}
use Rattle.esc_html.specs.declared.tag.Tag.TheVariants as tag
use Rattle.esc_html.specs.declared.attribute.Attribute.{Attribute}
use Rattle.esc_html.specs.declared.attribute.Attribute.TheVariants as attribute

abbrev pub tag_name : Tag → List ℕ
tag_name tag.Header = codes "header"
tag_name tag.Main = codes "main"
tag_name tag.Footer = codes "footer"
tag_name tag.Section = codes "section"
tag_name tag.H1 = codes "h1"
tag_name tag.H2 = codes "h2"
tag_name tag.H3 = codes "h3"
tag_name tag.Paragraph = codes "p"
tag_name tag.Block = codes "div"
tag_name tag.Span = codes "span"
tag_name tag.Strong = codes "strong"
tag_name tag.Points = codes "ul"
tag_name tag.Point = codes "li"
tag_name tag.Table = codes "table"
tag_name tag.Caption = codes "caption"
tag_name tag.TableHead = codes "thead"
tag_name tag.TableBody = codes "tbody"
tag_name tag.Row = codes "tr"
tag_name tag.Heading = codes "th"
tag_name tag.Cell = codes "td"
tag_name tag.Picture = codes "svg"
tag_name tag.Shapes = codes "defs"
tag_name tag.Path = codes "path"
tag_name tag.Circle = codes "circle"
tag_name tag.Line = codes "line"
tag_name tag.Bar = codes "rect"
tag_name tag.Label = codes "text"
tag_name tag.Use = codes "use"
tag_name tag.Title = codes "title"

-- what stands before an attribute's value; a href leads to an id on the page
abbrev pub attribute_front : Attribute → List ℕ
attribute_front attribute.Id = codes " id=\""
attribute_front attribute.Class = codes " class=\""
attribute_front attribute.Scope = codes " scope=\""
attribute_front attribute.Role = codes " role=\""
attribute_front attribute.Label = codes " aria-label=\""
attribute_front attribute.Hidden = codes " aria-hidden=\""
attribute_front attribute.Stop = codes " tabindex=\""
attribute_front attribute.Width = codes " width=\""
attribute_front attribute.Height = codes " height=\""
attribute_front attribute.X = codes " x=\""
attribute_front attribute.Y = codes " y=\""
attribute_front attribute.X1 = codes " x1=\""
attribute_front attribute.Y1 = codes " y1=\""
attribute_front attribute.X2 = codes " x2=\""
attribute_front attribute.Y2 = codes " y2=\""
attribute_front attribute.Radius = codes " r=\""
attribute_front attribute.Drawing = codes " d=\""
attribute_front attribute.Reference = codes " href=\"#"
