use Rattle.std.proofs.Common.{◌≡◌, ◌++◌, take}
use Rattle.std.specs.List.{flat_map}
use Rattle.esc_html.specs.Markup.{given, attribute_text}
use Rattle.esc_html.proofs.writing.push_attributes.Given as goal

-- what was there, and the attributes so far
abbrev pub invariant-loop-attribute : goal.invariant-loop-attribute
invariant-loop-attribute l =
    l.bytes.items ≡ l.fn.bytes.items ++ flat_map attribute_text (given (take l.attribute-index l.attributes))
