use Rattle.std.proofs.Common.{◌≡◌, take, map}
use Rattle.esc_zone.specs.Addresses.{said_texts}
use Rattle.esc_zone.specs.Noted.{attribute_value, texts_for}
use Rattle.esc_zone.proofs.settling.said_for.Given as goal

abbrev pub invariant-loop-attribute : goal.invariant-loop-attribute
invariant-loop-attribute l =
    said_texts l.rows.items ≡ texts_for (map attribute_value (take l.attribute-index l.attributes)) l.host
