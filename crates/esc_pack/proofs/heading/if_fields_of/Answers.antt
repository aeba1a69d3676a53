use Rattle.std.proofs.Common.{◌≡◌, ◌∙◌, List, true, false, String, Global, map, string_bytes, refl, sym, ap}
use Rattle.esc_pack.specs.Describing.{are_fields_of}
use Rattle.esc_pack.proofs.Names.{fields_seen}
use Rattle.esc_pack.proofs.heading.if_fields_of.Goals as goal

pub returns-then-are_fields_of : goal.returns-then-are_fields_of
returns-then-are_fields_of c =
    let seen = c.are_fields_of.ensures ∙ fields_seen c.args.table c.deref.result.now
    ∙ ap (λ (ns : List (String Global)). are_fields_of c.args.table (map string_bytes ns)) c.deref.ensures.value in
    let yes : are_fields_of c.args.table (map string_bytes c.args.names.items) ≡ true =
    sym seen ∙ c.if-are_fields_of.true in
    rw yes refl

pub returns-else-are_fields_of : goal.returns-else-are_fields_of
returns-else-are_fields_of c =
    let seen = c.are_fields_of.ensures ∙ fields_seen c.args.table c.deref.result.now
    ∙ ap (λ (ns : List (String Global)). are_fields_of c.args.table (map string_bytes ns)) c.deref.ensures.value in
    let no : are_fields_of c.args.table (map string_bytes c.args.names.items) ≡ false =
    sym seen ∙ c.if-are_fields_of.false in
    rw no refl
