use Rattle.std.proofs.Common.{ℕ, List, Option, map, string_bytes, ap, sym, ◌∙◌}
use Rattle.std.specs.Prelude.{slice_get}
use Rattle.esc_acceptance.specs.Tlds.{with_tld_of}
use Rattle.esc_inspection.proofs.NamedTlds.{named_more}
use Rattle.esc_inspection.proofs.Spoiled.{compared, lent, one_row_more}
use Rattle.esc_inspection.proofs.bodies.read_held.Goals as goal

pub returns-clause-spoiled : goal.returns-clause-spoiled
returns-clause-spoiled g c = λ honest e h apart rows had.
    let listed = lent c.rows.result.now c.args.row c.get-listed.result c.get-listed.ensures.lookup in
    let is = c.rows.ensures.rows
    ∙ c.manifest.ensures.manifest e (c.in_ok-body.ensures.read.reflects e h) in
    let body = c.as_deref.ensures.value ∙ c.in_ok-body.ensures.body honest e h apart in
    one_row_more e rows _ _ c.args.row c.is_as_listed-is_listed.result
    (compared c.is_as_listed-is_listed.ensures (listed ∙ ap (λ ms. slice_get ms c.args.row) is) body)
    c.in_ok-add.ensures.spoiled had

pub returns-clause-tlds : goal.returns-clause-tlds
returns-clause-tlds g c = λ honest e h apart rows had.
    let names : List (List ℕ) = map string_bytes c.args.bodies.now.tlds.names.items in
    let body = c.as_deref-2.ensures.value ∙ c.in_ok-body.ensures.body honest e h apart in
    named_more e rows c.args.row names _ had
    (c.in_ok-add.ensures.tlds ∙ ap (λ (b : Option (List ℕ)). with_tld_of b names) body)
