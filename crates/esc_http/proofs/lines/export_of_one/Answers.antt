use Rattle.std.proofs.Common.{◌∙◌, ℕ, List, ◌++◌, ap, refl}
use Rattle.esc_check.specs.Export.{export_text}
use Rattle.esc_http.specs.Exports.{entries_of}
use Rattle.esc_http.proofs.ExportLemmas.{one_in_order}
use Rattle.esc_http.proofs.lines.export_of_one.Goals as goal

pub returns-in-Ok-clause-text : goal.returns-in-Ok-clause-text
returns-in-Ok-clause-text c =
    let es = entries_of c.args.entry in
    c.in-Ok.ensures.text tt es (refl, one_in_order c.args.entry)
    ∙ ap (λ (l : List ℕ). l ++ export_text c.args.kind es) c.new-text.ensures.items
