use Rattle.std.proofs.Common.{◌∙◌, sym, ap, List, ℕ, FitsSigned, w64}
use Rattle.std.proofs.lemmas.Int.{to_z-of_z}
use Rattle.esc_envelope.proofs.MomentReads.{some_of}
use Rattle.esc_envelope.proofs.Printed.{watermark_read_back}
use Rattle.esc_envelope.proofs.Shown.{shown}
use Rattle.esc_envelope.proofs.moment.moment_text.Goals as goal

pub returns : goal.returns
returns c =
    let fits : FitsSigned w64 c.args.watermark = c.ranges.watermark in
    let value = simp to_z-of_z at c.civil_at-civil.ensures in
    let text = shown c.civil_at-civil.result c.args.watermark value c.requires
    ∙ ap (λ (l : List ℕ). some_of l) (sym c.in_ok-text.ensures.ok) in
    record { text = text; read = watermark_read_back c.args.watermark _ text }
