use Rattle.std.proofs.Common.{◌≡◌, ◌<◌, ◌+◌, List, [], ℕ, length, sym, ap, ◌∙◌, arith}
use Rattle.std.specs.Option.{option_map}
use Rattle.std.proofs.lemmas.Option.{slice_get-get_or}
use Rattle.esc_apply.specs.Registry.{saturated}
use Rattle.esc_deposit.specs.Cuts.{text_bound}
use Rattle.esc_deposit.proofs.Cutting.{added_at}
use Rattle.esc_deposit.proofs.cut.row_size.Goals as goal
use Rattle.esc_deposit.proofs.cut.row_size.Goals.{in-Some, in_default}

pub loop-at-preserved : goal.loop-at-preserved
loop-at-preserved c =
    elim c.match-cell.branch [
      | in-Some w ↦
          let after : c.match-cell.bytes ≡ saturated (c.loop-at.bytes + saturated (text_bound w.in-Some.text.now)) =
          omega arith in
          let more = added_at (λ (x : List ℕ × List ℕ). text_bound x.1) c.args.row.now.cells c.loop-at.at
          (w.in-Some.field-0-0.now, w.in-Some.text.now) 0 c.loop-at.bytes c.match-cell.bytes
          (sym c.cell.ensures ∙ ap (option_map {U = List ℕ × List ℕ} (λ x. (x.0.now, x.1.now))) w.in-Some.is)
          (omega (arith, c.loop-at.invariant)) after in
          omega (arith, more)
      | in_default w ↦
          let within : c.loop-at.at < length c.args.row.now.cells = omega arith in
          let there = slice_get-get_or c.args.row.now.cells c.loop-at.at ([], []) within in
          let none = ap (option_map {U = List ℕ × List ℕ} (λ x. (x.0.now, x.1.now))) w.in_default.is in
          absurd (cc (there, none, c.cell.ensures))
    ]
