use Rattle.std.proofs.Common.{sym, ◌∙◌}
use Rattle.esc_zone.proofs.LineReading.{one_list}
use Rattle.esc_zone.proofs.laws.lines_have_one_reading.Goals as goal

pub returns : goal.returns
returns c = record {
  one_list = one_list;
  of_lines = λ text a b. one_list a.records b.records a.each b.each (a.lines ∙ sym b.lines);
}
