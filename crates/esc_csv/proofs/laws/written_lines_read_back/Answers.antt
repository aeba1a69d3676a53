use Rattle.esc_csv.proofs.ReadBack.{read_back_whole}
use Rattle.esc_csv.proofs.laws.written_lines_read_back.Goals as goal

pub returns : goal.returns
returns c = read_back_whole
