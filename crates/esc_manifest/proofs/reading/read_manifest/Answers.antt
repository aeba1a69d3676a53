use Rattle.esc_manifest.proofs.TextLeast.{text_least, text_row}
use Rattle.esc_manifest.proofs.reading.read_manifest.Goals as goal

pub returns : goal.returns
returns c =
    let text = c.args.text.now in
    let read = c.manifest_from.ensures in
    record {
      accepted = read.accepted;
      refused = read.refused;
      least = λ code row e. text_least text code row (read.refused code row e);
      row = λ code row e. text_row text code row (text_least text code row (read.refused code row e));
      over_limit = read.over_limit;
    }
