use Rattle.esc_manifest.proofs.Answered.{union_least}
use Rattle.esc_manifest.proofs.manifest.Manifest.extend.Goals as goal

pub returns : goal.returns
returns c =
    let m = c.args.self.now in
    let more = c.args.more.now in
    let u = c.union_with.ensures in
    record {
      accepted = u.accepted;
      union = u.union;
      refused = u.refused;
      least = λ code row e. union_least m more u.both.0 u.both.1 code row (u.refused code row e);
      row = u.within;
    }
