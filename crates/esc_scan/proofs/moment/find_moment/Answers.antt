use Rattle.std.proofs.Common.{◌∙◌}
use Rattle.esc_sql.specs.StoreTable.{Moment}
use Rattle.esc_scan.proofs.Firsts.{moment_is}
use Rattle.esc_scan.proofs.moment.find_moment.Goals as goal

pub returns : goal.returns
returns g c = record {
  read = record {
    quiet = c.read_first.ensures.quiet;
    only = λ clean. c.in_ok-found.ensures.only clean;
    said = λ clean k shows. c.moment_in.ensures ∙ moment_is
        k.moment c.in_ok-found.found _ (shows.tables Moment) (c.in_ok-found.ensures.reads clean);
  };
}
