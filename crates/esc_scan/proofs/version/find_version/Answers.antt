use Rattle.std.proofs.Common.{◌∙◌, ap, option_map}
use Rattle.sqlite_value.specs.declared.value.Value.TheVariants.{Int}
use Rattle.esc_scan.proofs.Firsts.{version_is, version_two}
use Rattle.esc_scan.proofs.version.find_version.Goals as goal

pub returns : goal.returns
returns g c = record {
  read = record {
    quiet = c.read_first.ensures.quiet;
    only = λ clean. c.in_ok-found.ensures.only clean;
    said = λ clean k shows. c.version_of.ensures
        ∙ version_two c.in_ok-found.found _ k shows (c.in_ok-found.ensures.reads clean);
  };
  tells = λ clean. ap (λ v. option_map Int v) c.version_of.ensures ∙ version_is
      c.in_ok-found.found (g.S.Store.view c.args.store.now).trees (c.in_ok-found.ensures.reads clean);
}
