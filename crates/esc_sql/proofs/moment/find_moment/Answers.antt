use Rattle.esc_sql.proofs.Calls.{◌∙◌, if_goes, moment_is, read_then}
use Rattle.esc_sql.proofs.moment.find_moment.Goals as goal

pub returns : goal.returns
returns g c = record {
  read = read_then c.in_ok-rows.ensures.read (λ db x h shows. if_goes c.moment_in.result _ _ c.moment_in.ensures
      (λ found is. moment_is x _ found (c.deref.ensures.value ∙ shows) is));
}
