use Rattle.esc_sql.proofs.Calls.{inl, refl, ShowsVersion, select_version_is, read_part, shows_version}
use Rattle.esc_sql.proofs.info.ask_version.Goals as goal

pub returns : goal.returns
returns g c = record {
  read = read_part _ (select_version_is _ (inl refl)).reads _ _ _ (λ v. v.items)
      (λ db v. ShowsVersion db v.items) c.query_all.ensures
      (λ v. shows_version _ _ v.items);
}
