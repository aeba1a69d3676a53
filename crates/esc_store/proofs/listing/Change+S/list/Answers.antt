use Rattle.esc_store.proofs.Common.{◌∙◌, ap, map, take, listed_from, listed_row}
use Rattle.esc_store.proofs.Lists.{as_listed}
use Rattle.esc_store.proofs.listing.Change+S.list.Goals as goal

pub returns-clause-part : goal.returns-clause-part
returns-clause-part g c = record {
  goes_on = let on = c.in_ok-list_rows.ensures.goes_on in record {
    same_reference = on.same_reference;
    manifest = on.manifest;
    writes = on.writes;
    survives = on.survives;
    began = on.began;
  };
  count = c.in_ok-list_rows.ensures.count;
  makes = λ clean before k rest.
      let own = as_listed g.S.Store c.args.self.now.store.now c.args.self.now.listing before k rest in
      let stored = ap (map listed_row) c.as_slice.ensures.value
      ∙ (c.in_ok-rows.ensures.rows ∙ ap (listed_from 0) c.rows.ensures.rows) in
      let front = ap (λ n. take n c.args.union) c.listed_len-from.ensures ∙ (c.requires.begins ∙ own.0) in
      c.in_ok-list_rows.ensures.listed before k c.args.union stored front own.1;
  holds = c.in_ok-list_rows.ensures.holds;
}
