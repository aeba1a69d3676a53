use Rattle.esc_store.proofs.Common.{refl, sym, ap, subst, ◌∙◌, Database, IsStore, HoldsKept, Represents}
use Rattle.esc_store.proofs.Common.{LeavesOnly}
use Rattle.esc_store.proofs.OpeningLemmas.{opened, found}
use Rattle.esc_store.proofs.store.Store.open.Goals as goal

pub returns-in-Ok-clause-opened : goal.returns-in-Ok-clause-opened
unfolding HoldsKept Represents LeavesOnly
returns-in-Ok-clause-opened g c = record {
  stands = λ clean k holds. opened c.find_manifest.ensures.survives
      (c.in-Ok.ensures.version clean).0 (c.in-Ok.ensures.manifest clean k) holds clean;
  found = λ clean k stored.
      found c.find_manifest.ensures.survives (c.in-Ok.ensures.version clean)
      c.in-Ok.ensures.settled (c.in-Ok.ensures.manifest clean k) stored clean;
  left = λ k stored clean trees may.
      let same = (c.in-Ok.ensures.version clean).0 in
      subst (λ t. IsStore t k) (sym (g.met.S.Store.settled c.find_manifest.new.conn.store
      trees same.0.is_open may ∙ ap (λ (db : Database). db.trees) same.0.committed_is)) stored;
  writes = refl;
  version = λ clean. (c.in-Ok.ensures.version clean).1;
}
