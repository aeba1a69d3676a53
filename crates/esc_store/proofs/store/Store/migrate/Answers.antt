use Rattle.esc_store.proofs.Common.{refl, state, StoreState, Represents, LeavesOnly, LeavesOr}
use Rattle.esc_store.specs.FirstVersion.{HoldsFirst, IsFirstStore}
use Rattle.esc_store.proofs.OpeningLemmas.{sees_committed, sees_rest, first_or}
use Rattle.esc_store.proofs.store.Store.migrate.Goals as goal

pub returns-in-Ok-clause-opened : goal.returns-in-Ok-clause-opened
unfolding Represents HoldsFirst LeavesOnly
returns-in-Ok-clause-opened g c = record {
  stands = λ clean k first. c.in-Ok.ensures.stands k (sees_rest (state g.S.Store c.args.connection) first) clean;
  found = λ clean k first. c.in-Ok.ensures.stands k
      (sees_committed (state g.S.Store c.args.connection) {k = k} c.in-Ok.ensures.settled first) clean;
  left = c.in-Ok.ensures.left;
  writes = refl;
  version = c.in-Ok.ensures.version;
}

pub returns-in-Ok-clause-crash : goal.returns-in-Ok-clause-crash
unfolding LeavesOr
returns-in-Ok-clause-crash g c = λ k first. first_or g.S.Store g.met.S.Store.settled
    c.args.connection c.migrate_here.new.conn k first (c.migrate_here.ensures.survives k first)

pub returns-in-Err-clause-crash : goal.returns-in-Err-clause-crash
unfolding LeavesOr
returns-in-Err-clause-crash g c = λ k first. first_or g.S.Store
    g.met.S.Store.settled c.args.connection _ k first (c.migrate_here.ensures.survives k first)
