use Rattle.std.proofs.Common.{[], ◌∷◌, sym, subst}
use Rattle.esc_store.specs.StoreState.{fresh}
use Rattle.esc_store.specs.Representation.{IsHonest}
use Rattle.esc_events.specs.Events.EventValue.{listed}
use Rattle.esc_recovery.specs.Blank.{LeavesBlankOr}
use Rattle.esc_recovery.proofs.Founds.{blank_or, clean_before}
use Rattle.esc_recovery.proofs.opening.new_desk.Goals as goal

pub returns-in-Ok-clause-crash : goal.returns-in-Ok-clause-crash
returns-in-Ok-clause-crash g c = subst (λ s. LeavesBlankOr g.S.Store c.args.connection s.conn
    (fresh c.args.manifest.now)) (sym c.open.ensures.same) (blank_or g.S.Store g.met.S.Store.settled
    c.args.connection c.in-Ok.new_store.conn (fresh c.args.manifest.now) c.in-Ok.ensures.crash)

pub returns-in-Ok-clause-made : goal.returns-in-Ok-clause-made
returns-in-Ok-clause-made g c =
    let rows = c.args.manifest.now in
    let stands_for = c.new_store_stands_for_its_manifest.ensures.stands_for rows in
    record {
      honest = λ honest. clean_before g.S.Store c.args.connection c.in-Ok.new_store.conn (fresh rows)
          c.in-Ok.ensures.crash (subst (λ s. IsHonest g.S.Store s) c.open.ensures.same honest);
      blank = c.in-Ok.ensures.blank;
      serves = c.open.ensures.serves (listed rows ∷ []) (record {
        kept = fresh rows;
        stands = c.in-Ok.ensures.created.stands;
        stands_for = stands_for;
      });
      left = c.open.ensures.left (listed rows ∷ []) (fresh rows) c.in-Ok.ensures.created.left stands_for;
    }

pub returns-in-Err-clause-refused : goal.returns-in-Err-clause-refused
returns-in-Err-clause-refused g c = λ is clean up blank. c.in-Err.ensures.cause.used is blank

pub returns-in-Err-clause-cause : goal.returns-in-Err-clause-cause
returns-in-Err-clause-cause g c = c.in-Err.ensures.cause.kinds

pub returns-in-Err-clause-crash : goal.returns-in-Err-clause-crash
returns-in-Err-clause-crash g c = blank_or g.S.Store
    g.met.S.Store.settled c.args.connection _ (fresh c.args.manifest.now) c.in-Err.ensures.crash
