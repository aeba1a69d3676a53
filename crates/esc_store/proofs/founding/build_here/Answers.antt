use Rattle.esc_store.proofs.Common.{◌≡◌, ◌∙◌, List, refl, sym, ap, subst, IfOk-at_ok, Database, state}
use Rattle.esc_store.proofs.Common.{was_clean, if_ok, MRow, ListedRow, fresh, listed_from}
use Rattle.esc_store.proofs.Common.{IsStoreDatabase}
use Rattle.esc_sql.specs.Schema.{no_schema}
use Rattle.esc_sql.specs.Creation.{MakesStore, fresh_content}
use Rattle.esc_store.proofs.Ends.{holds_store}
use Rattle.esc_store.proofs.Manifests.{listed_rise}
use Rattle.esc_store.proofs.Registries.{nothing_kept, nothing_there}
use Rattle.esc_store.proofs.founding.build_here.Goals as goal

made_fresh : (old new : Database) (rows : List ListedRow) (m : List MRow) → rows ≡ listed_from 0 m
    → old.schema ≡ no_schema → MakesStore rows old new → IsStoreDatabase new (fresh m)
made_fresh old new rows m is blank makes = holds_store new (fresh_content (listed_from 0 m))
    (fresh m) (subst (λ rs. MakesStore rs old new) is makes blank (listed_rise 0 m))
    (record {
      listed = refl;
      receipts = refl;
      held = λ row. refl;
      parked = λ digest. refl;
      moment = refl;
      steps = refl;
    })
    (record {
      objects = λ n text. sym (nothing_there n text);
      images = λ p n text. sym
          (nothing_kept n text);
      recorded = λ q. tt;
      noted = λ p q x is. let no : ⊥ = cc in absurd no;
    })

pub returns-clause-built : goal.returns-clause-built
returns-clause-built g c = if_ok c.build.result _ (λ x is m e blank clean.
    let begun = c.in_ok-begin_in.ensures.begun (was_clean c.build.ensures.part.survives clean) in
    made_fresh (state g.S.Store c.begin_in.new.conn).now (state g.S.Store c.build.new.conn).now _ m e
    (ap (λ (db : Database). db.schema) begun.0.now_is ∙ blank) (IfOk-at_ok _ is (c.build.ensures.part.made clean)).0)
