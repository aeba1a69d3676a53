use Rattle.esc_sql.proofs.Calls.{◌∙◌, state, opens_store}
use Rattle.esc_sql.proofs.open.has_tables.Goals as goal

pub returns-clause-found : goal.returns-clause-found
returns-clause-found g c = λ up content it.
    let holds = opens_store (state g.S.Store c.args.conn.now).now content (c.schema.ensures.live up).0 it in
    (c.is_store_schema.ensures.1 (c.schema.ensures.value ∙ holds.schema_is), holds)
