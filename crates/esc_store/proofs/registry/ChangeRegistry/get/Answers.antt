use Rattle.esc_store.proofs.Common.{IfOk-weaker, HasMadeTablesIn}
use Rattle.esc_store.proofs.Registries.{record_found}
use Rattle.esc_store.proofs.registry.ChangeRegistry.get.Goals as goal

pub returns-clause-found : goal.returns-clause-found
unfolding HasMadeTablesIn
returns-clause-found g c = IfOk-weaker c.object_in.result _ _ (λ o is honest s held.
    let said = c.in_ok-found.ensures.found honest s held in (
      is (s.content c.args.key.now) (record_found s c.kind_number.ensures c.as_bytes.ensures.value
          c.key.view_is said.0) ((said.1 honest).registry.recorded c.args.key.now),
      said.1,
    ))
    c.object_in.ensures.object
