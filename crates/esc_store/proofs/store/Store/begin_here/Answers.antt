use Rattle.esc_store.proofs.Common.{◌∙◌, IfOk-at_ok, IfErr-weaker, if_goes, was_clean, Represents}
use Rattle.esc_store.proofs.Common.{BeganIn, HasMadeBooksIn, HasMadeTablesIn}
use Rattle.esc_store.proofs.Ends.{made, under_way, still_stands, survives_first, keeps_then}
use Rattle.esc_store.proofs.store.Store.begin_here.Goals as goal

pub returns : goal.returns
unfolding Represents BeganIn HasMadeBooksIn HasMadeTablesIn
returns g c =
    let begun = c.begin_in-begun.ensures in
    let settle = c.settle.ensures in
    record {
      manifest = settle.manifest;
      writes = settle.writes;
      survives = survives_first begun.survives settle.settled.survives;
      stands = IfErr-weaker c.settle.result
          _ _ (λ e p k stands. still_stands (survives_first begun.survives p.1.survives)
          (λ clean. keeps_then _ _ _ (begun.kept (was_clean p.1.survives clean)) (p.1.kept clean))
          (λ clean _. (p.1.ended clean, p.1.settled clean))
          (settle.manifest ∙ stands.listed) (λ clean up. (stands.rests clean up).kept)
          settle.remembered stands.remembered) settle.settled.err;
      began = if_goes c.settle.result _ _ settle.settled.ok (λ x p k stands. rw p.1
          (made begun.survives (λ clean. (IfOk-at_ok _ p.0 (begun.begun clean)).0) stands).begun);
      rest = if_goes c.settle.result _ _ settle.settled.ok (λ x p k stands. rw p.1
          (made begun.survives (λ clean. (IfOk-at_ok _ p.0 (begun.begun clean)).0) stands));
      holds = if_goes c.settle.result _ _ settle.settled.ok (λ x p k stands. rw p.1
          (under_way begun.survives (λ clean. (IfOk-at_ok _ p.0 (begun.begun clean)).0) stands));
      cause = settle.cause;
    }
