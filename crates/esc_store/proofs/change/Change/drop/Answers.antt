use Rattle.esc_store.proofs.Common.{◌∙◌, BeganIn, Represents}
use Rattle.esc_store.proofs.Ends.{still_stands, begun_committed, none_remembered}
use Rattle.esc_store.proofs.change.Change.drop.Goals as goal

pub returns-clause-rolled_back : goal.returns-clause-rolled_back
unfolding BeganIn Represents
returns-clause-rolled_back g c =
    let up = c.give_up.ensures.given_up in
    record {
      manifest = c.give_up.ensures.manifest;
      writes = c.give_up.ensures.writes;
      stands = λ before begun. still_stands
          up.survives up.kept (λ clean _. (up.ended clean, up.settled clean))
          (c.give_up.ensures.manifest ∙ begun.listed) (begun_committed _ _ before begun)
          c.give_up.ensures.remembered (λ clean. none_remembered before);
    }
