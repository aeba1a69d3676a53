use Rattle.std.proofs.Common.{ℕ, sym, ap, subst, ◌∙◌}
use Rattle.std.specs.Prelude.{option_map}
use Rattle.esc_envelope.specs.declared.place.Place.{Place}
use Rattle.esc_store.specs.StoreState.{AreCounts}
use Rattle.esc_events.specs.Events.{union}
use Rattle.esc_events.specs.LatestTables.{tables_of_chain}
use Rattle.esc_inspection.proofs.LastPlace.{last_place}
use Rattle.esc_inspection.proofs.totals.read_totals.Goals as goal

pub returns-clause-totals : goal.returns-clause-totals
returns-clause-totals g c = λ clean e serves apart.
    let counts = (c.in_ok-status.ensures.status clean e serves).counts apart in
    record {
      chain = counts.chain;
      latest = counts.latest;
      end_is = c.place_in.ensures ∙ ap (option_map (λ (p : Place × ℕ). p.0)) counts.end_is
          ∙ last_place (union e) counts.chain;
      objects_are = subst (AreCounts (tables_of_chain e counts.chain))
          (sym c.in_ok-entries_of.ensures) counts.objects_are;
    }
