use Rattle.std.proofs.Common.{◌≡◌, ◌∙◌, ◌∷◌, [], map}
use Rattle.esc_tables.specs.TableRow.{in_table}
use Rattle.esc_tables.proofs.ReadFacts.{none_read, more_read, rest_whole}
use Rattle.esc_tables.proofs.tables.read_records.Goals as goal

pub loop-row-preserved : goal.loop-row-preserved
loop-row-preserved g c =
    let before = c.loop-row.invariant in
    let step = c.in_ok-survey.ensures.read in
    let next : c.loop-row.rows ≡ c.next.new.target ∷ c.next.new.self =
    rw c.if-branch.true at c.in_ok-next.ensures.next in
    record {
      whole = rest_whole (map (in_table c.args.table.now) c.next.new.self) step ∙ (rw next at before.whole);
      read = λ after then. before.read after (rw next (more_read step then));
    }

pub returns-clause-read : goal.returns-clause-read
returns-clause-read g c =
    let end : c.loop-row.rows ≡ [] = rw c.if-branch.false at c.in_ok-next.ensures.next in
    c.loop-row.invariant.read (c.loop-row.survey, c.loop-row.found.items)
    (rw end (none_read _ c.loop-row.survey c.loop-row.found.items))
